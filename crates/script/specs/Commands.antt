-- What a line of a script asks for.
--
--   Asked        a command by what it says
--   command_of   the command that a line is, or why it is none
--   fault_text   why a line is no command, in words
--
-- Assumes nothing.
use Rattle.std.specs.Prelude.{ℕ, cond, List, ◌++◌, length, Some, None, Ok, Err, codes, decimal, Option, Result, nat_lt}
use Rattle.std.specs.Str.{bytes_eq}
use Rattle.text.specs.declared.word.WordFault.TheVariants.{Missing}
use Rattle.text.specs.Words.{is_end, word_of, after_word, last_in, word_fault_text, and_then, told_as}
use Rattle.script.specs.declared.command.KindName.{KindName}
use Rattle.script.specs.declared.command.KindName.TheVariants.{Line, Event}
use Rattle.script.specs.declared.command.Command.{Command}
use Rattle.script.specs.declared.command.Command.TheVariants.{Scan}
use Rattle.script.specs.declared.command.ScriptFault.{ScriptFault}
use Rattle.script.specs.declared.command.ScriptFault.TheVariants.{Overlong, UnknownCommand, UnknownKind, Word, BadHex}

-- a command by what it says
pub data Asked : Type 0 where
  scan : KindName → List ℕ → Asked

-- the same of a borrowed command
abbrev pub asked : Command → Asked
asked (Scan kind hex) = scan kind hex.now

abbrev pub scanned : Result Command ScriptFault → Result Asked ScriptFault
scanned (Ok c) = Ok (asked c)
scanned (Err e) = Err e

abbrev pub spelled : Result (Option Command) ScriptFault → Result (Option Asked) ScriptFault
spelled (Ok None) = Ok None
spelled (Ok (Some c)) = Ok (Some (asked c))
spelled (Err e) = Err e

-- the most bytes of a line
abbrev pub max_line : ℕ
max_line = 65536

-- why a line is no command, in words
abbrev pub fault_text : ScriptFault → List ℕ
fault_text Overlong = codes "the line is longer than " ++ (decimal max_line ++ codes " bytes")
fault_text UnknownCommand = codes "unknown command"
fault_text UnknownKind = codes "unknown item kind, not line or event"
fault_text (Word e) = word_fault_text e
fault_text BadHex = codes "not pairs of hexadecimal digits"

-- the item kind that a word names
abbrev pub kind_named : List ℕ → Result KindName ScriptFault
kind_named w = cond (bytes_eq w (codes "line")) (Ok Line) (cond (bytes_eq w (codes "event")) (Ok Event) (Err UnknownKind))

-- the item kind that a word names, which must be there
abbrev pub kind_of : List ℕ → Result KindName ScriptFault
kind_of w = cond (is_end w) (Err (Word Missing)) (kind_named w)

-- `scan KIND HEX`, from its second word on; HEX is the last word
abbrev pub scan_command : List ℕ → Result Asked ScriptFault
scan_command text = and_then (kind_of (word_of text)) (λ kind. and_then (told_as Word (last_in (after_word text))) (λ hex. Ok (scan kind hex)))

-- a command that is there
abbrev pub some_of : Result Asked ScriptFault → Result (Option Asked) ScriptFault
some_of (Ok c) = Ok (Some c)
some_of (Err e) = Err e

-- the command that a line is, or none where its words end before the first
abbrev pub command_of : List ℕ → Result (Option Asked) ScriptFault
command_of line =
    cond (nat_lt max_line (length line)) (Err Overlong)
    (cond (is_end (word_of line)) (Ok None)
    (cond (bytes_eq (word_of line) (codes "scan")) (some_of (scan_command (after_word line)))
    (Err UnknownCommand)))
