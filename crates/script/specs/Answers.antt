-- What a line of a script is answered.
--
--   answer_of    the answer to a line: nothing, a report, or a line that says what is wrong with it
--   error_line   `error: ` and why the line is no command
--
-- Assumes nothing.
use Rattle.std.specs.Prelude.{ℕ, List, [], ◌∷◌, ◌++◌, Some, None, Ok, Err, codes, Option, Result}
use Rattle.items.specs.Events.{event_kind}
use Rattle.items.specs.Spoken.{spoken_kind}
use Rattle.text.specs.Hex.{bytes_in}
use Rattle.text.specs.Shown.{error_text}
use Rattle.script.specs.declared.command.KindName.{KindName}
use Rattle.script.specs.declared.command.KindName.TheVariants.{Line, Event}
use Rattle.script.specs.declared.command.ScriptFault.{ScriptFault}
use Rattle.script.specs.declared.command.ScriptFault.TheVariants.{BadHex}
use Rattle.script.specs.Blobs.{report_of}
use Rattle.script.specs.Commands.{Asked, scan, fault_text, command_of}
use Rattle.script.specs.Reports.{spoken_text, event_text}

-- `error: ` and why the line is no command
abbrev pub error_line : ScriptFault → List ℕ
error_line fault = error_text (fault_text fault)

-- the report of a blob of a kind
abbrev pub blob_text : KindName → List ℕ → List ℕ
blob_text Line bs = report_of spoken_kind spoken_text bs
blob_text Event bs = report_of event_kind event_text bs

abbrev pub scan_text : KindName → Option (List ℕ) → List ℕ
scan_text kind (Some bs) = blob_text kind bs
scan_text kind None = error_line BadHex

abbrev pub command_text : Result (Option Asked) ScriptFault → List ℕ
command_text (Ok None) = []
command_text (Ok (Some (scan kind hex))) = scan_text kind (bytes_in hex)
command_text (Err fault) = error_line fault

-- the answer to a line
abbrev pub answer_of : List ℕ → List ℕ
answer_of line = command_text (command_of line)

-- a line as it stands, and its answer below it
abbrev pub transcript_of : List ℕ → List ℕ
transcript_of line = codes "> " ++ (line ++ (10 ∷ answer_of line))
