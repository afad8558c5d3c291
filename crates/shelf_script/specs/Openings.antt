-- What a line of a script says of the shelf that is to be used from there on.
--
--   opening_of   the shelf that a line asks for, or why it is none
--   is_opening   whether a line asks for a shelf
--
-- Assumes nothing.
use Rattle.std.specs.Prelude.{ℕ, Bool, cond, List, length, take, drop, Some, None, Ok, Err, codes, Option, Result}
use Rattle.std.specs.Option.{ok_or}
use Rattle.std.specs.Str.{bytes_eq}
use Rattle.text.specs.Decimal.{number_of}
use Rattle.text.specs.Words.{word_of, after_word, first_in, and_then, told_as}
use Rattle.shelf_script.specs.declared.opening.Stack.{Stack}
use Rattle.shelf_script.specs.declared.opening.Stack.TheVariants.{Memory, BufferMemory, CutterMemory, BufferCutterMemory, CutterBufferMemory}
use Rattle.shelf_script.specs.declared.opening.Opening.{Opening}
use Rattle.shelf_script.specs.declared.order.LineFault.{LineFault}
use Rattle.shelf_script.specs.declared.order.LineFault.TheVariants.{UnknownStack, Word, BadSetting}
use Rattle.shelf_script.specs.Orders.{end_in}

-- a line whose first word is `shelf`
abbrev pub is_opening : List ℕ → Bool
is_opening line = bytes_eq (word_of line) (codes "shelf")

-- the stack of shelves that a word names, the upper ones first
abbrev pub stack_of : List ℕ → Option Stack
stack_of w =
    cond (bytes_eq w (codes "memory")) (Some Memory)
    (cond (bytes_eq w (codes "buffer/memory")) (Some BufferMemory)
    (cond (bytes_eq w (codes "cutter/memory")) (Some CutterMemory)
    (cond (bytes_eq w (codes "buffer/cutter/memory")) (Some BufferCutterMemory)
    (cond (bytes_eq w (codes "cutter/buffer/memory")) (Some CutterBufferMemory)
    None))))

-- the stack that the first word names
abbrev pub stack_in : List ℕ → Result Stack LineFault
stack_in text = and_then (told_as Word (first_in text)) (λ w. ok_or (stack_of w) UnknownStack)

-- the number behind a name in a word
abbrev pub setting_of : List ℕ → List ℕ → Result ℕ LineFault
setting_of name w = cond (bytes_eq (take (length name) w) name) (ok_or (number_of (drop (length name) w)) BadSetting) (Err BadSetting)

abbrev pub setting_in : List ℕ → List ℕ → Result ℕ LineFault
setting_in name text = and_then (told_as Word (first_in text)) (setting_of name)

-- `STACK max=N size=N`
abbrev pub opening_in : List ℕ → Result Opening LineFault
opening_in text =
    and_then (stack_in text) (λ stack.
    and_then (setting_in (codes "max=") (after_word text)) (λ most.
    and_then (setting_in (codes "size=") (after_word (after_word text))) (λ size.
    and_then (end_in (after_word (after_word (after_word text)))) (λ _.
    Ok (record { stack = stack; max = most; size = size })))))

-- the shelf that a line asks for
abbrev pub opening_of : List ℕ → Result Opening LineFault
opening_of line = opening_in (after_word line)
