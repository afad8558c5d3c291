-- How causes and refusals are printed.
--
--   cause_name     what the cause of a fault of a shelf is called
--   number_text    a space and the number of a refusal, where it has one
--   detail_text    the values that a refusal carries, each behind its name
--   detail_part    the same, where it carries any
--   refusal_text   a refusal: its number and its values
--
-- Assumes nothing.
use Rattle.std.specs.Prelude.{ℕ, List, [], ◌++◌, Some, None, codes, decimal, Option}
use Rattle.faults.specs.declared.refusal.Detail.{Detail}
use Rattle.faults.specs.declared.refusal.Detail.TheVariants.{Reason, Kind, KindOfBlob, Byte}
use Rattle.faults.specs.declared.refusal.Refusal.{Refusal}
use Rattle.faults.specs.declared.shelf.ShelfCause.{ShelfCause}
use Rattle.faults.specs.declared.shelf.ShelfCause.TheVariants.{Missing, Present, Full, TooLong, OutOfRange, Down, Damaged}

-- what a cause is called
abbrev pub cause_name : ShelfCause → List ℕ
cause_name Missing = codes "missing"
cause_name Present = codes "present"
cause_name Full = codes "full"
cause_name TooLong = codes "too-long"
cause_name OutOfRange = codes "out-of-range"
cause_name Down = codes "down"
cause_name Damaged = codes "damaged"

-- a space and the number, where there is one
abbrev pub number_text : Option ℕ → List ℕ
number_text (Some n) = codes " " ++ decimal n
number_text None = []

-- the values that a refusal carries, each behind its name
abbrev pub detail_text : Detail → List ℕ
detail_text (Reason reason) = codes " reason " ++ decimal reason.number
detail_text (Kind kind) = codes " kind " ++ decimal kind
detail_text (KindOfBlob kind blob) = codes " kind " ++ (decimal kind ++ (codes " blob " ++ decimal blob))
detail_text (Byte place) = codes " blob " ++ (decimal place.blob ++ (codes " byte " ++ decimal place.byte))

-- the same, where it carries any
abbrev pub detail_part : Option Detail → List ℕ
detail_part (Some d) = detail_text d
detail_part None = []

-- a refusal: its number and its values
abbrev pub refusal_text : Refusal → List ℕ
refusal_text r = codes "refused" ++ (number_text r.number ++ detail_part r.detail)
