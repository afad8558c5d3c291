-- What a line of a script does to a shelf, and what it is answered.
--
--   outcome_line   the line of an accepted or refused order
--   blobs_text     a line for each blob
--   Obeyed         an order was carried out and answered
--   Answered       a line was answered
--
-- Assumes nothing.
use Rattle.std.specs.Prelude.{◌≡◌, ℕ, List, [], ◌∷◌, ◌++◌, Some, None, Ok, Err, codes, Option, Result}
use Rattle.faults.specs.Texts.{cause_name}
use Rattle.faults.specs.declared.shelf.ShelfFault.{ShelfFault}
use Rattle.power.specs.Sights.{Sight, Same, Wrote, Woken, Asleep}
use Rattle.shelf.specs.Shelves.{Blob, Call}
use Rattle.shelf.specs.Shelves as shelves
use Rattle.shelf.specs.Laws.{shelf_rules}
use Rattle.text.specs.Decimal.{labelled}
use Rattle.text.specs.Hex.{bytes_in, bytes_text}
use Rattle.text.specs.Shown.{error_text}
use Rattle.shelf_script.specs.declared.order.LineFault.{LineFault}
use Rattle.shelf_script.specs.declared.order.LineFault.TheVariants.{BadHex}
use Rattle.shelf_script.specs.Orders.{Asked, make, add, cut, remove, sync, fail, restart, print, fault_text, order_of}

abbrev pub refused_text : ShelfFault → List ℕ
refused_text e = codes " -> refused " ++ cause_name e.cause

abbrev pub outcome_text : Result (Unit {0}) ShelfFault → List ℕ
outcome_text (Ok _) = codes " -> ok"
outcome_text (Err e) = refused_text e

-- the line, and behind an arrow how it ended
abbrev pub outcome_line : List ℕ → Result (Unit {0}) ShelfFault → List ℕ
outcome_line line r = line ++ (outcome_text r ++ (10 ∷ []))

-- `error: ` and why a line is no order
abbrev pub error_line : LineFault → List ℕ
error_line fault = error_text (fault_text fault)

-- the line of a blob by its number, its safe count and its bytes
abbrev pub blob_text : ℕ → ℕ → List ℕ → List ℕ
blob_text n safe bytes = labelled (codes "blob ") n ++ (labelled (codes " safe ") safe ++ (codes " bytes " ++ (bytes_text bytes ++ (10 ∷ []))))

abbrev pub blob_line : Blob → List ℕ
blob_line b = blob_text b.number b.safe b.bytes

-- a line for each blob
abbrev pub blobs_text : List Blob → List ℕ
blobs_text [] = []
blobs_text (b ∷ bs) = blob_line b ++ blobs_text bs

-- a call that writes was made and answered
pub record Written (c : Call) (line : List ℕ) (a : Sight shelf_rules) (text : List ℕ) (b : Sight shelf_rules) : Type 0 where
  pub result : Result (Unit {0}) ShelfFault
  pub wrote : Wrote shelf_rules c a result b
  pub says : text ≡ outcome_line line result

-- a restart was made and answered
pub record Restarted (line : List ℕ) (a : Sight shelf_rules) (text : List ℕ) (b : Sight shelf_rules) : Type 0 where
  pub result : Result (Unit {0}) ShelfFault
  pub woken : Woken shelf_rules a result b
  pub says : text ≡ outcome_line line result

-- nothing was done
pub record Untouched (answer : List ℕ) (a : Sight shelf_rules) (text : List ℕ) (b : Sight shelf_rules) : Type 0 where
  pub same : Same shelf_rules a b
  pub says : text ≡ answer

-- the blobs of a shelf whose power is on were shown
pub record ShownOn (a : Sight shelf_rules) (text : List ℕ) (b : Sight shelf_rules) : Type 0 where
  pub on : b.on
  pub same : b.view ≡ a.view
  pub says : text ≡ blobs_text a.view.blobs

-- the power was off
pub record ShownOff (line : List ℕ) (a : Sight shelf_rules) (text : List ℕ) (b : Sight shelf_rules) : Type 0 where
  pub result : Result (Unit {0}) ShelfFault
  pub asleep : Asleep shelf_rules a result b
  pub says : text ≡ outcome_line line result

-- the blobs were to be shown
pub record Shown (line : List ℕ) (a : Sight shelf_rules) (text : List ℕ) (b : Sight shelf_rules) : Type 0 where
  pub wakes : a.on → ShownOn a text b
  pub sleeps : a.off → ShownOff line a text b

-- bytes were to be added
abbrev pub Added : ℕ → Option (List ℕ) → List ℕ → Sight shelf_rules → List ℕ → Sight shelf_rules → Type 0
Added n None line a text b = Untouched (error_line BadHex) a text b
Added n (Some xs) line a text b = Written (shelves.add n xs) line a text b

-- an order was carried out and answered
abbrev pub Obeyed : Asked → List ℕ → Sight shelf_rules → List ℕ → Sight shelf_rules → Type 0
Obeyed (make n) line a text b = Written (shelves.make n) line a text b
Obeyed (add n hex) line a text b = Added n (bytes_in hex) line a text b
Obeyed (cut n k) line a text b = Written (shelves.cut n k) line a text b
Obeyed (remove n) line a text b = Written (shelves.remove n) line a text b
Obeyed (sync n) line a text b = Written (shelves.sync n) line a text b
Obeyed (fail w k) line a text b = Untouched (outcome_line line (Ok tt)) a text b
Obeyed restart line a text b = Restarted line a text b
Obeyed print line a text b = Shown line a text b

-- a line was answered
abbrev pub AnsweredBy : Result Asked LineFault → List ℕ → Sight shelf_rules → List ℕ → Sight shelf_rules → Type 0
AnsweredBy (Ok o) line a text b = Obeyed o line a text b
AnsweredBy (Err e) line a text b = Untouched (error_line e) a text b

abbrev pub Answered : List ℕ → Sight shelf_rules → List ℕ → Sight shelf_rules → Type 0
Answered line a text b = AnsweredBy (order_of line) line a text b
