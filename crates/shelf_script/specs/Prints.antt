-- What a printing of a shelf's blobs appends to a text.
--
--   BytesRead     the bytes of one blob were read
--   BlobPrinted   the line of one blob was appended
--   Printed       a line for each blob was appended, or the power was off
--
-- Where there is no memory for the text nothing is promised. Assumes nothing.
use Rattle.std.specs.Prelude.{◌≡◌, ℕ, List, ◌++◌, Some, None, Ok, Err, Option, Result}
use Rattle.faults.specs.declared.shelf.ShelfFault.{ShelfFault}
use Rattle.power.specs.Sights.{Sight, Asleep}
use Rattle.shelf.specs.Shelves.{Blob, ShelfState, blob_of}
use Rattle.shelf.specs.Laws.{shelf_rules}
use Rattle.shelf_script.specs.declared.print.PrintFault.{PrintFault}
use Rattle.shelf_script.specs.declared.print.PrintFault.TheVariants.{Shelf, Memory}
use Rattle.shelf_script.specs.Outcomes.{blob_line, blobs_text}

-- text was appended to what stood before, and the shelf is as it was
pub record Appended (text : List ℕ) (s : ShelfState) (before : List ℕ) (b : Sight shelf_rules) (after : List ℕ) : Type 0 where
  pub on : b.on
  pub same : b.view ≡ s
  pub says : after ≡ before ++ text

-- the bytes of a blob were read
pub record Has {V : Type 0} (items : V → List ℕ) (v : V) (x : Blob) (s : ShelfState) (b : Sight shelf_rules) : Type 0 where
  pub on : b.on
  pub same : b.view ≡ s
  pub bytes : items v ≡ x.bytes

abbrev pub BytesTold : {V : Type 0} → (V → List ℕ) → Result V PrintFault → Option Blob → ShelfState → Sight shelf_rules → Type 0
BytesTold items (Ok v) None s b = ⊥
BytesTold items (Ok v) (Some x) s b = Has items v x s b
BytesTold items (Err (Memory e)) o s b = Unit {0}
BytesTold items (Err (Shelf e)) None s b = Unit {0}
BytesTold items (Err (Shelf e)) (Some x) s b = ⊥

-- the bytes of one blob were to be read
pub record BytesRead {V : Type 0} (items : V → List ℕ) (n : ℕ) (a : Sight shelf_rules) (r : Result V PrintFault) (b : Sight shelf_rules) : Type 0 where
  pub wakes : a.on → BytesTold items r (blob_of n a.view.blobs) a.view b

abbrev pub BlobTold : Result (Unit {0}) PrintFault → Option Blob → ShelfState → List ℕ → Sight shelf_rules → List ℕ → Type 0
BlobTold (Ok _) None s before b after = ⊥
BlobTold (Ok _) (Some x) s before b after = Appended (blob_line x) s before b after
BlobTold (Err (Memory e)) o s before b after = Unit {0}
BlobTold (Err (Shelf e)) None s before b after = Unit {0}
BlobTold (Err (Shelf e)) (Some x) s before b after = ⊥

-- the line of one blob was appended
pub record BlobPrinted (n : ℕ) (a : Sight shelf_rules) (before : List ℕ) (r : Result (Unit {0}) PrintFault) (b : Sight shelf_rules) (after : List ℕ) : Type 0 where
  pub wakes : a.on → BlobTold r (blob_of n a.view.blobs) a.view before b after

abbrev pub AllTold : ShelfState → List ℕ → Result (Unit {0}) PrintFault → Sight shelf_rules → List ℕ → Type 0
AllTold s before (Ok _) b after = Appended (blobs_text s.blobs) s before b after
AllTold s before (Err (Memory e)) b after = Unit {0}
AllTold s before (Err (Shelf e)) b after = ⊥

abbrev pub fault_of : Result (Unit {0}) PrintFault → Result (Unit {0}) ShelfFault → Type 0
fault_of (Ok _) q = ⊥
fault_of (Err (Memory e)) q = ⊥
fault_of (Err (Shelf e)) q = q ≡ Err e

-- the power was off, and nothing was appended
pub record NotTold (a : Sight shelf_rules) (before : List ℕ) (r : Result (Unit {0}) PrintFault) (b : Sight shelf_rules) (after : List ℕ) : Type 0 where
  pub result : Result (Unit {0}) ShelfFault
  pub tells : fault_of r result
  pub asleep : Asleep shelf_rules a result b
  pub same : after ≡ before

-- a line for each blob was appended
pub record Printed (a : Sight shelf_rules) (before : List ℕ) (r : Result (Unit {0}) PrintFault) (b : Sight shelf_rules) (after : List ℕ) : Type 0 where
  pub wakes : a.on → AllTold a.view before r b after
  pub sleeps : a.off → NotTold a before r b after
