-- The bytes of a blob that were read whole, and its line.
use Rattle.std.proofs.Common.{◌≡◌, ℕ, ◌+◌, cond, ltb, List, ◌++◌, length, take, drop, Some, None, Ok, Err, Option, Result, sym, refl, ap, ◌∙◌, subst, arith}
use Rattle.std.proofs.lemmas.List.{take_all, take-append-le}
use Rattle.std.proofs.lemmas.Bool.{cond-false, le-ltb}
use Rattle.faults.specs.declared.shelf.ShelfCause.TheVariants.{OutOfRange}
use Rattle.faults.specs.declared.shelf.ShelfFault.{ShelfFault}
use Rattle.power.specs.Sights.{Sight}
use Rattle.shelf.specs.Shelves.{Blob, ShelfState, blob_of, fault}
use Rattle.shelf.specs.Laws.{shelf_rules}
use Rattle.shelf.specs.Questions.{told, length_of, safe_of, part_of, filled}
use Rattle.shelf.proofs.Lookups.{found_number}
use Rattle.shelf_script.specs.Outcomes.{blob_text}
use Rattle.shelf_script.specs.Prints.{BytesTold, BlobTold}

-- what was told is told once
pub ok_is : {A : Type 0} {x y : A} → ◌≡◌ {A = Result A ShelfFault} (Ok x) (Ok y) → x ≡ y
ok_is p = cc

-- a buffer as long as the blob was filled with all of it
pub bytes_told : {V : Type 0} (items : V → List ℕ) (v : V) (n len : ℕ) (s : ShelfState) (old new : List ℕ) (b : Sight shelf_rules) → b.on → b.view ≡ s → length_of n s ≡ Ok len → length old ≡ len → new ≡ filled old (part_of n 0 (length old) s) → items v ≡ take len (new ++ drop (length new) old) → BytesTold items (Ok v) (blob_of n s.blobs) s b
bytes_told {V} items v n len s old new b on same long l fills all = by (blob_of n s.blobs) refl
  where
    by : (o : Option Blob) → blob_of n s.blobs ≡ o → BytesTold items (Ok v) o s b
    by None q = let f = ap (told n (λ x. Ok (length x.bytes))) q in let z : ◌≡◌ {A = ℕ} 0 1 = cc in absurd (omega arith)
    by (Some x) q =
        let f : Ok (length x.bytes) ≡ Ok len = sym (ap (told n (λ x. Ok (length x.bytes))) q) ∙ long in
        let m : length x.bytes ≡ len = ok_is f in
        let part : part_of n 0 (length old) s ≡ Ok (take (length old) (drop 0 x.bytes)) =
        ap (told n (λ x. cond (ltb (length x.bytes) (0 + length old)) (Err (fault OutOfRange n)) (Ok (take (length old) (drop 0 x.bytes))))) q ∙ cond-false _ _ _ (le-ltb (length x.bytes) (0 + length old) (omega arith)) in
        let is : new ≡ x.bytes = fills ∙ ap (filled old) part ∙ take_all (length old) x.bytes (omega arith) in
        let k : length new ≡ len = ap length is ∙ m in
        record { on = on; same = same; bytes = all ∙ take-append-le len new (drop (length new) old) (omega arith) ∙ take_all len new (omega arith) ∙ is }

-- the line of a blob is put together from the answers about it
pub line_told : {V : Type 0} (items : V → List ℕ) (v : V) (n safe : ℕ) (s t : ShelfState) (before after : List ℕ) (b : Sight shelf_rules) → t ≡ s → safe_of n s ≡ Ok safe → BytesTold items (Ok v) (blob_of n t.blobs) t b → after ≡ before ++ blob_text n safe (items v) → BlobTold (Ok tt) (blob_of n s.blobs) s before b after
line_told {V} items v n safe s t before after b e safely read says = by (blob_of n s.blobs) refl (subst (λ (z : ShelfState). BytesTold items (Ok v) (blob_of n z.blobs) z b) e read)
  where
    by : (o : Option Blob) → blob_of n s.blobs ≡ o → BytesTold items (Ok v) o s b → BlobTold (Ok tt) o s before b after
    by None q r = absurd r
    by (Some x) q r =
        let f : Ok x.safe ≡ Ok safe = sym (ap (told n (λ x. Ok x.safe)) q) ∙ safely in
        let m : x.safe ≡ safe = ok_is f in
        let k : x.number ≡ n = found_number n s.blobs x q in
        record { on = r.on; same = r.same; says = says ∙ (λ i. before ++ blob_text (sym k i) (sym m i) (r.bytes i)) }
