-- Blobs that are shown one after the other, each asked for by its place.
use Rattle.std.proofs.Common.{◌≡◌, ℕ, zero, suc, ◌+◌, ◌<◌, ◌≤◌, List, [], ◌∷◌, ◌++◌, length, take, Some, Ok, Err, Result, sym, refl, ap, ◌∙◌, subst, append_assoc, append-nil, add-one, arith}
use Rattle.std.proofs.lemmas.List.{take_all}
use Rattle.faults.specs.declared.shelf.ShelfFault.{ShelfFault}
use Rattle.power.specs.Sights.{Sight, Told, Asked}
use Rattle.shelf.specs.Shelves.{Blob, ShelfState, blob_of, Over, Rising}
use Rattle.shelf.specs.Laws.{shelf_rules}
use Rattle.shelf.specs.Questions.{count_of, number_in, number_at}
use Rattle.shelf.proofs.Lookups.{head_is, tail_is}
use Rattle.shelf_script.specs.Outcomes.{blob_line, blobs_text}
use Rattle.shelf_script.specs.Prints.{Appended, BlobTold, AllTold, Printed}
use Rattle.shelf_script.proofs.Printing.{ok_is}
use Rattle.shelf_script.specs.declared.print.PrintFault.{PrintFault}
use Rattle.shelf_script.specs.declared.print.PrintFault.TheVariants.{Shelf, Memory}

-- the blob at a place, as its number finds it
pub record At (bs : List Blob) (j i : ℕ) : Type 0 where
  pub blob : Blob
  pub number : number_in bs j i ≡ Ok blob.number
  pub next : take (suc i) bs ≡ take i bs ++ (blob ∷ [])
  pub above : (k : ℕ) → Over k bs → k < blob.number
  pub found : Rising bs → blob_of blob.number bs ≡ Some blob

over_rising : (k : ℕ) (bs : List Blob) → Over k bs → Rising bs
over_rising k [] o = tt
over_rising k (b ∷ bs) o = o.1

pub at_place : (bs : List Blob) (j i : ℕ) → i < length bs → At bs j i
at_place [] j i h = absurd (omega arith)
at_place (b ∷ bs) j zero h = record { blob = b; number = refl; next = refl; above = λ k o. o.0; found = λ r. head_is b.number b bs refl }
at_place (b ∷ bs) j (suc i) h =
    let a = at_place bs j i (omega arith) in
    record {
      blob = a.blob;
      number = a.number;
      next = ap (λ z. b ∷ z) a.next;
      above = λ k o. let lt = a.above b.number o.1 in let first = o.0 in omega arith;
      found = λ r. let lt = a.above b.number r in tail_is a.blob.number b bs (λ e. omega arith) ∙ a.found (over_rising b.number bs r);
    }

blobs_more : (bs : List Blob) (x : Blob) → blobs_text (bs ++ (x ∷ [])) ≡ blobs_text bs ++ blob_line x
blobs_more [] x = append-nil (blob_line x)
blobs_more (b ∷ bs) x = ap (λ z. blob_line b ++ z) (blobs_more bs x) ∙ sym (append_assoc (blob_line b) (blobs_text bs) (blob_line x))

-- the lines of the first i blobs were appended
abbrev pub Sofar : ℕ → ShelfState → List ℕ → Sight shelf_rules → List ℕ → Type 0
Sofar i s before b after = Appended (blobs_text (take i s.blobs)) s before b after

pub none_yet : (s : ShelfState) (before : List ℕ) (b : Sight shelf_rules) → b.on → b.view ≡ s → Sofar 0 s before b before
none_yet s before b on same = record { on = on; same = same; says = sym (append-nil before) }

-- one blob more
pub one_more : (i n : ℕ) (s t : ShelfState) (before mid after : List ℕ) (a b : Sight shelf_rules) → Rising s.blobs → i < length s.blobs → Sofar i s before a mid → t ≡ s → Ok n ≡ number_at i s → BlobTold (Ok tt) (blob_of n t.blobs) t mid b after → Sofar (i + 1) s before b after
one_more i n s t before mid after a b rising h sofar e named told =
    let p = at_place s.blobs i i h in
    let x = p.blob in
    let is : n ≡ x.number = ok_is (named ∙ p.number) in
    let found : blob_of n s.blobs ≡ Some x = subst (λ (z : ℕ). blob_of z s.blobs ≡ Some x) (sym is) (p.found rising) in
    let here = subst (λ (z : ShelfState). BlobTold (Ok tt) (blob_of n z.blobs) z mid b after) e told in
    let line : Appended (blob_line x) s mid b after = subst (λ o. BlobTold (Ok tt) o s mid b after) found here in
    let lines : blobs_text (take (i + 1) s.blobs) ≡ blobs_text (take i s.blobs) ++ blob_line x = ap (λ k. blobs_text (take k s.blobs)) (add-one i) ∙ ap blobs_text p.next ∙ blobs_more (take i s.blobs) x in
    record {
      on = line.on;
      same = line.same;
      says = line.says ∙ ap (λ z. z ++ blob_line x) sofar.says ∙ append_assoc before (blobs_text (take i s.blobs)) (blob_line x) ∙ ap (λ z. before ++ z) (sym lines);
    }

-- a place in the list is never refused, nor is the blob that stands there
pub place_there : (i : ℕ) (s : ShelfState) (e : ShelfFault) → i < length s.blobs → Err e ≡ number_at i s → ⊥
place_there i s e h q = let p = at_place s.blobs i i h in let same = q ∙ p.number in let z : ◌≡◌ {A = ℕ} 0 1 = cc in omega arith

-- all of them
pub all_shown : (i : ℕ) (s : ShelfState) (before after : List ℕ) (b : Sight shelf_rules) → length s.blobs ≤ i → Sofar i s before b after → Appended (blobs_text s.blobs) s before b after
all_shown i s before after b h sofar = record { on = sofar.on; same = sofar.same; says = sofar.says ∙ ap (λ z. before ++ blobs_text z) (take_all i s.blobs h) }

ok_err : {U : Type 0} {r : Result U ShelfFault} {x : U} {e : ShelfFault} → r ≡ Ok x → r ≡ Err e → ⊥
ok_err p q = let z : ◌≡◌ {A = ℕ} 0 1 = cc in omega arith

-- a shelf that answered is not off
pub answered : {U : Type 0} (f : ShelfState → Result U ShelfFault) (a b : Sight shelf_rules) (r : Result U ShelfFault) (x : U) → Asked shelf_rules f a r b → r ≡ Ok x → a.off → ⊥
answered f a b r x q e off = let s = q.sleeps off in ok_err e s.tells

-- what was counted is how many blobs there are, before and after the question
pub counted : (a b : Sight shelf_rules) (r : Result ℕ ShelfFault) (x : ℕ) → Told shelf_rules (count_of a.view) a.view r b → r ≡ Ok x → x ≡ length b.view.blobs
counted a b r x t e = ok_is (sym e ∙ t.tells) ∙ ap (λ s. length s.blobs) (sym t.same)

-- the first question was refused: the power is off
pub first_refused : (a b : Sight shelf_rules) (before : List ℕ) (r : Result ℕ ShelfFault) (e : ShelfFault) (q : Result (Unit {0}) PrintFault) (y : PrintFault) → Asked shelf_rules count_of a r b → r ≡ Err e → q ≡ Err y → y ≡ Shelf e → Printed a before q b before
first_refused a b before r e q y asked is f g =
    let to : Err (Shelf e) ≡ q = sym (f ∙ ap Err g) in
    subst (λ (z : Result (Unit {0}) PrintFault). Printed a before z b before) to
    (record {
      wakes = λ on. absurd (ok_err (asked.wakes on).tells is);
      sleeps = λ off.
          let s = asked.sleeps off in
          let same : s.fault ≡ e = err_is (sym s.tells ∙ is) in
          record { result = Err e; tells = refl; asleep = record { fault = s.fault; tells = ap Err (sym same); why = s.why; off = s.off; may = s.may }; same = refl };
    })
  where
    err_is : {x y : ShelfFault} → ◌≡◌ {A = Result ℕ ShelfFault} (Err x) (Err y) → x ≡ y
    err_is p = cc

-- a blob that is there is shown, or there is no memory for it
pub blob_refused : (i n : ℕ) (s t : ShelfState) (before mid after : List ℕ) (b : Sight shelf_rules) (y : PrintFault) → Rising s.blobs → i < length s.blobs → t ≡ s → Ok n ≡ number_at i s → BlobTold (Err y) (blob_of n t.blobs) t mid b after → AllTold s before (Err y) b after
blob_refused i n s t before mid after b (Memory x) rising h e named told = tt
blob_refused i n s t before mid after b (Shelf f) rising h e named told =
    let p = at_place s.blobs i i h in
    let x = p.blob in
    let is : n ≡ x.number = ok_is (named ∙ p.number) in
    let found : blob_of n s.blobs ≡ Some x = subst (λ (z : ℕ). blob_of z s.blobs ≡ Some x) (sym is) (p.found rising) in
    let here = subst (λ (z : ShelfState). BlobTold (Err (Shelf f)) (blob_of n z.blobs) z mid b after) e told in
    subst (λ o. BlobTold (Err (Shelf f)) o s mid b after) found here
