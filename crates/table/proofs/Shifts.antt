-- What an edit of a slice leaves of the rows in use and of the rest.
use Rattle.std.proofs.Common.{◌≡◌, ℕ, suc, ◌+◌, ◌-◌, ◌<◌, ◌≤◌, min, List, [], ◌∷◌, ◌++◌, length, get_or, take, drop, set, sym, ap, ◌∙◌, drop-cons, arith}
use borrow.Rule.Slice.PartMut.{put_mid, mid_of}
use Rattle.std.specs.List.{insert, remove}
use Rattle.std.proofs.lemmas.List.{append_assoc, length-append, length-drop, length-take, length-take-le, take_at, drop_at, take-take, drop-drop, drop-append-le, take_more_set, take-set-le, drop-set-lt, take_min, drop_min, get_or-take}
use Rattle.std.proofs.Math.Seq.{take-set-lt}
use Rattle.std.proofs.lemmas.List.Edits.{length-insert, length-remove}
use Rattle.std.proofs.lemmas.Slice.{between_is}
use Rattle.table.specs.Tables.{Rising, FoundAt, MissedAt, Removed}
use Rattle.table.specs.Slices.{InsertDone, RemoveDone, ChangeDone}
use Rattle.table.proofs.Places.{inserts_at, removes_at, changes_at}

module _ {R : Type 0} (rows : List R) where
  -- a row put behind those in use and turned to place i
  pub shifted_in : (len i : ℕ) (row : R) (part : List R) → i ≤ len → len < length rows →
      part ≡ drop (length (mid_of i (len + 1 - i) (set rows len row)) - 1) (mid_of i (len + 1 - i) (set rows len row)) ++ take (length (mid_of i (len + 1 - i) (set rows len row)) - 1) (mid_of i (len + 1 - i) (set rows len row)) →
      put_mid i (len + 1 - i) (set rows len row) part ≡ insert (take len rows) i row ++ drop (len + 1) rows
  shifted_in len i row part le lt e =
      let used = take len rows in
      let mid = mid_of i (len + 1 - i) (set rows len row) in
      let long : length used ≡ len = length-take-le len rows (omega arith) in
      let m : mid ≡ drop i used ++ row ∷ [] = rw (between_is (set rows len row) i (len + 1), take_more_set rows len row lt, drop-append-le i used (row ∷ []) (omega arith)) in
      let n : length (drop i used) ≡ length mid - 1 = omega (arith, ap length m, length-append (drop i used) (row ∷ [])) in
      let back : drop (length mid - 1) mid ≡ row ∷ [] = ap (λ (z : List R). drop (length mid - 1) z) m ∙ drop_at (drop i used) (row ∷ []) (length mid - 1) n in
      let front : take (length mid - 1) mid ≡ drop i used = ap (λ (z : List R). take (length mid - 1) z) m ∙ take_at (drop i used) (row ∷ []) (length mid - 1) n in
      let is : part ≡ row ∷ drop i used = rw (e, back, front) in
      let before : take i (set rows len row) ≡ take i used = rw (take-set-le i rows len row le, take-take i len rows le) in
      let end : i + (len + 1 - i) ≡ len + 1 = omega arith in
      let rest : drop (len + 1 - i) (drop i (set rows len row)) ≡ drop (len + 1) rows = rw (drop-drop (len + 1 - i) i (set rows len row), end, drop-set-lt (len + 1) rows len row (omega arith)) in
      rw (before, is, rest, append_assoc)

  -- the row at place i of the first n turned behind the others
  pub shifted_out : (n i : ℕ) (row : R) (part : List R) → i < n → n ≤ length rows → row ≡ get_or rows i row →
      part ≡ drop 1 (mid_of i (n - i) rows) ++ take 1 (mid_of i (n - i) rows) →
      put_mid i (n - i) rows part ≡ remove (take n rows) i ++ row ∷ drop n rows
  shifted_out n i row part lt le read e =
      let used = take n rows in
      let long : length used ≡ n = length-take-le n rows le in
      let within : i < length used = omega arith in
      let m : mid_of i (n - i) rows ≡ row ∷ drop (suc i) used = rw (between_is rows i n, drop-cons used i row, get_or-take n rows i row lt, ← read) in
      let is : part ≡ drop (suc i) used ++ row ∷ [] = rw (e, m) in
      let before : take i rows ≡ take i used = sym (take-take i n rows (omega arith)) in
      let end : i + (n - i) ≡ n = omega arith in
      let rest : drop (n - i) (drop i rows) ≡ drop n rows = rw (drop-drop (n - i) i rows, end) in
      rw (before, is, rest, append_assoc (drop (suc i) used), append_assoc)

module _ {R : Type 0} (key : R → ℕ) (rows : List R) (len i : ℕ) (row : R) where
  -- the slice after a row was put in where a search missed its key
  pub insert_done : (after : List R) → MissedAt key (key row) (take len rows) i → len < length rows → after ≡ insert (take len rows) i row ++ drop (len + 1) rows → InsertDone key len row rows after
  insert_done after m lt e =
      let used = take len rows in
      let long : length (insert used i row) ≡ len + 1 = length-insert used i row m.within ∙ ap (λ (z : ℕ). z + 1) (length-take-le len rows (omega arith)) in
      record {
        room = lt;
        used = rw (e, take_at (insert used i row) (drop (len + 1) rows) (len + 1) long) (inserts_at key used i row m);
        rest = rw (e, drop_at (insert used i row) (drop (len + 1) rows) (len + 1) long);
      }

  -- the slice after the row was taken out that a search found; its first n rows were in use
  pub remove_done : (n k : ℕ) (after : List R) → n ≡ min len (length rows) → FoundAt key k (take len rows) i → row ≡ get_or rows i row → after ≡ remove (take n rows) i ++ row ∷ drop n rows → RemoveDone key len k row rows after
  remove_done n k after en f read e =
      let used = take len rows in
      let same : take n rows ≡ used = rw (en, take_min len rows) in
      let rest : drop n rows ≡ drop len rows = rw (en, drop_min len rows) in
      let count : length used ≡ n = length-take len rows ∙ sym en in
      let here : get_or used i row ≡ row = get_or-take len rows i row (omega (arith, f.within)) ∙ sym read in
      let long : length (remove used i) ≡ n - 1 = omega (arith, length-remove used i f.within) in
      let is : after ≡ remove used i ++ row ∷ drop len rows = rw (e, same, rest) in
      let front : take (n - 1) after ≡ remove used i = rw (is, take_at (remove used i) (row ∷ drop len rows) (n - 1) long) in
      let back : drop (n - 1) after ≡ row ∷ drop len rows = rw (is, drop_at (remove used i) (row ∷ drop len rows) (n - 1) long) in
      let one : min len (length after) ≡ n - 1 + 1 = omega (arith, f.within, ap length back, length-drop (n - 1) after, length-drop len rows) in
      let done : Rising key used → Removed key k row used (take (n - 1) after) = rw (front, ← here) (removes_at key used i row k f) in
      record {
        held = omega (arith, f.within);
        own = ap key (sym here) ∙ f.hit row;
        used = rw (← en) done;
        rest = sym (drop_min len after) ∙ ap (λ (z : ℕ). drop z after) one ∙ sym (drop-drop 1 (n - 1) after) ∙ ap (λ (z : List R). drop 1 z) back;
        gone = rw (← en) back;
      }

  -- the slice after a row was put in the place of the one that a search found
  pub change_done : FoundAt key (key row) (take len rows) i → ChangeDone key len row rows (set rows i row)
  change_done f =
      let lt : i < len = omega (arith, f.within, length-take len rows) in
      record {
        used = rw (take-set-lt len rows i row lt) (changes_at key (take len rows) i row f);
        rest = drop-set-lt len rows i row lt;
      }
