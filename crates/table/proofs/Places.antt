-- Where a search for a key ends among rows, and what an edit at that place makes of rows that rise.
use Rattle.std.proofs.Common.{◌≡◌, ℕ, ◌+◌, ◌-◌, ◌<◌, ◌≤◌, ◌≢◌, Bool, true, false, ltb, Decides, List, [], ◌∷◌, length, get_or, take, drop, set, Some, None, Ok, Err, Result, sym, refl, ap, ◌∙◌, subst, add-one, arith}
use Rattle.std.specs.List.{AllAdjacentBelow, IsAllAdjacentAnswer, insert, remove}
use Rattle.std.specs.Result.{result_ok}
use Rattle.std.proofs.lemmas.Bool.{false≢true}
use Rattle.std.proofs.lemmas.Bool.Decides.{nat_tests}
use Rattle.std.proofs.lemmas.Grind.{common_steps}
use Rattle.std.proofs.lemmas.List.{length-take-le, take_at, take-set, get_or-set_same, length-set}
use Rattle.std.proofs.lemmas.List.Edits.{length-insert, get_or-insert_below, get_or-insert_at, get_or-insert_above, length-remove}
use Rattle.std.proofs.lemmas.List.Elements.{All-append}
use Rattle.std.proofs.lemmas.List.Quantifiers.{all_pairs_remove}
use Rattle.std.proofs.lemmas.List.Sorted.{IsNonDecreasingBy-from_all_adjacent}
use Rattle.table.specs.Tables.{Rising, Lower, Higher, row_of, FoundAt, MissedAt, Found, Inserted, Removed, Changed}
use Rattle.table.proofs.Keys.{row_of-absent, row_of-at, row_of-some, row_of-insert, row_of-remove, row_of-set, inserted-at, without-at, changed-at}

module _ {R : Type 0} (key : R → ℕ) (k : ℕ) (rows : List R) where
  -- of rows that rise, those before one have lower keys
  pub lower_before : (i : ℕ) (d : R) → i < length rows → key (get_or rows i d) ≡ k → Rising key rows → Lower key k (take i rows)
  lower_before i d h e up j x lt = grind (arith, common_steps, up j i x)

  -- and those behind it higher ones
  pub higher_behind : (i : ℕ) (d : R) → i < length rows → key (get_or rows i d) ≡ k → Rising key rows → Higher key k (drop (i + 1) rows)
  higher_behind i d h e up j x lt = grind (arith, common_steps, up i (i + 1 + j) x)

  -- no row has a key that lies between those before a place and those from it on
  pub row_of-gap : (i : ℕ) → Lower key k (take i rows) → Higher key k (drop i rows) → row_of key k rows ≡ None
  row_of-gap i low high = row_of-absent key k rows (λ m d h same. grind (arith, common_steps, low m d, high (m - i) d))

  -- the place that an answer tells
  pub found_ok : (r : Result ℕ ℕ) (i : ℕ) → Found key k rows r → Some i ≡ result_ok r → FoundAt key k rows i
  found_ok (Ok j) i found e = subst (λ (z : ℕ). FoundAt key k rows z) (grind arith) found
  found_ok (Err j) i found e = grind arith

module _ {R : Type 0} (key : R → ℕ) (rows : List R) where
  -- keys that rise from each row to the next rise from each to all behind it
  pub rising_near : AllAdjacentBelow (λ x y. key x < key y) rows (length rows) → Rising key rows
  rising_near near i j d lt h =
      let far = IsNonDecreasingBy-from_all_adjacent key rows (λ m e l. let one = near m e l in omega (arith, one)) in
      omega (arith, near i d (omega arith), far (i + 1) j d (omega arith) h)

  -- what a test of each row and the next tells
  pub rising_tested : (r : Bool) → IsAllAdjacentAnswer (λ x y b. b ≡ ltb (key x) (key y)) rows r → Decides r (Rising key rows)
  rising_tested true near = (λ _. rising_near (λ m d h. grind (arith, nat_tests, near m d h)), λ _. refl)
  rising_tested false (m, h, falls) = (λ e. absurd (false≢true e), λ up. absurd (no_row rows (λ d. grind (arith, nat_tests, falls d, up m (m + 1) d)) (omega arith)))
    where
      -- no row at all
      no_row : (xs : List R) → (R → ⊥) → 0 < length xs → ⊥
      no_row [] none some = omega arith
      no_row (x ∷ xs) none some = none x

  module _ (i : ℕ) (y : R) where
    -- rows that rise still do with one put between lower and higher ones
    rising_insert : i ≤ length rows → Lower key (key y) (take i rows) → Higher key (key y) (drop i rows) → Rising key rows → Rising key (insert rows i y)
    rising_insert h low high up m n e lt within =
        let new = insert rows i y in
        let long : length new ≡ length rows + 1 = length-insert rows i y h in
        let below : (q : ℕ) → q < i → key (get_or new q e) ≡ key (get_or rows q e) = λ q l. ap key (get_or-insert_below rows i y e q l h) in
        let here : (q : ℕ) → q ≡ i → key (get_or new q e) ≡ key y = λ q l. rw l (ap key (get_or-insert_at rows i y e h)) in
        let above : (q : ℕ) → i < q → key (get_or new q e) ≡ key (get_or rows (q - 1) e) = λ q l. subst (λ (z : ℕ). key (get_or new z e) ≡ key (get_or rows (q - 1) e)) {x = q - 1 + 1} (omega arith) (ap key (get_or-insert_above rows i y e (q - 1) (omega arith) h)) in
        let lower : (q : ℕ) → q < i → key (get_or rows q e) < key y = λ q l. grind (arith, common_steps, low q e) in
        let higher : (q : ℕ) → i ≤ q → q < length rows → key y < key (get_or rows q e) = λ q l k. grind (arith, common_steps, high (q - i) e) in
        grind (arith, below m, here m, above m, below n, here n, above n, up m n, up m (n - 1), up (m - 1) (n - 1), lower m, higher (n - 1))

    -- and with one in the place of another that has its key
    rising_set : i < length rows → key (get_or rows i y) ≡ key y → Rising key rows → Rising key (set rows i y)
    rising_set h e up m n x lt within = grind (arith, common_steps, up m n x, up m i x, up i n x)

    -- a row put where a search missed its key
    pub inserts_at : MissedAt key (key y) rows i → Rising key rows → Inserted key y rows (insert rows i y)
    inserts_at m up =
        let new = insert rows i y in
        let low : Lower key (key y) (take i rows) = m.lower up in
        let front : take i new ≡ take i rows = take_at (take i rows) (y ∷ drop i rows) i (length-take-le i rows m.within) in
        let here : get_or new i y ≡ y = get_or-insert_at rows i y y m.within in
        let long : length new ≡ length rows + 1 = length-insert rows i y m.within in
        record {
          rows = inserted-at key y rows i low (m.higher up);
          order = rising_insert m.within low (m.higher up) up;
          count = long;
          missed = m.row up;
          own = row_of-at key (key y) new i y (omega (arith, m.within)) (ap key here) (subst (λ (z : List R). Lower key (key y) z) (sym front) low) ∙ ap (λ (z : R). Some z) here;
          others = λ k ne. row_of-insert key k rows i y ne;
        }

    -- the row taken out that a search found
    pub removes_at : (k : ℕ) → FoundAt key k rows i → Rising key rows → Removed key k (get_or rows i y) rows (remove rows i)
    removes_at k f up =
        let low : Lower key k (take i rows) = lower_before key k rows i y f.within (f.hit y) up in
        let high : Higher key k (drop (i + 1) rows) = higher_behind key k rows i y f.within (f.hit y) up in
        record {
          rows = without-at key k rows i y f.within (f.hit y) low;
          order = all_pairs_remove (λ r s. key r < key s) rows i f.within up;
          count = length-remove rows i f.within;
          was = f.row up y;
          own = row_of-absent key k (remove rows i) (rw (← add-one i) (All-append (λ r. key r ≢ k) (take i rows) (drop (i + 1) rows) (λ j e h. let l = low j e h in omega (arith, l)) (λ j e h. let l = high j e h in omega (arith, l))));
          others = λ j ne. row_of-remove key j rows i y f.within (λ e. ne (e ∙ f.hit y));
        }

    -- a row put in the place of the one that a search found
    pub changes_at : FoundAt key (key y) rows i → Rising key rows → Changed key y rows (set rows i y)
    changes_at f up =
        let low : Lower key (key y) (take i rows) = lower_before key (key y) rows i y f.within (f.hit y) up in
        let here : get_or (set rows i y) i y ≡ y = get_or-set_same rows i y y f.within in
        record {
          rows = changed-at key y rows i y f.within (f.hit y) low;
          order = rising_set f.within (f.hit y) up;
          count = length-set rows i y;
          was = row_of-some key (key y) rows i y f.within (f.hit y);
          own = row_of-at key (key y) (set rows i y) i y (omega (arith, f.within, length-set rows i y)) (ap key here) (subst (λ (z : List R). Lower key (key y) z) (sym (take-set rows i y)) low) ∙ ap (λ (z : R). Some z) here;
          others = λ k ne. row_of-set key k rows i y y f.within (f.hit y) ne;
        }
