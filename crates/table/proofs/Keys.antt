-- What a key tells of rows, and of rows with one put in, taken out or replaced at a place.
use Rattle.std.proofs.Common.{◌≡◌, ℕ, zero, suc, ◌<◌, ◌≢◌, List, [], ◌∷◌, length, get_or, take, drop, set, true, is_some, Some, None, refl, arith}
use Rattle.std.specs.List.{All, insert, remove}
use Rattle.std.proofs.lemmas.Bool.Decides.{nat_tests}
use Rattle.table.specs.Tables.{Lower, Higher, row_of, inserted, without, changed}

module _ {R : Type 0} (key : R → ℕ) where
  -- a key that no row has tells none
  pub row_of-absent : (k : ℕ) (rows : List R) → All (λ r. key r ≢ k) rows → row_of key k rows ≡ None
  row_of-absent k [] absent = refl
  row_of-absent k (x ∷ xs) absent = grind (arith, nat_tests, absent 0 x (omega arith), row_of-absent k xs (λ j d h. absent (suc j) d (omega arith)))

  -- a row behind lower ones is the one of its key
  pub row_of-at : (k : ℕ) (rows : List R) (i : ℕ) (d : R) → i < length rows → key (get_or rows i d) ≡ k → Lower key k (take i rows) → row_of key k rows ≡ Some (get_or rows i d)
  row_of-at k [] i d h e low = absurd (omega arith)
  row_of-at k (x ∷ xs) zero d h e low = grind (arith, nat_tests)
  row_of-at k (x ∷ xs) (suc i) d h e low = grind (arith, nat_tests, low 0 x (omega arith), row_of-at k xs i d (omega arith) e (λ j d h. low (suc j) d (omega arith)))

  -- a key that a row has tells some row
  pub row_of-some : (k : ℕ) (rows : List R) (i : ℕ) (d : R) → i < length rows → key (get_or rows i d) ≡ k → is_some (row_of key k rows) ≡ true
  row_of-some k [] i d h e = absurd (omega arith)
  row_of-some k (x ∷ xs) zero d h e = grind (arith, nat_tests)
  row_of-some k (x ∷ xs) (suc i) d h e = grind (arith, nat_tests, row_of-some k xs i d (omega arith) e)

  -- one row more tells of its own key alone
  pub row_of-insert : (k : ℕ) (rows : List R) (i : ℕ) (y : R) → k ≢ key y → row_of key k (insert rows i y) ≡ row_of key k rows
  row_of-insert k rows zero y ne = grind (arith, nat_tests)
  row_of-insert k [] (suc i) y ne = grind (arith, nat_tests)
  row_of-insert k (x ∷ xs) (suc i) y ne = grind (arith, nat_tests, row_of-insert k xs i y ne)

  -- and so does one less
  pub row_of-remove : (k : ℕ) (rows : List R) (i : ℕ) (d : R) → i < length rows → k ≢ key (get_or rows i d) → row_of key k (remove rows i) ≡ row_of key k rows
  row_of-remove k [] i d h ne = absurd (omega arith)
  row_of-remove k (x ∷ xs) zero d h ne = grind (arith, nat_tests)
  row_of-remove k (x ∷ xs) (suc i) d h ne = grind (arith, nat_tests, row_of-remove k xs i d (omega arith) ne)

  -- and one in the place of another with its key
  pub row_of-set : (k : ℕ) (rows : List R) (i : ℕ) (y d : R) → i < length rows → key (get_or rows i d) ≡ key y → k ≢ key y → row_of key k (set rows i y) ≡ row_of key k rows
  row_of-set k [] i y d h e ne = refl
  row_of-set k (x ∷ xs) zero y d h e ne = grind (arith, nat_tests)
  row_of-set k (x ∷ xs) (suc i) y d h e ne = grind (arith, nat_tests, row_of-set k xs i y d (omega arith) e ne)

  -- a row goes behind the lower ones and before the higher
  pub inserted-at : (y : R) (rows : List R) (i : ℕ) → Lower key (key y) (take i rows) → Higher key (key y) (drop i rows) → insert rows i y ≡ inserted key y rows
  inserted-at y [] zero low high = refl
  inserted-at y [] (suc i) low high = refl
  inserted-at y (x ∷ xs) zero low high = grind (arith, nat_tests, high 0 x (omega arith))
  inserted-at y (x ∷ xs) (suc i) low high = grind (arith, nat_tests, low 0 x (omega arith), inserted-at y xs i (λ j d h. low (suc j) d (omega arith)) high)

  -- the row behind the lower ones is left out
  pub without-at : (k : ℕ) (rows : List R) (i : ℕ) (d : R) → i < length rows → key (get_or rows i d) ≡ k → Lower key k (take i rows) → remove rows i ≡ without key k rows
  without-at k [] i d h e low = absurd (omega arith)
  without-at k (x ∷ xs) zero d h e low = grind (arith, nat_tests)
  without-at k (x ∷ xs) (suc i) d h e low = grind (arith, nat_tests, low 0 x (omega arith), without-at k xs i d (omega arith) e (λ j d h. low (suc j) d (omega arith)))

  -- or replaced
  pub changed-at : (y : R) (rows : List R) (i : ℕ) (d : R) → i < length rows → key (get_or rows i d) ≡ key y → Lower key (key y) (take i rows) → set rows i y ≡ changed key y rows
  changed-at y [] i d h e low = absurd (omega arith)
  changed-at y (x ∷ xs) zero d h e low = grind (arith, nat_tests)
  changed-at y (x ∷ xs) (suc i) d h e low = grind (arith, nat_tests, low 0 x (omega arith), changed-at y xs i d (omega arith) e (λ j d h. low (suc j) d (omega arith)))
