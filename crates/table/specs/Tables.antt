-- Rows in rising order of their keys.
--
--   Rising     the keys rise strictly
--   row_of     the row with a key, if there is one
--   inserted   the rows with one more at its place in key order
--   without    the rows but for the one with a key
--   changed    the rows with one put in the place of that with the same key
--   Lower, Higher   each row has a key below, or above, a number
--   Found      what a search for a key answers: FoundAt a place, or MissedAt the place where it would stand
--   Got        what a look for the row of a key answers
--   Inserted, Removed, Changed   what one edit makes of the rows: which they are, in which order, what each key tells
--
-- Assumes nothing.
use Rattle.std.specs.Prelude.{◌≡◌, ℕ, ◌+◌, ◌<◌, ◌≤◌, true, cond, List, [], ◌∷◌, length, take, drop, is_some, Some, None, Ok, Err, Option, Result, ◌==◌, ◌≢◌, nat_lt, slice_index_or}
use Rattle.std.specs.List.{All, AllPairs}

module _ {R : Type 0} (key : R → ℕ) where
  -- each row has a lower key than all behind it
  abbrev pub Rising : List R → Type 0
  Rising rows = AllPairs (λ r s. key r < key s) rows

  -- each of the rows has a key below k
  abbrev pub Lower : ℕ → List R → Type 0
  Lower k rows = All (λ r. key r < k) rows

  -- each of the rows has a key above k
  abbrev pub Higher : ℕ → List R → Type 0
  Higher k rows = All (λ r. k < key r) rows

  -- the first row whose key is k
  abbrev pub row_of : ℕ → List R → Option R
  row_of k [] = None
  row_of k (r ∷ rs) = cond (key r == k) (Some r) (row_of k rs)

  -- the row goes before the first that has a higher key
  abbrev pub inserted : R → List R → List R
  inserted row [] = row ∷ []
  inserted row (r ∷ rs) = cond (nat_lt (key row) (key r)) (row ∷ r ∷ rs) (r ∷ inserted row rs)

  -- the first row whose key is k is left out
  abbrev pub without : ℕ → List R → List R
  without k [] = []
  without k (r ∷ rs) = cond (key r == k) rs (r ∷ without k rs)

  -- the row takes the place of the first that has its key
  abbrev pub changed : R → List R → List R
  changed row [] = []
  changed row (r ∷ rs) = cond (key r == key row) (row ∷ rs) (r ∷ changed row rs)

  -- a row with the key k stands at place i
  pub record FoundAt (k : ℕ) (rows : List R) (i : ℕ) : Type 0 where
    pub within : i < length rows
    pub hit : (d : R) → key (slice_index_or rows i d) ≡ k
    pub row : Rising rows → (d : R) → row_of k rows ≡ Some (slice_index_or rows i d)

  -- no row has the key k, and one that had would stand at place i
  pub record MissedAt (k : ℕ) (rows : List R) (i : ℕ) : Type 0 where
    pub within : i ≤ length rows
    pub lower : Rising rows → Lower k (take i rows)
    pub higher : Rising rows → Higher k (drop i rows)
    pub row : Rising rows → row_of k rows ≡ None

  -- what a search for the key k answers
  abbrev pub Found : ℕ → List R → Result ℕ ℕ → Type 0
  Found k rows (Ok i) = FoundAt k rows i
  Found k rows (Err i) = MissedAt k rows i

  -- what a look for the key k answers: at any rows one with that key or none, and at rows that rise the one that has it
  pub record Got (k : ℕ) (rows : List R) (r : Option R) : Type 0 where
    pub own : (row : R) → r ≡ Some row → key row ≡ k
    pub row : Rising rows → r ≡ row_of k rows

  -- the rows `old` became `new` as the row was inserted
  pub record Inserted (row : R) (old new : List R) : Type 0 where
    pub rows : new ≡ inserted row old
    pub order : Rising new
    pub count : length new ≡ length old + 1
    pub missed : row_of (key row) old ≡ None
    pub own : row_of (key row) new ≡ Some row
    pub others : (k : ℕ) → (k ≢ key row) → row_of k new ≡ row_of k old

  -- the rows `old` became `new` as the row with the key k was removed
  pub record Removed (k : ℕ) (row : R) (old new : List R) : Type 0 where
    pub rows : new ≡ without k old
    pub order : Rising new
    pub count : length new + 1 ≡ length old
    pub was : row_of k old ≡ Some row
    pub own : row_of k new ≡ None
    pub others : (j : ℕ) → (j ≢ k) → row_of j new ≡ row_of j old

  -- the rows `old` became `new` as the row took the place of that with its key
  pub record Changed (row : R) (old new : List R) : Type 0 where
    pub rows : new ≡ changed row old
    pub order : Rising new
    pub count : length new ≡ length old
    pub was : is_some (row_of (key row) old) ≡ true
    pub own : row_of (key row) new ≡ Some row
    pub others : (k : ℕ) → (k ≢ key row) → row_of k new ≡ row_of k old
