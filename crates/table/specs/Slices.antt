-- Edits of rows in a slice, whose first `len` are in use: all of it where `len` is larger.
--
--   Inserts   what an insertion answers, and what it leaves
--   Removes   what a removal answers, and what it leaves
--   Changes   what a change answers, and what it leaves
--   InsertDone, InsertPresent, InsertFull, RemoveDone, ChangeDone, Missing   each answer by itself
--
-- Assumes nothing.
use Rattle.std.specs.Prelude.{◌≡◌, ℕ, ◌+◌, ◌-◌, ◌<◌, ◌≤◌, min, Bool, true, false, List, ◌∷◌, length, take, drop, is_some, Some, None, Ok, Err, Option, Result}
use Rattle.table.specs.declared.rows.TableFault.{TableFault}
use Rattle.table.specs.declared.rows.TableFault.TheVariants.{Present, Full}
use Rattle.table.specs.Tables.{Rising, row_of, Inserted, Removed, Changed}

module _ {R : Type 0} (key : R → ℕ) where
  -- the row was inserted, and one more is in use
  pub record InsertDone (len : ℕ) (row : R) (before after : List R) : Type 0 where
    pub room : len < length before
    pub used : Rising key (take len before) → Inserted key row (take len before) (take (len + 1) after)
    pub rest : drop (len + 1) after ≡ drop (len + 1) before

  -- refused since a row in use has its key
  pub record InsertPresent (len : ℕ) (row : R) (before after : List R) : Type 0 where
    pub present : is_some (row_of key (key row) (take len before)) ≡ true
    pub same : after ≡ before

  -- refused since all of the slice is in use, and no row has its key
  pub record InsertFull (len : ℕ) (row : R) (before after : List R) : Type 0 where
    pub full : length before ≤ len
    pub missed : Rising key (take len before) → row_of key (key row) (take len before) ≡ None
    pub same : after ≡ before

  -- what an insertion answers, and what it leaves
  abbrev pub Inserts : ℕ → R → List R → Result (Unit {0}) TableFault → List R → Type 0
  Inserts len row before (Ok _) after = InsertDone len row before after
  Inserts len row before (Err Present) after = InsertPresent len row before after
  Inserts len row before (Err Full) after = InsertFull len row before after

  -- the row with the key k was removed, and one less is in use; it stands right behind those
  pub record RemoveDone (len k : ℕ) (row : R) (before after : List R) : Type 0 where
    pub held : 0 < min len (length before)
    pub own : key row ≡ k
    pub used : Rising key (take len before) → Removed key k row (take len before) (take (min len (length before) - 1) after)
    pub rest : drop len after ≡ drop len before
    pub gone : drop (min len (length before) - 1) after ≡ row ∷ drop len before

  -- refused since no row in use has the key k
  pub record Missing (len k : ℕ) (before after : List R) : Type 0 where
    pub missed : Rising key (take len before) → row_of key k (take len before) ≡ None
    pub same : after ≡ before

  -- what a removal answers, and what it leaves
  abbrev pub Removes : ℕ → ℕ → List R → Option R → List R → Type 0
  Removes len k before (Some row) after = RemoveDone len k row before after
  Removes len k before None after = Missing len k before after

  -- the row took the place of that with its key
  pub record ChangeDone (len : ℕ) (row : R) (before after : List R) : Type 0 where
    pub used : Rising key (take len before) → Changed key row (take len before) (take len after)
    pub rest : drop len after ≡ drop len before

  -- what a change answers, and what it leaves
  abbrev pub Changes : ℕ → R → List R → Bool → List R → Type 0
  Changes len row before true after = ChangeDone len row before after
  Changes len row before false after = Missing len (key row) before after
