-- A table over a lent slice: its rows in use, whose keys rise, and those of the slice behind them.
--
--   Rows       what a table holds
--   Opened, Unopened   a table was made of the first rows of a slice, or could not be
--   TableInserts, TableRemoves, TableChanges   what an edit answers, and what it leaves
--   TableInserted, TablePresent, TableFull, TableRemoved, TableChanged, TableMissing   each answer by itself
--
-- Assumes nothing.
use Rattle.std.specs.Prelude.{◌≡◌, ℕ, ◌<◌, ◌≤◌, Bool, true, false, List, [], ◌∷◌, length, take, drop, is_some, Some, None, Ok, Err, Option, Result}
use Rattle.table.specs.declared.rows.TableFault.{TableFault}
use Rattle.table.specs.declared.rows.TableFault.TheVariants.{Present, Full}
use Rattle.table.specs.Tables.{Rising, row_of, Inserted, Removed, Changed}

-- the rows in use, and the rest of the slice behind them
pub record Rows (R : Type 0) : Type 0 where
  pub used : List R
  pub rest : List R

-- a slice whose first `len` rows are in use
abbrev pub rows_of : {R : Type 0} → List R → ℕ → Rows R
rows_of slice len = record { used = take len slice; rest = drop len slice }

module _ {R : Type 0} (key : R → ℕ) where
  -- a table was made of the first `len` rows of a slice, which rise
  pub record Opened (len : ℕ) (slice : List R) (table : Rows R) : Type 0 where
    pub fits : len ≤ length slice
    pub same : table ≡ rows_of slice len
    pub order : Rising key table.used

  -- the slice has fewer than `len` rows, or its first ones do not rise
  abbrev pub Unopened : ℕ → List R → Type 0
  Unopened len slice = len ≤ length slice → Rising key (take len slice) → ⊥

  -- the row was inserted, in a slice that had room for it
  pub record TableInserted (row : R) (before after : Rows R) : Type 0 where
    pub room : 0 < length before.rest
    pub used : Inserted key row before.used after.used
    pub rest : after.rest ≡ drop 1 before.rest

  -- refused since a row in use has its key
  pub record TablePresent (row : R) (before after : Rows R) : Type 0 where
    pub present : is_some (row_of key (key row) before.used) ≡ true
    pub same : after ≡ before

  -- refused since all of the slice is in use, and no row has its key
  pub record TableFull (row : R) (before after : Rows R) : Type 0 where
    pub full : before.rest ≡ []
    pub missed : row_of key (key row) before.used ≡ None
    pub same : after ≡ before

  -- what an insertion answers, and what it leaves
  abbrev pub TableInserts : R → Rows R → Result (Unit {0}) TableFault → Rows R → Type 0
  TableInserts row before (Ok _) after = TableInserted row before after
  TableInserts row before (Err Present) after = TablePresent row before after
  TableInserts row before (Err Full) after = TableFull row before after

  -- the row with the key k was removed; it stands right behind the rows in use
  pub record TableRemoved (k : ℕ) (row : R) (before after : Rows R) : Type 0 where
    pub own : key row ≡ k
    pub used : Removed key k row before.used after.used
    pub rest : after.rest ≡ row ∷ before.rest

  -- refused since no row in use has the key k
  pub record TableMissing (k : ℕ) (before after : Rows R) : Type 0 where
    pub missed : row_of key k before.used ≡ None
    pub same : after ≡ before

  -- what a removal answers, and what it leaves
  abbrev pub TableRemoves : ℕ → Rows R → Option R → Rows R → Type 0
  TableRemoves k before (Some row) after = TableRemoved k row before after
  TableRemoves k before None after = TableMissing k before after

  -- the row took the place of that with its key
  pub record TableChanged (row : R) (before after : Rows R) : Type 0 where
    pub used : Changed key row before.used after.used
    pub rest : after.rest ≡ before.rest

  -- what a change answers, and what it leaves
  abbrev pub TableChanges : R → Rows R → Bool → Rows R → Type 0
  TableChanges row before true after = TableChanged row before after
  TableChanges row before false after = TableMissing (key row) before after
