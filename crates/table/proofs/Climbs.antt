-- Today's `Rising`, over all pairs of rows, is the recursion that stood before it: `Climbs`, said row by row along the rows.
use Rattle.std.proofs.Common.{ℕ, zero, suc, ◌<◌, List, [], ◌∷◌, arith}
use Rattle.table.specs.Tables.{Rising, Higher}

module _ {R : Type 0} (key : R → ℕ) where
  -- each row has a key above n
  abbrev Above : ℕ → List R → Type 0
  Above n [] = Unit {0}
  Above n (r ∷ rs) = (n < key r) × Above n rs

  -- each row has a lower key than those behind it
  abbrev Climbs : List R → Type 0
  Climbs [] = Unit {0}
  Climbs (r ∷ rs) = Above (key r) rs × Climbs rs

  above_higher : (n : ℕ) (rows : List R) → Above n rows → Higher key n rows
  above_higher n [] above k d h = absurd (omega arith)
  above_higher n (r ∷ rs) above zero d h = above.0
  above_higher n (r ∷ rs) above (suc k) d h = above_higher n rs above.1 k d (omega arith)

  higher_above : (n : ℕ) (rows : List R) → Higher key n rows → Above n rows
  higher_above n [] higher = tt
  higher_above n (r ∷ rs) higher = (higher 0 r (omega arith), higher_above n rs (λ k d h. higher (suc k) d (omega arith)))

  pub climbs_rising : (rows : List R) → Climbs rows → Rising key rows
  climbs_rising [] up i j d lt h = absurd (omega arith)
  climbs_rising (r ∷ rs) up i zero d lt h = absurd (omega arith)
  climbs_rising (r ∷ rs) up zero (suc j) d lt h = above_higher (key r) rs up.0 j d (omega arith)
  climbs_rising (r ∷ rs) up (suc i) (suc j) d lt h = climbs_rising rs up.1 i j d (omega arith) (omega arith)

  pub rising_climbs : (rows : List R) → Rising key rows → Climbs rows
  rising_climbs [] up = tt
  rising_climbs (r ∷ rs) up = (higher_above (key r) rs (λ k d h. up 0 (suc k) d (omega arith) (omega arith)), rising_climbs rs (λ i j d lt h. up (suc i) (suc j) d (omega arith) (omega arith)))
