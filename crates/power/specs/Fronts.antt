-- Fronts of lists: what a power failure leaves of bytes or entries that were written one behind the other.
--
--   Front   xs is a front of ys
--
-- Assumes nothing.
use Rattle.std.specs.Prelude.{◌≡◌, ℕ, List, length, take}

-- xs is a front of ys
abbrev pub Front : List ℕ → List ℕ → Type 0
Front xs ys = xs ≡ take (length xs) ys
