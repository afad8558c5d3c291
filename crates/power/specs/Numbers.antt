-- The numbers that stores take.
--
--   max_number   the largest
--
-- Assumes nothing.
use Rattle.std.specs.Prelude.{ℕ, ◌^◌}

-- the largest number of a blob, the largest position, and the largest offset
abbrev pub max_number : ℕ
max_number = 2 ^ 56
