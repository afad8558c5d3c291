-- Which texts are read as numbers. Assumes nothing.
-- Words: is_padded, ReadsDecimal, number_of, labelled.
use Rattle.std.specs.Prelude.{◌≡◌, ℕ, ◌^◌, ◌<◌, Bool, cond, ◌&&◌, ◌||◌, List, ◌++◌, length, Some, None, decimal, Option, ◌==◌, ◌≢◌, nat_lt, slice_index}
use Rattle.std.specs.Str.Parse.{digits_value}
use Rattle.std.specs.Str.{bytes_eq}

-- the text begins with '+', or with '0' and more
abbrev pub is_padded : List ℕ → Bool
is_padded text = slice_index text 0 == 43 || (slice_index text 0 == 48 && nat_lt 1 (length text))

-- a number is read from just its own decimal text, and none from a text that no number below 2^64 has
abbrev pub ReadsDecimal : List ℕ → Option ℕ → Type 0
ReadsDecimal text (Some n) = text ≡ decimal n
ReadsDecimal text None = (n : ℕ) → n < 2 ^ 64 → decimal n ≢ text

-- the number that a text writes: the value of its digits, where it is below 2^64 and the text is just what is written of it
unfoldable pub number_of : List ℕ → Option ℕ
number_of text = cond (bytes_eq text (decimal (digits_value 10 text)) && nat_lt (digits_value 10 text) (2 ^ 64)) (Some (digits_value 10 text)) None

-- a text, and a number behind it in decimal
abbrev pub labelled : List ℕ → ℕ → List ℕ
labelled label n = label ++ decimal n
