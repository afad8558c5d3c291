-- Bytes as hexadecimal text, and back. Assumes nothing.
-- Words: hex_digit, hex_of, within, hex_value, with_byte, bytes_of, HexReadsBack, HexHasOneForm, bytes_in, bytes_text.
use Rattle.std.specs.Prelude.{◌≡◌, ℕ, ◌+◌, ◌-◌, ◌*◌, ◌/◌, ◌%◌, Bool, cond, ◌&&◌, List, [], ◌∷◌, map, Some, None, codes, Option, nat_le, nat_lt}
use Rattle.std.specs.Char.{to_ascii_uppercase}
use Rattle.std.specs.Str.{bytes_eq}

-- the upper-case digit of a value below 16: '0' to '9', then 'A' to 'F'
abbrev pub hex_digit : ℕ → ℕ
hex_digit d = cond (nat_lt d 10) (48 + d) (65 + (d - 10))

-- two digits for each byte, the high one first
abbrev pub hex_of : List ℕ → List ℕ
hex_of [] = []
hex_of (b ∷ bs) = hex_digit (b / 16) ∷ (hex_digit (b % 16) ∷ hex_of bs)

-- c lies from low to high
abbrev pub within : ℕ → ℕ → ℕ → Bool
within low high c = nat_le low c && nat_le c high

-- the value of a digit: '0' to '9', 'A' to 'F' or 'a' to 'f'
abbrev pub hex_value : ℕ → Option ℕ
hex_value c =
    cond (within 48 57 c) (Some (c - 48))
    (cond (within 65 70 c) (Some (c - 65 + 10))
    (cond (within 97 102 c) (Some (c - 97 + 10))
    None))

-- a byte of two digits in front of the bytes after it, where all of them are there
abbrev pub with_byte : Option ℕ → Option ℕ → Option (List ℕ) → Option (List ℕ)
with_byte None low rest = None
with_byte (Some h) None rest = None
with_byte (Some h) (Some l) None = None
with_byte (Some h) (Some l) (Some bs) = Some ((h * 16 + l) ∷ bs)

-- the bytes that a text writes; an odd digit, or another byte, writes none
abbrev pub bytes_of : List ℕ → Option (List ℕ)
bytes_of [] = Some []
bytes_of (h ∷ []) = None
bytes_of (h ∷ (l ∷ text)) = with_byte (hex_value h) (hex_value l) (bytes_of text)

-- what is written of the bytes is read as them
abbrev pub HexReadsBack : List ℕ → Type 0
HexReadsBack bs = bytes_of (hex_of bs) ≡ Some bs

-- what was read as bytes is what is written of them, up to the case of the letters
abbrev pub HexHasOneForm : List ℕ → Option (List ℕ) → Type 0
HexHasOneForm text None = Unit {0}
HexHasOneForm text (Some bs) = map to_ascii_uppercase text ≡ hex_of bs

-- the bytes that a word spells: `-` for none, else pairs of digits
abbrev pub bytes_in : List ℕ → Option (List ℕ)
bytes_in word = cond (bytes_eq word (codes "-")) (Some []) (bytes_of word)

-- the word that spells bytes
abbrev pub bytes_text : List ℕ → List ℕ
bytes_text [] = codes "-"
bytes_text (b ∷ bs) = hex_of (b ∷ bs)
