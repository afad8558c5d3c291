-- What is written in hexadecimal reads back, and has one form.
use Rattle.std.proofs.Common.{◌≡◌, ℕ, suc, ◌+◌, ◌-◌, ◌*◌, ◌/◌, ◌%◌, ◌<◌, ◌≤◌, List, [], ◌∷◌, ◌++◌, map, length, get_or, take, drop, true, false, ◌^◌, Some, None, Option, sym, refl, ap, ◌∙◌, arith, Fits, w8}
use Rattle.std.proofs.lemmas.List.{append_assoc, append-nil, take_all, take_more, take_rest}
use Rattle.std.proofs.lemmas.Bool.Decides.{nat_tests}
use Rattle.std.proofs.lemmas.Fmt.{hex_byte}
use Rattle.std.specs.Fmt.{digits, digit_glyph, padded_integral, format_spec}
use Rattle.std.specs.Option.{option_map}
use Rattle.std.specs.Char.{to_ascii_uppercase}
use Rattle.text.specs.Hex.{hex_digit, hex_of, hex_value, with_byte, bytes_of, HexReadsBack, HexHasOneForm}

-- one byte more is written behind
hex_of-push : (xs : List ℕ) (b : ℕ) → hex_of (xs ++ (b ∷ [])) ≡ hex_of xs ++ (hex_digit (b / 16) ∷ (hex_digit (b % 16) ∷ []))
hex_of-push [] b = refl
hex_of-push (x ∷ xs) b = ap (λ z. hex_digit (x / 16) ∷ (hex_digit (x % 16) ∷ z)) (hex_of-push xs b)

hex_of-more : (bs : List ℕ) (i : ℕ) → i < length bs → hex_of (take (i + 1) bs) ≡ hex_of (take i bs) ++ (hex_digit (get_or bs i 0 / 16) ∷ (hex_digit (get_or bs i 0 % 16) ∷ []))
hex_of-more bs i h = ap hex_of (take_more bs i 0 h) ∙ hex_of-push (take i bs) (get_or bs i 0)

-- a digit reads as its value
value_digit : (d : ℕ) → d < 16 → hex_value (hex_digit d) ≡ Some d
value_digit d h = grind (arith, nat_tests)

-- what is written is read back
pub reads_back : (bs : List ℕ) → ((i : ℕ) → get_or bs i 0 < 256) → HexReadsBack bs
reads_back [] h = refl
reads_back (b ∷ bs) h =
    let small : b < 256 = h 0 in
    let high = value_digit (b / 16) (omega arith) in
    let low = value_digit (b % 16) (omega arith) in
    let whole : b / 16 * 16 + b % 16 ≡ b = omega arith in
    let rest = reads_back bs (λ i. h (suc i)) in
    rw (high, low, rest, whole) refl

-- the same, by what a slice of bytes says of them
pub bytes_read_back : (bs : List ℕ) → ((i : ℕ) → Fits w8 (get_or bs i 0)) → HexReadsBack bs
bytes_read_back bs h = reads_back bs (λ i. omega (arith, h i))

-- a digit of either case is, in upper case, the digit of its value
upper_value : (c x : ℕ) → hex_value c ≡ Some x → (x < 16) × (to_ascii_uppercase c ≡ hex_digit x)
upper_value c x e = (grind (arith, nat_tests), grind (arith, nat_tests))

-- two digits and the bytes behind them, of which bs was made
record Parts (o p : Option ℕ) (q : Option (List ℕ)) (bs : List ℕ) : Type 0 where
  pub high : ℕ
  pub low : ℕ
  pub tail : List ℕ
  pub high_is : o ≡ Some high
  pub low_is : p ≡ Some low
  pub tail_is : q ≡ Some tail
  pub whole : bs ≡ (high * 16 + low) ∷ tail

parts : (o p : Option ℕ) (q : Option (List ℕ)) (bs : List ℕ) → with_byte o p q ≡ Some bs → Parts o p q bs
parts None p q bs e = cc
parts (Some h) None q bs e = cc
parts (Some h) (Some l) None bs e = cc
parts (Some h) (Some l) (Some zs) bs e =
    record { high = h; low = l; tail = zs; high_is = refl; low_is = refl; tail_is = refl; whole = cc }

-- what is read has one form
pub one_form : (text bs : List ℕ) → bytes_of text ≡ Some bs → map to_ascii_uppercase text ≡ hex_of bs
one_form [] bs e = let z : bs ≡ [] = cc in rw z refl
one_form (h ∷ []) bs e = cc
one_form (h ∷ (l ∷ text)) bs e =
    let p = parts (hex_value h) (hex_value l) (bytes_of text) bs e in
    let high = upper_value h p.high p.high_is in
    let low = upper_value l p.low p.low_is in
    let rest = one_form text p.tail p.tail_is in
    let whole = p.whole in
    let front : (p.high * 16 + p.low) / 16 ≡ p.high = omega arith in
    let back : (p.high * 16 + p.low) % 16 ≡ p.low = omega arith in
    rw (whole, front, back, high.1, low.1, rest) refl

pub has_one_form : (text : List ℕ) (o : Option (List ℕ)) → o ≡ bytes_of text → HexHasOneForm text o
has_one_form text None e = tt
has_one_form text (Some bs) e = one_form text bs (sym e)

-- `{:02X}` writes the digits of the table
same_glyph : (d : ℕ) → digit_glyph true d ≡ hex_digit d
same_glyph d = grind (arith, nat_tests)

-- a turn of a writer by `{:02X}`: xs is the digits of the first i bytes, and those of one byte more come behind
pub formats_on : (xs ys bs : List ℕ) (i : ℕ) → i < length bs → get_or bs i 0 < 256 → xs ≡ hex_of (take i bs) → ys ≡ xs ++ padded_integral (format_spec 32 0 4 2 (2 ^ 64 - 1)) false [] (digits 16 true (get_or bs i 0)) → ys ≡ hex_of (take (i + 1) bs)
formats_on xs ys bs i h small e f =
    let high = same_glyph (get_or bs i 0 / 16) in
    let low = same_glyph (get_or bs i 0 % 16) in
    f ∙ ap (λ z. xs ++ z) (hex_byte true (get_or bs i 0) small) ∙ rw (e, high, low) (sym (hex_of-more bs i h))

-- a turn of the writer: ys was xs and the digits of the first i bytes, and two digits p and q come behind
pub writes_on : (xs ys zs bs : List ℕ) (i p q : ℕ) → i < length bs → ys ≡ xs ++ hex_of (take i bs) → p ≡ hex_digit (get_or bs i 0 / 16) → q ≡ hex_digit (get_or bs i 0 % 16) → zs ≡ ys ++ (p ∷ (q ∷ [])) → zs ≡ xs ++ hex_of (take (i + 1) bs)
writes_on xs ys zs bs i p q h e high low f =
    f ∙ ap (λ z. z ++ (p ∷ (q ∷ []))) e ∙ append_assoc xs (hex_of (take i bs)) (p ∷ (q ∷ [])) ∙ ap (λ z. xs ++ z) (rw (high, low) (sym (hex_of-more bs i h)))

-- the writer's end
pub writes_all : (xs ys bs : List ℕ) (i : ℕ) → length bs ≤ i → ys ≡ xs ++ hex_of (take i bs) → ys ≡ xs ++ hex_of bs
writes_all xs ys bs i h e = e ∙ ap (λ z. xs ++ hex_of z) (take_all i bs h)

-- a byte put behind what was read stands in front of what is to come
behind : (xs : List ℕ) (h l : ℕ) (o : Option (List ℕ)) → option_map (λ ys. (xs ++ ((h * 16 + l) ∷ [])) ++ ys) o ≡ option_map (λ ys. xs ++ ys) (with_byte (Some h) (Some l) o)
behind xs h l None = refl
behind xs h l (Some ys) = ap Some (append_assoc xs ((h * 16 + l) ∷ []) ys)

-- a turn of the reader: xs was read before the rest, and zs with the rest's first two digits
pub reads_on : (xs zs rest : List ℕ) (h l : ℕ) (o : Option (List ℕ)) → hex_value (get_or rest 0 0) ≡ Some h → hex_value (get_or rest 1 0) ≡ Some l → zs ≡ xs ++ ((h * 16 + l) ∷ []) → option_map (λ ys. xs ++ ys) (bytes_of rest) ≡ o → option_map (λ ys. zs ++ ys) (bytes_of (take (length rest - 2) (drop 2 rest))) ≡ o
reads_on xs zs [] h l o high low e inv = cc
reads_on xs zs (a ∷ []) h l o high low e inv = cc
reads_on xs zs (a ∷ (b ∷ t)) h l o high low e inv =
    ap (λ z. option_map (λ ys. zs ++ ys) (bytes_of z)) (take_rest (a ∷ (b ∷ t)) 2) ∙ ap (λ z. option_map (λ ys. z ++ ys) (bytes_of t)) e ∙ behind xs h l (bytes_of t) ∙ ap (λ z. option_map (λ ys. xs ++ ys) (with_byte (Some h) z (bytes_of t))) (sym low) ∙ ap (λ z. option_map (λ ys. xs ++ ys) (with_byte z (hex_value b) (bytes_of t))) (sym high) ∙ inv

-- the reader's end
pub reads_all : (xs rest : List ℕ) (o : Option (List ℕ)) → length rest ≡ 0 → option_map (λ ys. xs ++ ys) (bytes_of rest) ≡ o → Some xs ≡ o
reads_all xs [] o h e = ap Some (sym (append-nil xs)) ∙ e
reads_all xs (a ∷ rest) o h e = absurd (omega arith)
