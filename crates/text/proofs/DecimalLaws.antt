-- Decimal text, one digit after another, and what `parse` makes of it, and of any other.
use Rattle.std.proofs.Common.{◌≡◌, ℕ, ◌+◌, ◌/◌, ◌%◌, ◌^◌, ◌<◌, ◌≤◌, true, false, ◌&&◌, ◌||◌, eqb, ltb, List, [], ◌∷◌, ◌++◌, length, get_or, Some, None, Ok, Err, IsUtf8, decimal, Option, Result, sym, refl, ap, ◌∙◌, subst, inl, inr, arith}
use Rattle.std.proofs.lemmas.Fmt.{digits_value-decimal, decimal_digit, decimal_step, decimal_nonempty, decimal-digits_value, digits_decimal, first_decimal, IsAscii-decimal, parse-decimal}
use Rattle.std.proofs.lemmas.List.{append_assoc}
use Rattle.std.proofs.lemmas.Str.Parse.{IsNumeralModel, numerals_by_value, tells_digits, digit_at, parse_plain}
use Rattle.std.proofs.lemmas.Bool.{eqb-false, or_parts, and_parts, cases_lt, cases_Bool, cond-true, cond-false, lt-ltb, ltb-true}
use Rattle.std.proofs.lemmas.Slice.Eq.{bytes_eq-Decides}
use Rattle.std.specs.Str.{bytes_eq}
use Rattle.std.proofs.lemmas.Str.{IsUtf8-from_ascii}
use Rattle.std.proofs.lemmas.Bool.Decides.{nat_tests}
use Rattle.std.specs.Str.Parse.{AllDigits, digits_value, ParsesUnsigned}
use Rattle.std.specs.Borrow.{Bor}
use Rattle.std.specs.Result.{MatchResult, result_ok}
use Rattle.text.specs.Decimal.{is_padded, ReadsDecimal, number_of}

-- a writer of one digit after another: zs is ys and the last digit, and ys is xs and the digits before it, if there are any
pub last_digit : (xs ys zs : List ℕ) (n : ℕ) → 10 ≤ n → n < 2 ^ 64 → ys ≡ xs ++ decimal (n / 10) → zs ≡ ys ++ ((48 + n % 10) ∷ []) → zs ≡ xs ++ decimal n
last_digit xs ys zs n h small e f =
    f ∙ ap (λ z. z ++ ((48 + n % 10) ∷ [])) e ∙ append_assoc xs (decimal (n / 10)) ((48 + n % 10) ∷ []) ∙ ap (λ z. xs ++ z) (sym (decimal_step n h small))

pub only_digit : (xs zs : List ℕ) (n : ℕ) → n < 10 → zs ≡ xs ++ ((48 + n % 10) ∷ []) → zs ≡ xs ++ decimal n
only_digit xs zs n h f =
    let same : n % 10 ≡ n = omega arith in
    f ∙ ap (λ (z : ℕ). xs ++ ((48 + z) ∷ [])) same ∙ ap (λ z. xs ++ z) (sym (decimal_digit n h))

own : IsNumeralModel (AllDigits 10) (digits_value 10)
own = numerals_by_value (AllDigits 10) tells_digits

first_is_digit : (n : ℕ) → n < 2 ^ 64 → 48 ≤ get_or (decimal n) 0 0
first_is_digit n h = (digit_at (decimal n) 0 (digits_decimal own n h) (decimal_nonempty n h)).0

zero_is_alone : (n : ℕ) → n < 2 ^ 64 → get_or (decimal n) 0 0 ≡ 48 → length (decimal n) ≡ 1
zero_is_alone n h e =
    elim (cases_lt 0 n) [
      | inl more ↦ let first = first_decimal n more h in absurd (omega arith)
      | inr none ↦ ap length (decimal_digit n (omega arith))
    ]

-- what a front that is passed over is, in numbers: the first byte, and how many there are
front_padded : (first len : ℕ) → (eqb first 43 || (eqb first 48 && ltb 1 len)) ≡ true → 48 ≤ first → (first ≡ 48 → len ≡ 1) → ⊥
front_padded first len p h alone = grind (arith, nat_tests)

front_plain : (first len : ℕ) → (eqb first 43 || (eqb first 48 && ltb 1 len)) ≡ false → 0 < len → first ≡ 48 → len ≡ 1
front_plain first len p some zero = grind (arith, nat_tests)

-- an empty text has none of that in front
pub empty_plain : (text : List ℕ) → length text ≡ 0 → is_padded text ≡ false
empty_plain [] h = refl
empty_plain (b ∷ bs) h = absurd (omega arith)

-- no number is written with what `parse` passes over in front
pub padded_reads_none : (text : List ℕ) → is_padded text ≡ true → ReadsDecimal text None
padded_reads_none text p = λ n h e.
    front_padded (get_or (decimal n) 0 0) (length (decimal n)) (ap is_padded e ∙ p) (first_is_digit n h) (zero_is_alone n h)

-- nor in bytes that are no text
pub no_text_reads_none : (text : List ℕ) → (IsUtf8 text → ⊥) → ReadsDecimal text None
no_text_reads_none text no_text = λ n h e. no_text (subst IsUtf8 e (IsUtf8-from_ascii (decimal n) (IsAscii-decimal n h)))

-- what the code sees of the bytes as a text: none, or the same bytes
pub no_text : {E : Type 0} (text : List ℕ) (r : Result (Bor (List ℕ)) E) (X : E → Type 0) → MatchResult r (λ s. (s.now ≡ text) × IsUtf8 text) (λ e. (IsUtf8 text → ⊥) × X e) → result_ok r ≡ None → IsUtf8 text → ⊥
no_text text (Ok s) X h e = cc
no_text text (Err d) X h e = h.0

pub same_text : {E : Type 0} (text : List ℕ) (r : Result (Bor (List ℕ)) E) (X : E → Type 0) (s : Bor (List ℕ)) → MatchResult r (λ s. (s.now ≡ text) × IsUtf8 text) (λ e. (IsUtf8 text → ⊥) × X e) → result_ok r ≡ Some s → s.now ≡ text
same_text text (Ok t) X s h e = let same : t ≡ s = cc in rw (← same) h.0
same_text text (Err d) X s h e = cc

-- what `parse` answers on any other text
parsed : {E : Type 0} (text : List ℕ) (r : Result ℕ E) → is_padded text ≡ false → ParsesUnsigned 64 10 text r → ReadsDecimal text (result_ok r)
parsed {E} text (Ok x) p h =
    let parts = or_parts _ _ p in
    let plain = parse_plain own {E = E} 64 text (Ok x) h (eqb-false (get_or text 0 0) 43 parts.0) in
    let alone = front_plain (get_or text 0 0) (length text) p plain.0.1 in
    sym (ap decimal plain.1 ∙ decimal-digits_value own text plain.0.0 plain.0.1 alone plain.0.2)
parsed text (Err d) p h = λ n small e.
    let same = parse-decimal 64 n text (Err d) small small (sym e) h in
    cc

-- a number that `parse` answers is below 2^64
parsed_small : {E : Type 0} (text : List ℕ) (r : Result ℕ E) → is_padded text ≡ false → ParsesUnsigned 64 10 text r → (n : ℕ) → result_ok r ≡ Some n → n < 2 ^ 64
parsed_small {E} text (Ok x) p h n e =
    let parts = or_parts _ _ p in
    let plain = parse_plain own {E = E} 64 text (Ok x) h (eqb-false (get_or text 0 0) 43 parts.0) in
    let is : x ≡ n = cc in
    let small = plain.0.2 in
    let v = plain.1 in
    omega arith
parsed_small text (Err d) p h n e = cc

-- a text that is read as a number is what is written of the value of its digits, and any other text is not
pub number_is : (text : List ℕ) (o : Option ℕ) → ((n : ℕ) → o ≡ Some n → n < 2 ^ 64) → ReadsDecimal text o → o ≡ number_of text
unfolding number_of
number_is text (Some n) small e =
    let lt = small n refl in
    let v : digits_value 10 text ≡ n = ap (digits_value 10) e ∙ digits_value-decimal own n lt in
    let same : bytes_eq text (decimal (digits_value 10 text)) ≡ true = (bytes_eq-Decides text (decimal (digits_value 10 text))).1 (e ∙ ap decimal (sym v)) in
    let below : ltb (digits_value 10 text) (2 ^ 64) ≡ true = lt-ltb (digits_value 10 text) (2 ^ 64) (omega arith) in
    let test : (bytes_eq text (decimal (digits_value 10 text)) && ltb (digits_value 10 text) (2 ^ 64)) ≡ true = ap (λ z. z && ltb (digits_value 10 text) (2 ^ 64)) same ∙ below in
    ap Some (sym v) ∙ sym (cond-true _ _ _ test)
number_is text None small none =
    elim (cases_Bool (bytes_eq text (decimal (digits_value 10 text)) && ltb (digits_value 10 text) (2 ^ 64))) [
      | inl same ↦
          let both = and_parts _ _ same in
          absurd (none (digits_value 10 text) (ltb-true (digits_value 10 text) (2 ^ 64) both.1) (sym ((bytes_eq-Decides text (decimal (digits_value 10 text))).0 both.0)))
      | inr other ↦ sym (cond-false _ _ _ other)
    ]

pub parsed_as : {E : Type 0} (text digits : List ℕ) (r : Result ℕ E) (o : Option ℕ) → is_padded text ≡ false → digits ≡ text → ParsesUnsigned 64 10 digits r → o ≡ result_ok r → ReadsDecimal text o × (o ≡ number_of text)
parsed_as {E} text digits r o p same h e =
    let here = subst (λ z. ParsesUnsigned {E = E} 64 10 z r) same h in
    let reads = subst (ReadsDecimal text) (sym e) (parsed text r p here) in
    (reads, number_is text o (λ n q. parsed_small text r p here n (sym e ∙ q)) reads)

-- no number is read
pub none_as : (text : List ℕ) (o : Option ℕ) → o ≡ None → ReadsDecimal text None → ReadsDecimal text o × (o ≡ number_of text)
none_as text o e none =
    let reads = subst (ReadsDecimal text) (sym e) none in
    (reads, number_is text o (λ n q. cc) reads)
