-- A text is blanks, a word and a rest.
use Rattle.std.proofs.Common.{◌≡◌, ℕ, suc, ◌+◌, ◌<◌, ◌≤◌, Bool, true, false, not, cond, nat_lt, List, [], ◌∷◌, ◌++◌, length, get_or, take, drop, Some, None, Option, unwrap_or, sym, refl, ap, ◌∙◌, inl, inr, arith}
use Rattle.std.proofs.lemmas.Bool.Decides.{nat_tests}
use Rattle.std.proofs.lemmas.List.{append_assoc, append-nil, take_more, take_all, drop_all, drop_more, at_drop_more, at_drop_all}
use Rattle.std.proofs.lemmas.List.Sums.{prefix_len-le-length}
use Rattle.std.specs.List.{position, position_or_len}
use Rattle.std.proofs.lemmas.Bool.{cond-true, cond-false, cond_both, cases_Bool}
use Rattle.text.specs.Words.{is_blank, without_blanks, up_to_blank, from_blank, word_of, after_word, AllBlank, NoBlank, EndsWord, SplitsWord}

-- the blanks in front of a text
abbrev blanks_of : List ℕ → List ℕ
blanks_of [] = []
blanks_of (b ∷ bs) = cond (is_blank b) (b ∷ blanks_of bs) []

-- the blanks, and what follows them
blanks_whole : (text : List ℕ) → text ≡ blanks_of text ++ without_blanks text
blanks_whole [] = refl
blanks_whole (b ∷ bs) =
    elim (is_blank b) as (λ v. b ∷ bs ≡ cond v (b ∷ blanks_of bs) [] ++ cond v (without_blanks bs) (b ∷ bs)) [ true ↦ ap (λ z. b ∷ z) (blanks_whole bs) | false ↦ refl ]

-- what stands before the first blank, and what follows
word_whole : (text : List ℕ) → text ≡ up_to_blank text ++ from_blank text
word_whole [] = refl
word_whole (b ∷ bs) =
    elim (is_blank b) as (λ v. b ∷ bs ≡ cond v [] (b ∷ up_to_blank bs) ++ cond v (b ∷ bs) (from_blank bs)) [ true ↦ refl | false ↦ ap (λ z. b ∷ z) (word_whole bs) ]

blanks_blank : (text : List ℕ) → AllBlank (blanks_of text)
blanks_blank [] = tt
blanks_blank (b ∷ bs) = cond_both (is_blank b) (b ∷ blanks_of bs) [] AllBlank (λ e. (e, blanks_blank bs)) (λ e. tt)

word_unblank : (text : List ℕ) → NoBlank (up_to_blank text)
word_unblank [] = tt
word_unblank (b ∷ bs) = cond_both (is_blank b) [] (b ∷ up_to_blank bs) NoBlank (λ e. tt) (λ e. (e, word_unblank bs))

rest_begins : (text : List ℕ) → EndsWord (from_blank text)
rest_begins [] = tt
rest_begins (b ∷ bs) = cond_both (is_blank b) (b ∷ bs) (from_blank bs) EndsWord (λ e. e) (λ e. rest_begins bs)

first_kept_lem : (b : ℕ) (bs : List ℕ) → is_blank b ≡ false → word_of (b ∷ bs) ≡ b ∷ up_to_blank bs
first_kept_lem b bs e = ap up_to_blank (cond-false _ (without_blanks bs) (b ∷ bs) e) ∙ cond-false _ [] (b ∷ up_to_blank bs) e

no_word : (text : List ℕ) → word_of text ≡ [] → AllBlank text
no_word [] h = tt
no_word (b ∷ bs) h =
    elim (cases_Bool (is_blank b)) [
      | inl e ↦ (e, no_word bs (sym (ap up_to_blank (cond-true _ (without_blanks bs) (b ∷ bs) e)) ∙ h))
      | inr e ↦ let first = first_kept_lem b bs e in cc
    ]

splits : (text : List ℕ) → SplitsWord text (word_of text) (after_word text)
splits text = record {
  blanks = blanks_of text;
  whole = blanks_whole text ∙ ap (λ z. blanks_of text ++ z) (word_whole (without_blanks text));
  before = blanks_blank text;
  inside = word_unblank (without_blanks text);
  behind = rest_begins (without_blanks text);
  none = no_word text;
}

pub splits_as : (text word rest : List ℕ) → word ≡ word_of text → rest ≡ after_word text → SplitsWord text word rest
splits_as text word rest e f = rw (e, f) (splits text)

place_at : (k n : ℕ) → k ≤ n → unwrap_or (cond (nat_lt k n) (Some k) None) n ≡ k
place_at k n h = grind (arith, nat_tests)

-- the first place at which p passes, or the end, as the code asks for it
pub place : (p : ℕ → Bool) (xs : List ℕ) (o : Option ℕ) (n : ℕ) → o ≡ position p xs → n ≡ unwrap_or o (length xs) → n ≡ position_or_len p xs
place p xs o n found e =
    e ∙ ap (λ z. unwrap_or z (length xs)) found ∙ place_at (position_or_len p xs) (length xs) (prefix_len-le-length (λ x. not (p x)) xs)

one_more : (n : ℕ) → 1 + n ≡ suc n
one_more n = omega arith

-- the text from its first byte that is no blank
pub blanks_passed : (text : List ℕ) → drop (position_or_len (λ b. not (is_blank b)) text) text ≡ without_blanks text
blanks_passed [] = refl
blanks_passed (b ∷ bs) =
    elim (is_blank b) as (λ v. drop (cond (not (not v)) (1 + position_or_len (λ b. not (is_blank b)) bs) 0) (b ∷ bs) ≡ cond v (without_blanks bs) (b ∷ bs)) [ true ↦ rw (one_more (position_or_len (λ b. not (is_blank b)) bs)) (blanks_passed bs) | false ↦ refl ]

-- the text before its first blank
pub word_taken : (text : List ℕ) → take (position_or_len is_blank text) text ≡ up_to_blank text
word_taken [] = refl
word_taken (b ∷ bs) =
    elim (is_blank b) as (λ v. take (cond (not v) (1 + position_or_len is_blank bs) 0) (b ∷ bs) ≡ cond v [] (b ∷ up_to_blank bs)) [ true ↦ refl | false ↦ rw (one_more (position_or_len is_blank bs)) (ap (λ z. b ∷ z) (word_taken bs)) ]

-- the text from its first blank
pub word_passed : (text : List ℕ) → drop (position_or_len is_blank text) text ≡ from_blank text
word_passed [] = refl
word_passed (b ∷ bs) =
    elim (is_blank b) as (λ v. drop (cond (not v) (1 + position_or_len is_blank bs) 0) (b ∷ bs) ≡ cond v (b ∷ bs) (from_blank bs)) [ true ↦ refl | false ↦ rw (one_more (position_or_len is_blank bs)) (word_passed bs) ]

-- a loop that has passed i bytes of the text meets one more
module _ (text : List ℕ) (i : ℕ) (h : i < length text) where
  -- a blank is passed over
  pub skips : is_blank (get_or text i 0) ≡ true → without_blanks (drop (i + 1) text) ≡ without_blanks (drop i text)
  skips e = sym (at_drop_more without_blanks text i 0 h ∙ cond-true _ _ _ e)

  -- any other byte is the first that is kept
  pub skips_no_more : is_blank (get_or text i 0) ≡ false → drop i text ≡ without_blanks (drop i text)
  skips_no_more e = drop_more text i 0 h ∙ sym (at_drop_more without_blanks text i 0 h ∙ cond-false _ _ _ e)

  -- a byte that is no blank is the word's
  pub word_on : is_blank (get_or text i 0) ≡ false → take (i + 1) text ++ up_to_blank (drop (i + 1) text) ≡ take i text ++ up_to_blank (drop i text)
  word_on e =
      ap (λ z. z ++ up_to_blank (drop (i + 1) text)) (take_more text i 0 h) ∙ append_assoc (take i text) (get_or text i 0 ∷ []) (up_to_blank (drop (i + 1) text)) ∙ ap (λ z. take i text ++ z) (sym (at_drop_more up_to_blank text i 0 h ∙ cond-false _ _ _ e))

  pub rest_on : is_blank (get_or text i 0) ≡ false → from_blank (drop (i + 1) text) ≡ from_blank (drop i text)
  rest_on e = sym (at_drop_more from_blank text i 0 h ∙ cond-false _ _ _ e)

  -- a blank ends the word, and begins the rest
  pub word_stops : is_blank (get_or text i 0) ≡ true → take i text ≡ take i text ++ up_to_blank (drop i text)
  word_stops e = sym (append-nil (take i text)) ∙ ap (λ z. take i text ++ z) (sym (at_drop_more up_to_blank text i 0 h ∙ cond-true _ _ _ e))

  pub rest_starts : is_blank (get_or text i 0) ≡ true → drop i text ≡ from_blank (drop i text)
  rest_starts e = drop_more text i 0 h ∙ sym (at_drop_more from_blank text i 0 h ∙ cond-true _ _ _ e)

-- at the text's end
pub word_ends : (text : List ℕ) (i : ℕ) → length text ≤ i → take (length text) text ≡ take i text ++ up_to_blank (drop i text)
word_ends text i h =
    take_all (length text) text (omega arith) ∙ sym (take_all i text h) ∙ sym (append-nil (take i text)) ∙ ap (λ z. take i text ++ z) (sym (at_drop_all up_to_blank text i h))

pub rest_ends : (text : List ℕ) (i : ℕ) → length text ≤ i → drop (length text) text ≡ from_blank (drop i text)
rest_ends text i h = drop_all (length text) text (omega arith) ∙ sym (at_drop_all from_blank text i h)
