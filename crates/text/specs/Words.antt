-- The words of a line. Assumes nothing.
-- Words: is_blank, without_blanks, up_to_blank, from_blank, word_of, after_word, AllBlank, NoBlank, EndsWord, SplitsWord, is_end,
-- word_fault_text, first_in, end_in, last_in, first_shown, shown, and_then, told_as.
use Rattle.std.specs.Prelude.{◌≡◌, ℕ, Bool, true, false, cond, ◌||◌, List, [], ◌∷◌, ◌++◌, ◌==◌, Ok, Err, codes, Result}
use Rattle.std.specs.Borrow.{Bor}
use Rattle.std.specs.Result.{result_map_both}
use Rattle.text.specs.declared.word.Split.{Split}
use Rattle.text.specs.declared.word.WordFault.{WordFault}
use Rattle.text.specs.declared.word.WordFault.TheVariants.{Missing, Extra}

-- a space, 32, or a tab, 9
abbrev pub is_blank : ℕ → Bool
is_blank b = b == 32 || b == 9

-- the text from its first byte that is no blank
abbrev pub without_blanks : List ℕ → List ℕ
without_blanks [] = []
without_blanks (b ∷ bs) = cond (is_blank b) (without_blanks bs) (b ∷ bs)

-- the text before its first blank
abbrev pub up_to_blank : List ℕ → List ℕ
up_to_blank [] = []
up_to_blank (b ∷ bs) = cond (is_blank b) [] (b ∷ up_to_blank bs)

-- the text from its first blank
abbrev pub from_blank : List ℕ → List ℕ
from_blank [] = []
from_blank (b ∷ bs) = cond (is_blank b) (b ∷ bs) (from_blank bs)

-- the first word of a text
abbrev pub word_of : List ℕ → List ℕ
word_of text = up_to_blank (without_blanks text)

-- what follows the first word
abbrev pub after_word : List ℕ → List ℕ
after_word text = from_blank (without_blanks text)

-- each byte is a blank
abbrev pub AllBlank : List ℕ → Type 0
AllBlank [] = Unit {0}
AllBlank (b ∷ bs) = (is_blank b ≡ true) × AllBlank bs

-- no byte is a blank
abbrev pub NoBlank : List ℕ → Type 0
NoBlank [] = Unit {0}
NoBlank (b ∷ bs) = (is_blank b ≡ false) × NoBlank bs

-- nothing, or a blank and more
abbrev pub EndsWord : List ℕ → Type 0
EndsWord [] = Unit {0}
EndsWord (b ∷ bs) = is_blank b ≡ true

-- the text is blanks, then the word, then the rest; and the word is empty only where the text is all blanks
pub record SplitsWord (text word rest : List ℕ) : Type 0 where
  pub blanks : List ℕ
  pub whole : text ≡ blanks ++ (word ++ rest)
  pub before : AllBlank blanks
  pub inside : NoBlank word
  pub behind : EndsWord rest
  pub none : word ≡ [] → AllBlank text

-- the words of a line end here: no word is left, or a comment begins, by `#`
abbrev pub is_end : List ℕ → Bool
is_end [] = true
is_end (b ∷ bs) = b == 35

-- why the words are not those that belong there, in words
abbrev pub word_fault_text : WordFault → List ℕ
word_fault_text Missing = codes "a word is missing"
word_fault_text Extra = codes "a word too many"

-- the first word, which must be there
abbrev pub first_in : List ℕ → Result (List ℕ) WordFault
first_in text = cond (is_end (word_of text)) (Err Missing) (Ok (word_of text))

-- no word is left
abbrev pub end_in : List ℕ → Result (Unit {0}) WordFault
end_in text = cond (is_end (word_of text)) (Ok tt) (Err Extra)

-- the one word that is left
abbrev pub last_in : List ℕ → Result (List ℕ) WordFault
last_in text = cond (is_end (word_of text)) (Err Missing) (cond (is_end (word_of (after_word text))) (Ok (word_of text)) (Err Extra))

-- the word of a split by its bytes
abbrev pub first_shown : {E : Type 0} → Result Split E → Result (List ℕ) E
first_shown (Ok split) = Ok split.word.now
first_shown (Err e) = Err e

-- a borrowed word by its bytes
abbrev pub shown : {E : Type 0} → Result (Bor (List ℕ)) E → Result (List ℕ) E
shown (Ok word) = Ok word.now
shown (Err e) = Err e

-- what is read next, where a reading gave something
abbrev pub and_then : {A B E : Type 0} → Result A E → (A → Result B E) → Result B E
and_then (Ok x) f = f x
and_then (Err e) f = Err e

-- a reading whose fault has another name where it is told
abbrev pub told_as : {A E F : Type 0} → (E → F) → Result A E → Result A F
told_as name r = result_map_both (λ x. x) name r
