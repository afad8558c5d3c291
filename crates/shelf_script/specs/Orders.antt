-- What a line of a script asks of a shelf.
--
--   Asked        an order by what it says
--   order_of     the order that a line is, or why it is none
--   number_in    the number that the first word of a text writes
--   end_in       no word follows
--
-- Assumes nothing.
use Rattle.std.specs.Prelude.{ℕ, cond, List, Some, None, Ok, Err, codes, Option, Result}
use Rattle.std.specs.Borrow.{Bor}
use Rattle.std.specs.Option.{ok_or}
use Rattle.std.specs.Str.{bytes_eq}
use Rattle.text.specs.Decimal.{number_of}
use Rattle.text.specs.Words.{word_of, after_word, is_end, word_fault_text, first_in, and_then, told_as}
use Rattle.text.specs.Words as words
use Rattle.shelf_script.specs.declared.order.Verb.{Verb}
use Rattle.shelf_script.specs.declared.order.Verb.TheVariants as verb
use Rattle.shelf_script.specs.declared.order.Order.{Order}
use Rattle.shelf_script.specs.declared.order.Order.TheVariants as order
use Rattle.shelf_script.specs.declared.order.LineFault.{LineFault}
use Rattle.shelf_script.specs.declared.order.LineFault.TheVariants.{UnknownCommand, NoShelf, UnknownStack, Word, BadNumber, BadSetting, BadHex}

-- an order by what it says
pub data Asked : Type 0 where
  make : ℕ → Asked
  add : ℕ → List ℕ → Asked
  cut : ℕ → ℕ → Asked
  remove : ℕ → Asked
  sync : ℕ → Asked
  fail : ℕ → ℕ → Asked
  restart : Asked
  print : Asked

-- why a line is no order, in words
abbrev pub fault_text : LineFault → List ℕ
fault_text UnknownCommand = codes "unknown command"
fault_text NoShelf = codes "no shelf is open"
fault_text UnknownStack = codes "unknown stack of shelves"
fault_text (Word e) = word_fault_text e
fault_text BadNumber = codes "not a decimal number below 2^64"
fault_text BadSetting = codes "not max=NUMBER size=NUMBER"
fault_text BadHex = codes "not pairs of hexadecimal digits"

-- the same of a borrowed order
abbrev pub asked : Order → Asked
asked (order.Make n) = make n
asked (order.Add n hex) = add n hex.now
asked (order.Cut n k) = cut n k
asked (order.Remove n) = remove n
asked (order.Sync n) = sync n
asked (order.Fail w k) = fail w k
asked order.Restart = restart
asked order.Print = print

abbrev pub spelled : Result Order LineFault → Result Asked LineFault
spelled (Ok o) = Ok (asked o)
spelled (Err e) = Err e

-- the number that the first word of a text writes
abbrev pub number_in : List ℕ → Result ℕ LineFault
number_in text = and_then (told_as Word (first_in text)) (λ w. ok_or (number_of w) BadNumber)

-- what was read of the first word, and what follows that word
abbrev pub with_rest : {A : Type 0} → List ℕ → Result A LineFault → Result (A × List ℕ) LineFault
with_rest text r = and_then r (λ x. Ok (x, after_word text))

-- the same with what follows borrowed
abbrev pub behind : {A : Type 0} → Result (A × Bor (List ℕ)) LineFault → Result (A × List ℕ) LineFault
behind (Ok x) = Ok (x.0, x.1.now)
behind (Err e) = Err e

-- no word follows
abbrev pub end_in : List ℕ → Result (Unit {0}) LineFault
end_in text = told_as Word (words.end_in text)

-- the last word of a line
abbrev pub last_in : List ℕ → Result (List ℕ) LineFault
last_in text = told_as Word (words.last_in text)

-- one number, and no more
abbrev pub one_in : List ℕ → Result ℕ LineFault
one_in text = and_then (number_in text) (λ n. and_then (end_in (after_word text)) (λ _. Ok n))

-- one number, or 0 where no word follows
abbrev pub one_or_none : List ℕ → Result ℕ LineFault
one_or_none text = cond (is_end (word_of text)) (Ok 0) (one_in text)

-- what a word asks for
abbrev pub verb_of : List ℕ → Option Verb
verb_of w =
    cond (bytes_eq w (codes "make")) (Some verb.Make)
    (cond (bytes_eq w (codes "add")) (Some verb.Add)
    (cond (bytes_eq w (codes "cut")) (Some verb.Cut)
    (cond (bytes_eq w (codes "remove")) (Some verb.Remove)
    (cond (bytes_eq w (codes "sync")) (Some verb.Sync)
    (cond (bytes_eq w (codes "fail")) (Some verb.Fail)
    (cond (bytes_eq w (codes "restart")) (Some verb.Restart)
    (cond (bytes_eq w (codes "print")) (Some verb.Print)
    None)))))))

-- an order, from the second word of its line on
abbrev pub order_by : Verb → List ℕ → Result Asked LineFault
order_by verb.Make text = and_then (one_in text) (λ n. Ok (make n))
order_by verb.Add text = and_then (number_in text) (λ n. and_then (last_in (after_word text)) (λ hex. Ok (add n hex)))
order_by verb.Cut text = and_then (number_in text) (λ n. and_then (one_in (after_word text)) (λ k. Ok (cut n k)))
order_by verb.Remove text = and_then (one_in text) (λ n. Ok (remove n))
order_by verb.Sync text = and_then (one_in text) (λ n. Ok (sync n))
order_by verb.Fail text = and_then (number_in text) (λ w. and_then (one_or_none (after_word text)) (λ k. Ok (fail w k)))
order_by verb.Restart text = and_then (end_in text) (λ _. Ok restart)
order_by verb.Print text = and_then (end_in text) (λ _. Ok print)

abbrev pub order_in : Option Verb → List ℕ → Result Asked LineFault
order_in None text = Err UnknownCommand
order_in (Some v) text = order_by v text

-- the order that a line is
unfoldable pub order_of : List ℕ → Result Asked LineFault
order_of line = order_in (verb_of (word_of line)) (after_word line)
