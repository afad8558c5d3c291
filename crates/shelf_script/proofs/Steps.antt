-- What was read of the first word, taken apart from what follows it.
use Rattle.std.proofs.Common.{◌≡◌, ℕ, List, Ok, Err, Result, sym, ap, arith}
use Rattle.text.specs.Words.{after_word}
use Rattle.shelf_script.specs.declared.order.LineFault.{LineFault}
use Rattle.shelf_script.specs.Orders.{with_rest}

pub read_on : {A : Type 0} (x : A) (text rest : List ℕ) (q : Result A LineFault) → Ok (x, rest) ≡ with_rest text q → (q ≡ Ok x) × (rest ≡ after_word text)
read_on {A} x text rest (Ok y) p =
    let both : ◌≡◌ {A = A × List ℕ} (x, rest) (y, after_word text) = cc in
    (ap Ok (sym (ap (λ z. z.0) both)), ap (λ z. z.1) both)
read_on {A} x text rest (Err e) p = let z : ◌≡◌ {A = ℕ} 0 1 = cc in absurd (omega arith)

pub read_failed : {A : Type 0} (text : List ℕ) (e : LineFault) (q : Result A LineFault) → Err e ≡ with_rest text q → q ≡ Err e
read_failed text e (Ok y) p = let z : ◌≡◌ {A = ℕ} 0 1 = cc in absurd (omega arith)
read_failed text e (Err f) p = cc
