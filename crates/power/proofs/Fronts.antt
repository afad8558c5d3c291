-- Fronts of lists.
use Rattle.std.proofs.Common.{◌≡◌, ℕ, ◌≤◌, List, [], ◌++◌, length, take, sym, ap, ◌∙◌, arith}
use Rattle.std.proofs.lemmas.List.{length-take, take-append-le, take-take, nil_from_length}
use Rattle.power.specs.Fronts.{Front}

-- a front is no longer than the whole
pub front_short : (xs ys : List ℕ) → Front xs ys → length xs ≤ length ys
front_short xs ys e = let l = ap length e ∙ length-take (length xs) ys in omega arith

pub front_append : (xs ys zs : List ℕ) → Front xs ys → Front xs (ys ++ zs)
front_append xs ys zs e = e ∙ sym (take-append-le (length xs) ys zs (front_short xs ys e))

pub front_take : (xs ys : List ℕ) (k : ℕ) → Front xs (take k ys) → Front xs ys
front_take xs ys k e =
    let s = front_short xs (take k ys) e in
    let l = length-take k ys in
    e ∙ take-take (length xs) k ys (omega arith)

pub front_none : (xs ys : List ℕ) → Front xs [] → Front xs ys
front_none xs ys e =
    let l : length xs ≤ 0 = front_short xs [] e in
    let none : xs ≡ [] = nil_from_length xs (omega arith) in
    none ∙ sym (ap (λ (z : List ℕ). take (length z) ys) none)
