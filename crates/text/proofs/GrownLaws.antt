-- One writer after another, for those who call several.
use Rattle.std.proofs.Common.{ℕ, List, [], ◌++◌, sym, ap, ◌∙◌}
use Rattle.std.proofs.lemmas.List.{append_assoc, append-nil}
use Rattle.text.specs.Grown.{Grown}

-- nothing was appended
pub grown_none : (xs : List ℕ) → Grown xs xs
grown_none xs = ([], sym (append-nil xs))

-- what was appended, and what was appended then
pub grown_on : (xs ys zs : List ℕ) → Grown xs ys → Grown ys zs → Grown xs zs
grown_on xs ys zs a b =
    (a.0 ++ b.0, b.1 ∙ ap (λ z. z ++ b.0) a.1 ∙ append_assoc xs a.0 b.0)
