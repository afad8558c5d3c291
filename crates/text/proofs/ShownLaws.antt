-- What a text leaves of the bytes that it is written behind.
use Rattle.std.proofs.Common.{◌≡◌, ℕ, List, ◌++◌, OnOk, IfSome, Some, None, Ok, Err, Option, Result, is_ok, arith}
use Rattle.std.proofs.lemmas.Fmt.{contents_after_writes}
use Rattle.std.specs.Fmt.{WritesText}

-- the contents of a writer each call of which appends, after a text: they end in it where all went well
pub written_behind : {W A B E F : Type 0} (took : W → List ℕ → W → Type 0) (contents : W → List ℕ) (appends : (w : W) (bs : List ℕ) (v : W) → took w bs v → contents v ≡ contents w ++ bs) (w : W) (o : Option (List ℕ)) (v : W) (r : Result A E) (q : Result B F) → is_ok q ≡ is_ok r → OnOk r (WritesText took w o v) → IfSome o (λ bs. OnOk q (contents v ≡ contents w ++ bs))
written_behind took contents appends w None v r q e h = tt
written_behind took contents appends w (Some bs) v r (Err f) e h = tt
written_behind took contents appends w (Some bs) v (Ok a) (Ok b) e h = contents_after_writes took contents appends w bs v h
written_behind took contents appends w (Some bs) v (Err a) (Ok b) e h = grind arith
