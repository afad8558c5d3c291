-- What a writer leaves of what it appends to. Assumes nothing.
-- Words: Grown.
use Rattle.std.specs.Prelude.{◌≡◌, ℕ, List, ◌++◌}

-- after begins with before
abbrev pub Grown : List ℕ → List ℕ → Type 0
Grown before after = (more : List ℕ) × (after ≡ before ++ more)
