-- The text of what can be displayed. Assumes nothing.
-- Words: error_text.
use Rattle.std.specs.Prelude.{ℕ, List, [], ◌∷◌, ◌++◌, codes}

-- the line that tells of a fault with this text
abbrev pub error_text : List ℕ → List ℕ
error_text text = codes "error: " ++ (text ++ (10 ∷ []))
