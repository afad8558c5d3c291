use Rattle.std.proofs.Common.{◌≡◌, ◌++◌, length, vec_items}
use Rattle.std.specs.Option.{option_map}
use Rattle.text.specs.Hex.{bytes_of}
use Rattle.text.proofs.hex.read_hex.Given as goal

-- the bytes so far, and those that the rest writes, are those that the text writes
abbrev pub invariant-loop-rest : goal.invariant-loop-rest
invariant-loop-rest l = option_map (λ ys. vec_items l.bytes ++ ys) (bytes_of l.rest) ≡ bytes_of l.text

abbrev pub decreases-loop-rest : goal.decreases-loop-rest
decreases-loop-rest l = length l.rest
