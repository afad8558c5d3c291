use Rattle.std.proofs.Common.{◌≡◌, ◌++◌}
use Rattle.text.proofs.ShownLaws.{written_behind}
use Rattle.text.proofs.shown.write_shown.Goals as goal

pub returns : goal.returns
returns g c =
    let written = written_behind (λ s bs t. t.bytes.items ≡ s.bytes.items ++ bs) (λ t. t.bytes.items) (λ w bs v h. h) _ _ _ _ _ c.map_err.ensures.variant c.write-written.ensures.writes in
    rw c.replace.ensures.value at written
