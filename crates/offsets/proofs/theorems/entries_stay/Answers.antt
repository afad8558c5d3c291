use Rattle.offsets.proofs.Staying.{entries_stay}
use Rattle.offsets.proofs.theorems.entries_stay.Goals as goal

pub returns : goal.returns
returns c = entries_stay
