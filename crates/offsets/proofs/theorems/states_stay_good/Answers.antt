use Rattle.offsets.proofs.Goodness.{states_stay_good}
use Rattle.offsets.proofs.theorems.states_stay_good.Goals as goal

pub returns : goal.returns
returns c = states_stay_good
