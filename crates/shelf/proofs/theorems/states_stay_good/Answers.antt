use Rattle.shelf.proofs.States.{states_stay_good}
use Rattle.shelf.proofs.theorems.states_stay_good.Goals as goal

pub returns : goal.returns
returns c = states_stay_good
