use Rattle.shelf.proofs.Rule.{outcomes_as_allowed}
use Rattle.shelf.proofs.theorems.outcomes_as_allowed.Goals as goal

pub returns : goal.returns
returns c = outcomes_as_allowed
