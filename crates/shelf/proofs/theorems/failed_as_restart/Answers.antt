use Rattle.shelf.proofs.Failing.{failed_as_restart}
use Rattle.shelf.proofs.theorems.failed_as_restart.Goals as goal

pub returns : goal.returns
returns c = failed_as_restart
