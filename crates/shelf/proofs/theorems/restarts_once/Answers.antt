use Rattle.shelf.proofs.Staying.{restarts_once}
use Rattle.shelf.proofs.theorems.restarts_once.Goals as goal

pub returns : goal.returns
returns c = restarts_once
