use Rattle.offsets.proofs.Staying.{restarts_once}
use Rattle.offsets.proofs.theorems.restarts_once.Goals as goal

pub returns : goal.returns
returns c = restarts_once
