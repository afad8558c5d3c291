use Rattle.shelf.proofs.Running.{safe_bytes_stay}
use Rattle.shelf.proofs.theorems.safe_bytes_stay.Goals as goal

pub returns : goal.returns
returns c = safe_bytes_stay
