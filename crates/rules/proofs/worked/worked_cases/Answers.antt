use Rattle.rules.proofs.Evaluated.{worked_frames, worked_openings}
use Rattle.rules.proofs.worked.worked_cases.Goals as goal

pub returns : goal.returns
returns c = record { frames = worked_frames; openings = worked_openings }
