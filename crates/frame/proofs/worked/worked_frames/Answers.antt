use Rattle.std.proofs.Common.{refl}
use Rattle.frame.specs.Leb128.{prefix_of}
use Rattle.frame.specs.Pieces.{piece_by, piece_of, piece_at}
use Rattle.frame.specs.Scans.{scan_of}
use Rattle.frame.proofs.worked.worked_frames.Goals as goal

pub returns : goal.returns
unfolding prefix_of piece_by piece_of piece_at scan_of
returns c = record {
  three_hundred = refl;
  largest = refl;
  too_large = refl;
  padded_is_bad = λ k place p x y z. refl;
  padded_is_torn = λ k place p. refl;
  up_at_0 = λ blob p. refl;
  a_at_3 = λ blob p. refl;
  torn_at_5 = λ blob p. refl;
  two_frames = λ blob first. refl;
}
