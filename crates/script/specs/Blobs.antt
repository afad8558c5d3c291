-- The report of a blob.
--
--   report_of    a line for each whole frame, and one for what ends the reading
--   piece_line   the line of one piece
--
-- Assumes nothing.
use Rattle.std.specs.Prelude.{◌≡◌, ℕ, zero, suc, ◌+◌, List, [], ◌++◌, length, Some, None, Ok, Err, Option, Result}
use Rattle.faults.specs.Refusals.{frame_refusal}
use Rattle.faults.specs.declared.frame.FrameFault.{FrameFault}
use Rattle.items.specs.Kinds.{Kind}
use Rattle.frame.specs.Pieces.{Seen, item, torn, ended, piece_at}
use Rattle.script.specs.Reports.{frame_line, end_line, torn_line, refused_line}

-- the line of a piece that stands at a byte behind i frames
abbrev pub piece_line : (List ℕ → List ℕ) → ℕ → ℕ → Result Seen FrameFault → List ℕ
piece_line text i byte (Ok (item x place size)) = frame_line i byte (text x)
piece_line text i byte (Ok (torn rest place)) = torn_line byte (length rest)
piece_line text i byte (Ok (ended place)) = end_line byte
piece_line text i byte (Err e) = refused_line (frame_refusal e)

-- the size of an item, behind which the reading goes on
abbrev pub item_size : Result Seen FrameFault → Option ℕ
item_size (Ok (item x place size)) = Some size
item_size (Ok (torn rest place)) = None
item_size (Ok (ended place)) = None
item_size (Err e) = None

-- what is told behind a piece
abbrev pub what_follows : (ℕ → List ℕ) → ℕ → Option ℕ → List ℕ
what_follows on byte (Some size) = on (byte + size)
what_follows on byte None = []

-- what stands at a byte of blob 0, whose frames are counted from position 0 on, behind i frames
abbrev pub piece_behind : Kind → List ℕ → ℕ → ℕ → Result Seen FrameFault
piece_behind k bs i byte = piece_at k (record { blob = 0; byte = byte }) i bs

-- the report of at most n pieces from a byte on, behind i frames
abbrev pub report_from : Kind → (List ℕ → List ℕ) → List ℕ → ℕ → ℕ → ℕ → List ℕ
report_from k text bs zero i byte = []
report_from k text bs (suc n) i byte =
    piece_line text i byte (piece_behind k bs i byte) ++ what_follows (λ next. report_from k text bs n (i + 1) next) byte (item_size (piece_behind k bs i byte))

-- the report of a whole blob: a frame has at least one byte, so there are no more pieces than bytes, and the end
unfoldable pub report_of : Kind → (List ℕ → List ℕ) → List ℕ → List ℕ
report_of k text bs = report_from k text bs (suc (length bs)) 0 0

-- one piece was told: the answer says where the reading goes on
pub record PieceTold (text : List ℕ → List ℕ) (i byte : ℕ) (piece : Result Seen FrameFault) (before after : List ℕ) (next : Option ℕ) : Type 0 where
  pub line : after ≡ before ++ piece_line text i byte piece
  pub size : next ≡ item_size piece
