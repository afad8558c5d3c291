use Rattle.std.proofs.Common.{◌≡◌, ◌-◌, ◌≤◌, ◌++◌, length, vec_items}
use Rattle.script.specs.Blobs.{report_of}
use Rattle.script.proofs.ReportLoop.{left}
use Rattle.script.proofs.blob.push_blob.Given as goal

abbrev pub invariant-loop-size : goal.invariant-loop-size
invariant-loop-size g l =
    (l.index ≤ l.byte) × (l.byte ≤ length l.bytes)
    × (vec_items l.out ++ left (g.K.ItemKind.meaning l.kind) (g.K.ItemText.text l.kind) l.bytes l.index l.byte ≡ vec_items l.initial.out ++ report_of (g.K.ItemKind.meaning l.kind) (g.K.ItemText.text l.kind) l.bytes)

abbrev pub decreases-loop-size : goal.decreases-loop-size
decreases-loop-size g l = length l.bytes - l.byte
