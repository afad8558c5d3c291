use Rattle.std.proofs.Common.{◌≡◌, length, vec_items}
use Rattle.shelf_script.proofs.Listing.{Sofar}
use Rattle.shelf_script.proofs.print.push_blobs.Given as goal

-- the lines of the blobs so far were appended
abbrev pub invariant-loop-i : goal.invariant-loop-i
invariant-loop-i g l =
    let v = g.S.Shelf.seen in
    (v l.initial.shelf).on → l.count ≡ length (v l.initial.shelf).view.blobs → Sofar l.i (v l.initial.shelf).view (vec_items l.initial.out) (v l.shelf) (vec_items l.out)
