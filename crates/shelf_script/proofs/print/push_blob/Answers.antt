use Rattle.std.proofs.Common.{ℕ, List, ◌++◌, vec_items, sym, ap, ◌∙◌}
use Rattle.shelf_script.specs.Outcomes.{blob_text}
use Rattle.shelf_script.proofs.Printing.{line_told}
use Rattle.shelf_script.proofs.print.push_blob.Goals as goal

pub returns : goal.returns
returns g c = record {
  wakes = λ on.
      let told = c.safe_count.ensures.wakes on in
      let n = c.args.blob in
      let v = c.in_ok-bytes.bytes in
      let before = vec_items c.args.out.now in
      let read = c.in_ok-bytes.ensures.wakes told.on in
      let says = c.in_ok-push_blob_line.ensures ∙ ap (λ (z : List ℕ). before ++ blob_text n c.in_ok-safe.safe z) c.as_slice.ensures.value in
      line_told vec_items v n c.in_ok-safe.safe (g.S.Shelf.seen c.args.shelf.now).view (g.S.Shelf.seen c.safe_count.new.self).view before (vec_items c.push_blob_line.new.out) (g.S.Shelf.seen c.read_all.new.shelf) told.same (sym told.tells ∙ c.in_ok-safe.was) read says;
}
