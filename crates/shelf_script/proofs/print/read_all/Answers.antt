use Rattle.std.proofs.Common.{◌≡◌, ℕ, List, length, Ok, vec_items, sym, refl, ap, ◌∙◌, subst}
use Rattle.shelf.specs.Shelves.{ShelfState}
use Rattle.shelf.specs.Questions.{part_of, filled}
use Rattle.shelf_script.proofs.Printing.{bytes_told}
use Rattle.shelf_script.proofs.print.read_all.Goals as goal

pub returns : goal.returns
returns g c = record {
  wakes = λ on.
      let told = c.len.ensures.wakes on in
      let read = c.read.ensures.asked.wakes told.on in
      let n = c.args.blob in
      let v = c.in_ok-bytes.bytes in
      let new = c.read.new.buffer in
      let s = (g.S.Shelf.seen c.args.shelf.now).view in
      let count = c.in_ok-bytes.ensures.len in
      let here = ap (λ (z : List ℕ). filled z (part_of n 0 (length z) (g.S.Shelf.seen c.len.new.self).view)) c.as_mut_slice.ensures.value in
      let fills = subst (λ (z : ShelfState). new ≡ filled v.items (part_of n 0 (length v.items) z)) told.same (c.read.ensures.fills.wakes told.on ∙ here) in
      bytes_told vec_items _ n v.len s v.items new (g.S.Shelf.seen c.read.new.self) read.on (read.same ∙ told.same) (sym told.tells ∙ c.in_ok-len.was ∙ ap Ok (sym count)) (sym v.ok.0) fills refl;
}
