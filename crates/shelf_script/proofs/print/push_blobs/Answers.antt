use Rattle.std.proofs.Common.{◌≡◌, length, Ok, Err, vec_items, sym, refl, ap, ◌∙◌, subst, arith}
use Rattle.std.proofs.lemmas.Result.{err_from_is_err_and}
use Rattle.shelf.specs.Questions.{count_of, number_at}
use Rattle.shelf_script.specs.Prints.{AllTold}
use Rattle.shelf_script.proofs.Listing.{none_yet, one_more, place_there, all_shown, answered, counted, first_refused, blob_refused}
use Rattle.shelf_script.proofs.print.push_blobs.Goals as goal

pub returns-in_err-count : goal.returns-in_err-count
returns-in_err-count g c =
    let p = err_from_is_err_and c.from_residual.result c.from_residual.ensures.1 in
    first_refused (g.S.Shelf.seen c.args.shelf.now) (g.S.Shelf.seen c.count.new.self) (vec_items c.args.out.now) c.count.result _ c.from_residual.result p.0 c.count.ensures c.in_err-count.was p.1 p.2

pub loop-i-init : goal.loop-i-init
loop-i-init g c = λ on count. none_yet _ _ _ on refl

pub loop-i-preserved : goal.loop-i-preserved
loop-i-preserved g c = λ on count.
    let v = g.S.Shelf.seen in
    let first = v c.count.new.self in
    let sofar = c.loop-i.invariant on count in
    let told = c.number_at.ensures.wakes sofar.on in
    let test = c.loop-i-test.true in
    let named = subst (λ s. Ok c.in_ok-blob.blob ≡ number_at c.loop-i.i s) sofar.same (sym c.in_ok-blob.was ∙ told.tells) in
    one_more c.loop-i.i c.in_ok-blob.blob first.view (v c.number_at.new.self).view (vec_items c.args.out.now) (vec_items c.loop-i.out) (vec_items c.push_blob.new.out) (v c.loop-i.shelf) (v c.push_blob.new.shelf) ((g.met.S.Shelf.sound c.count.new.self).good on).rising (omega arith) sofar (told.same ∙ sofar.same) named (c.in_ok-push_blob.ensures.wakes told.on)

pub returns-in_err-blob : goal.returns-in_err-blob
returns-in_err-blob g c = record {
  wakes = λ on.
      let v = g.S.Shelf.seen in
      let first = c.count.ensures.wakes on in
      let count : c.in_ok-count.count ≡ length (v c.count.new.self).view.blobs = counted (v c.args.shelf.now) (v c.count.new.self) c.count.result c.in_ok-count.count first c.in_ok-count.was in
      let sofar = c.loop-i.invariant first.on count in
      let told = c.number_at.ensures.wakes sofar.on in
      let test = c.loop-i-test.true in
      let refused = subst (λ s. Err c.in_err-blob.field-0.0 ≡ number_at c.loop-i.i s) sofar.same (sym c.in_err-blob.was ∙ told.tells) in
      absurd (place_there c.loop-i.i (v c.count.new.self).view c.in_err-blob.field-0.0 (omega arith) refused);
  sleeps = λ off. absurd (answered count_of (g.S.Shelf.seen c.args.shelf.now) (g.S.Shelf.seen c.count.new.self) c.count.result c.in_ok-count.count c.count.ensures c.in_ok-count.was off);
}

pub returns-in_err-push_blob : goal.returns-in_err-push_blob
returns-in_err-push_blob g c =
    let v = g.S.Shelf.seen in
    let p = err_from_is_err_and c.from_residual-in_err-push_blob.result c.from_residual-in_err-push_blob.ensures.1 in
    record {
      wakes = λ on.
          let first = c.count.ensures.wakes on in
          let count : c.in_ok-count.count ≡ length (v c.count.new.self).view.blobs = counted (v c.args.shelf.now) (v c.count.new.self) c.count.result c.in_ok-count.count first c.in_ok-count.was in
          let sofar = c.loop-i.invariant first.on count in
          let told = c.number_at.ensures.wakes sofar.on in
          let test = c.loop-i-test.true in
          let named = subst (λ s. Ok c.in_ok-blob.blob ≡ number_at c.loop-i.i s) sofar.same (sym c.in_ok-blob.was ∙ told.tells) in
          let y = c.in_err-push_blob.field-0.0 in
          let all = blob_refused c.loop-i.i c.in_ok-blob.blob (v c.count.new.self).view (v c.number_at.new.self).view (vec_items c.args.out.now) (vec_items c.loop-i.out) (vec_items c.push_blob.new.out) (v c.push_blob.new.shelf) y ((g.met.S.Shelf.sound c.count.new.self).good first.on).rising (omega arith) (told.same ∙ sofar.same) named (c.in_err-push_blob.ensures.wakes told.on) in
          let to : Err y ≡ c.from_residual-in_err-push_blob.result = ap Err (sym p.2) ∙ sym p.1 in
          subst (λ q. AllTold (v c.args.shelf.now).view (vec_items c.args.out.now) q (v c.push_blob.new.shelf) (vec_items c.push_blob.new.out)) to (subst (λ s. AllTold s (vec_items c.args.out.now) (Err y) (v c.push_blob.new.shelf) (vec_items c.push_blob.new.out)) first.same all);
      sleeps = λ off. absurd (answered count_of (v c.args.shelf.now) (v c.count.new.self) c.count.result c.in_ok-count.count c.count.ensures c.in_ok-count.was off);
    }

pub returns : goal.returns
returns g c = record {
  wakes = λ on.
      let v = g.S.Shelf.seen in
      let first = c.count.ensures.wakes on in
      let count : c.in_ok-count.count ≡ length (v c.count.new.self).view.blobs = counted (v c.args.shelf.now) (v c.count.new.self) c.count.result c.in_ok-count.count first c.in_ok-count.was in
      let sofar = c.loop-i.invariant first.on count in
      let test = c.loop-i-test.false in
      subst (λ s. AllTold s (vec_items c.args.out.now) (Ok tt) (v c.loop-i.shelf) (vec_items c.loop-i.out)) first.same (all_shown c.loop-i.i (v c.count.new.self).view (vec_items c.args.out.now) (vec_items c.loop-i.out) (v c.loop-i.shelf) (omega arith) sofar);
  sleeps = λ off. absurd (answered count_of (g.S.Shelf.seen c.args.shelf.now) (g.S.Shelf.seen c.count.new.self) c.count.result c.in_ok-count.count c.count.ensures c.in_ok-count.was off);
}
