use Rattle.std.proofs.Common.{ℕ, ◌+◌, ◌<◌, ◌≤◌, List, ◌++◌, length, vec_items, Option, sym, ap, ◌∙◌, arith, rules}
use Rattle.std.proofs.lemmas.List.{append-nil}
use Rattle.script.specs.Blobs.{what_follows}
use Rattle.script.proofs.ReportLoop.{left, begins, goes_on, next_sizes}
use Rattle.script.proofs.blob.push_blob.Given as given
use Rattle.script.proofs.blob.push_blob.Goals as goal

pub loop-size-init : goal.loop-size-init
loop-size-init g c =
    (omega arith, omega arith, ap (λ (l : List ℕ). vec_items c.args.out.now ++ l) (begins (g.K.ItemKind.meaning c.args.kind.now) (g.K.ItemText.text c.args.kind.now) c.args.bytes.now))

sized : (g : given.Over) (c : goal.In-Some g) → (0 < c.in-Some.size) × (c.loop-size.byte + c.in-Some.size ≤ length c.args.bytes.now)
sized g c =
    next_sizes (g.K.ItemKind.meaning c.args.kind.now) (g.K.ItemText.text c.args.kind.now) c.args.bytes.now
    c.loop-size.index c.loop-size.byte c.in-Some.size (λ j. (c.type_inv.bytes j).fits) c.loop-size.invariant.1 (sym c.in-Some.is ∙ c.in_ok-size.ensures.size)

pub overflow_add-byte : goal.overflow_add-byte
overflow_add-byte g c = let s = sized g c in search rules

pub loop-size-smaller : goal.loop-size-smaller
loop-size-smaller g c = let s = sized g c in omega arith

pub loop-size-preserved : goal.loop-size-preserved
loop-size-preserved g c =
    let s = sized g c in
    let k = g.K.ItemKind.meaning c.args.kind.now in
    let text = g.K.ItemText.text c.args.kind.now in
    let told = goes_on k text c.args.bytes.now c.loop-size.index c.loop-size.byte (vec_items c.loop-size.out) (vec_items c.push_piece.new.out) _ c.in_ok-size.field-0 (omega arith) c.loop-size.invariant.2 c.in_ok-size.ensures in
    (omega arith, s.1, ap (λ (o : Option ℕ). vec_items c.push_piece.new.out ++ what_follows (left k text c.args.bytes.now (c.loop-size.index + 1)) c.loop-size.byte o) (sym c.in-Some.is) ∙ told)

pub returns : goal.returns
returns g c =
    let k = g.K.ItemKind.meaning c.args.kind.now in
    let text = g.K.ItemText.text c.args.kind.now in
    let told = goes_on k text c.args.bytes.now c.loop-size.index c.loop-size.byte (vec_items c.loop-size.out) (vec_items c.push_piece.new.out) _ c.in_ok-size.field-0 (omega arith) c.loop-size.invariant.2 c.in_ok-size.ensures in
    sym (append-nil (vec_items c.push_piece.new.out)) ∙ ap (λ (o : Option ℕ). vec_items c.push_piece.new.out ++ what_follows (left k text c.args.bytes.now (c.loop-size.index + 1)) c.loop-size.byte o) (sym c.in_default.is) ∙ told
