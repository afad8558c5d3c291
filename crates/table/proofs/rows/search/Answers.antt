use Rattle.std.proofs.Common.{ℕ, ◌+◌, ◌-◌, ◌/◌, ◌<◌, length, sym, ◌∙◌, subst, arith}
use Rattle.table.proofs.Halving.{none_lower, none_higher, lower_upto, higher_from, found_at, missed_at}
use Rattle.table.proofs.rows.search.Goals as goal

pub loop-low-init : goal.loop-low-init
loop-low-init g c =
    let n = g.R.Row.number in
    let rows = c.args.rows.now in
    (omega arith, omega arith, none_lower n c.args.key rows, none_higher n c.args.key rows)

pub returns-then-at-key : goal.returns-then-at-key
returns-then-at-key g c =
    let i = c.loop-low.low + (c.loop-low.high - c.loop-low.low) / 2 in
    let within : i < length c.args.rows.now = omega (arith, c.loop-low.invariant.1, c.loop-low-test.true) in
    found_at g.R.Row.number c.args.key c.args.rows.now i c.index-rows-middle.result within c.index-rows-middle.is (sym c.number-at.ensures ∙ c.if-at-key.true)

pub loop-low-preserved-then-at-key-2 : goal.loop-low-preserved-then-at-key-2
loop-low-preserved-then-at-key-2 g c =
    let i = c.loop-low.low + (c.loop-low.high - c.loop-low.low) / 2 in
    let within : i < length c.args.rows.now = omega (arith, c.loop-low.invariant.1, c.loop-low-test.true) in
    let less : g.R.Row.number c.index-rows-middle.result < c.args.key = subst (λ (z : ℕ). z < c.args.key) c.number-at.ensures c.if-at-key-2.true in
    (omega arith, c.loop-low.invariant.1, lower_upto g.R.Row.number c.args.key c.args.rows.now i c.index-rows-middle.result within c.index-rows-middle.is less, c.loop-low.invariant.3)

pub loop-low-preserved : goal.loop-low-preserved
loop-low-preserved g c =
    let i = c.loop-low.low + (c.loop-low.high - c.loop-low.low) / 2 in
    let within : i < length c.args.rows.now = omega (arith, c.loop-low.invariant.1, c.loop-low-test.true) in
    let more : c.args.key < c.number-at.result = omega (arith, c.if-at-key.false, c.if-at-key-2.false) in
    let above : c.args.key < g.R.Row.number c.index-rows-middle.result = subst (λ (z : ℕ). c.args.key < z) c.number-at.ensures more in
    (omega arith, omega arith, c.loop-low.invariant.2, higher_from g.R.Row.number c.args.key c.args.rows.now i c.index-rows-middle.result within c.index-rows-middle.is above)

pub returns : goal.returns
returns g c =
    let i = c.loop-low.invariant in
    missed_at g.R.Row.number c.args.key c.args.rows.now c.loop-low.low c.loop-low.high i.0 c.loop-low-test.false (omega (arith, i.0, i.1)) i.2 i.3
