use Rattle.std.proofs.Common.{ltb, rules}
use Rattle.std.proofs.lemmas.List.Sorted.{answers_always}
use Rattle.table.proofs.Places.{rising_tested}
use Rattle.table.proofs.lent.rises.Goals as goal

-- the closure tells whether the key rises from one row to the next
pub returns : goal.returns
returns g c =
    let key = g.R.Row.number in
    rising_tested key c.args.rows.now c.is_sorted_by.result (c.is_sorted_by.ensures.cases (λ x y. ltb (key x) (key y)) (answers_always _ _ _ (λ f a r f' called. search rules)))
