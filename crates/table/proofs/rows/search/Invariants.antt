use Rattle.std.proofs.Common.{◌-◌, ◌≤◌, length, take, drop}
use Rattle.table.specs.Tables.{Rising, Lower, Higher}
use Rattle.table.proofs.rows.search.Given as goal

abbrev pub invariant-loop-low : goal.invariant-loop-low
invariant-loop-low g l =
    let n = g.R.Row.number in
    (l.low ≤ l.high)
    × (l.high ≤ length l.rows)
    × (Rising n l.rows → Lower n l.key (take l.low l.rows))
    × (Rising n l.rows → Higher n l.key (drop l.high l.rows))

abbrev pub decreases-loop-low : goal.decreases-loop-low
decreases-loop-low g l = l.high - l.low
