use Rattle.table.proofs.Shifts.{change_done}
use Rattle.table.proofs.edits.change_in.Goals as goal

pub returns : goal.returns
returns g c =
    change_done g.R.Row.number c.args.rows.now c.args.len c.in-Ok.place c.args.row (rw c.number.ensures at c.in-Ok.ensures)
