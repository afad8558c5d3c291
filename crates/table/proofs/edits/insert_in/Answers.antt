use Rattle.std.proofs.Common.{take, refl, arith, length-take}
use Rattle.table.proofs.Keys.{row_of-some}
use Rattle.table.proofs.Shifts.{shifted_in, insert_done}
use Rattle.table.specs.Tables.{FoundAt}
use Rattle.table.proofs.edits.insert_in.Goals as goal

-- a row in use has the key
pub returns-in_default : goal.returns-in_default
returns-in_default g c =
    let key = g.R.Row.number in
    let found : FoundAt key (key c.args.row) (take c.args.len c.args.rows.now) c.in_default.field-0 = rw c.number.ensures at c.in_default.ensures in
    record { present = row_of-some key (key c.args.row) (take c.args.len c.args.rows.now) c.in_default.field-0 c.args.row found.within (found.hit c.args.row); same = refl {a = c.args.rows.now} }

pub returns : goal.returns
returns g c =
    insert_done g.R.Row.number c.args.rows.now c.args.len c.in-Err.place c.args.row _ (rw c.number.ensures at c.in-Err.ensures) c.if-len-rows.false
    (shifted_in c.args.rows.now c.args.len c.in-Err.place c.args.row _ (omega (arith, c.in-Err.ensures.within, length-take c.args.len c.args.rows.now)) c.if-len-rows.false c.rotate_right.ensures.after)
