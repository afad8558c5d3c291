use Rattle.std.proofs.Common.{sym, ◌∙◌, arith, length-drop, drop-drop}
use Rattle.table.proofs.lent.Table.insert.Goals as goal

-- the slice had a row left behind those in use, which is in use now
pub returns : goal.returns
returns g c =
    let done = c.in_ok-insert_in.ensures in
    let len = c.self.inside.len in
    let slice = c.self.inside.rows.now in
    rw (← c.self.view_is) record {
      room = omega (arith, done.room, length-drop len slice);
      used = done.used c.self.invariant.1;
      rest = done.rest ∙ sym (drop-drop 1 len slice);
    }
