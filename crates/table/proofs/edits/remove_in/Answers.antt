use Rattle.std.proofs.Common.{◌<◌, ◌≤◌, length, take, arith, length-take}
use Rattle.table.specs.Tables.{FoundAt}
use Rattle.table.proofs.Places.{found_ok}
use Rattle.table.proofs.Shifts.{shifted_out, remove_done}
use Rattle.table.proofs.edits.remove_in.Goals as goal

pub returns : goal.returns
returns g c =
    let key = g.R.Row.number in
    let rows = c.args.rows.now in
    let used = take c.args.len rows in
    let n = c.min-end.result in
    let i = c.in_ok-place.place in
    let row = c.index-rows-place.result in
    let found : FoundAt key c.args.key used i = found_ok key c.args.key used c.find_in.result i c.find_in.ensures c.in_ok-place.ensures.value in
    let lt : i < n = omega (arith, c.min-end.ensures, found.within, length-take c.args.len rows) in
    let le : n ≤ length rows = omega (arith, c.min-end.ensures) in
    remove_done key rows c.args.len i row n c.args.key _ c.min-end.ensures found c.index-rows-place.is (shifted_out rows n i row _ lt le c.index-rows-place.is c.rotate_left.ensures.after)
