use Rattle.std.proofs.Common.{codes, rules}
use Rattle.shelf_script.specs.Openings.{stack_in, setting_in}
use Rattle.shelf_script.proofs.Steps.{read_on, read_failed}
use Rattle.shelf_script.proofs.opening.read_settings.Goals as goal

pub returns-in_err-max : goal.returns-in_err-max
returns-in_err-max c =
    let text = c.args.text.now in
    let s = read_on c.in_ok-stack.stack text c.in_ok-stack.rest.now (stack_in text) c.in_ok-stack.ensures in
    let m = read_failed c.in_ok-stack.rest.now c.in_err-max.field-0.0 (setting_in (codes "max=") c.in_ok-stack.rest.now) c.in_err-max.ensures in
    search rules

pub returns-in_err-size : goal.returns-in_err-size
returns-in_err-size c =
    let text = c.args.text.now in
    let s = read_on c.in_ok-stack.stack text c.in_ok-stack.rest.now (stack_in text) c.in_ok-stack.ensures in
    let m = read_on c.in_ok-max.max c.in_ok-stack.rest.now c.in_ok-max.rest.now (setting_in (codes "max=") c.in_ok-stack.rest.now) c.in_ok-max.ensures in
    let z = read_failed c.in_ok-max.rest.now c.in_err-size.field-0.0 (setting_in (codes "size=") c.in_ok-max.rest.now) c.in_err-size.ensures in
    search rules
