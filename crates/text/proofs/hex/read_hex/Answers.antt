use Rattle.std.proofs.Common.{vec_items, sym, arith}
use Rattle.std.proofs.lemmas.Grind.{common_steps}
use Rattle.std.specs.Option.{option_map}
use Rattle.text.specs.Hex.{bytes_of}
use Rattle.text.proofs.HexLaws.{has_one_form, reads_on}
use Rattle.text.proofs.hex.read_hex.Goals as goal

pub loop-rest-preserved : goal.loop-rest-preserved
loop-rest-preserved c =
    reads_on (vec_items c.loop-rest.bytes) (vec_items c.push.new.self) c.loop-rest.rest.now c.in-Some-Some.high c.in-Some-Some.low (bytes_of c.args.text.now) (sym c.in-Some-Some.ensures) (sym c.in-Some-Some.ensures') c.in_ok-push.ensures.items c.loop-rest.invariant

pub returns-clause-one_form : goal.returns-clause-one_form
returns-clause-one_form c = has_one_form c.args.text.now (option_map vec_items c.then_some.result) (grind (arith, common_steps))
