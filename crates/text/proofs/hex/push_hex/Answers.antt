use Rattle.std.proofs.Common.{vec_items}
use Rattle.text.proofs.HexLaws.{writes_on}
use Rattle.text.proofs.hex.push_hex.Goals as goal

pub loop-byte-preserved : goal.loop-byte-preserved
loop-byte-preserved c =
    writes_on (vec_items c.args.out.now) (vec_items c.loop-byte.out) (vec_items c.extend_from_slice.new.self) c.args.bytes.now c.loop-byte.byte-index c.hex_digit.result c.hex_digit-in-loop-byte.result c.loop-byte-test.true c.loop-byte.invariant c.hex_digit.ensures c.hex_digit-in-loop-byte.ensures c.in_ok-extend_from_slice.ensures.items
