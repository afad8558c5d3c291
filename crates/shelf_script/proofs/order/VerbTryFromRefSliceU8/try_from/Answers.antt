use Rattle.std.proofs.Common.{sym, ap, codes, rules}
use Rattle.std.specs.Option.{ok_or}
use Rattle.std.proofs.lemmas.Slice.Eq.{text_from_reads}
use Rattle.shelf_script.specs.declared.order.LineFault.TheVariants.{UnknownCommand}
use Rattle.shelf_script.specs.Orders.{verb_of}
use Rattle.shelf_script.proofs.order.VerbTryFromRefSliceU8.try_from.Goals as goal

pub returns-in-remove : goal.returns-in-remove
returns-in-remove c = sym (ap (λ w. ok_or (verb_of w) UnknownCommand) (text_from_reads c.args.word.now (codes "remove") (search rules) (search rules)))

pub returns-in-restart : goal.returns-in-restart
returns-in-restart c = sym (ap (λ w. ok_or (verb_of w) UnknownCommand) (text_from_reads c.args.word.now (codes "restart") (search rules) (search rules)))
