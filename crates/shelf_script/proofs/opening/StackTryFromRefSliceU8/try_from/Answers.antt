use Rattle.std.proofs.Common.{sym, ap, codes, rules}
use Rattle.std.specs.Option.{ok_or}
use Rattle.std.proofs.lemmas.Slice.Eq.{text_from_reads}
use Rattle.shelf_script.specs.declared.order.LineFault.TheVariants.{UnknownStack}
use Rattle.shelf_script.specs.Openings.{stack_of}
use Rattle.shelf_script.proofs.opening.StackTryFromRefSliceU8.try_from.Goals as goal

pub returns-in-memory : goal.returns-in-memory
returns-in-memory c = sym (ap (λ w. ok_or (stack_of w) UnknownStack) (text_from_reads c.args.word.now (codes "memory") (search rules) (search rules)))

pub returns-in-98 : goal.returns-in-98
returns-in-98 c = sym (ap (λ w. ok_or (stack_of w) UnknownStack) (text_from_reads c.args.word.now (codes "buffer/memory") (search rules) (search rules)))

pub returns-in-99 : goal.returns-in-99
returns-in-99 c = sym (ap (λ w. ok_or (stack_of w) UnknownStack) (text_from_reads c.args.word.now (codes "cutter/memory") (search rules) (search rules)))

pub returns-in-98-2 : goal.returns-in-98-2
returns-in-98-2 c = sym (ap (λ w. ok_or (stack_of w) UnknownStack) (text_from_reads c.args.word.now (codes "buffer/cutter/memory") (search rules) (search rules)))

pub returns-in-99-2 : goal.returns-in-99-2
returns-in-99-2 c = sym (ap (λ w. ok_or (stack_of w) UnknownStack) (text_from_reads c.args.word.now (codes "cutter/buffer/memory") (search rules) (search rules)))
