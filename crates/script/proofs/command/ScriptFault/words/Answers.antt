use Rattle.std.proofs.Common.{sym, ap}
use Rattle.std.specs.Fmt.{digits}
use Rattle.script.specs.Commands.{fault_text}
use Rattle.script.proofs.command.ScriptFault.words.Goals as goal

pub returns-in-Overlong : goal.returns-in-Overlong
unfolding digits
returns-in-Overlong c = sym (ap fault_text c.in-Overlong.is)
