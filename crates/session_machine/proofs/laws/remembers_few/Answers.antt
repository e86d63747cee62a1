use Rattle.std.proofs.Common.{arith}
use Rattle.session_machine.specs.Sessions.{opening}
use Rattle.session_machine.proofs.Shown.{few_after}
use Rattle.session_machine.proofs.laws.remembers_few.Goals as goal

pub returns : goal.returns
returns c = record { kept = few_after; opened = λ caller base keys. few_after caller base (opening base) keys (omega arith) }
