use Rattle.line_keys.proofs.Passed.{telnet_is_passed_over}
use Rattle.line_keys.proofs.laws.telnet_is_passed_over.Goals as goal

pub returns : goal.returns
returns c = telnet_is_passed_over
