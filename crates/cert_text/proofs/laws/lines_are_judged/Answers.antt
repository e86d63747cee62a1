use Rattle.cert_text.proofs.Numbered.{whole, long, cut, tail, numbered}
use Rattle.cert_text.proofs.laws.lines_are_judged.Goals as goal

pub returns : goal.returns
returns c = record { whole = whole; long = long; cut = cut; tail = tail; numbered = numbered }
