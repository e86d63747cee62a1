use Rattle.cert_text.proofs.Ended.{never_refused}
use Rattle.cert_text.proofs.so_far.SoFar.build.Goals as goal

pub of-requires : goal.of-requires
of-requires c = never_refused _ c.self.invariant
