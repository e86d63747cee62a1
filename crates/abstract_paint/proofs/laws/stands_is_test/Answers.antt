use Rattle.abstract_paint.proofs.Unique.{stands_is_test}
use Rattle.abstract_paint.proofs.laws.stands_is_test.Goals as goal

pub returns : goal.returns
returns c = stands_is_test
