use Rattle.abstract_paint.proofs.Exact.{is_exact}
use Rattle.abstract_paint.proofs.laws.paint_is_exact.Goals as goal

pub returns : goal.returns
returns c = is_exact
