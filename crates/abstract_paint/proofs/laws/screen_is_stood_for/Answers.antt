use Rattle.abstract_paint.proofs.Unique.{screen_is_stood_for}
use Rattle.abstract_paint.proofs.laws.screen_is_stood_for.Goals as goal

pub returns : goal.returns
returns c = screen_is_stood_for
