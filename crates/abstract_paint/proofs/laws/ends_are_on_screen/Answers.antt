use Rattle.abstract_paint.proofs.Unique.{ends_are_on_screen}
use Rattle.abstract_paint.proofs.laws.ends_are_on_screen.Goals as goal

pub returns : goal.returns
returns c = ends_are_on_screen
