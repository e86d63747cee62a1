use Rattle.abstract_paint.proofs.Codes.{code_touches}
use Rattle.abstract_paint.proofs.laws.code_touches.Goals as goal

pub returns : goal.returns
returns c = code_touches
