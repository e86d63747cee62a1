use Rattle.editions.proofs.MomentLaws.{moments_sound}
use Rattle.editions.proofs.laws.moments_are_sound.Goals as goal

pub returns : goal.returns
returns c = moments_sound
