use Rattle.frame_screens.proofs.Ways.{ways_lead}
use Rattle.frame_screens.proofs.laws.ways_lead_there.Goals as goal

pub returns : goal.returns
returns c = ways_lead
