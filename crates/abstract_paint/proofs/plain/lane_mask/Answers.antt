use Rattle.abstract_paint.proofs.Masks.{plain_lanes}
use Rattle.abstract_paint.proofs.plain.lane_mask.Goals as goal

pub returns : goal.returns
returns c = plain_lanes c.args.lanes c.fits-lanes.0
