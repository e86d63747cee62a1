use Rattle.frame_records.proofs.OneBase.{one_base}
use Rattle.frame_records.proofs.base.bases_are_one.Goals as goal

pub returns : goal.returns
returns c = one_base
