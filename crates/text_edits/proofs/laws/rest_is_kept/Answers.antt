use Rattle.text_edits.proofs.Kept.{kept}
use Rattle.text_edits.proofs.laws.rest_is_kept.Goals as goal

pub returns : goal.returns
returns c = kept
