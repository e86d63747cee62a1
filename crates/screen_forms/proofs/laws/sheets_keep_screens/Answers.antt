use Rattle.screen_forms.proofs.Written.{kept}
use Rattle.screen_forms.proofs.laws.sheets_keep_screens.Goals as goal

pub returns : goal.returns
returns c = kept
