use Rattle.screen_forms.proofs.Letters.{back}
use Rattle.screen_forms.proofs.laws.links_keep_screens.Goals as goal

pub returns : goal.returns
returns c = back
