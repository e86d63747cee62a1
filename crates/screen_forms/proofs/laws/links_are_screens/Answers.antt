use Rattle.screen_forms.proofs.Letters.{are}
use Rattle.screen_forms.proofs.laws.links_are_screens.Goals as goal

pub returns : goal.returns
returns c = are
