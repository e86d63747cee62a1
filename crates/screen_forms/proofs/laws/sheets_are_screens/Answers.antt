use Rattle.screen_forms.proofs.PagesAre.{pages}
use Rattle.screen_forms.proofs.laws.sheets_are_screens.Goals as goal

pub returns : goal.returns
returns c = pages
