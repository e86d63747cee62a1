use Rattle.screens.proofs.Plain.{ground_shows}
use Rattle.screens.proofs.laws.ground_shows.Goals as goal

pub returns : goal.returns
returns c = ground_shows
