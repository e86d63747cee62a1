use Rattle.toml_places.proofs.ScanTurns.{place_begins}
use Rattle.toml_places.proofs.text_lines.place_in.Goals as goal

pub place_from-requires-clause-place : goal.place_from-requires-clause-place
place_from-requires-clause-place c = place_begins c.args.text.now
