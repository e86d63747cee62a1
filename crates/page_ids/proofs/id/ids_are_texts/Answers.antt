use Rattle.page_ids.proofs.IdTexts.{id_found, id_again}
use Rattle.page_ids.proofs.id.ids_are_texts.Goals as goal

pub returns : goal.returns
returns c = record { found = id_found; only = id_again }
