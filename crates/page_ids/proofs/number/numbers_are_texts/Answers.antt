use Rattle.page_ids.proofs.Numbers.{number_found, number_again}
use Rattle.page_ids.proofs.number.numbers_are_texts.Goals as goal

pub returns : goal.returns
returns c = record { found = number_found; only = number_again }
