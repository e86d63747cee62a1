use Rattle.page_ids.proofs.KeyTexts.{no_prefix, one_list, read_again}
use Rattle.page_ids.proofs.key_text.keys_are_texts.Goals as goal

pub returns : goal.returns
returns c = record { no_prefix = no_prefix; one_list = one_list; read_again = read_again }
