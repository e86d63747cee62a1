use Rattle.frame_records.proofs.GroupTexts.{texts_found, texts_only}
use Rattle.frame_records.proofs.groups.groups_are_texts.Goals as goal

pub returns : goal.returns
returns c = λ separator text groups no. (texts_found separator text groups, texts_only separator text groups no)
