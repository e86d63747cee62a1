use Rattle.edition_lists.proofs.FolderLaws.{folders_safe}
use Rattle.edition_lists.proofs.laws.sound_folders_are_safe.Goals as goal

pub returns : goal.returns
returns c = folders_safe
