use Rattle.base_pages.proofs.Files.{has_its_tags}
use Rattle.base_pages.proofs.laws.file_has_its_tags.Goals as goal

pub returns : goal.returns
returns c = has_its_tags
