use Rattle.base_pages.proofs.Files.{says_what_is_shown}
use Rattle.base_pages.proofs.laws.file_says_what_is_shown.Goals as goal

pub returns : goal.returns
returns c = says_what_is_shown
