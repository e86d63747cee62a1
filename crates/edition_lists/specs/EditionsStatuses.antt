-- The exit status after a list of editions, and after they were verified.
use Rattle.std.specs.Prelude.{ℕ, Result, Ok, Err}
use Rattle.edition_lists.specs.declared.fault.EditionsFault.{EditionsFault}
use Rattle.edition_lists.specs.declared.fault.EditionsFault.TheVariants.{Folder}
use Rattle.edition_lists.specs.declared.fault.FolderFault.TheVariants.{Memory}
use Rattle.edition_lists.specs.declared.status.EditionsStatus.{EditionsStatus}
use Rattle.edition_lists.specs.declared.status.EditionsStatus.TheVariants.{Listed, Cleared, Refused}

abbrev pub editions_number : Result EditionsStatus EditionsFault → ℕ
editions_number (Ok Listed) = 0
editions_number (Ok Cleared) = 0
editions_number (Ok Refused) = 1
editions_number (Err (Folder Memory)) = 4
editions_number (Err _) = 3
