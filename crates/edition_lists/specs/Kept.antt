-- An edition of a folder, as it is read.
use Rattle.std.specs.Prelude.{◌≡◌, ℕ, List, Some}
use Rattle.editions.specs.declared.edition_file.EditionFile.TheVariants.{Follows, Sums}
use Rattle.editions.specs.Folders.{FolderState, file_at}
use Rattle.editions.specs.NumberLines.{follows_in}
use Rattle.edition_checks.specs.Served.{IsServed}
use Rattle.edition_lists.specs.declared.kept.KeptEdition.{KeptEdition}

-- all five files of the edition are there, and mean what was read of them
pub record IsKeptEdition (f : FolderState) (e : KeptEdition) : Type 0 where
  pub served : IsServed f e.served
  pub sums : file_at f e.served.number Sums ≡ Some e.sums.items
  pub text : List ℕ
  pub there : file_at f e.served.number Follows ≡ Some text
  pub says : follows_in text ≡ Some e.follows
