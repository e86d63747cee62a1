-- The edition that a folder serves.
use Rattle.std.specs.Prelude.{◌≡◌, ◌≤◌, Option, Some, None}
use Rattle.editions.specs.declared.limits.TheConstants.{MOST_EDITION}
use Rattle.editions.specs.Folders.{FolderState}
use Rattle.editions.specs.NumberLines.{number_line}
use Rattle.edition_checks.specs.declared.served.Served.{Served}
use Rattle.edition_checks.specs.Served.{IsServed}

-- `current` names this edition, and its texts mean what was read of them
pub record IsServedNow (f : FolderState) (s : Served) : Type 0 where
  pub is : IsServed f s
  pub named : f.current ≡ Some (number_line s.number)
  pub most : s.number ≤ MOST_EDITION

-- this edition is served; or none was published
abbrev pub ServesNow : FolderState → Option Served → Type 0
ServesNow f None = f.current ≡ None
ServesNow f (Some s) = IsServedNow f s
