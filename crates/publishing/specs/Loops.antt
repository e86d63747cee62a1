-- What private functions say.
use Rattle.std.specs.Prelude.{◌≡◌, ◌≤◌, ℕ, Option, Some, None}
use Rattle.editions.specs.declared.limits.TheConstants.{MOST_EDITION}
use Rattle.editions.specs.declared.edition_file.EditionFile.TheVariants as file
use Rattle.editions.specs.Folders.{FolderState, file_at}
use Rattle.editions.specs.NumberLines.{follows_text}
use Rattle.editions.specs.Chains.{IsClearedEdition, IsClearedAgainst}
use Rattle.edition_checks.specs.declared.served.Served.{Served}
use Rattle.edition_checks.specs.Served.{IsServed, served_view}
use Rattle.publishing.specs.declared.following.MayFollow.{MayFollow}
use Rattle.publishing.specs.declared.following.MayFollow.TheVariants.{Follows}

-- an edition that is there follows the one that is served: its own text says so, the check clears it, and the change to it
pub record IsLeftAfter (f : FolderState) (s left : Served) : Type 0 where
  pub is : IsServed f left
  pub most : left.number ≤ MOST_EDITION
  pub says : file_at f left.number file.Follows ≡ Some (follows_text (Some s.number))
  pub cleared : IsClearedEdition (served_view None left)
  pub against : IsClearedAgainst (served_view None s) (served_view None left)

-- if an edition may be published: of what it follows
abbrev pub IfFollows : MayFollow → (Option ℕ → Type 0) → Type 0
IfFollows (Follows follows) P = P follows
IfFollows _ P = Unit {0}
