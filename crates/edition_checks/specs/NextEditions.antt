-- Editions that follow one another in a folder.
use Rattle.std.specs.Prelude.{◌≡◌, ℕ, List, [], ◌∷◌, Option, Some, None}
use Rattle.frame_records.specs.Bases.{AreApart}
use Rattle.checker.specs.declared.verdict.Verdict.TheVariants as verdicts
use Rattle.checker.specs.Verdict.{verdict}
use Rattle.editions.specs.declared.edition_file.EditionFile.TheVariants.{Follows}
use Rattle.editions.specs.Folders.{FolderState, SeenFolder, file_at}
use Rattle.editions.specs.NumberLines.{follows_in}
use Rattle.editions.specs.Chains.{IsClearedAgainst}
use Rattle.edition_checks.specs.declared.served.Served.{Served}
use Rattle.edition_checks.specs.Served.{IfHeld, IsReadEdition, IsServed, served_view}

-- the check clears it by its own policy. The fact of the base is what every base keeps
pub record IsFit (s : Served) : Type 0 where
  pub cleared : verdict s.base s.policy s.cert ≡ verdicts.Cleared
  pub apart : AreApart s.base

-- what an edition's file `follows` says
pub record SaysFollows (f : FolderState) (number : ℕ) (follows : Option ℕ) : Type 0 where
  pub text : List ℕ
  pub there : file_at f number Follows ≡ Some text
  pub says : follows_in text ≡ Some follows

-- an edition that was read may take the place of another while callers are inside: it is cleared, and so is the change. If nobody
-- else changes the folder, its texts are there, and it says that it follows the other
pub record IsNextEdition (folder : SeenFolder) (old new : Served) : Type 0 where
  pub read : IsReadEdition new
  pub fit : IsFit new
  pub against : IsClearedAgainst (served_view None old) (served_view None new)
  pub there : IfHeld folder (λ f. IsServed f new)
  pub follows : IfHeld folder (λ f. SaysFollows f new.number (Some old.number))

-- the latest of an edition and those after it, which have the latest first
abbrev pub latest_of : Served → List Served → Served
latest_of s [] = s
latest_of s (t ∷ earlier) = t

-- each of them takes the place of the one before it
abbrev pub AreNext : SeenFolder → Served → List Served → Type 0
AreNext folder s [] = Unit {0}
AreNext folder s (t ∷ earlier) = IsNextEdition folder (latest_of s earlier) t × AreNext folder s earlier

-- from an edition to another, along the editions between; or it is the same
pub record IsEditionReached (folder : SeenFolder) (old new : Served) : Type 0 where
  pub editions : List Served
  pub next : AreNext folder old editions
  pub is : new ≡ latest_of old editions
