-- What the runs print.
use Rattle.std.specs.Prelude.{◌≡◌, ℕ, List, Result, Ok, Err, IfSome}
use Rattle.devices.specs.Devices.{Seen, WroteWhole, WrotePart}
use Rattle.editions.specs.Folders.{SeenFolder}
use Rattle.edition_lists.specs.declared.current.FoundCurrent.{FoundCurrent}
use Rattle.edition_lists.specs.declared.fault.EditionsFault.{EditionsFault}
use Rattle.edition_lists.specs.declared.fault.EditionsFault.TheVariants.{Folder, Write}
use Rattle.edition_lists.specs.declared.finding.EditionFinding.{EditionFinding}
use Rattle.edition_lists.specs.declared.rows.EditionRow.{EditionRow}
use Rattle.edition_lists.specs.declared.status.EditionsStatus.{EditionsStatus}
use Rattle.edition_lists.specs.declared.status.EditionsStatus.TheVariants.{Listed}
use Rattle.edition_lists.specs.Findings.{IsFoundIn, IsSaidOf}
use Rattle.edition_lists.specs.ListLines.{list_text}
use Rattle.edition_lists.specs.Rows.{AreListedIn}

-- the text and the status are those of what is found in the folder
pub record IsVerification (seen : SeenFolder) (folder text : List ℕ) (status : EditionsStatus) : Type 0 where
  pub numbers : List ℕ
  pub current : FoundCurrent
  pub findings : List EditionFinding
  pub found : IfSome seen.state (λ f. IsFoundIn f numbers current findings)
  pub said : IsSaidOf folder numbers current findings text status

-- the text is that of the rows of the folder's editions
pub record IsEditionsText (seen : SeenFolder) (text : List ℕ) (status : EditionsStatus) : Type 0 where
  pub numbers : List ℕ
  pub rows : List EditionRow
  pub listed : IfSome seen.state (λ f. AreListedIn f numbers rows)
  pub text_is : text ≡ list_text numbers rows
  pub status_is : status ≡ Listed

-- such a text was written whole
pub record IsWrittenWhole (Is : List ℕ → EditionsStatus → Type 0) (old new : Seen) (status : EditionsStatus) : Type 0 where
  pub text : List ℕ
  pub is : Is text status
  pub wrote : WroteWhole old new text

-- or only its first bytes
pub record IsCut (Is : List ℕ → EditionsStatus → Type 0) (old new : Seen) (count : ℕ) : Type 0 where
  pub text : List ℕ
  pub status : EditionsStatus
  pub is : Is text status
  pub wrote : WrotePart old new text count

-- a run writes such a text; if the folder isn't read it writes nothing
abbrev pub IsRun : (List ℕ → EditionsStatus → Type 0) → Seen → Seen → Result EditionsStatus EditionsFault → Type 0
IsRun Is old new (Ok status) = IsWrittenWhole Is old new status
IsRun Is old new (Err (Write count)) = IsCut Is old new count
IsRun Is old new (Err (Folder fault)) = new ≡ old
