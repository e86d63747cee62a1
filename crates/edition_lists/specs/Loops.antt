-- What private functions say.
use Rattle.std.specs.Prelude.{◌≡◌, ◌++◌, ◌∷◌, [], ℕ, List, Option, Some, None, Result, Ok, Err, IfSome}
use Rattle.devices.specs.Devices.{Seen, WroteWhole, WrotePart}
use Rattle.editions.specs.Folders.{FilesSeen, FolderState, SeenFolder, edition_among}
use Rattle.editions.specs.Moments.{IsSoundEdition}
use Rattle.edition_lists.specs.declared.fault.EditionsFault.{EditionsFault}
use Rattle.edition_lists.specs.declared.fault.EditionsFault.TheVariants.{Folder, Write}
use Rattle.edition_lists.specs.declared.finding.EditionFinding.{EditionFinding}
use Rattle.edition_lists.specs.declared.finding.EditionNote.{EditionNote}
use Rattle.edition_lists.specs.declared.finding.EditionNote.TheVariants as note
use Rattle.edition_lists.specs.declared.judging.JudgedEdition.{JudgedEdition}
use Rattle.edition_lists.specs.declared.judging.JudgedEdition.TheVariants as judged
use Rattle.edition_lists.specs.declared.kept.KeptEdition.{KeptEdition}
use Rattle.edition_lists.specs.declared.rows.EditionRow.{EditionRow}
use Rattle.edition_lists.specs.declared.status.EditionsStatus.{EditionsStatus}
use Rattle.edition_lists.specs.Kept.{IsKeptEdition}
use Rattle.edition_lists.specs.Judged.{IsJudgedRight}
use Rattle.edition_lists.specs.Rows.{IsRowOf}
use Rattle.edition_lists.specs.Verified.{IsNotPassed}

-- if an edition is right: of it
abbrev pub IfRight : JudgedEdition → (KeptEdition → Type 0) → Type 0
IfRight (judged.Right e) P = P e
IfRight (judged.Wrong fault) P = Unit {0}

-- the edition of this number was read and is right
pub record IsRightNow (seen : SeenFolder) (numbers : List ℕ) (served : Option ℕ) (number : ℕ) (e : KeptEdition) : Type 0 where
  pub named : e.served.number ≡ number
  pub kept : IfSome seen.state (λ f. IsKeptEdition f e)
  pub right : IfSome seen.state (λ f. IsJudgedRight f numbers served e)

-- an edition of this number is there and sound, and the one that is served isn't passed by it
pub record IsRightEdition (f : FolderState) (served : Option ℕ) (n : ℕ) : Type 0 where
  pub files : FilesSeen
  pub there : edition_among f.editions n ≡ Some files
  pub sound : IsSoundEdition f.editions n files
  pub passed : IsNotPassed f.editions served n sound.view.follows

-- what was read before, if anything was
abbrev pub IsKeptBefore : SeenFolder → Option KeptEdition → Type 0
IsKeptBefore seen before = IfSome before (λ e. IfSome seen.state (λ f. IsKeptEdition f e))

-- a row was added for an edition
pub record AddsRow (numbers : List ℕ) (served : Option ℕ) (e : KeptEdition) (old new : List EditionRow) : Type 0 where
  pub row : EditionRow
  pub is : IsRowOf numbers served e row
  pub added : new ≡ old ++ row ∷ []

-- this text was written, or only its first bytes
abbrev pub IsSaid : Seen → Seen → List ℕ → EditionsStatus → Result EditionsStatus EditionsFault → Type 0
IsSaid old new text status (Ok s) = WroteWhole old new text × (s ≡ status)
IsSaid old new text status (Err (Write count)) = WrotePart old new text count
IsSaid old new text status (Err (Folder fault)) = ⊥

-- what is found of an edition that was judged
abbrev pub note_of : JudgedEdition → EditionNote
note_of (judged.Right e) = note.Right e.follows
note_of (judged.Wrong flaw) = note.Wrong flaw

abbrev pub finding_with : ℕ → JudgedEdition → EditionFinding
finding_with n j = record { number = n; note = note_of j }

-- the edition that was read, if it is right
abbrev pub kept_if_right : JudgedEdition → Option KeptEdition
kept_if_right (judged.Right e) = Some e
kept_if_right (judged.Wrong flaw) = None
