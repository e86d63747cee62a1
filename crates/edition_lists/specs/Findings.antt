-- What is found of the editions of a folder.
use Rattle.std.specs.Prelude.{◌≡◌, ℕ, Bool, true, false, ◌&&◌, if◌then◌else◌, List, map, Option, is_none}
use Rattle.std.specs.List.{All, list_all}
use Rattle.editions.specs.Folders.{FolderState}
use Rattle.edition_lists.specs.declared.current.FoundCurrent.{FoundCurrent}
use Rattle.edition_lists.specs.declared.current.FoundCurrent.TheVariants.{Nothing, Edition, Lacking, Unread}
use Rattle.edition_lists.specs.declared.finding.EditionFinding.{EditionFinding}
use Rattle.edition_lists.specs.declared.finding.EditionNote.{EditionNote}
use Rattle.edition_lists.specs.declared.finding.EditionNote.TheVariants as note
use Rattle.edition_lists.specs.declared.status.EditionsStatus.{EditionsStatus}
use Rattle.edition_lists.specs.declared.status.EditionsStatus.TheVariants.{Cleared, Refused}
use Rattle.edition_lists.specs.Currents.{found_current, served_of}
use Rattle.edition_lists.specs.VerifyLines.{verify_text}
use Rattle.edition_lists.specs.Forks.{first_fork}
use Rattle.edition_lists.specs.Judged.{IsRightNumber, AreNumbersOf}

abbrev pub is_right_note : EditionNote → Bool
is_right_note (note.Right follows) = true
is_right_note (note.Wrong flaw) = false

abbrev pub is_right : EditionFinding → Bool
is_right x = is_right_note x.note

-- what is found of the edition of a number is so, by the numbers of all editions and the one that is served
abbrev pub IsEditionNote : FolderState → List ℕ → Option ℕ → ℕ → EditionNote → Type 0
IsEditionNote f numbers served n (note.Right follows) = IsRightNumber f numbers served n follows
IsEditionNote f numbers served n (note.Wrong flaw) = Unit {0}

abbrev pub IsEditionFinding : FolderState → List ℕ → Option ℕ → EditionFinding → Type 0
IsEditionFinding f numbers served x = IsEditionNote f numbers served x.number x.note

-- a finding for each of some numbers, in their order
pub record AreFindings (f : FolderState) (numbers : List ℕ) (served : Option ℕ) (some : List ℕ) (findings : List EditionFinding) : Type 0 where
  pub named : map (λ x. x.number) findings ≡ some
  pub are : All (IsEditionFinding f numbers served) findings

-- whether `current` names an edition that is there, or there is no such file
abbrev pub is_right_current : FoundCurrent → Bool
is_right_current Nothing = true
is_right_current (Edition n) = true
is_right_current (Lacking n) = false
is_right_current Unread = false

-- whether all is right
abbrev pub is_all_right : FoundCurrent → List EditionFinding → Bool
is_all_right current findings = (is_right_current current && list_all is_right findings) && is_none (first_fork 0 findings)

abbrev pub verify_status : FoundCurrent → List EditionFinding → EditionsStatus
verify_status current findings = if is_all_right current findings then Cleared else Refused

-- all that is found in a folder
pub record IsFoundIn (f : FolderState) (numbers : List ℕ) (current : FoundCurrent) (findings : List EditionFinding) : Type 0 where
  pub all : AreNumbersOf f numbers
  pub named : current ≡ found_current numbers f.current
  pub each : AreFindings f numbers (served_of current numbers) numbers findings

-- the text and the status of what was found
pub record IsSaidOf (folder numbers : List ℕ) (current : FoundCurrent) (findings : List EditionFinding) (text : List ℕ) (status : EditionsStatus) : Type 0 where
  pub text_is : text ≡ verify_text folder current (served_of current numbers) findings status
  pub status_is : status ≡ verify_status current findings
