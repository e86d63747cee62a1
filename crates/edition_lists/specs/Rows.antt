-- The rows of a list of editions.
use Rattle.std.specs.Prelude.{◌≡◌, ℕ, Bool, true, false, if◌then◌else◌, List, map, Option, Some, None}
use Rattle.std.specs.List.{All}
use Rattle.editions.specs.Folders.{FolderState}
use Rattle.base_differences.specs.Summaries.{summary}
use Rattle.frame_records.specs.Bases.{BaseView}
use Rattle.edition_lists.specs.declared.current.FoundCurrent.{FoundCurrent}
use Rattle.edition_lists.specs.declared.current.FoundCurrent.TheVariants.{Unread}
use Rattle.edition_lists.specs.declared.kept.KeptEdition.{KeptEdition}
use Rattle.edition_lists.specs.declared.rows.EditionRow.{EditionRow}
use Rattle.edition_lists.specs.Kept.{IsKeptEdition}
use Rattle.edition_lists.specs.Judged.{AreNumbersOf}
use Rattle.edition_lists.specs.Currents.{is_among, found_current, served_of}
use Rattle.edition_lists.specs.Servings.{serving_of}

-- a number, if no edition has it
abbrev pub unless_there : List ℕ → ℕ → Option ℕ
unless_there numbers k = if is_among numbers k then None else Some k

-- what an edition follows, if that isn't there
abbrev pub lack_of : List ℕ → Option ℕ → Option ℕ
lack_of numbers None = None
lack_of numbers (Some k) = unless_there numbers k

-- the row of an edition that was read, by the numbers of all editions and the one that is served
pub record IsRowOf (numbers : List ℕ) (served : Option ℕ) (e : KeptEdition) (row : EditionRow) : Type 0 where
  pub number : row.number ≡ e.served.number
  pub serving : row.serving ≡ serving_of served e.served.number e.follows
  pub follows : row.follows ≡ e.follows
  pub lacks : row.lacks ≡ lack_of numbers e.follows
  pub old : Option BaseView
  pub summary : row.summary.items ≡ summary old e.served.base

-- the row of an edition of a folder
pub record IsRowIn (f : FolderState) (numbers : List ℕ) (served : Option ℕ) (row : EditionRow) : Type 0 where
  pub edition : KeptEdition
  pub kept : IsKeptEdition f edition
  pub is : IsRowOf numbers served edition row

-- a row for each of some numbers, in their order
pub record AreEditionRows (f : FolderState) (numbers : List ℕ) (served : Option ℕ) (some : List ℕ) (rows : List EditionRow) : Type 0 where
  pub named : map (λ r. r.number) rows ≡ some
  pub are : All (IsRowIn f numbers served) rows

-- whether `current` names a number, or there is no such file
abbrev pub is_read : FoundCurrent → Bool
is_read Unread = false
is_read current = true

-- a row for each edition of a folder
pub record AreListedIn (f : FolderState) (numbers : List ℕ) (rows : List EditionRow) : Type 0 where
  pub all : AreNumbersOf f numbers
  pub current : FoundCurrent
  pub named : current ≡ found_current numbers f.current
  pub read : is_read current ≡ true
  pub each : AreEditionRows f numbers (served_of current numbers) numbers rows
