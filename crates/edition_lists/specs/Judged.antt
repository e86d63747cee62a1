-- How editions are judged.
use Rattle.std.specs.Prelude.{◌≡◌, ◌<◌, ◌≤◌, ◌⊎◌, ℕ, List, Option, Some, None, map}
use Rattle.std.specs.List.{All}
use Rattle.std.specs.List.Sorted.{IsPermutation, IsNonDecreasing}
use Rattle.editions.specs.declared.edition_file.EditionFile.TheVariants.{Cert}
use Rattle.editions.specs.Folders.{FolderState, file_at}
use Rattle.editions.specs.NumberLines.{follows_text}
use Rattle.editions.specs.Sums.{sums_text}
use Rattle.editions.specs.Chains.{EditionView, IsClearedEdition, IsClearedAgainst}
use Rattle.edition_checks.specs.Served.{served_view}
use Rattle.edition_lists.specs.declared.kept.KeptEdition.{KeptEdition}
use Rattle.edition_lists.specs.Kept.{IsKeptEdition}

abbrev pub kept_view : KeptEdition → EditionView
kept_view e = served_view e.follows e.served

-- its SHA256SUMS has the sums of its other files
pub record HasItsSums (f : FolderState) (e : KeptEdition) : Type 0 where
  pub cert : List ℕ
  pub there : file_at f e.served.number Cert ≡ Some cert
  pub are : e.sums.items ≡ sums_text e.served.base_text.items cert e.served.policy_text.items (follows_text e.follows)

-- it has its own sums, and the check clears it
pub record IsSealed (f : FolderState) (e : KeptEdition) : Type 0 where
  pub sums : HasItsSums f e
  pub cleared : IsClearedEdition (kept_view e)

-- the edition of this number is there, comes before it, and the change from that one is cleared
pub record IsAfterKept (f : FolderState) (e : KeptEdition) (k : ℕ) : Type 0 where
  pub before : k < e.served.number
  pub old : KeptEdition
  pub named : old.served.number ≡ k
  pub kept : IsKeptEdition f old
  pub against : IsClearedAgainst (kept_view old) (kept_view e)

-- the same of what it follows, if it follows one
abbrev pub IsFollowingKept : FolderState → KeptEdition → Option ℕ → Type 0
IsFollowingKept f e None = Unit {0}
IsFollowingKept f e (Some k) = IsAfterKept f e k

-- the edition that is served isn't passed by one that follows this one, by the numbers of all editions
abbrev pub IsNumberWithin : List ℕ → ℕ → ℕ → ℕ → Type 0
IsNumberWithin numbers served n k = (n ≤ served) ⊎ ((k ≡ served) × All (λ m. m ≤ n) numbers)

abbrev pub IsWithinNumbers : List ℕ → Option ℕ → ℕ → Option ℕ → Type 0
IsWithinNumbers numbers served n None = Unit {0}
IsWithinNumbers numbers None n (Some k) = ⊥
IsWithinNumbers numbers (Some served) n (Some k) = IsNumberWithin numbers served n k

-- an edition that was read is right, by the numbers of all editions and the one that is served
pub record IsJudgedRight (f : FolderState) (numbers : List ℕ) (served : Option ℕ) (e : KeptEdition) : Type 0 where
  pub own : IsSealed f e
  pub follows : IsFollowingKept f e e.follows
  pub within : IsWithinNumbers numbers served e.served.number e.follows

-- the same of a folder; and that it follows this one
pub record IsRightNumber (f : FolderState) (numbers : List ℕ) (served : Option ℕ) (number : ℕ) (follows : Option ℕ) : Type 0 where
  pub edition : KeptEdition
  pub named : edition.served.number ≡ number
  pub says : edition.follows ≡ follows
  pub kept : IsKeptEdition f edition
  pub right : IsJudgedRight f numbers served edition

-- the numbers of all editions, ascending
pub record AreNumbersOf (f : FolderState) (numbers : List ℕ) : Type 0 where
  pub all : IsPermutation (map (λ e. e.0) f.editions) numbers
  pub ascending : IsNonDecreasing numbers
