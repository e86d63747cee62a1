-- Folders at every moment of a publish.
use Rattle.std.specs.Prelude.{◌≡◌, ◌⊎◌, ◌<◌, ℕ, List, [], ◌∷◌, Option, Some, None, option_map, is_some, IfSome, Result, Ok, Err}
use Rattle.editions.specs.Folders.{EditionBytes, FilesSeen, all_files, FolderState, SeenFolder, edition_among, FolderStep, RemoveParts, WriteEdition, SetCurrent, folder_after, IsSameAside, IsDuring}
use Rattle.editions.specs.NumberLines.{number_line}
use Rattle.editions.specs.Sums.{sums_text}
use Rattle.editions.specs.Chains.{EditionView, IsEditionText, IsClearedEdition, IsClearedAgainst}

-- What a sound folder keeps.

-- the edition was cleared against the one of this number, which is there and came before it
pub record IsFollowed (editions : List (ℕ × FilesSeen)) (number : ℕ) (new : EditionView) (k : ℕ) : Type 0 where
  pub before : k < number
  pub bytes : EditionBytes
  pub there : edition_among editions k ≡ Some (all_files bytes)
  pub old : EditionView
  pub text : IsEditionText bytes old
  pub against : IsClearedAgainst old new

-- a new beginning follows none
abbrev pub IsFollowing : List (ℕ × FilesSeen) → ℕ → EditionView → Option ℕ → Type 0
IsFollowing editions number new None = Unit {0}
IsFollowing editions number new (Some k) = IsFollowed editions number new k

-- an edition of this number is whole and was cleared, by itself and against the one that it follows; its sums are right
pub record IsSoundEdition (editions : List (ℕ × FilesSeen)) (number : ℕ) (files : FilesSeen) : Type 0 where
  pub bytes : EditionBytes
  pub whole : files ≡ all_files bytes
  pub sums : bytes.sums ≡ sums_text bytes.base bytes.cert bytes.policy bytes.follows
  pub view : EditionView
  pub text : IsEditionText bytes view
  pub cleared : IsClearedEdition view
  pub following : IsFollowing editions number view view.follows

-- the text of `current` names an edition that is there
pub record NamesEdition (editions : List (ℕ × FilesSeen)) (text : List ℕ) : Type 0 where
  pub number : ℕ
  pub files : FilesSeen
  pub spelled : text ≡ number_line number
  pub there : edition_among editions number ≡ Some files

-- each edition is sound, and `current` names one, or nothing was published yet
pub record IsSoundFolder (f : FolderState) : Type 0 where
  pub each : (number : ℕ) (files : FilesSeen) → edition_among f.editions number ≡ Some files → IsSoundEdition f.editions number files
  pub current : (text : List ℕ) → f.current ≡ Some text → NamesEdition f.editions text

-- no edition changes
abbrev pub KeepsEditions : FolderState → FolderState → Type 0
KeepsEditions old new = (number : ℕ) (files : FilesSeen) → edition_among old.editions number ≡ Some files → edition_among new.editions number ≡ Some files

-- The moments of a publish.

-- parts may be removed; an edition is written under a number that none has, if it is sound; one that is there is made current
abbrev pub IsSafeStep : FolderState → FolderStep → Type 0
IsSafeStep f RemoveParts = Unit {0}
IsSafeStep f (WriteEdition n e) = (edition_among f.editions n ≡ None) × IsSoundEdition f.editions n (all_files e)
IsSafeStep f (SetCurrent n) = (files : FilesSeen) × (edition_among f.editions n ≡ Some files)

-- steps in turn
abbrev pub AreSafeSteps : FolderState → List FolderStep → Type 0
AreSafeSteps f [] = Unit {0}
AreSafeSteps f (step ∷ steps) = IsSafeStep f step × AreSafeSteps (folder_after step f) steps

-- a moment: before these steps, during one, or after all
abbrev pub IsMoment : List FolderStep → FolderState → FolderState → Type 0
IsMoment [] f now = IsSameAside f now
IsMoment (step ∷ steps) f now = IsDuring step f now ⊎ IsMoment steps (folder_after step f) now

-- Whatever stops safe steps, at any moment: the folder is sound, and no edition has changed.
abbrev pub MomentsAreSound : Type 0
MomentsAreSound =
    (steps : List FolderStep) (f now : FolderState) → IsSoundFolder f → AreSafeSteps f steps → IsMoment steps f now → IsSoundFolder now × KeepsEditions f now

-- What a call that takes steps does.

abbrev pub after_steps : List FolderStep → FolderState → FolderState
after_steps [] f = f
after_steps (step ∷ steps) f = after_steps steps (folder_after step f)

-- all steps were taken, or it stopped at some moment
abbrev pub AreTaken : {E : Type 0} → List FolderStep → SeenFolder → SeenFolder → Result (Unit {0}) E → Type 0
AreTaken steps old new (Ok _) = (new.held ≡ old.held) × (new.state ≡ option_map (after_steps steps) old.state)
AreTaken steps old new (Err _) = (new.held ≡ old.held) × (is_some new.state ≡ is_some old.state) × IfSome old.state (λ f. IfSome new.state (IsMoment steps f))

-- the edition is written, and then it is current
abbrev pub publish_steps : ℕ → EditionBytes → List FolderStep
publish_steps n e = WriteEdition n e ∷ SetCurrent n ∷ []

-- what safe steps leave of a sound folder that shows what is in it
abbrev pub StaysSound : List FolderStep → SeenFolder → SeenFolder → Type 0
StaysSound steps old new =
    IfSome old.state (λ f. IsSoundFolder f → AreSafeSteps f steps → IfSome new.state (λ now. IsSoundFolder now × KeepsEditions f now))
