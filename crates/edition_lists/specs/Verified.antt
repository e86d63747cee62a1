-- What is found in a folder.
use Rattle.std.specs.Prelude.{◌≡◌, ◌<◌, ◌≤◌, ◌⊎◌, ℕ, List, Option, Some, None, option_map}
use Rattle.editions.specs.Folders.{FilesSeen, FolderState, edition_among}
use Rattle.editions.specs.NumberLines.{number_line, follows_in}
use Rattle.editions.specs.Moments.{IsSoundFolder}

-- no edition has a greater number
abbrev pub IsLastNumber : List (ℕ × FilesSeen) → ℕ → Type 0
IsLastNumber editions n = (k : ℕ) (files : FilesSeen) → edition_among editions k ≡ Some files → k ≤ n

-- an edition isn't after the one that is served; or it is the last and follows that one: a stop left it, and it isn't
-- served yet
abbrev pub IsNotAfter : List (ℕ × FilesSeen) → Option ℕ → ℕ → ℕ → Type 0
IsNotAfter editions None n k = ⊥
IsNotAfter editions (Some served) n k = (n ≤ served) ⊎ ((k ≡ served) × IsLastNumber editions n)

-- the same of each edition that follows one; a new beginning may be after the one that is served
abbrev pub IsNotPassed : List (ℕ × FilesSeen) → Option ℕ → ℕ → Option ℕ → Type 0
IsNotPassed editions served n None = Unit {0}
IsNotPassed editions served n (Some k) = IsNotAfter editions served n k

-- `current` names an edition or isn't there; no edition has passed that one, but for a new beginning
pub record IsServedLast (f : FolderState) : Type 0 where
  pub served : Option ℕ
  pub named : f.current ≡ option_map number_line served
  pub last : (n : ℕ) (files : FilesSeen) (text : List ℕ) (follows : Option ℕ) → edition_among f.editions n ≡ Some files
      → files.follows ≡ Some text → follows_in text ≡ Some follows → IsNotPassed f.editions served n follows

-- an edition of this number is there, and its text says that it follows that one
pub record FollowsOne (f : FolderState) (n k : ℕ) : Type 0 where
  pub files : FilesSeen
  pub text : List ℕ
  pub there : edition_among f.editions n ≡ Some files
  pub is : files.follows ≡ Some text
  pub says : follows_in text ≡ Some (Some k)

-- what an edition follows isn't before another one that follows an edition and comes before it: so no two follow the
-- same one
abbrev pub IsUnforked : FolderState → Type 0
IsUnforked f = (m j n k : ℕ) → FollowsOne f m j → FollowsOne f n k → m < n → m ≤ k

-- each edition is whole, has the sums of its files, and was cleared, by itself and against the one that it follows,
-- which is there; no two follow the same one; and the one that `current` names is the last, or nothing is published, but
-- for what `IsServedLast` allows
pub record IsVerifiedFolder (f : FolderState) : Type 0 where
  pub sound : IsSoundFolder f
  pub unforked : IsUnforked f
  pub last : IsServedLast f
