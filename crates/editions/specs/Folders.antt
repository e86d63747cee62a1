-- A folder of editions: what is in it, and the steps of a publish.
use Rattle.std.specs.Prelude.{◌≡◌, ◌⊎◌, ◌+◌, ℕ, max, nat_lt, Bool, true, List, [], ◌∷◌, ◌++◌, Option, Some, None, Result, Ok, Err, Vec, option_map, is_some, nat_eq, if◌then◌else◌, IfSome, map, ◌<◌, ◌≤◌}
use Rattle.std.specs.declared.alloc.Global.{Global}
use Rattle.editions.specs.declared.edition_file.EditionFile.{EditionFile}
use Rattle.editions.specs.declared.edition_file.EditionFile.TheVariants.{Base, Cert, Policy, Follows, Sums}
use Rattle.editions.specs.NumberLines.{number_line, follows_text}
use Rattle.editions.specs.Sums.{sums_text}
use Rattle.editions.specs.declared.limits.TheConstants.{MOST_EDITION}

-- What contracts see of a folder.

-- the bytes of an edition's files
pub record EditionBytes : Type 0 where
  pub base : List ℕ
  pub cert : List ℕ
  pub policy : List ℕ
  pub follows : List ℕ
  pub sums : List ℕ

-- an edition of a base, a certificate and a policy, with the sums
abbrev pub edition_bytes : List ℕ → List ℕ → List ℕ → Option ℕ → EditionBytes
edition_bytes base cert policy follows = record {
  base = base;
  cert = cert;
  policy = policy;
  follows = follows_text follows;
  sums = sums_text base cert policy (follows_text follows);
}

-- the files of an edition as they are in a folder: each may be missing
pub record FilesSeen : Type 0 where
  pub base : Option (List ℕ)
  pub cert : Option (List ℕ)
  pub policy : Option (List ℕ)
  pub follows : Option (List ℕ)
  pub sums : Option (List ℕ)

-- all five are there
abbrev pub all_files : EditionBytes → FilesSeen
all_files e = record { base = Some e.base; cert = Some e.cert; policy = Some e.policy; follows = Some e.follows; sums = Some e.sums }

-- one of them
abbrev pub file_seen : EditionFile → FilesSeen → Option (List ℕ)
file_seen Base files = files.base
file_seen Cert files = files.cert
file_seen Policy files = files.policy
file_seen Follows files = files.follows
file_seen Sums files = files.sums

-- the editions by their numbers, the numbers of the parts that a stop left, and the files `current` and `policy.toml`, if there
pub record FolderState : Type 0 where
  pub editions : List (ℕ × FilesSeen)
  pub parts : List ℕ
  pub current : Option (List ℕ)
  pub policy : Option (List ℕ)

-- what is in a folder, if it shows that, and whether its lock is held
pub record SeenFolder : Type 0 where
  pub state : Option FolderState
  pub held : Bool

-- the edition of a number, among some
abbrev pub edition_among : List (ℕ × FilesSeen) → ℕ → Option FilesSeen
edition_among [] n = None
edition_among (e ∷ editions) n = if nat_eq e.0 n then Some e.1 else edition_among editions n

-- a file of the edition of a number
abbrev pub file_of : Option FilesSeen → EditionFile → Option (List ℕ)
file_of None file = None
file_of (Some files) file = file_seen file files

abbrev pub file_at : FolderState → ℕ → EditionFile → Option (List ℕ)
file_at f n file = file_of (edition_among f.editions n) file

-- the greatest of some numbers, or 0
abbrev pub greatest : List ℕ → ℕ
greatest [] = 0
greatest (n ∷ numbers) = max n (greatest numbers)

-- the number of the next edition: one more than the greatest, if there is one
abbrev pub next_number : List ℕ → Option ℕ
next_number numbers = if nat_lt (greatest numbers) MOST_EDITION then Some (greatest numbers + 1) else None

-- What a call of a reader does.

-- the list of a vector that may be missing
abbrev pub list_seen : Option (Vec ℕ Global) → Option (List ℕ)
list_seen bytes = option_map (λ v. v.items) bytes

-- while the lock is held nobody else changes anything; else others may publish between two calls
pub record IsLater (old new : SeenFolder) : Type 0 where
  pub held : new.held ≡ old.held
  pub same : old.held ≡ true → new.state ≡ old.state

-- what was read is there now, if the folder shows what is in it
abbrev pub ShowsFile : SeenFolder → (FolderState → Option (List ℕ)) → Option (Vec ℕ Global) → Type 0
ShowsFile seen file bytes = IfSome seen.state (λ f. list_seen bytes ≡ file f)

-- What a call of a writer does.

-- the steps of a publish
pub data FolderStep : Type 0 where
  RemoveParts : FolderStep
  WriteEdition : (number : ℕ) (edition : EditionBytes) → FolderStep
  SetCurrent : (number : ℕ) → FolderStep

-- the folder after a step
abbrev pub folder_after : FolderStep → FolderState → FolderState
folder_after RemoveParts f = record { editions = f.editions; parts = []; current = f.current; policy = f.policy }
folder_after (WriteEdition n e) f = record { editions = f.editions ++ (n, all_files e) ∷ []; parts = f.parts; current = f.current; policy = f.policy }
folder_after (SetCurrent n) f = record { editions = f.editions; parts = f.parts; current = Some (number_line n); policy = f.policy }

-- the same but for the parts
pub record IsSameAside (old new : FolderState) : Type 0 where
  pub editions : new.editions ≡ old.editions
  pub current : new.current ≡ old.current
  pub policy : new.policy ≡ old.policy

-- at any moment during a step: only parts differ from the folder before the step, or from the folder after it
abbrev pub IsDuring : FolderStep → FolderState → FolderState → Type 0
IsDuring step old now = IsSameAside old now ⊎ IsSameAside (folder_after step old) now

-- a step that was done, or that stopped at some moment
abbrev pub TakesStep : {E : Type 0} → FolderStep → SeenFolder → SeenFolder → Result (Unit {0}) E → Type 0
TakesStep step old new (Ok _) = (new.held ≡ old.held) × (new.state ≡ option_map (folder_after step) old.state)
TakesStep step old new (Err _) = (new.held ≡ old.held) × (is_some new.state ≡ is_some old.state) × IfSome old.state (λ f. IfSome new.state (IsDuring step f))

-- no edition has the next number, and all numbers are smaller
pub record IsNewNumber (editions : List (ℕ × FilesSeen)) (n : ℕ) : Type 0 where
  pub free : edition_among editions n ≡ None
  pub most : n ≤ MOST_EDITION
  pub smaller : (k : ℕ) (files : FilesSeen) → edition_among editions k ≡ Some files → k < n

abbrev pub NextIsNew : Type 0
NextIsNew = (editions : List (ℕ × FilesSeen)) (n : ℕ) → next_number (map (λ e. e.0) editions) ≡ Some n → IsNewNumber editions n
