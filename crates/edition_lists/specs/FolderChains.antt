-- The chains of a sound folder.
use Rattle.std.specs.Prelude.{◌≡◌, ℕ, List, [], ◌∷◌, map, Option, Some}
use Rattle.checker.specs.Change.{IsSafeOverChanges, IsSafeChange}
use Rattle.editions.specs.Folders.{EditionBytes, all_files, FolderState, edition_among}
use Rattle.editions.specs.Chains.{EditionView, ServedEdition, IsEditionText, IsClearedEdition, wider_of, widest_of}
use Rattle.editions.specs.Moments.{IsSoundFolder}

-- an edition by its number
pub record ChainedEdition : Type 0 where
  pub number : ℕ
  pub edition : ServedEdition

abbrev pub chained_view : Option ℕ → ChainedEdition → EditionView
chained_view follows e = record { base = e.edition.edition.base; cert = e.edition.edition.cert; policy = e.edition.policy; follows = follows }

-- the texts of the edition of this number mean this base, certificate and policy, and that it follows this one
pub record IsInFolder (f : FolderState) (follows : Option ℕ) (e : ChainedEdition) : Type 0 where
  pub bytes : EditionBytes
  pub there : edition_among f.editions e.number ≡ Some (all_files bytes)
  pub text : IsEditionText bytes (chained_view follows e)

-- editions of a folder, each of which follows the one before it
abbrev pub AreAfter : FolderState → ChainedEdition → List ChainedEdition → Type 0
AreAfter f e [] = Unit {0}
AreAfter f e (g ∷ more) = IsInFolder f (Some e.number) g × AreAfter f g more

abbrev pub IsFolderChain : FolderState → ChainedEdition → List ChainedEdition → Type 0
IsFolderChain f e more = ((follows : Option ℕ) × IsInFolder f follows e) × AreAfter f e more

-- callers are safe over any number of changes along a chain, from whichever edition on, by the widest policy of these
-- callers
abbrev pub AreChainsSafe : FolderState → Type 0
AreChainsSafe f =
    (first second : ChainedEdition) (more : List ChainedEdition) → IsFolderChain f first (second ∷ more)
    → IsSafeOverChanges (widest_of first.edition.policy.groups) first.edition.edition
    (second.edition.edition ∷ map (λ e. e.edition.edition) more)

-- In a sound folder: the check clears each edition of a chain by its own policy; callers are safe over each change, by
-- the wider of the two policies; and over any number of changes, from whichever edition on, by the widest policy of
-- these callers.
pub record SoundFoldersAreSafe : Type 0 where
  pub cleared : (f : FolderState) (follows : Option ℕ) (e : ChainedEdition) → IsSoundFolder f → IsInFolder f follows e
      → IsClearedEdition (chained_view follows e)
  pub change : (f : FolderState) (old new : ChainedEdition) → IsSoundFolder f → IsFolderChain f old (new ∷ [])
      → IsSafeChange (wider_of old.edition.policy new.edition.policy) old.edition.edition.base old.edition.edition.cert
      new.edition.edition.base new.edition.edition.cert
  pub changes : (f : FolderState) → IsSoundFolder f → AreChainsSafe f
