-- What functions that aren't exported say. No promise rests on it.
use Rattle.std.specs.Prelude.{ℕ, Bool, List}
use Rattle.frame_records.specs.Bases.{BaseView}
use Rattle.base_text.specs.declared.listed.Listed.{Listed}
use Rattle.screen_files.specs.declared.filed.Filed.{Filed}
use Rattle.frame_edits.specs.declared.merging.MergeFault.{MergeFault}
use Rattle.frame_edits.specs.declared.merging.MergeFault.TheVariants.{TooLong, Overlap, Memory, Unread, Spoilt}
use Rattle.frame_edits.specs.Merging.{AreRefused, IsTextRefused}

-- why a text that lists frames doesn't get others, if memory isn't refused
abbrev pub IsRefusalIn : List ℕ → BaseView → List Listed → Bool → List Filed → MergeFault → Type 0
IsRefusalIn text base listed guessed frames Memory = Unit {0}
IsRefusalIn text base listed guessed frames (TooLong file) = IsTextRefused text base listed guessed frames (TooLong file)
IsRefusalIn text base listed guessed frames Overlap = IsTextRefused text base listed guessed frames Overlap
IsRefusalIn text base listed guessed frames (Unread fault) = ⊥
IsRefusalIn text base listed guessed frames (Spoilt fault) = ⊥

-- a text that is a base is refused only for its edits
abbrev pub IsRefusal : List ℕ → Bool → List Filed → MergeFault → Type 0
IsRefusal text guessed frames Memory = Unit {0}
IsRefusal text guessed frames (TooLong file) = AreRefused text guessed frames (TooLong file)
IsRefusal text guessed frames Overlap = AreRefused text guessed frames Overlap
IsRefusal text guessed frames (Unread fault) = ⊥
IsRefusal text guessed frames (Spoilt fault) = ⊥
