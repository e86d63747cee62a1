-- Facts that hold between the turns of loops, and what functions that aren't exported say. No promise rests on them.
use Rattle.std.specs.Prelude.{◌≡◌, ◌≤◌, ◌++◌, ℕ, List, length, ◌<◌, true, take}
use Rattle.std.specs.Io.KnownBytes.{Consumes, IsAtEnd, Appends}
use Rattle.devices.specs.Devices.{Seen}

-- One piece of a text that is read, and one that is written in part.

-- n bytes, no more than asked for, were taken from the source and appended; none is the end
abbrev pub IsPieceRead : ℕ → Seen → Seen → List ℕ → List ℕ → ℕ → Type 0
IsPieceRead most old new before after n =
    (piece : List ℕ) × (length piece ≡ n) × (n ≤ most) × (after ≡ before ++ piece) × Consumes old.bytes new.bytes piece × (n ≡ 0 → IsAtEnd new.bytes)

-- the sink took the first n of the bytes, but not all, was not flushed and failed
pub record TookPart (old new : Seen) (bytes : List ℕ) (n : ℕ) : Type 0 where
  pub short : n < length bytes
  pub taken : Appends old.bytes new.bytes (take n bytes)
  pub broken : new.failed ≡ true
  pub unflushed : new.flushes ≡ old.flushes
