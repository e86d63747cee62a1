-- What contracts see of a device, and what the calls of sources and sinks do.
use Rattle.std.specs.Prelude.{◌≡◌, ◌≤◌, ◌<◌, ◌++◌, ◌+◌, ◌==◌, if◌then◌else◌, min, ℕ, Bool, true, false, List, Option, length, take, IfOk, MatchResult, Result}
use Rattle.std.specs.Io.KnownBytes.{Consumes, Appends, IsAtEnd}
use Rattle.devices.specs.declared.reading.SourceFault.{SourceFault}
use Rattle.devices.specs.declared.reading.SourceFault.TheVariants.{Broken, Memory}

-- the bytes that a source still has, or that a sink has taken, if the device shows them; whether a call has returned an error;
-- and how often a sink was flushed, a count that stops at 255
pub record Seen : Type 0 where
  pub bytes : Option (List ℕ)
  pub failed : Bool
  pub flushes : ℕ

-- one more in that count
abbrev pub one_more : ℕ → ℕ
one_more n = min (n + 1) 255

-- an error sets the flag for good, and a success leaves it unchanged
abbrev pub Flags : {A E : Type 0} → Seen → Seen → Result A E → Type 0
Flags old new r = MatchResult r (λ _. new.failed ≡ old.failed) (λ _. new.failed ≡ true)

-- at most all of the bytes, and at least the first if there is one
abbrev pub WritesSome : {E : Type 0} → Result ℕ E → List ℕ → Type 0
WritesSome r bytes = IfOk r (λ n. (n ≤ length bytes) × (0 < length bytes → 0 < n))

-- bytes that the source gave, at most the limit; fewer are all that it had
pub record IsWholeRead (limit : ℕ) (old new : Seen) (bytes : List ℕ) : Type 0 where
  pub within : length bytes ≤ limit
  pub given : Consumes old.bytes new.bytes bytes
  pub all : length bytes < limit → IsAtEnd new.bytes

-- a read failed after fewer bytes than the limit
pub record BrokeWithin (limit : ℕ) (old new : Seen) : Type 0 where
  pub bytes : List ℕ
  pub within : length bytes < limit
  pub given : Consumes old.bytes new.bytes bytes
  pub broken : new.failed ≡ true

-- no read failed, and no more bytes than the limit were taken
pub record TookWithin (limit : ℕ) (old new : Seen) : Type 0 where
  pub bytes : List ℕ
  pub within : length bytes ≤ limit
  pub given : Consumes old.bytes new.bytes bytes
  pub unbroken : new.failed ≡ false

-- the fault is Broken if a read failed, and Memory if none did
abbrev pub IsSourceFault : ℕ → Seen → Seen → SourceFault → Type 0
IsSourceFault limit old new Broken = BrokeWithin limit old new
IsSourceFault limit old new Memory = TookWithin limit old new

-- the sink took all of the bytes, was not flushed and has not failed
pub record TookAll (old new : Seen) (bytes : List ℕ) : Type 0 where
  pub taken : Appends old.bytes new.bytes bytes
  pub unbroken : new.failed ≡ false
  pub unflushed : new.flushes ≡ old.flushes

-- the first bytes of a text: the sink took `wrote` of them, and the others are kept
pub record IsOnItsWay (old new : Seen) (kept : List ℕ) (wrote : ℕ) (text : List ℕ) : Type 0 where
  pub front : List ℕ
  pub all : text ≡ front ++ kept
  pub counted : length front ≡ wrote
  pub took : TookAll old new front

-- the sink took all of the bytes, was flushed once and has not failed
pub record WroteWhole (old new : Seen) (bytes : List ℕ) : Type 0 where
  pub taken : Appends old.bytes new.bytes bytes
  pub unbroken : new.failed ≡ false
  pub flushed : new.flushes ≡ one_more old.flushes

-- the sink took the first n of the bytes and failed: at its one flush if these are all, and before it if not
pub record WrotePart (old new : Seen) (bytes : List ℕ) (n : ℕ) : Type 0 where
  pub within : n ≤ length bytes
  pub taken : Appends old.bytes new.bytes (take n bytes)
  pub broken : new.failed ≡ true
  pub flushed : new.flushes ≡ (if n == length bytes then one_more old.flushes else old.flushes)
