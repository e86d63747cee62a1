-- A source that fails after some bytes were read.
use Rattle.std.proofs.Common.{◌≤◌, ◌-◌, ℕ, List, ◌++◌, length, arith, length-append}
use Rattle.std.specs.Io.KnownBytes.{Consumes}
use Rattle.std.proofs.KnownBytes.{Consumes-trans}
use Rattle.devices.specs.declared.reading.SourceFault.{SourceFault}
use Rattle.devices.specs.declared.reading.SourceFault.TheVariants.{Broken, Memory}
use Rattle.devices.specs.Devices.{Seen, IsSourceFault}

module _ (limit : ℕ) (old mid new : Seen) (bytes : List ℕ) where
  pub fault_after : (fault : SourceFault) → length bytes ≤ limit → Consumes old.bytes mid.bytes bytes → IsSourceFault (limit - length bytes) mid new fault → IsSourceFault limit old new fault
  fault_after Broken within given h = record {
    bytes = bytes ++ h.bytes;
    within = omega (arith, length-append bytes h.bytes, within, h.within);
    given = Consumes-trans old.bytes mid.bytes new.bytes bytes h.bytes given h.given;
    broken = h.broken;
  }
  fault_after Memory within given h = record {
    bytes = bytes ++ h.bytes;
    within = omega (arith, length-append bytes h.bytes, within, h.within);
    given = Consumes-trans old.bytes mid.bytes new.bytes bytes h.bytes given h.given;
    unbroken = h.unbroken;
  }
