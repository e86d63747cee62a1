-- Calls of a folder.
use Rattle.std.proofs.Common.{ℕ, List, Err, refl}
use Rattle.devices.specs.Devices.{Seen}
use Rattle.editions.specs.Folders.{SeenFolder}
use Rattle.one_call.specs.declared.fault.CallFault.{CallFault}
use Rattle.one_call.specs.declared.fault.CallFault.TheVariants.{Unpublished, Unnamed, Folder, Edition, Refused, Line, Memory}
use Rattle.one_call.specs.Lines.{IsWholeCall}
use Rattle.one_call.specs.Loops.{IsOpenRefused}
use Rattle.one_call.specs.Opened.{AreServed}
use Rattle.one_call.specs.Parts.{Parts, First, Then}
use Rattle.one_call.specs.Safety.{AreClearedInTurn}
use Rattle.one_call.specs.Calls.{IsCallServed, IsKeptCall}
use Rattle.one_call.proofs.Safe.{parts_are_safe}

pub of_open : (folder : SeenFolder) (from old : Seen) (fault : CallFault) → IsOpenRefused folder fault → IsCallServed folder from from old old (Err fault)
of_open folder from old (Refused number cause) h = (h, record { source = refl; sink = refl })
of_open folder from old (Line fault) h = absurd h
of_open folder from old (Edition number fault) h = record { source = refl; sink = refl }
of_open folder from old Unpublished h = record { source = refl; sink = refl }
of_open folder from old Unnamed h = record { source = refl; sink = refl }
of_open folder from old Folder h = record { source = refl; sink = refl }
of_open folder from old Memory h = record { source = refl; sink = refl }

cleared_in_turn : (groups : List ℕ) (folder : SeenFolder) (parts : Parts) → AreServed groups folder parts → AreClearedInTurn groups parts
cleared_in_turn groups folder (First s bytes) h = (h.0, h.1.fit)
cleared_in_turn groups folder (Then before s bytes) h = (cleared_in_turn groups folder before h.0, h.1.fit, h.1.against)

pub kept : (groups : List ℕ) (folder : SeenFolder) (from to old new : Seen) → IsWholeCall groups folder from to old new → IsKeptCall folder from to old new
kept groups folder from to old new h = record {
  groups = groups;
  parts = h.parts;
  served = h.served;
  given = h.so_far.given;
  written = h.so_far.written;
  safe = λ t. parts_are_safe groups h.parts (cleared_in_turn groups folder h.parts h.served) t;
}
