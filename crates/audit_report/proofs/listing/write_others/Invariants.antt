use Rattle.std.proofs.Common.{◌≡◌, ◌≤◌, ◌+◌, ◌*◌, ◌^◌, ◌++◌, false, ℕ, List, drop}
use Rattle.std.specs.Vec.{vec_len, vec_capacity}
use Rattle.devices.specs.Devices.{Seen, IsOnItsWay}
use Rattle.finder.specs.declared.found.Discovered.{Discovered}
use Rattle.audit_report.specs.Listing.{Knows, unreached_lines}
use Rattle.audit_report.proofs.listing.write_others.Given as goal

-- the lines so far are on their way, and those of the frames that are left follow
abbrev pub invariant-loop-frame : goal.invariant-loop-frame
invariant-loop-frame g l = record {
  unbroken : (g.S.Sink.seen l.sink).failed ≡ false;
  room : vec_len l.kept + 196861 ≤ vec_capacity l.kept;
  wide : 262397 ≤ vec_capacity l.kept;
  count : l.taken + vec_len l.kept ≤ 2 ^ 40 + l.frame-index * 256;
  way : (start : Seen) (before : List ℕ) (found : List Discovered) → Knows found l.reached → IsOnItsWay start (g.S.Sink.seen l.initial.sink) l.fn.kept.items l.fn.wrote before
      → (text : List ℕ) × IsOnItsWay start (g.S.Sink.seen l.sink) l.kept.items l.taken text × (text ++ unreached_lines l.form found (drop l.frame-index l.frames) ≡ before ++ unreached_lines l.form found l.frames);
}
