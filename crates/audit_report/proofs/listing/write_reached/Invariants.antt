use Rattle.std.proofs.Common.{◌≡◌, ◌≤◌, ◌<◌, ◌+◌, ◌*◌, false, length}
use Rattle.std.specs.Vec.{vec_len, vec_capacity}
use Rattle.devices.specs.Devices.{IsOnItsWay}
use Rattle.audit_report.specs.Listing.{reached_lines}
use Rattle.audit_report.proofs.listing.write_reached.Given as goal

-- the lines so far are on their way, and there is room for one more
abbrev pub invariant-loop-index : goal.invariant-loop-index
invariant-loop-index g l = record {
  unbroken : (g.S.Sink.seen l.sink).failed ≡ false;
  keys_room : length l.survey.found ≤ vec_capacity l.keys;
  few : vec_len l.kept < 65536;
  room : 262397 ≤ vec_capacity l.kept;
  count : l.wrote + vec_len l.kept ≤ l.index * 196861;
  way : IsOnItsWay (g.S.Sink.seen l.initial.sink) (g.S.Sink.seen l.sink) l.kept.items l.wrote (reached_lines l.form l.survey.base l.survey.found l.index);
}
