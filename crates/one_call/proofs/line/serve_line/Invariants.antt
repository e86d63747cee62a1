use Rattle.std.proofs.Common.{◌≡◌, false}
use Rattle.editions.specs.Folders.{SeenFolder, IsLater}
use Rattle.one_call.specs.Parts.{Parts, served_now, call_over}
use Rattle.one_call.specs.Opened.{AreServed, IsToServe}
use Rattle.one_call.specs.Lines.{IsSoFar}
use Rattle.one_call.proofs.line.serve_line.Given as goal

abbrev pub invariant-loop : goal.invariant-loop
invariant-loop g l = record {
  parts : Parts;
  so_far : IsSoFar l.fn.first.policy.groups (g.R.Source.seen l.fn.source) (g.R.Source.seen l.source) (g.W.Sink.seen l.fn.sink) (g.W.Sink.seen l.sink) parts;
  call : l.call ≡ call_over l.fn.first.policy.groups parts;
  now : l.served ≡ served_now parts;
  later : IsLater (g.F.EditionFolder.seen l.fn.folder) (g.F.EditionFolder.seen l.folder);
  served : (start : SeenFolder) → IsLater start (g.F.EditionFolder.seen l.fn.folder) → IsToServe start l.fn.first → AreServed l.fn.first.policy.groups start parts;
  reads : (g.R.Source.seen l.source).failed ≡ false;
  writes : (g.W.Sink.seen l.sink).failed ≡ false;
}
