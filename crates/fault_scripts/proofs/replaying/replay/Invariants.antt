-- The keys that are left lead from here where all keys lead from the start.
use Rattle.std.proofs.Common.{◌≡◌, drop}
use Rattle.session_machine.specs.Runs.{state_after, replies_to}
use Rattle.fault_scripts.specs.Shows.{final_reply}
use Rattle.fault_scripts.proofs.replaying.replay.Given as goal

abbrev pub invariant-loop-key : goal.invariant-loop-key
invariant-loop-key l = record {
  groups : l.session.groups ≡ l.groups;
  last : final_reply l.last (replies_to l.groups l.base l.session.state (drop l.key-index l.key-items)) ≡ final_reply l.initial.last (replies_to l.groups l.base l.initial.session.state l.key-items);
  state : state_after l.groups l.base l.session.state (drop l.key-index l.key-items) ≡ state_after l.groups l.base l.initial.session.state l.key-items;
}
