use Rattle.std.proofs.Common.{◌≡◌, ◌++◌, drop}
use Rattle.session_machine.specs.Sessions.{opening}
use Rattle.session_machine.specs.Runs.{replies_to, state_after}
use Rattle.frame_screens.specs.Frames.{frames_sent, sent_in}
use Rattle.frame_screens.proofs.keyed.press.Given as goal

-- the frames so far, and those of the keys that are left, are those of all keys
abbrev pub invariant-loop-key : goal.invariant-loop-key
invariant-loop-key l = record {
  groups : l.session.groups ≡ l.fn.session.groups;
  sent : l.list ++ sent_in (replies_to l.fn.session.groups l.base l.session.state (drop l.key-index l.keys)) ≡ frames_sent l.fn.session.groups l.base l.keys;
  state : state_after l.fn.session.groups l.base l.session.state (drop l.key-index l.keys) ≡ state_after l.fn.session.groups l.base (opening l.base) l.keys;
}
