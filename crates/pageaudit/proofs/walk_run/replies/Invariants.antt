use Rattle.std.proofs.Common.{◌≡◌, ◌∷◌, ◌++◌, drop}
use Rattle.session_machine.specs.Runs.{replies_to}
use Rattle.pageaudit.proofs.walk_run.replies.Given as goal

-- the replies so far, and those to the keys that are left, are those of the whole session
abbrev pub invariant-loop-key : goal.invariant-loop-key
invariant-loop-key l = record {
  groups : l.session.groups ≡ l.fn.session.groups;
  replies : l.replies.items ++ replies_to l.fn.session.groups l.base l.session.state (drop l.key-index l.key-items) ≡ l.fn.opening ∷ replies_to l.fn.session.groups l.fn.base l.fn.session.state l.fn.keys;
}
