use Rattle.std.proofs.Common.{◌≡◌, ◌≤◌, ◌-◌, ◌++◌, ◌∷◌, [], drop, length, take}
use Rattle.screen_files.specs.Settling.{kept_from, twins_from}
use Rattle.screen_files.proofs.settling.Choice.add_from.Given as goal

-- the group begins with those of the id so far, and the others are left
abbrev pub invariant-loop-filed : goal.invariant-loop-filed
invariant-loop-filed l = record {
  there : drop (length l.group - length l.left) l.group ≡ l.left;
  within : length l.left ≤ length l.group;
  frames : l.self.frames.items ++ kept_from l.kept l.left ≡ l.fn.self.frames.items ++ kept_from l.first l.rest;
  twins : l.self.twins.items ++ twins_from l.kept (take (length l.group - length l.left) l.group) l.left ≡ l.fn.self.twins.items ++ twins_from l.first (l.first ∷ []) l.rest;
}

abbrev pub decreases-loop-filed : goal.decreases-loop-filed
decreases-loop-filed l = length l.left
