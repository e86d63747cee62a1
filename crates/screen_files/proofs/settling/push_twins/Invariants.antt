use Rattle.std.proofs.Common.{◌≡◌, ◌++◌, drop}
use Rattle.std.specs.List.{flat_map}
use Rattle.screen_files.specs.Settling.{twin_if}
use Rattle.screen_files.proofs.settling.push_twins.Given as goal

-- the twins so far, and those among the frames that are left, are all
abbrev pub invariant-loop-filed : goal.invariant-loop-filed
invariant-loop-filed l =
    l.twins.items ++ flat_map (twin_if l.kept) (drop l.filed-index l.group) ≡ l.fn.twins.items ++ flat_map (twin_if l.kept) l.group
