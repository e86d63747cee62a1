use Rattle.std.proofs.Common.{◌≡◌, ◌++◌, replicate}
use Rattle.edition_lists.proofs.list_lines.push_spaces.Given as goal

abbrev pub invariant-spaces : goal.invariant-spaces
invariant-spaces l = l.out.items ≡ l.initial.out.items ++ replicate l._done 32
