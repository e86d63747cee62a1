use Rattle.std.proofs.Common.{◌≡◌, ◌++◌, drop, map}
use Rattle.screens.specs.declared.writing.Writing.TheVariants.{Markup}
use Rattle.screens.specs.Writing.{written}
use Rattle.screens.specs.Text.{seen_char}
use Rattle.screens.proofs.svg.push_seen.Given as goal

abbrev pub invariant-loop-look : goal.invariant-loop-look
invariant-loop-look l = l.out.items ++ written Markup (map seen_char (drop l.look-index l.cells)) ≡ l.fn.out.items ++ written Markup (map seen_char l.cells)
