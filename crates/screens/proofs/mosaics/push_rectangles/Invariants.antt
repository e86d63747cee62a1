use Rattle.std.proofs.Common.{◌≡◌, ◌++◌, drop}
use Rattle.std.specs.List.{flat_map}
use Rattle.screens.specs.Mosaics.{rectangle}
use Rattle.screens.proofs.mosaics.push_rectangles.Given as goal

abbrev pub invariant-loop-span : goal.invariant-loop-span
invariant-loop-span l = l.out.items ++ flat_map (λ w. rectangle l.x l.y w l.high) (drop l.span-index l.wide) ≡ l.fn.out.items ++ flat_map (λ w. rectangle l.x l.y w l.high) l.wide
