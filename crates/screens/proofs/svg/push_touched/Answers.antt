use Rattle.std.proofs.Common.{◌≡◌, ◌++◌, sym, subst, ℕ, Option}
use Rattle.screens.specs.Svg.{markup, touch_mark}
use Rattle.screens.proofs.Markups.{no_touch}
use Rattle.screens.proofs.svg.push_touched.Goals as goal

pub returns-in-None : goal.returns-in-None
returns-in-None c =
    subst (λ (cell : Option ℕ). c.args.out.now.items ≡ c.args.out.now.items ++ markup (touch_mark cell)) (sym c.in-None.is) (no_touch c.args.out.now.items)
