use Rattle.std.proofs.Common.{◌≡◌, ◌++◌, ◌∙◌, sym, subst, Option}
use Rattle.screens.specs.declared.layer.Ink.{Ink}
use Rattle.screens.specs.Svg.{markup, drawn_in}
use Rattle.screens.proofs.Markups.{nothing}
use Rattle.screens.proofs.svg.push_run.Goals as goal

pub returns-in-None : goal.returns-in-None
returns-in-None c =
    let none = sym (sym c.first_ink.ensures ∙ c.in-None.is) in
    subst (λ (ink : Option Ink). c.args.out.now.items ≡ c.args.out.now.items ++ markup (drawn_in c.args.layer c.args.row c.args.column c.args.cells.now ink)) none (nothing c.args.out.now.items)
