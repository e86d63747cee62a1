use Rattle.std.proofs.Common.{List, ℕ, ◌++◌, codes, sym, subst, refl}
use Rattle.finding_forms.specs.declared.format.Format.{Format}
use Rattle.finding_forms.specs.declared.format.Format.TheVariants.{Json}
use Rattle.finding_forms.specs.Loops.{AddsObject, AddsPrinted}
use Rattle.finding_forms.proofs.Printed.{on}
use Rattle.finding_forms.proofs.forms.push_finding.Goals as goal

pub returns-in-Json : goal.returns-in-Json
returns-in-Json c =
    let f = c.args.finding.now in
    let old = c.args.out.now.items in
    let new = c.push_object.new.out.items in
    on c.push_object.result c.push_object.ensures (λ adds. λ bytes shown given.
    let object : AddsObject bytes c.args.text.now f old new =
    subst (λ (t : List ℕ). AddsObject bytes t f old new) c.requires (adds bytes given) in
    let (line, is, made) = object in
    let printed : AddsPrinted Json bytes c.args.text.now f old new = (line ++ codes "\n", (line, is, refl), made) in
    subst (λ (format : Format). AddsPrinted format bytes c.args.text.now f old new) (sym c.in-Json.is) printed)
