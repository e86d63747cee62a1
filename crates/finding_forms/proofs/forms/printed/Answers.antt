use Rattle.std.proofs.Common.{◌≡◌, ◌∙◌, [], ◌∷◌, ◌+◌, ◌++◌, List, ℕ, drop, sym, ap, subst, refl, append-nil, append_assoc, arith}
use Rattle.std.proofs.lemmas.List.{drop_all, drop_more}
use Rattle.lint.specs.Findings.{FindingView}
use Rattle.finding_forms.specs.Forms.{ArePrinted}
use Rattle.finding_forms.proofs.forms.printed.Goals as goal

pub loop-finding-preserved : goal.loop-finding-preserved
loop-finding-preserved c = λ bytes rest shown given are.
    let fs = c.args.findings.now in
    let i = c.loop-finding.finding-index in
    let f = c.finding-item.result in
    let out = c.loop-finding.out.items in
    let left : drop i fs ≡ f ∷ drop (i + 1) fs = drop_more fs i f (omega arith) ∙ ap (λ (g : FindingView). g ∷ drop (i + 1) fs) (sym c.finding-item.is) in
    let (one, is, added) = c.in_ok-push_finding.ensures bytes shown given in
    let more = subst (λ (gs : List FindingView). ArePrinted c.args.format bytes c.args.text.now gs (one ++ rest)) (sym left) (one, rest, is, are, refl) in
    let whole = c.loop-finding.invariant bytes (one ++ rest) shown given more in
    let joined : out ++ (one ++ rest) ≡ c.push_finding.new.out.items ++ rest =
    sym (append_assoc out one rest) ∙ ap (λ (xs : List ℕ). xs ++ rest) (sym added) in
    subst (ArePrinted c.args.format bytes c.args.text.now fs) joined whole

pub returns : goal.returns
returns c = λ bytes shown given.
    let fs = c.args.findings.now in
    let none = drop_all c.loop-finding.finding-index fs (omega arith) in
    let left = subst (λ (left : List FindingView). ArePrinted c.args.format bytes c.args.text.now left []) (sym none) refl in
    subst (ArePrinted c.args.format bytes c.args.text.now fs) (append-nil c.loop-finding.out.items) (c.loop-finding.invariant bytes [] shown given left)
