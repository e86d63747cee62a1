use Rattle.std.proofs.Common.{◌≡◌, ◌∙◌, ◌++◌, [], map, drop, ap, sym, subst, append-nil, arith}
use Rattle.std.proofs.lemmas.List.{drop_all}
use Rattle.lint.specs.Loops.{Lists}
use Rattle.lint.specs.Lint.{whole_finding}
use Rattle.lint.proofs.Turns.{one_more}
use Rattle.lint.proofs.text_findings.add_whole_findings.Goals as goal

pub loop-fault-preserved : goal.loop-fault-preserved
loop-fault-preserved c =
    let found = c.in_ok-finding.ensures in
    let so_far = c.loop-fault.invariant in
    record {
      table = λ ms knows lines. found.table ms knows (so_far.table ms knows lines);
      findings = λ ms knows lines lists.
          one_more c.args.faults.now c.loop-fault.fault-index c.fault-item.result (omega arith) c.fault-item.is (whole_finding c.args.tables.now.text.now ms) _ _ _ _
          (found.finding ms knows lines lists (so_far.table ms knows lines)) c.in_ok-push.ensures.items (so_far.findings ms knows lines lists);
    }

pub returns : goal.returns
returns c = λ ms knows lines.
    let text = c.args.tables.now.text.now in
    let lists = subst (λ t. Lists t c.in_ok-pages.pages) (c.in_ok-table.ensures ms knows) c.in_ok-pages.ensures in
    let none : drop c.loop-fault.fault-index c.args.faults.now ≡ [] = drop_all c.loop-fault.fault-index c.args.faults.now c.loop-fault-test.false in
    sym (append-nil c.loop-fault.findings.items) ∙ ap (λ fs. c.loop-fault.findings.items ++ map (whole_finding text ms) fs) (sym none)
    ∙ c.loop-fault.invariant.findings ms knows lines lists
