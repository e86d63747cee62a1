use Rattle.std.proofs.Common.{◌∙◌, ◌++◌, Some, ap, arith}
use Rattle.lint.specs.Tables.{table_at}
use Rattle.lint.specs.Lint.{look_in, look_finding}
use Rattle.lint.proofs.Turns.{some_more, is_table}
use Rattle.lint.proofs.audit_findings.Sources.add_looks.Goals as goal

pub loop-look-preserved : goal.loop-look-preserved
loop-look-preserved c =
    let text = c.args.self.now.text.now.text.now in
    let look = c.look-item.result in
    let so_far = c.loop-look.invariant in
    record {
      table = λ ms knows. is_table text ms _ _ (c.in_ok-turn.ensures.turned ms knows (so_far.table ms knows));
      findings = λ ms tables are.
          let turned = c.in_ok-turn.ensures.turned ms are.places (so_far.table ms are.places)
          ∙ ap (λ k. table_at text ms (Some k)) (c.table_of.ensures tables are.knows) in
          some_more c.args.looks.now c.loop-look.look-index look (omega arith) c.look-item.is (look_finding text ms tables) _ _ _
          (c.in_ok-add_look.ensures ∙ ap (λ t. c.loop-look.findings.items ++ look_in t look.0 look.1) turned) (so_far.findings ms tables are);
    }
