use Rattle.std.proofs.Common.{◌≡◌, None, subst}
use Rattle.std.specs.Prelude.{OnErr}
use Rattle.base_text.specs.Whole.{tree_of}
use Rattle.page_ids.proofs.Truths.{weaken}
use Rattle.lint.proofs.Judged.{of_length, of_toml}
use Rattle.lint.proofs.judging.judged.Goals as goal

pub returns-then-text-gt-MOST_TEXT : goal.returns-then-text-gt-MOST_TEXT
returns-then-text-gt-MOST_TEXT c = weaken c.too_long.result (λ fs is. of_length c.args.text.now c.args.policy.now fs.items c.if-text-gt-MOST_TEXT.true (is c.args.text.now)) c.too_long.ensures

pub returns-in-Err : goal.returns-in-Err
returns-in-Err c =
    let none = subst (λ read. OnErr read (tree_of c.args.text.now ≡ None)) c.in-Err.is c.in_ok-table.ensures.refused in
    weaken c.refused.result (λ fs is. of_toml c.args.text.now c.args.policy.now fs.items c.if-text-gt-MOST_TEXT.false none is) c.refused.ensures
