use Rattle.std.proofs.Common.{◌∙◌, true, ◌||◌, sym, ap, take, arith}
use Rattle.std.specs.Prelude.{cond}
use Rattle.std.proofs.lemmas.List.{take_all}
use Rattle.std.proofs.lemmas.List.Folds.{list_any_more}
use Rattle.page_ids.specs.Ids.{id_eq}
use Rattle.audit_report.specs.Listing.{is_listed}
use Rattle.audit_report.proofs.Others.{or_cond}
use Rattle.audit_report.proofs.reached.Reached.of.Goals as goal

pub loop-discovered-preserved : goal.loop-discovered-preserved
loop-discovered-preserved c = λ id.
    let found = c.args.found.now in
    let i = c.loop-discovered.discovered-index in
    let d = c.discovered-item.result in
    let listed = is_listed (take i found) id in
    c.in_ok-insert.ensures.updates.0 id
    ∙ ap (λ b. cond (id_eq d.id id) true b) (c.loop-discovered.invariant id)
    ∙ or_cond (id_eq d.id id) listed
    ∙ ap (λ e. listed || id_eq e.id id) c.discovered-item.is
    ∙ sym (list_any_more (λ e. id_eq e.id id) found i d (omega arith))

pub returns : goal.returns
returns c = λ id.
    c.loop-discovered.invariant id
    ∙ ap (λ xs. is_listed xs id) (take_all c.loop-discovered.discovered-index c.args.found.now (omega arith))
