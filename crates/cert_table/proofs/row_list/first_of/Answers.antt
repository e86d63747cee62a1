use Rattle.std.proofs.Common.{sym, ap, ◌∙◌}
use Rattle.std.proofs.lemmas.List.Quantifiers.{position-Some}
use Rattle.page_ids.specs.Ids.{id_eq}
use Rattle.frame_records.proofs.Finds.{find_first, find_none, none_passes}
use Rattle.cert_table.specs.declared.row.Row.{Row}
use Rattle.cert_table.proofs.row_list.first_of.Goals as goal

pub returns-in-Some-clause-value : goal.returns-in-Some-clause-value
returns-in-Some-clause-value c =
    let x = c.index-rows-at.result in
    let first = position-Some (λ (r : Row). id_eq r.id c.args.id) c.args.rows.now c.in-Some.at x (sym c.in-Some.ensures) in
    sym (find_first (λ (r : Row). id_eq r.id c.args.id) c.args.rows.now c.in-Some.at x first.0 (sym c.index-rows-at.is) (ap (λ (r : Row). id_eq r.id c.args.id) c.index-rows-at.is ∙ first.1) first.2)

pub returns-in-None-clause-value : goal.returns-in-None-clause-value
returns-in-None-clause-value c =
    sym (find_none (λ (r : Row). id_eq r.id c.args.id) c.args.rows.now (λ k d lt. none_passes (λ (r : Row). id_eq r.id c.args.id) c.args.rows.now k d (sym c.in-None.ensures) lt))
