use Rattle.std.proofs.Common.{◌≡◌, ◌+◌, ◌++◌, ◌∙◌, ap, drop, rules, sym, None}
use Rattle.std.proofs.lemmas.List.{at_drop_more}
use Rattle.toml.specs.Data.{item}
use Rattle.toml.specs.View.{view, items_view}
use Rattle.base_text.specs.Details.{with_all}
use Rattle.base_text.specs.Rows.{row_read, row_bytes}
use Rattle.base_text.proofs.RowTurns.{row_pushed, row_left_out, row_judged}
use Rattle.base_text.proofs.rows.push_rows.Goals as goal
use Rattle.base_text.proofs.rows.push_rows.Goals.{in-Some+in_ok-push_row, in_default}

pub loop-i-preserved : goal.loop-i-preserved
loop-i-preserved c =
    let held = c.loop-i.invariant in
    let i = c.loop-i.i in
    let d = view c.index-values-i.result in
    let ds = items_view (drop (i + 1) c.args.values.now) in
    let here : items_view (drop i c.args.values.now) ≡ item d ds =
    at_drop_more items_view c.args.values.now i c.index-values-i.result (search rules) ∙ ap (λ v. item (view v) ds) (sym c.index-values-i.is) in
    let added : c.read_row.new.details ≡ with_all c.loop-i.details (row_read (i + 1) d).faults = search rules in
    let row : c.in_ok-row.field-0 ≡ (row_read (i + 1) d).value = search rules in
    let before = rw here at held.bytes in
    record {
      bytes = elim c.match-branch-2.branch [
        | in-Some+in_ok-push_row w ↦
            let pushed : c.match-branch-2.bytes.items ≡ c.loop-i.bytes.items ++ row_bytes w.in-Some.row = search rules in
            rw pushed (before ∙ row_pushed c.loop-i.bytes.items (i + 1) d ds w.in-Some.row (sym row ∙ w.in-Some.is))
        | in_default w ↦
            let same : c.match-branch-2.bytes.items ≡ c.loop-i.bytes.items = search rules in
            let none : c.in_ok-row.field-0 ≡ None = search rules in
            rw same (before ∙ ap (λ bs. c.loop-i.bytes.items ++ bs) (row_left_out (i + 1) d ds (sym row ∙ none)))
      ];
      faults = rw here at held.faults ∙ row_judged c.loop-i.details c.read_row.new.details (i + 1) d ds added;
    }
