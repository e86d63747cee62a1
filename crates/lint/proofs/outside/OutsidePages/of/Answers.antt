use Rattle.std.proofs.Common.{◌∙◌, ◌-◌, sym, ap, arith}
use Rattle.std.specs.Option.{option_or}
use Rattle.frame_records.specs.declared.limits.TheConstants.{MOST_LISTED}
use Rattle.lint.specs.Loops.{table_seen}
use Rattle.lint.specs.Outside.{element_if}
use Rattle.lint.proofs.Pages.{none_yet, one_before}
use Rattle.lint.proofs.outside.OutsidePages.of.Goals as goal

pub elements-preserved : goal.elements-preserved
elements-preserved c =
    let l = c.elements in
    let t = table_seen c.args.top.now in
    record {
      within = omega arith;
      lists = λ page.
          c.in_ok-note.ensures page ∙ ap (option_or (element_if t page (l.index - 1))) (l.invariant.lists page)
          ∙ sym (one_before t page MOST_LISTED (l.index - 1) l.index (omega arith) l.invariant.within);
    }

pub elements-init : goal.elements-init
elements-init c = record {
  within = omega arith;
  lists = λ page. rw c.new.ensures.empty (sym (none_yet (table_seen c.args.top.now) page MOST_LISTED));
}
