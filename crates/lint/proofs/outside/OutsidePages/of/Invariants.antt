use Rattle.std.proofs.Common.{◌≡◌, ◌≤◌, ◌-◌, ℕ}
use Rattle.frame_records.specs.declared.limits.TheConstants.{MOST_LISTED}
use Rattle.lint.specs.Loops.{table_seen, element_kept}
use Rattle.lint.specs.Outside.{page_from}
use Rattle.lint.proofs.outside.OutsidePages.of.Given as goal

-- the elements from the index on are listed
abbrev pub invariant-elements : goal.invariant-elements
invariant-elements l = record {
  within : l.index ≤ MOST_LISTED;
  lists : (page : ℕ) → element_kept l.pages page ≡ page_from (table_seen l.top) page (MOST_LISTED - l.index) l.index;
}

abbrev pub decreases-elements : goal.decreases-elements
decreases-elements l = l.index
