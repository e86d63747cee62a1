use Rattle.std.proofs.Common.{◌≡◌, List, Some, sym, subst}
use Rattle.std.specs.Prelude.{slice_get}
use Rattle.std.specs.declared.cmp.Ordering.{Ordering}
use Rattle.std.specs.declared.cmp.Ordering.TheVariants.{Equal}
use Rattle.frame_records.proofs.Searchable.{found_is, none_is}
use Rattle.frame_records.proofs.sorted.binary_search.Goals as goal

pub returns-in-Some-clause-value : goal.returns-in-Some-clause-value
returns-in-Some-clause-value g c =
    let compare = λ (e : _). g.E.Entry.against e c.args.wanted.now in
    let found = subst (λ (os : List Ordering). slice_get os c.in-Some.at ≡ Some Equal) c.entries_beside-probe.ensures.orderings c.in-Some.ensures.found in
    sym (found_is compare c.args.entries.now c.in-Some.at c.index-entries-at.result c.requires.searchable found (sym c.index-entries-at.is))

pub returns-in-None-clause-value : goal.returns-in-None-clause-value
returns-in-None-clause-value g c =
    let compare = λ (e : _). g.E.Entry.against e c.args.wanted.now in
    sym (none_is compare c.args.entries.now (subst (λ (os : List Ordering). (i : _) → slice_get os i ≡ Some Equal → ⊥) c.entries_beside-probe.ensures.orderings c.in-None.ensures.none))
