use Rattle.std.proofs.Common.{◌∙◌, sym, ap, subst}
use Rattle.base_map.specs.Map.{AreReached}
use Rattle.base_map.specs.Loops.{discovered_ids}
use Rattle.page_ids.proofs.Truths.{weaken}
use Rattle.base_map.proofs.Founds.{are_reached}
use Rattle.base_map.proofs.map.reached.Goals as goal

pub returns : goal.returns
returns c =
    let caller = c.args.groups.now in
    let base = c.args.base.now in
    let found = c.in_ok-found.found in
    weaken c.ids_of.result
    (λ ids is. subst (AreReached caller base) (sym (is ∙ ap discovered_ids c.as_slice.ensures)) (are_reached caller base found c.in_ok-found.ensures.reached))
    c.ids_of.ensures
