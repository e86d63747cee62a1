use Rattle.std.proofs.Common.{◌∙◌, ap, ◌++◌, ◌∷◌, [], refl}
use Rattle.std.specs.Option.{option_map_or}
use Rattle.indexmap.specs.IndexMap.{get}
use Rattle.page_ids.specs.Ids.{id_eq}
use Rattle.base_pages.specs.Loops.{kept_of}
use Rattle.base_pages.proofs.Numbering.{chosen, one_more}
use Rattle.base_pages.proofs.index.FaultIndex.add.Goals as goal

pub returns : goal.returns
returns c = λ id.
    let from = c.args.fault.frame in
    let n = c.args.fault.number in
    let old = c.args.self.now in
    let mid = c.taken-numbers.new.self in
    let numbers = c.push.new.self in
    let b = id_eq from id in
    one_more from id n b refl (kept_of old from) (kept_of old id) (kept_of mid id) numbers.items (kept_of (record { map = c.insert.new.self }) id)
    (ap (λ o. option_map_or (λ ns. ns.items) o []) (c.in_ok-insert.ensures.updates.0 id) ∙ chosen (λ ns. ns.items) b numbers (get id_eq mid.map id))
    (c.taken-numbers.ensures.others id)
    (λ same. ap (kept_of old) same)
    (c.in_ok-push.ensures.items ∙ ap (λ xs. xs ++ n ∷ []) c.taken-numbers.ensures.taken)
