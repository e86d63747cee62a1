use Rattle.std.proofs.Common.{◌≡◌, ◌∙◌, sym, ap, drop, ◌+◌, ◌∷◌, arith}
use Rattle.std.specs.Prelude.{map}
use Rattle.std.proofs.lemmas.List.{drop_more}
use Rattle.indexmap.specs.IndexSet.{insert_all}
use Rattle.page_ids.specs.Ids.{id_eq}
use Rattle.base_map.proofs.map.ids_of.Goals as goal

pub loop-frame-preserved : goal.loop-frame-preserved
loop-frame-preserved c =
    let found = c.args.found.now in
    let i = c.loop-frame.frame-index in
    let f = c.frame-item.result in
    let more : drop i found ≡ f ∷ drop (i + 1) found = drop_more found i f (omega arith) ∙ ap (λ x. x ∷ drop (i + 1) found) (sym c.frame-item.is) in
    ap (λ ids. insert_all id_eq ids (map (λ d. d.id) (drop (i + 1) found))) c.in_ok-insert.ensures.keys
    ∙ (ap (λ xs. insert_all id_eq c.loop-frame.ids.keys (map (λ d. d.id) xs)) (sym more) ∙ c.loop-frame.invariant)
