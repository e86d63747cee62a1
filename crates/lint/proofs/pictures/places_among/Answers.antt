use Rattle.std.proofs.Common.{◌≡◌, ◌∙◌, ◌+◌, ◌++◌, ◌∷◌, [], List, Option, ap, arith, map, sym, take}
use Rattle.std.proofs.lemmas.List.{map_push, take_more}
use Rattle.page_ids.specs.Ids.{Id}
use Rattle.lint.specs.declared.pictures.PicturePlace.{PicturePlace}
use Rattle.lint.specs.Lookups.{value_of}
use Rattle.lint.proofs.pictures.places_among.Goals as goal

pub loop-id-preserved : goal.loop-id-preserved
loop-id-preserved c = λ pairs knows.
    let ids = c.args.ids.now in
    let i = c.loop-id.id-index in
    let id = c.id-item.result in
    let more : take (i + 1) ids ≡ take i ids ++ id ∷ [] = take_more ids i id (omega arith) ∙ ap (λ (x : Id). take i ids ++ x ∷ []) (sym c.id-item.is) in
    c.in_ok-push.ensures.items
    ∙ ap (λ (xs : List (Option PicturePlace)). xs ++ c.get.result ∷ []) (c.loop-id.invariant pairs knows)
    ∙ ap (λ (x : Option PicturePlace). map (value_of pairs) (take i ids) ++ x ∷ []) (c.get.ensures pairs knows)
    ∙ sym (map_push (value_of pairs) (take i ids) id)
    ∙ ap (map (value_of pairs)) (sym more)
