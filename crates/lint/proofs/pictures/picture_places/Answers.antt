use Rattle.std.proofs.Common.{◌∙◌, List, ap, map}
use Rattle.page_ids.specs.Ids.{Id}
use Rattle.page_ids.proofs.Truths.{weaken}
use Rattle.lint.specs.declared.pictures.PicturePlace.{PicturePlace}
use Rattle.lint.specs.Lookups.{value_of}
use Rattle.lint.proofs.pictures.picture_places.Goals as goal

pub returns : goal.returns
returns c =
    weaken c.places_among.result (λ places are some.
    are c.as_slice.result.now c.in_ok-known.ensures
    ∙ ap (λ (pairs : List (Id × PicturePlace)). map (value_of pairs) c.args.ids.now) (c.as_slice.ensures.value ∙ c.in_ok-pairs.ensures some))
    c.places_among.ensures
