use Rattle.std.proofs.Common.{[], ◌∷◌, option_map, ap, ◌∙◌}
use Rattle.toml_places.specs.declared.spans.KeyPlace.{KeyPlace}
use Rattle.toml_places.proofs.Firsts.{spots_at}
use Rattle.toml_places.proofs.places.Places.first.Goals as goal

pub returns : goal.returns
returns c ms h = c.offset_of.ensures ∙ ap (λ o. option_map (λ (s : KeyPlace). s.at) o) (c.key.ensures.spot ms h) ∙ spots_at ms c.args.frame (c.args.key.now ∷ [])
