use Rattle.std.proofs.Common.{◌≡◌, ◌∙◌, ◌<◌, ap, subst, length, get_or, arith, List}
use Rattle.std.specs.Map.{lookup}
use Rattle.page_ids.specs.Ids.{id_eq}
use Rattle.indexmap.specs.IndexMap.{get}
use Rattle.finder.specs.declared.found.Discovered.{Discovered}
use Rattle.frame_screens.specs.Frames.{place_of}
use Rattle.frame_screens.proofs.Placed.{place_more, all_placed, none_placed}
use Rattle.frame_screens.proofs.places.FramePlaces.of.Goals as goal

pub loop-place-init : goal.loop-place-init
loop-place-init c = λ id. ap (λ es. lookup (id_eq id) es) c.in_ok-map.ensures.empty ∙ none_placed (place_of c.args.survey.now.found id)

pub loop-place-preserved : goal.loop-place-preserved
loop-place-preserved c = λ id.
    let s = c.args.survey.now in
    let i = c.loop-place.place in
    let d = c.index-found-place.result in
    let same = c.as_slice-found.ensures ∙ c.found.ensures in
    place_more s.groups s.base s.found c.requires i d (c.index-found-place.is ∙ ap (λ (ds : List Discovered). get_or ds i d) same)
    (subst (λ (ds : List Discovered). i < length ds) same c.loop-place-test.true) id
    (get id_eq c.loop-place.map id) (get id_eq c.insert.new.self id) (c.loop-place.invariant id) (c.in_ok-insert.ensures.updates.0 id)

pub returns : goal.returns
returns c = λ id.
    let s = c.args.survey.now in
    let same = c.as_slice-found.ensures ∙ c.found.ensures in
    let all : c.loop-place.place ≡ length s.found = omega (arith, c.loop-place-test.false, c.loop-place.auto.place-end, ap length same) in
    all_placed s.groups s.base s.found c.requires c.loop-place.place all id (get id_eq c.loop-place.map id) (c.loop-place.invariant id)
