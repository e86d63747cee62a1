-- What the edges of a map are.
use Rattle.std.proofs.Common.{◌≡◌, ◌∙◌, sym, ap, ℕ, true, List, [], Option, Some, None, Contains, subst}
use Rattle.std.specs.Prelude.{filter}
use Rattle.std.specs.Option.{option_eq}
use Rattle.std.specs.List.{filter_map}
use Rattle.std.proofs.lemmas.List.Folds.{Any-from_list_any, list_any-from_Any}
use Rattle.page_ids.specs.Ids.{Id, id_eq}
use Rattle.page_ids.specs.IdLaws.{id_eq_same, id_eq_refl}
use Rattle.page_ids.specs.WayLaws.{ways_length, ways_at}
use Rattle.page_ids.specs.declared.way.Way.{Way}
use Rattle.page_ids.specs.Ways.{way_key, way_place, ways}
use Rattle.frame_records.specs.declared.frame.Frame.{Frame}
use Rattle.frame_records.specs.declared.base.Sought.TheVariants as found
use Rattle.frame_records.specs.Bases.{BaseView, frame_at}
use Rattle.frame_records.specs.Seek.{seek}
use Rattle.frame_records.specs.Ways.{sought, sought_by, Leads}
use Rattle.frame_records.specs.WayLaws.{offered_place, goes, going, found_sought}
use Rattle.frame_records.specs.declared.ways.Destination.TheVariants as destination
use Rattle.base_map.specs.Edges.{targets_of, seeks, keys_to}
use Rattle.finder.specs.Finds.{has_id}
use Rattle.base_map.specs.Map.{EdgesAreWays}
use Rattle.finder.proofs.Listed.{same_way}
use Rattle.base_map.proofs.Among.{among_map, map_among, among_filter, filter_among, among_filter_map, filter_map_among}
use Rattle.base_map.proofs.Distinct.{all_once, none_twice}
use Rattle.finder.proofs.Inserts.{has_all}

one_way : (f : Frame) (way : Way) (to : Id) → sought f way ≡ Some to → Contains ways way
one_way f way to e =
    let p = offered_place f way to e in
    (way_place way, rw ways_length p.0, ways_at (way_place way) way p.0 ∙ p.1)

it_seeks : (f : Frame) (to : Id) (way : Way) → seeks f to way ≡ true → sought f way ≡ Some to
it_seeks f to way = by (sought f way) where
  by : (o : Option Id) → option_eq id_eq o (Some to) ≡ true → o ≡ Some to
  by None h = absurd cc
  by (Some id) h = ap Some (id_eq_same id to h)

is_key : (f : Frame) (to : Id) (way : Way) → Contains (keys_to f to) (way_key way) → sought f way ≡ Some to
is_key f to way h =
    let m = map_among way_key (filter (seeks f to) ways) (way_key way) h in
    let g = filter_among (seeks f to) ways m.0 m.1 in
    subst (λ v. sought f v ≡ Some to) (same_way m.0 way m.2) (it_seeks f to m.0 g.1)

has_key : (f : Frame) (to : Id) (way : Way) → sought f way ≡ Some to → Contains (keys_to f to) (way_key way)
has_key f to way e =
    let seeks_it = ap (λ o. option_eq id_eq o (Some to)) e ∙ id_eq_refl to in
    among_map way_key (filter (seeks f to) ways) way (among_filter (seeks f to) ways way seeks_it (one_way f way to e))

is_end : (f : Frame) (to : Id) → has_id (targets_of f) to ≡ true → (way : Way) × (sought f way ≡ Some to)
is_end f to h =
    let ids = filter_map (sought f) ways in
    let a = Any-from_list_any (id_eq to) ids (sym (has_all [] ids to) ∙ h) in
    let there = subst (λ (i : Id). Contains ids i) (sym (id_eq_same to a.1 a.4)) (a.0, a.2, a.3) in
    let w = filter_map_among (sought f) ways to there in
    (w.0, w.2)

has_end : (f : Frame) (to : Id) (way : Way) → sought f way ≡ Some to → has_id (targets_of f) to ≡ true
has_end f to way e =
    let ids = filter_map (sought f) ways in
    let there = among_filter_map (sought f) ways way to e (one_way f way to e) in
    has_all [] ids to ∙ list_any-from_Any (id_eq to) ids (there.0, to, there.1, there.2, id_eq_refl to)

-- an offered way to a frame that is found leads there, and a way that leads there is offered
leads : (caller : List ℕ) (base : BaseView) (f : Frame) (to : Id) (way : Way) (price : ℕ) → frame_at base f.id ≡ Some f
    → seek caller base to ≡ found.Found price → sought f way ≡ Some to → Leads caller base f.id way to
leads caller base f to way price there is e =
    record { price = price; found = goes caller base f.id f way to there e ∙ ap (sought_by base way to) is }

same_frame : (a b : Frame) → Some a ≡ Some b → a ≡ b
same_frame a b h = cc

found_offered : (id : Id) (price : ℕ) → destination.Found id price ≡ destination.NotOffered → ⊥
found_offered id price h = cc

offered : (caller : List ℕ) (base : BaseView) (f : Frame) (to : Id) (way : Way) → frame_at base f.id ≡ Some f → Leads caller base f.id way to
    → sought f way ≡ Some to
offered caller base f to way there on =
    let g = going caller base f.id way (destination.Found to on.price) on.found (found_offered to on.price) in
    let same = same_frame g.frame f (sym g.there ∙ there) in
    let end = found_sought base way g.to (seek caller base g.to) to on.price g.comes in
    subst (λ v. sought v way ≡ Some to) same (g.offered ∙ ap Some end.0)

pub edges_are_ways : EdgesAreWays
edges_are_ways f = (
  record {
    once = all_once [] (filter_map (sought f) ways) none_twice;
    ends = λ to. (is_end f to, λ w. has_end f to w.0 w.1);
    keys = λ to way. (is_key f to way, has_key f to way);
  },
  λ caller base to way price there is.
      (λ h. leads caller base f to way price there is (is_key f to way h), λ on. has_key f to way (offered caller base f to way there on)),
)
