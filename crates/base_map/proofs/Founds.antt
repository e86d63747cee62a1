-- Which ids are among those of discovered frames.
use Rattle.std.proofs.Common.{◌≡◌, ◌∙◌, sym, ap, true, List, [], ◌∷◌, Any, refl, subst}
use Rattle.std.specs.Prelude.{ℕ, map, ◌||◌}
use Rattle.std.specs.List.{list_any}
use Rattle.std.proofs.lemmas.List.Folds.{Any-from_list_any, list_any-from_Any}
use Rattle.page_ids.specs.Ids.{Id, id_eq}
use Rattle.page_ids.specs.IdLaws.{id_eq_same, id_eq_refl}
use Rattle.frame_records.specs.Bases.{BaseView}
use Rattle.finder.specs.declared.found.Discovered.{Discovered}
use Rattle.finder.specs.Finds.{FindsReached, has_id}
use Rattle.base_map.specs.Map.{AreReached}
use Rattle.base_map.specs.Loops.{discovered_ids}
use Rattle.finder.proofs.Inserts.{has_all}

of_map : (found : List Discovered) (id : Id) → has_id (map (λ d. d.id) found) id ≡ list_any (λ (d : Discovered). id_eq id d.id) found
of_map [] id = refl
of_map (d ∷ ds) id = ap (λ b. id_eq id d.id || b) (of_map ds id)

has_found : (found : List Discovered) (id : Id) → has_id (discovered_ids found) id ≡ list_any (λ (d : Discovered). id_eq id d.id) found
has_found found id = has_all [] (map (λ d. d.id) found) id ∙ of_map found id

listed : (found : List Discovered) (id : Id) → Any (λ d. d.id ≡ id) found → has_id (discovered_ids found) id ≡ true
listed found id some =
    has_found found id
    ∙ list_any-from_Any (λ (d : Discovered). id_eq id d.id) found (some.0, some.1, some.2, some.3, subst (λ (x : Id). id_eq id x ≡ true) (sym some.4) (id_eq_refl id))

unlisted : (found : List Discovered) (id : Id) → has_id (discovered_ids found) id ≡ true → Any (λ d. d.id ≡ id) found
unlisted found id has =
    let some = Any-from_list_any (λ (d : Discovered). id_eq id d.id) found (sym (has_found found id) ∙ has) in
    (some.0, some.1, some.2, some.3, sym (id_eq_same id some.1.id some.4))

-- the ids in the list of the reached frames are exactly those that are reached
pub are_reached : (caller : List ℕ) (base : BaseView) (found : List Discovered) → FindsReached caller base found → AreReached caller base (discovered_ids found)
are_reached caller base found finds = record {
  each = λ id. (λ walked. listed found id ((finds.reached id).0 walked), λ has. (finds.reached id).1 (unlisted found id has));
}
