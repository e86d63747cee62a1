-- Ids that are inserted into a list of ids, each once.
use Rattle.std.proofs.Common.{◌≡◌, ◌∙◌, ◌||◌, sym, ap, cond, Bool, true, false, List, [], ◌∷◌, ◌++◌, refl, subst}
use Rattle.std.proofs.lemmas.List.Folds.{list_any-append}
use Rattle.indexmap.specs.IndexSet.{insert_key, insert_all}
use Rattle.page_ids.specs.Ids.{Id, id_eq}
use Rattle.page_ids.specs.IdLaws.{id_eq_same}
use Rattle.finder.specs.Finds.{has_id}
use Rattle.std.proofs.Math.Bool.{or-false}

or_turned : (a b c : Bool) → ((a || (b || false)) || c) ≡ (a || (b || c))
or_turned true b c = refl
or_turned false true c = refl
or_turned false false c = refl

absorbed : (ids : List Id) (x id : Id) (b : Bool) → has_id ids x ≡ true → id_eq id x ≡ b → has_id ids id ≡ (has_id ids id || (b || false))
absorbed ids x id true there e = let same = id_eq_same id x e in rw (subst (λ (y : Id). has_id ids y ≡ true) (sym same) there) refl
absorbed ids x id false there e = sym (or-false (has_id ids id))

-- an id more
pub has_inserted : (ids : List Id) (x id : Id) → has_id (insert_key id_eq ids x) id ≡ (has_id ids id || (id_eq id x || false))
has_inserted ids x id = by (has_id ids x) refl where
  by : (b : Bool) → has_id ids x ≡ b → has_id (cond b ids (ids ++ x ∷ [])) id ≡ (has_id ids id || (id_eq id x || false))
  by true e = absorbed ids x id (id_eq id x) e refl
  by false e = list_any-append (id_eq id) ids (x ∷ [])

-- each of the ids that are inserted is there, and those that were there
pub has_all : (ids xs : List Id) (id : Id) → has_id (insert_all id_eq ids xs) id ≡ (has_id ids id || has_id xs id)
has_all ids [] id = sym (or-false (has_id ids id))
has_all ids (x ∷ xs) id =
    has_all (insert_key id_eq ids x) xs id
    ∙ (ap (λ b. b || has_id xs id) (has_inserted ids x id) ∙ or_turned (has_id ids id) (id_eq id x) (has_id xs id))
