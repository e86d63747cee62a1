-- Ids that are inserted into a list of ids are there once.
use Rattle.std.proofs.Common.{◌≡◌, cond, Bool, true, false, List, [], ◌∷◌, ◌++◌, refl, arith}
use Rattle.std.specs.List.{IsDistinct, AllByRecursion}
use Rattle.std.proofs.lemmas.Bool.{or_parts}
use Rattle.std.proofs.lemmas.Bool.Decides.{nat_tests}
use Rattle.indexmap.specs.IndexSet.{insert_key, insert_all}
use Rattle.page_ids.specs.Ids.{Id, id_eq}
use Rattle.finder.specs.Finds.{has_id}

turned : (a b : Id) → id_eq a b ≡ false → id_eq b a ≡ false
turned a b h = grind (arith, nat_tests)

all_more : (P : Id → Type 0) (ids : List Id) (x : Id) → AllByRecursion P ids → P x → AllByRecursion P (ids ++ x ∷ [])
all_more P [] x all px = (px, tt)
all_more P (y ∷ ys) x all px = (all.0, all_more P ys x all.1 px)

one_more : (ids : List Id) (x : Id) → IsDistinct id_eq ids → has_id ids x ≡ false → IsDistinct id_eq (ids ++ x ∷ [])
unfolding IsDistinct
one_more [] x once new = (tt, tt)
one_more (y ∷ ys) x once new =
    let parts = or_parts (id_eq x y) (has_id ys x) new in
    (all_more (λ z. id_eq y z ≡ false) ys x once.0 (turned x y parts.0), one_more ys x once.1 parts.1)

inserted : (ids : List Id) (x : Id) → IsDistinct id_eq ids → IsDistinct id_eq (insert_key id_eq ids x)
inserted ids x once = by (has_id ids x) refl where
  by : (b : Bool) → has_id ids x ≡ b → IsDistinct id_eq (cond b ids (ids ++ x ∷ []))
  by true e = once
  by false e = one_more ids x once e

pub all_once : (ids xs : List Id) → IsDistinct id_eq ids → IsDistinct id_eq (insert_all id_eq ids xs)
all_once ids [] once = once
all_once ids (x ∷ xs) once = all_once (insert_key id_eq ids x) xs (inserted ids x once)

pub none_twice : IsDistinct id_eq []
unfolding IsDistinct
none_twice = tt
