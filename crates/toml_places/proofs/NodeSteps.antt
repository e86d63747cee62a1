-- What one expression changes at each key of a table.
use Rattle.std.proofs.Common.{◌≡◌, ℕ, Ordering, Less, Equal, Greater, nat_cmp, true, false, cond, List, [], ◌∷◌, Some, None, ◌⊎◌, refl, sym, ap, ◌∙◌, subst, inl, inr}
use Rattle.std.proofs.lemmas.Bool.{cases_Bool}
use Rattle.std.proofs.lemmas.Option.{none-some, same_Some}
use Rattle.std.proofs.lemmas.Map.Text.{is_eq-slice_cmp}
use Rattle.std.proofs.lemmas.Slice.Eq.{bytes_eq-Decides}
use Rattle.std.specs.Cmp.Lexicographic.{slice_cmp}
use Rattle.toml.specs.Data.{Data, same_key}
use Rattle.toml.specs.Tables.{implicit, dotted, header, Node, Nodes, no_nodes, node, value, open_table, open_array, get_node, insert, replace, Edit, header_node, dot_node, along_header, along_dots, Definition, key_value, new_node, redefine, at_key, put}
use Rattle.toml.proofs.NodeLaws.{get_node-replace, get_node-insert, along_found, along_missing}
use Rattle.toml_places.proofs.Options.{mapped, cases_option}

-- keys that are the same are equal
pub key_is : (k l : List ℕ) → same_key k l ≡ true → k ≡ l
key_is k l h = (bytes_eq-Decides k l).0 (sym (is_eq-slice_cmp k l) ∙ h)

pub cases_ordering : (o : Ordering) → (o ≡ Less) ⊎ ((o ≡ Equal) ⊎ (o ≡ Greater))
cases_ordering Less = inl refl
cases_ordering Equal = inr (inl refl)
cases_ordering Greater = inr (inr refl)

get_node-insert_other : (j k : List ℕ) (x : Node) (ns : Nodes) → same_key j k ≡ false → get_node j (insert k x ns) ≡ get_node j ns
get_node-insert_other j k x no_nodes other = rw other refl
get_node-insert_other j k x (node l y ns) other =
    elim (cases_ordering (slice_cmp nat_cmp k l)) [
      | inl less ↦ rw (less, other) refl
      | inr more ↦ elim more [
        | inl tie ↦
            let same : k ≡ l = key_is k l (rw tie refl) in
            let away : same_key j l ≡ false = rw (← same) other in
            rw (tie, away) refl
        | inr greater ↦ rw greater (ap (λ o. cond (same_key j l) (Some y) o) (get_node-insert_other j k x ns other))
      ]
    ]

get_node-replace_other : (j k : List ℕ) (x : Node) (ns : Nodes) → same_key j k ≡ false → get_node j (replace k x ns) ≡ get_node j ns
get_node-replace_other j k x no_nodes other = refl
get_node-replace_other j k x (node l y ns) other =
    elim (cases_Bool (same_key k l)) [
      | inl same ↦
          let away : same_key j l ≡ false = rw (← key_is k l same) other in
          rw (same, away) refl
      | inr more ↦ rw more (ap (λ o. cond (same_key j l) (Some y) o) (get_node-replace_other j k x ns other))
    ]

-- the key has this node now, and the others have what they had
pub record Sets (k : List ℕ) (x : Node) (ns new : Nodes) : Type 0 where
  pub here : get_node k new ≡ Some x
  pub others : (j : List ℕ) → same_key j k ≡ false → get_node j new ≡ get_node j ns

sets_insert : (k : List ℕ) (x : Node) (ns new : Nodes) → insert k x ns ≡ new → Sets k x ns new
sets_insert k x ns new e =
    subst (λ (n : Nodes). Sets k x ns n) e
    (record { here = get_node-insert k x ns; others = λ j other. get_node-insert_other j k x ns other })

sets_replace : (k : List ℕ) (x y : Node) (ns new : Nodes) → get_node k ns ≡ Some y → replace k x ns ≡ new → Sets k x ns new
sets_replace k x y ns new h e =
    subst (λ (n : Nodes). Sets k x ns n) e
    (record { here = get_node-replace k x ns y h; others = λ j other. get_node-replace_other j k x ns other })

-- the first of these parts and this one
abbrev pub first_of : List (List ℕ) → List ℕ → List ℕ
first_of [] k = k
first_of (j ∷ p) k = j

-- a header's path, a step
pub record Passed (k : List ℕ) (edit : Edit) (ns new : Nodes) : Type 0 where
  pub x : Node
  pub sets : Sets k x ns new
  pub from : ((get_node k ns ≡ None) × ((inner : Nodes) × (x ≡ open_table implicit inner))) ⊎ ((y : Node) × (get_node k ns ≡ Some y) × (header_node edit y ≡ Some x))

pub header_passed : (k : List ℕ) (p : List (List ℕ)) (e : Edit) (ns new : Nodes) → along_header (k ∷ p) e ns ≡ Some new → Passed k (along_header p e) ns new
header_passed k p e ns new h =
    elim (cases_option (get_node k ns)) [
      | inl none ↦
          let m = mapped (along_header p e no_nodes) (λ inner. insert k (open_table implicit inner) ns) new (sym (along_missing k p e ns none) ∙ h) in
          record { x = open_table implicit m.value; sets = sets_insert k (open_table implicit m.value) ns new m.same; from = inl (none, (m.value, refl)) }
      | inr found ↦
          let (y, some) = found in
          let m = mapped (header_node (along_header p e) y) (λ x. replace k x ns) new (sym (along_found k p e ns y some) ∙ h) in
          record { x = m.value; sets = sets_replace k m.value y ns new some m.same; from = inr (y, some, m.is) }
    ]

-- what is no array of tables
abbrev pub IsPlain : Node → Type 0
IsPlain (value d) = Unit {0}
IsPlain (open_table origin ns) = Unit {0}
IsPlain (open_array done last) = ⊥

-- a definition at a key
pub record Keyed (k : List ℕ) (what : Definition) (ns new : Nodes) : Type 0 where
  pub x : Node
  pub sets : Sets k x ns new
  pub from : ((get_node k ns ≡ None) × (x ≡ new_node what)) ⊎ ((y : Node) × (get_node k ns ≡ Some y) × (redefine what y ≡ Some x))

pub key_set : (k : List ℕ) (what : Definition) (ns new : Nodes) → at_key k what ns ≡ Some new → Keyed k what ns new
unfolding at_key
key_set k what ns new h =
    elim (cases_option (get_node k ns)) [
      | inl none ↦
          let same = same_Some (insert k (new_node what) ns) new (rw none at h) in
          record { x = new_node what; sets = sets_insert k (new_node what) ns new same; from = inl (none, refl) }
      | inr found ↦
          let (y, some) = found in
          let m = mapped (redefine what y) (λ x. replace k x ns) new (rw some at h) in
          record { x = m.value; sets = sets_replace k m.value y ns new some m.same; from = inr (y, some, m.is) }
    ]

-- a pair
pub record Paired (k : List ℕ) (ns new : Nodes) : Type 0 where
  pub x : Node
  pub sets : Sets k x ns new
  pub plain : IsPlain x

dotted_plain : (edit : Edit) (y x : Node) → dot_node edit y ≡ Some x → IsPlain x
dotted_plain edit (value d) x h = absurd (none-some x h)
dotted_plain edit (open_table header inner) x h = absurd (none-some x h)
dotted_plain edit (open_table implicit inner) x h = let m = mapped (edit inner) (open_table dotted) x h in subst IsPlain m.same tt
dotted_plain edit (open_table dotted inner) x h = let m = mapped (edit inner) (open_table dotted) x h in subst IsPlain m.same tt
dotted_plain edit (open_array done last) x h = absurd (none-some x h)

dots_set : (k : List ℕ) (p : List (List ℕ)) (e : Edit) (ns new : Nodes) → along_dots (k ∷ p) e ns ≡ Some new → Paired k ns new
unfolding along_dots
dots_set k p e ns new h =
    elim (cases_option (get_node k ns)) [
      | inl none ↦
          let m = mapped (along_dots p e no_nodes) (λ inner. insert k (open_table dotted inner) ns) new (rw none at h) in
          record { x = open_table dotted m.value; sets = sets_insert k (open_table dotted m.value) ns new m.same; plain = tt }
      | inr found ↦
          let (y, some) = found in
          let m = mapped (dot_node (along_dots p e) y) (λ x. replace k x ns) new (rw some at h) in
          record { x = m.value; sets = sets_replace k m.value y ns new some m.same; plain = dotted_plain (along_dots p e) y m.value m.is }
    ]

value_set : (k : List ℕ) (d : Data) (ns new : Nodes) → at_key k (key_value d) ns ≡ Some new → Paired k ns new
value_set k d ns new h =
    let s = key_set k (key_value d) ns new h in
    elim s.from [
      | inl made ↦ record { x = s.x; sets = s.sets; plain = rw made.1 tt }
      | inr there ↦ absurd (none-some s.x there.2)
    ]

pub pair_set : (p : List (List ℕ)) (k : List ℕ) (d : Data) (ns new : Nodes) → put (p, k) d ns ≡ Some new → Paired (first_of p k) ns new
unfolding along_dots
pair_set [] k d ns new h = value_set k d ns new h
pair_set (j ∷ p) k d ns new h = dots_set j p (at_key k (key_value d)) ns new h
