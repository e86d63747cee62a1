-- The elements of an array, as toml's grammar reads them.
use Rattle.std.proofs.Common.{◌≡◌, ℕ, zero, suc, ◌+◌, ◌≤◌, false, ◌==◌, List, length, drop, Option, Some, None, option_and_then, refl, sym, ap, ◌∙◌, ◌⊎◌, subst, inl, inr, arith, add-zero, add-one, zero-add}
use Rattle.std.proofs.lemmas.Bool.{cases_Bool}
use Rattle.std.proofs.lemmas.Option.{none-some, same_Some}
use Rattle.toml_parser.specs.Lexical.{first, skip_blank}
use Rattle.toml.specs.Data.{Data, as_array, string, Items, no_items, item, push_item, get_item, array, table}
use Rattle.toml.specs.Tables.{no_nodes}
use Rattle.toml.specs.Parse.{atom, val, items, members, after_element, scalar_data}
use Rattle.toml_parser.specs.Strings.{quoted, starts_string}
use Rattle.toml_parser.specs.Numbers.{unquoted}
use Rattle.toml_parser.specs.declared.scalar.Scalar.{Scalar}
use Rattle.toml_parser.specs.declared.scalar.Scalar.TheVariants.{Boolean, Integer, Float, Datetime}
use Rattle.toml_places.proofs.Options.{stepped, mapped}
use Rattle.toml_places.proofs.Counting.{item_count-push}
use Rattle.toml_places.proofs.Follows.{Follows, value_follows}
use Rattle.toml_places.specs.Strings.{TextPart}
use Rattle.toml_places.specs.Values.{after_value, next_element, element_from, element}
use Rattle.toml_places.specs.Places.{item_count}

get_item-push : (ds : Items) (d x : Data) (i : ℕ) → get_item i ds ≡ Some x → get_item i (push_item ds d) ≡ Some x
get_item-push no_items d x i h = absurd (none-some x h)
get_item-push (item e ds) d x zero h = h
get_item-push (item e ds) d x (suc i) h = get_item-push ds d x i h

get_item-last : (ds : Items) (d : Data) → get_item (item_count ds) (push_item ds d) ≡ Some d
get_item-last no_items d = refl
get_item-last (item e ds) d = rw add-one (get_item-last ds d)

get_item-past : (ds : Items) (k : ℕ) → get_item (item_count ds + k) ds ≡ None
get_item-past no_items k = refl
get_item-past (item e ds) k =
    let next : item_count ds + 1 + k ≡ suc (item_count ds + k) = omega arith in
    rw next (get_item-past ds k)

module _ (read : List ℕ → Option (Data × List ℕ)) (same : Follows read (after_value 80)) where
  next_read : (text after next : List ℕ) (d : Data) → (first (skip_blank text) == 93) ≡ false → read (skip_blank text) ≡ Some (d, after) → after_element 93 after ≡ Some next
      → next_element text ≡ Some ((skip_blank text, after), next)
  unfolding next_element
  next_read text after next d other reads ends = rw (other, same (skip_blank text) after d reads, ends) refl

  -- one more element
  record Turn (n : ℕ) (found all : Items) (text rest : List ℕ) : Type 0 where
    value : Data
    after : List ℕ
    next : List ℕ
    is : next_element text ≡ Some ((skip_blank text, after), next)
    reads : read (skip_blank text) ≡ Some (value, after)
    more : items read n (push_item found value) next ≡ Some (all, rest)

  turn : (n : ℕ) (found all : Items) (text rest : List ℕ) → items read (suc n) found text ≡ Some (all, rest) → (found ≡ all) ⊎ Turn n found all text rest
  unfolding items next_element
  turn n found all text rest h =
      let start = skip_blank text in
      elim (cases_Bool (first start == 93)) [
        | inl end ↦ inl (ap (λ p. p.0) (same_Some (found, drop 1 start) (all, rest) (rw end at h)))
        | inr other ↦
            let one = stepped (read start) (λ v. option_and_then (items read n (push_item found v.0)) (after_element 93 v.1)) (all, rest) (rw other at h) in
            let two = stepped (after_element 93 one.value.1) (items read n (push_item found one.value.0)) (all, rest) one.then in
            inr (record {
              value = one.value.0;
              after = one.value.1;
              next = two.value;
              is = next_read text one.value.1 two.value one.value.0 other one.is two.is;
              reads = one.is;
              more = two.then;
            })
      ]

  items_keep : (n i : ℕ) (found all : Items) (text rest : List ℕ) (x : Data) → items read n found text ≡ Some (all, rest) → get_item i found ≡ Some x
      → get_item i all ≡ Some x
  unfolding items
  items_keep zero i found all text rest x h there = absurd (none-some (all, rest) h)
  items_keep (suc n) i found all text rest x h there =
      elim (turn n found all text rest h) [
        | inl over ↦ subst (λ (ds : Items). get_item i ds ≡ Some x) over there
        | inr t ↦ items_keep n i (push_item found t.value) all t.next rest x t.more (get_item-push found t.value x i there)
      ]

  items_at : (n k : ℕ) (found all : Items) (text rest : List ℕ) (x : Data) → items read n found text ≡ Some (all, rest) → get_item (item_count found + k) all ≡ Some x
      → (p : TextPart) × (element_from k text ≡ Some p) × (read p.0 ≡ Some (x, p.1))
  unfolding items element_from
  items_at zero k found all text rest x h there = absurd (none-some (all, rest) h)
  items_at (suc n) zero found all text rest x h there =
      elim (turn n found all text rest h) [
        | inl over ↦ absurd (none-some x (sym (get_item-past found 0) ∙ subst (λ (ds : Items). get_item (item_count found + 0) ds ≡ Some x) (sym over) there))
        | inr t ↦
            let here = items_keep n (item_count found) (push_item found t.value) all t.next rest t.value t.more (get_item-last found t.value) in
            let there_too : get_item (item_count found) all ≡ Some x = rw add-zero at there in
            let value : t.value ≡ x = same_Some t.value x (sym here ∙ there_too) in
            ((skip_blank text, t.after), rw t.is refl, t.reads ∙ ap (λ (d : Data). Some (d, t.after)) value)
      ]
  items_at (suc n) (suc k) found all text rest x h there =
      elim (turn n found all text rest h) [
        | inl over ↦ absurd (none-some x (sym (get_item-past found (suc k)) ∙ subst (λ (ds : Items). get_item (item_count found + suc k) ds ≡ Some x) (sym over) there))
        | inr t ↦
            let index : item_count found + suc k ≡ item_count (push_item found t.value) + k = rw (item_count-push found t.value) (omega arith) in
            let (p, is, reads) = items_at n k (push_item found t.value) all t.next rest x t.more (rw (← index) there) in
            (p, rw t.is is, reads)
      ]

scalar_no_array : (x : Scalar) → as_array (scalar_data x) ≡ None
scalar_no_array (Boolean b) = refl
scalar_no_array (Integer z) = refl
scalar_no_array (Float x) = refl
scalar_no_array (Datetime d) = refl

atom_no_array : (text rest : List ℕ) (all : Items) → atom text ≡ Some (array all, rest) → ⊥
unfolding atom
atom_no_array text rest all h =
    elim (cases_Bool (starts_string text)) [
      | inl quotes ↦
          let m = mapped (quoted text) (λ p. (string p.0, p.1)) (array all, rest) (rw quotes at h) in
          none-some all (ap (λ p. as_array p.0) m.same)
      | inr other ↦
          let m = mapped (unquoted text) (λ p. (scalar_data p.0, p.1)) (array all, rest) (rw other at h) in
          none-some all (sym (scalar_no_array m.value.0) ∙ ap (λ p. as_array p.0) m.same)
    ]

-- the k-th element of an array, at whatever depth
pub elements_are_read : (n k : ℕ) (text rest : List ℕ) (all : Items) (d : Data) → n ≤ 80 → val (suc n) text ≡ Some (array all, rest) → get_item k all ≡ Some d
    → (p : TextPart) × (element k text ≡ Some p) × (val n p.0 ≡ Some (d, p.1))
unfolding val element
elements_are_read n k text rest all d room h there =
    elim (cases_Bool (first text == 91)) [
      | inl list ↦
          let m = mapped (items (val n) (length text) no_items (drop 1 text)) (λ p. (array p.0, p.1)) (array all, rest) (rw list at h) in
          let same : m.value.0 ≡ all = same_Some m.value.0 all (ap (λ p. as_array p.0) m.same) in
          let found : get_item (0 + k) m.value.0 ≡ Some d = subst (λ (ds : Items). get_item (0 + k) ds ≡ Some d) (sym same) (rw zero-add there) in
          rw list (items_at (val n) (value_follows n 80 room) (length text) k no_items m.value.0 (drop 1 text) m.value.1 d m.is found)
      | inr other ↦ elim (cases_Bool (first text == 123)) [
        | inl inline ↦
            let m = mapped (members (val n) (length text) no_nodes (drop 1 text)) (λ p. (table p.0, p.1)) (array all, rest) (rw (other, inline) at h) in
            absurd (none-some all (ap (λ p. as_array p.0) m.same))
        | inr neither ↦ absurd (atom_no_array text rest all (rw (other, neither) at h))
      ]
    ]
