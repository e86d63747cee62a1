-- On what toml's grammar reads, the definitions of this crate leave the same text.
use Rattle.std.proofs.Common.{◌≡◌, ℕ, zero, suc, ◌+◌, ◌≤◌, true, false, cond, ◌==◌, List, [], ◌∷◌, ◌++◌, length, length-append, take, drop, slice_index, slice_get, Option, Some, None, option_map, option_and_then, refl, sym, ap, ◌∙◌, inl, inr, arith, subst, append_assoc, add-zero, zero-add, ◌||◌}
use Rattle.std.proofs.lemmas.Bool.{cases_Bool}
use Rattle.std.proofs.lemmas.Bool.Decides.{nat_tests}
use Rattle.std.proofs.lemmas.Option.{none-some, same_Some, slice_get_past}
use Rattle.toml_parser.specs.declared.scalar.Scalar.{Scalar}
use Rattle.toml_parser.specs.Lexical.{Read, first, skip_blank, skip_ws, is_bare, split_while}
use Rattle.toml_parser.specs.Strings.{Key, key, key_after, simple_key, one_line, quoted, starts_string, recursion_limit}
use Rattle.toml_parser.specs.Numbers.{unquoted, word_len, word_value}
use Rattle.toml_parser.proofs.StringsLemmas.{key_after_zero}
use Rattle.toml.specs.Data.{Data, string, Items, Members, no_items, push_item, array, table}
use Rattle.toml.specs.Tables.{Nodes, no_nodes, put, Expression, key_value, std_table, array_table}
use Rattle.toml.specs.Parse.{read_map, scalar_data, atom, val, items, members, keyval, key_equals, after_element, header_key, expression, line, ends_line, after_byte}
use Rattle.toml_places.proofs.Options.{stepped, mapped}
use Rattle.toml_places.proofs.StringFollows.{content_follows, quoted_follows, ascii_delim}
use Rattle.toml_places.proofs.SkipTurns.{value_deep}
use Rattle.toml_places.specs.declared.lines.Sort.TheVariants.{Table}
use Rattle.toml_places.specs.Strings.{TextPart, after_part, next_part, part_from, after_key, value_from}
use Rattle.toml_places.specs.Values.{after_word, after_atom, after_member, after_members, after_value}
use Rattle.toml_places.specs.Places.{parts}
use Rattle.toml_places.specs.Spans.{value_or_key}
use Rattle.toml_places.specs.Skips.{sort_of}
use Rattle.toml_places.specs.Loops.{array_header, pair, opened_after, whole_line, KeyLine}

-- an expression of toml's, by its key and its kind
abbrev pub line_of : Expression → KeyLine
line_of e = (e.0, sort_of e.1)

part_follows : (text rest part : List ℕ) → simple_key text ≡ Some (part, rest) → after_part text ≡ Some rest
unfolding simple_key one_line after_part
part_follows text rest part h =
    elim (cases_Bool (starts_string text)) [
      | inl quotes ↦
          rw quotes (content_follows (first text) false (ascii_delim text quotes) (length text) (length text) (drop 1 text) part rest (omega arith) (rw quotes at h))
      | inr other ↦ elim (cases_Bool (is_bare (first text))) [
        | inl bare ↦ rw (other, bare) (ap (λ p. Some p.1) (same_Some (split_while is_bare text) (part, rest) (rw (other, bare) at h)))
        | inr none ↦ absurd (none-some (part, rest) (rw (other, none) at h))
      ]
    ]

-- what was read of a key after these parts
abbrev KeyTurn : ℕ → List (List ℕ) → List ℕ → Key → List ℕ → List ℕ × List ℕ → Type 0
KeyTurn n path text k rest part =
    cond (first (skip_ws part.1) == 46) (key_after n (path ++ part.0 ∷ []) (skip_ws (drop 1 (skip_ws part.1)))) (Some ((path, part.0), skip_ws part.1)) ≡ Some (k, rest)

key_turn : (n : ℕ) (path : List (List ℕ)) (text rest : List ℕ) (k : Key) → key_after (suc n) path text ≡ Some (k, rest)
    → (part : List ℕ × List ℕ) × (simple_key text ≡ Some part) × KeyTurn n path text k rest part
unfolding key_after
key_turn n path text rest k h =
    let one = stepped (simple_key text) _ (k, rest) h in
    (one.value, one.is, one.then)

key_follows : (n : ℕ) (path : List (List ℕ)) (text rest : List ℕ) (k : Key) → key_after n path text ≡ Some (k, rest)
    → (end : List ℕ) × (after_key n text ≡ Some end) × (skip_ws end ≡ rest)
unfolding after_key
key_follows zero path text rest k h = absurd (none-some (k, rest) (sym (key_after_zero path text) ∙ h))
key_follows (suc n) path text rest k h =
    let (part, is, then) = key_turn n path text rest k h in
    let after : after_part text ≡ Some part.1 = part_follows text part.1 part.0 is in
    elim (cases_Bool (first (skip_ws part.1) == 46)) [
      | inl dotted ↦
          let (end, more, same) = key_follows n (path ++ part.0 ∷ []) (skip_ws (drop 1 (skip_ws part.1))) rest k (rw dotted at then) in
          (end, rw (after, dotted) more, same)
      | inr last ↦
          (part.1, rw (after, last) refl, ap (λ p. p.1) (same_Some ((path, part.0), skip_ws part.1) (k, rest) (rw last at then)))
    ]

abbrev last_of : List (List ℕ) → List ℕ × List ℕ → Key × List ℕ
last_of path part = ((path, part.0), skip_ws part.1)

last_part : (path : List (List ℕ)) (k : Key) (rest : List ℕ) (part : List ℕ × List ℕ) → Some (last_of path part) ≡ Some (k, rest) → parts k ≡ path ++ part.0 ∷ []
last_part path k rest part h = sym (ap (λ p. parts p.0) (same_Some (last_of path part) (k, rest) h))

-- a key begins with the parts before it
key_front : (n : ℕ) (path : List (List ℕ)) (text rest : List ℕ) (k : Key) → key_after n path text ≡ Some (k, rest)
    → (tail : List (List ℕ)) × (parts k ≡ path ++ tail)
key_front zero path text rest k h = absurd (none-some (k, rest) (sym (key_after_zero path text) ∙ h))
key_front (suc n) path text rest k h =
    let (part, is, then) = key_turn n path text rest k h in
    elim (cases_Bool (first (skip_ws part.1) == 46)) [
      | inl dotted ↦
          let (tail, same) = key_front n (path ++ part.0 ∷ []) (skip_ws (drop 1 (skip_ws part.1))) rest k (rw dotted at then) in
          (part.0 ∷ tail, same ∙ append_assoc path (part.0 ∷ []) tail)
      | inr last ↦ (part.0 ∷ [], last_part path k rest part (rw last at then))
    ]

turn_front : (n : ℕ) (path : List (List ℕ)) (text rest : List ℕ) (k : Key) (part : List ℕ × List ℕ) → KeyTurn n path text k rest part
    → (tail : List (List ℕ)) × (parts k ≡ path ++ part.0 ∷ tail)
turn_front n path text rest k part then =
    elim (cases_Bool (first (skip_ws part.1) == 46)) [
      | inl dotted ↦
          let (tail, same) = key_front n (path ++ part.0 ∷ []) (skip_ws (drop 1 (skip_ws part.1))) rest k (rw dotted at then) in
          (tail, same ∙ append_assoc path (part.0 ∷ []) tail)
      | inr last ↦ ([], last_part path k rest part (rw last at then))
    ]

seam : (xs ys : List (List ℕ)) (y : List ℕ) → slice_get (xs ++ y ∷ ys) (length xs) ≡ Some y
seam [] ys y = refl
seam (x ∷ xs) ys y = seam xs ys y

dotted_next : (text : List ℕ) → (first (skip_ws text) == 46) ≡ true → next_part text ≡ Some (skip_ws (drop 1 (skip_ws text)))
unfolding next_part
dotted_next text dotted = rw dotted refl

-- a part that was read
abbrev PartRead : ℕ → List ℕ → List ℕ → Type 0
PartRead i text part = (p : TextPart) × (part_from i text ≡ Some p.0) × (after_part p.0 ≡ Some p.1) × (simple_key p.0 ≡ Some (part, p.1))

parts_follow : (n i : ℕ) (path : List (List ℕ)) (text rest part : List ℕ) (k : Key) → key_after n path text ≡ Some (k, rest)
    → slice_get (parts k) (length path + i) ≡ Some part → PartRead i text part
unfolding part_from
parts_follow zero i path text rest part k h found = absurd (none-some (k, rest) (sym (key_after_zero path text) ∙ h))
parts_follow (suc n) zero path text rest part k h found =
    let (q, is, then) = key_turn n path text rest k h in
    let (tail, front) = turn_front n path text rest k q then in
    let here : slice_get (parts k) (length path + 0) ≡ Some q.0 = rw (front, add-zero) (seam path tail q.0) in
    let same : q.0 ≡ part = same_Some q.0 part (sym here ∙ found) in
    ((text, q.1), refl, part_follows text q.1 q.0 is, is ∙ ap (λ (x : List ℕ). Some (x, q.1)) same)
parts_follow (suc n) (suc i) path text rest part k h found =
    let (q, is, then) = key_turn n path text rest k h in
    let after : after_part text ≡ Some q.1 = part_follows text q.1 q.0 is in
    elim (cases_Bool (first (skip_ws q.1) == 46)) [
      | inl dotted ↦
          let index : length path + suc i ≡ length (path ++ q.0 ∷ []) + i = simp length-append (omega arith) in
          let found_there : slice_get (parts k) (length (path ++ q.0 ∷ []) + i) ≡ Some part = rw (← index) found in
          let (p, from, ends, reads) = parts_follow n i (path ++ q.0 ∷ []) (skip_ws (drop 1 (skip_ws q.1))) rest part k (rw dotted at then) found_there in
          (p, rw (after, dotted_next q.1 dotted) from, ends, reads)
      | inr last ↦
          let all : parts k ≡ path ++ q.0 ∷ [] = last_part path k rest q (rw last at then) in
          let past : slice_get (parts k) (length path + suc i) ≡ None = rw all (slice_get_past (path ++ q.0 ∷ []) (length path + suc i) (simp length-append (omega arith))) in
          absurd (none-some part (sym past ∙ found))
    ]

-- the i-th part of a key
pub parts_are_read : (text rest part : List ℕ) (k : Key) (i : ℕ) → key text ≡ Some (k, rest) → slice_get (parts k) i ≡ Some part → PartRead i text part
parts_are_read text rest part k i h found = parts_follow 80 i [] text rest part k h (rw zero-add found)

path_longer : (n : ℕ) (path : List (List ℕ)) (text rest : List ℕ) (k : Key) → key_after n path text ≡ Some (k, rest) → length path ≤ length k.0
path_longer zero path text rest k h = absurd (none-some (k, rest) (sym (key_after_zero path text) ∙ h))
path_longer (suc n) path text rest k h =
    let (part, is, then) = key_turn n path text rest k h in
    elim (cases_Bool (first (skip_ws part.1) == 46)) [
      | inl dotted ↦
          let more = path_longer n (path ++ part.0 ∷ []) (skip_ws (drop 1 (skip_ws part.1))) rest k (rw dotted at then) in
          let longer : length (path ++ part.0 ∷ []) ≡ length path + 1 = length-append path (part.0 ∷ []) in
          omega arith
      | inr last ↦
          let same : path ≡ k.0 = ap (λ (p : Key × List ℕ). p.0.0) (same_Some (last_of path part) (k, rest) (rw last at then)) in
          omega (arith, ap length same)
    ]

-- the last part of a key
pub record LastPart (i : ℕ) (text rest : List ℕ) : Type 0 where
  pub start : List ℕ
  pub end : List ℕ
  pub from : part_from i text ≡ Some start
  pub ends : after_part start ≡ Some end
  pub same : skip_ws end ≡ rest
  pub last : (first (skip_ws end) == 46) ≡ false

pub last_follows : (n i : ℕ) (path : List (List ℕ)) (text rest : List ℕ) (k : Key) → key_after n path text ≡ Some (k, rest) → length path + i ≡ length k.0
    → LastPart i text rest
unfolding part_from
last_follows zero i path text rest k h index = absurd (none-some (k, rest) (sym (key_after_zero path text) ∙ h))
last_follows (suc n) zero path text rest k h index =
    let (q, is, then) = key_turn n path text rest k h in
    elim (cases_Bool (first (skip_ws q.1) == 46)) [
      | inl dotted ↦
          let more = path_longer n (path ++ q.0 ∷ []) (skip_ws (drop 1 (skip_ws q.1))) rest k (rw dotted at then) in
          let longer : length (path ++ q.0 ∷ []) ≡ length path + 1 = length-append path (q.0 ∷ []) in
          absurd (omega arith)
      | inr last ↦ record {
        start = text;
        end = q.1;
        from = refl;
        ends = part_follows text q.1 q.0 is;
        same = ap (λ p. p.1) (same_Some (last_of path q) (k, rest) (rw last at then));
        last = last;
      }
    ]
last_follows (suc n) (suc i) path text rest k h index =
    let (q, is, then) = key_turn n path text rest k h in
    let after : after_part text ≡ Some q.1 = part_follows text q.1 q.0 is in
    elim (cases_Bool (first (skip_ws q.1) == 46)) [
      | inl dotted ↦
          let longer : length (path ++ q.0 ∷ []) ≡ length path + 1 = length-append path (q.0 ∷ []) in
          let r = last_follows n i (path ++ q.0 ∷ []) (skip_ws (drop 1 (skip_ws q.1))) rest k (rw dotted at then) (omega arith) in
          record { start = r.start; end = r.end; from = rw (after, dotted_next q.1 dotted) r.from; ends = r.ends; same = r.same; last = r.last }
      | inr last ↦
          let same : path ≡ k.0 = ap (λ (p : Key × List ℕ). p.0.0) (same_Some (last_of path q) (k, rest) (rw last at then)) in
          absurd (omega (arith, ap length same))
    ]

-- a value after a key
pub key_equals_follows : (text value : List ℕ) (k : Key) → key_equals text ≡ Some (k, value) → value_from 80 text ≡ Some value
unfolding key_equals value_from
key_equals_follows text value k h =
    let one = stepped (key text) (λ p. option_map (λ rest. (p.0, skip_ws rest)) (after_byte 61 p.1)) (k, value) h in
    let two = mapped (after_byte 61 one.value.1) (λ rest. (one.value.0, skip_ws rest)) (k, value) one.then in
    let (end, is, same) = key_follows 80 [] text one.value.1 one.value.0 one.is in
    rw (is, same, two.is) (ap (λ (p : Key × List ℕ). Some p.1) two.same)

-- whatever toml's reader reads, the other leaves the same text
abbrev pub Follows : (List ℕ → Read Data) → (List ℕ → Option (List ℕ)) → Type 0
Follows read after = (text rest : List ℕ) (d : Data) → read text ≡ Some (d, rest) → after text ≡ Some rest

-- what was read under f
pub read_under : {A B : Type 0} (f : A → B) (r : Read A) (b : B) (rest : List ℕ) → read_map f r ≡ Some (b, rest) → (a : A) × (r ≡ Some (a, rest))
read_under f r b rest h =
    let m = mapped r (λ p. (f p.0, p.1)) (b, rest) h in
    (m.value.0, m.is ∙ ap (λ t. Some (m.value.0, t)) (ap (λ p. p.1) m.same))

word_follows : (text rest : List ℕ) (d : Scalar) → unquoted text ≡ Some (d, rest) → after_word text ≡ Some rest
unfolding unquoted after_word
word_follows text rest d h =
    elim (cases_Bool (word_len text == 0)) [
      | inl none ↦ absurd (none-some (d, rest) (rw none at h))
      | inr some ↦
          let m = mapped (word_value (take (word_len text) text)) (λ x. (x, drop (word_len text) text)) (d, rest) (rw some at h) in
          rw some (ap (λ (p : Scalar × List ℕ). Some p.1) m.same)
    ]

atom_follows : Follows atom after_atom
unfolding atom after_atom
atom_follows text rest d h =
    elim (cases_Bool (starts_string text)) [
      | inl here ↦
          let (content, is) = read_under string (quoted text) d rest (rw here at h) in
          rw here (quoted_follows text content rest here is)
      | inr other ↦
          let (scalar, is) = read_under scalar_data (unquoted text) d rest (rw other at h) in
          rw other (word_follows text rest scalar is)
    ]

module _ (read : List ℕ → Read Data) (after : List ℕ → Option (List ℕ)) (same : Follows read after) where
  items_follow : (n : ℕ) (found : Items) (text rest : List ℕ) (all : Items) → items read n found text ≡ Some (all, rest) → after_members after 93 n text ≡ Some rest
  unfolding items after_members after_member
  items_follow zero found text rest all h = absurd (none-some (all, rest) h)
  items_follow (suc n) found text rest all h =
      let start = skip_blank text in
      elim (cases_Bool (first start == 93)) [
        | inl here ↦ rw here (ap (λ p. Some p.1) (same_Some (found, drop 1 start) (all, rest) (rw here at h)))
        | inr other ↦
            let one = stepped (read start) (λ v. option_and_then (items read n (push_item found v.0)) (after_element 93 v.1)) (all, rest) (rw other at h) in
            let two = stepped (after_element 93 one.value.1) (items read n (push_item found one.value.0)) (all, rest) one.then in
            rw (other, same start one.value.1 one.value.0 one.is, two.is) (items_follow n (push_item found one.value.0) two.value rest all two.then)
      ]

  -- a pair that was read
  pub pair_after : (text rest : List ℕ) (e : Key × Data) → keyval read text ≡ Some (e, rest)
      → (at_value : List ℕ) × (key_equals text ≡ Some (e.0, at_value)) × (after at_value ≡ Some rest)
  pair_after text rest e h =
      let key = stepped (key_equals text) (λ k. read_map (λ d. (k.0, d)) (read k.1)) (e, rest) h in
      let value = mapped (read key.value.1) (λ p. ((key.value.0, p.0), p.1)) (e, rest) key.then in
      let left : read key.value.1 ≡ Some (value.value.0, rest) =
      value.is ∙ ap (λ (p : (Key × Data) × List ℕ). Some (value.value.0, p.1)) value.same in (
        key.value.1,
        key.is ∙ ap (λ (p : (Key × Data) × List ℕ). Some (p.0.0, key.value.1)) value.same,
        same key.value.1 rest value.value.0 left,
      )

  members_follow : (n : ℕ) (found : Nodes) (text rest : List ℕ) (all : Members) → members read n found text ≡ Some (all, rest)
      → after_members after 125 n text ≡ Some rest
  unfolding members after_members after_member
  members_follow zero found text rest all h = absurd (none-some (all, rest) h)
  members_follow (suc n) found text rest all h =
      let start = skip_blank text in
      elim (cases_Bool (first start == 125)) [
        | inl here ↦ rw here (ap (λ p. Some p.1) (same_Some _ (all, rest) (rw here at h)))
        | inr other ↦
            let one = stepped (keyval read start) (λ e. option_and_then (λ more. option_and_then (members read n more) (after_element 125 e.1)) (put e.0.0 e.0.1 found)) (all, rest) (rw other at h) in
            let two = stepped (put one.value.0.0 one.value.0.1 found) (λ more. option_and_then (members read n more) (after_element 125 one.value.1)) (all, rest) one.then in
            let three = stepped (after_element 125 one.value.1) (members read n two.value) (all, rest) two.then in
            let (at_value, key, passed) = pair_after start one.value.1 one.value.0 one.is in
            let from : value_from 80 start ≡ Some at_value = key_equals_follows start at_value one.value.0.0 key in
            rw (other, from, passed, three.is) (members_follow n two.value three.value rest all three.then)
      ]

pub bracket_atom : (text rest : List ℕ) (d : Data) → ((first text == 91) || (first text == 123)) ≡ true → atom text ≡ Some (d, rest) → ⊥
unfolding after_value
bracket_atom text rest d bracket h = none-some rest (sym (value_deep text bracket) ∙ atom_follows text rest d h)

-- a reader of values that may lie deeper leaves the same text
pub value_follows : (n m : ℕ) → n ≤ m → Follows (val n) (after_value m)
unfolding val after_value
value_follows zero zero room text rest d h = atom_follows text rest d h
value_follows zero (suc m) room text rest d h =
    elim (cases_Bool (first text == 91)) [
      | inl list ↦ absurd (bracket_atom text rest d (rw list refl) h)
      | inr other ↦ elim (cases_Bool (first text == 123)) [
        | inl inline ↦ absurd (bracket_atom text rest d (rw (other, inline) refl) h)
        | inr neither ↦ rw (other, neither) (atom_follows text rest d h)
      ]
    ]
value_follows (suc n) zero room text rest d h = absurd (omega arith)
value_follows (suc n) (suc m) room text rest d h =
    let inside = drop 1 text in
    let same : Follows (val n) (after_value m) = value_follows n m (omega arith) in
    elim (cases_Bool (first text == 91)) [
      | inl list ↦
          let (all, is) = read_under array (items (val n) (length text) no_items inside) d rest (rw list at h) in
          rw list (items_follow (val n) (after_value m) same (length text) no_items inside rest all is)
      | inr other ↦ elim (cases_Bool (first text == 123)) [
        | inl inline ↦
            let (all, is) = read_under table (members (val n) (length text) no_nodes inside) d rest (rw (other, inline) at h) in
            rw (other, inline) (members_follow (val n) (after_value m) same (length text) no_nodes inside rest all is)
        | inr neither ↦ rw (other, neither) (atom_follows text rest d (rw (other, neither) at h))
      ]
    ]

value_or_key_is : (t end more value after : List ℕ) → after_part t ≡ Some end → (first (skip_ws end) == 46) ≡ false → after_byte 61 (skip_ws end) ≡ Some more → skip_ws more ≡ value
    → after_value 80 value ≡ Some after → value_or_key t ≡ Some (value, after)
unfolding value_or_key value_from after_key
value_or_key_is t end more value after ends last equals same value_ends = rw (ends, last, equals, same, value_ends) refl

-- the value after a key, at the key's last part
pub last_value : (text value rest : List ℕ) (k : Key) (d : Data) → key_equals text ≡ Some (k, value) → val 80 value ≡ Some (d, rest)
    → (t : List ℕ) × (part_from (length k.0) text ≡ Some t) × (value_or_key t ≡ Some (value, rest))
unfolding key_equals
last_value text value rest k d h reads =
    let one = stepped (key text) (λ p. option_map (λ rest. (p.0, skip_ws rest)) (after_byte 61 p.1)) (k, value) h in
    let two = mapped (after_byte 61 one.value.1) (λ rest. (one.value.0, skip_ws rest)) (k, value) one.then in
    let same_key : length one.value.0.0 ≡ length k.0 = ap (λ (p : Key × List ℕ). length p.0.0) two.same in
    let r = last_follows 80 (length k.0) [] text one.value.1 one.value.0 one.is (omega (arith, same_key)) in
    let equals = subst (λ (t : List ℕ). after_byte 61 t ≡ Some two.value) (sym r.same) two.is in
    let value_is : skip_ws two.value ≡ value = ap (λ (p : Key × List ℕ). p.1) two.same in
    (r.start, r.from, value_or_key_is r.start r.end two.value value rest r.ends r.last equals value_is (value_follows 80 80 (omega arith) value rest d reads))

-- a key is no header
pub key_no_header : (text rest : List ℕ) (k : Key) → key text ≡ Some (k, rest) → (first text == 91) ≡ false
unfolding simple_key
key_no_header text rest k h =
    let (part, is, then) = key_turn 79 [] text rest k h in
    elim (cases_Bool (first text == 91)) [
      | inl bracket ↦
          let quotes : starts_string text ≡ false = grind (arith, nat_tests) in
          let bare : is_bare (first text) ≡ false = grind (arith, nat_tests) in
          absurd (none-some part (rw (quotes, bare) at is))
      | inr other ↦ other
    ]

-- the pair that a grammar reads under f, and the text that it leaves
abbrev pub Line_of : Option (Expression × List ℕ) → Read KeyLine → Type 0
Line_of read left = (e : Expression) (rest : List ℕ) → read ≡ Some (e, rest) → left ≡ Some (line_of e, rest)

array_follows : (text : List ℕ) → Line_of (option_and_then (λ k. option_map (λ rest. ((k.0, array_table), rest)) (after_byte 93 k.1)) (header_key text)) (array_header text)
unfolding array_header
array_follows text e rest h =
    let key = stepped (header_key text) (λ k. option_map (λ rest. ((k.0, array_table), rest)) (after_byte 93 k.1)) (e, rest) h in
    let closed = mapped (after_byte 93 key.value.1) (λ r. ((key.value.0, array_table), r)) (e, rest) key.then in
    rw (key.is, closed.is) (ap (λ (p : Expression × List ℕ). Some (line_of p.0, p.1)) closed.same)

table_follows : (text : List ℕ) → Line_of (read_map (λ k. (k, std_table)) (header_key text)) (option_map (λ k. ((k.0, Table), k.1)) (header_key text))
table_follows text e rest h =
    let m = mapped (header_key text) (λ k. ((k.0, std_table), k.1)) (e, rest) h in
    rw m.is (ap (λ (p : Expression × List ℕ). Some (line_of p.0, p.1)) m.same)

pair_follows : (text : List ℕ) → Line_of (read_map (λ p. (p.0, key_value p.1)) (keyval (val recursion_limit) text)) (pair text)
unfolding pair
pair_follows text e rest h =
    let m = mapped (keyval (val recursion_limit) text) (λ p. ((p.0.0, key_value p.0.1), p.1)) (e, rest) h in
    let (at_value, key, passed) = pair_after (val recursion_limit) (after_value recursion_limit) (value_follows recursion_limit recursion_limit (omega arith)) text m.value.1 m.value.0 m.is in
    rw (key, passed) (ap (λ (p : Expression × List ℕ). Some (line_of p.0, p.1)) m.same)

opening_follows : (text : List ℕ) → Line_of (expression text) (opened_after text)
unfolding expression opened_after
opening_follows text e rest h =
    elim (cases_Bool (first text == 91)) [
      | inl header ↦ elim (cases_Bool (slice_index text 1 == 91)) [
        | inl double ↦ rw (header, double) (array_follows (drop 2 text) e rest (rw (header, double) at h))
        | inr single ↦ rw (header, single) (table_follows (drop 1 text) e rest (rw (header, single) at h))
      ]
      | inr other ↦ rw other (pair_follows text e rest (rw other at h))
    ]

-- a line that toml's grammar reads
pub line_follows : (text : List ℕ) → Line_of (line text) (whole_line text)
unfolding line whole_line
line_follows text e rest h =
    let one = stepped (expression text) (λ p. cond (ends_line (skip_ws p.1)) (Some p) None) (e, rest) h in
    elim (cases_Bool (ends_line (skip_ws one.value.1))) [
      | inl here ↦
          let same = same_Some one.value (e, rest) (rw here at one.then) in
          rw (opening_follows text one.value.0 one.value.1 one.is, here) (ap (λ (p : Expression × List ℕ). Some (line_of p.0, p.1)) same)
      | inr other ↦ absurd (none-some (e, rest) (rw other at one.then))
    ]
