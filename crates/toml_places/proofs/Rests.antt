-- What is left of a text after a reader is the end of the text.
use Rattle.std.proofs.Common.{◌≡◌, ℕ, zero, suc, ◌+◌, ◌-◌, ◌≤◌, min, Bool, true, false, cond, ◌&&◌, ◌==◌, nat_lt, List, [], ◌∷◌, length, length-drop, drop, Option, Some, None, is_some, unwrap_or, option_map, option_and_then, refl, sym, ap, ◌∙◌, subst, inl, inr, arith}
use Rattle.std.proofs.lemmas.Bool.{cases_Bool}
use Rattle.std.proofs.lemmas.List.{drop_min, drop-drop}
use Rattle.std.proofs.lemmas.Option.{none-some, same_Some}
use Rattle.std.specs.List.{prefix_len}
use Rattle.toml_parser.specs.Lexical.{Read, first, skip_turn, skip_from, skip_ws, skip_blank, starts_newline, is_bare}
use Rattle.toml_parser.specs.Strings.{is_plain, hex_len, simple_escape, trim_newline, starts_string}
use Rattle.toml_parser.specs.Numbers.{word_len}
use Rattle.toml.specs.Parse.{after_byte, after_element}
use Rattle.toml_places.specs.declared.strings.Step.{Step}
use Rattle.toml_places.specs.declared.strings.Step.TheVariants.{End, Cut, Char}
use Rattle.toml_places.specs.Strings.{starts_char, after_char, after_hex, after_escape, escape, at_delims, next_step, is_end, is_char, after_step, char_step, after_content, TextPart, content_char, is_multi, content, after_string, string_char, after_part, next_part, part_from, after_key, value_from}
use Rattle.toml_places.specs.Values.{after_word, after_atom, after_member, after_members, after_value, next_element, element_from, element}
use Rattle.toml_places.proofs.Options.{stepped, mapped}

-- the second text is the end of the first
abbrev pub Rest : List ℕ → List ℕ → Type 0
Rest text rest = (i : ℕ) × (i ≤ length text) × (rest ≡ drop i text)

-- what a reader leaves
abbrev pub Leaves : List ℕ → Option (List ℕ) → Type 0
Leaves text o = (rest : List ℕ) → o ≡ Some rest → Rest text rest

pub rest_same : (text : List ℕ) → Rest text text
rest_same text = (0, omega arith, refl)

pub rest_drop : (n : ℕ) (text : List ℕ) → Rest text (drop n text)
rest_drop n text = (min n (length text), omega arith, sym (drop_min n text))

pub rest_trans : (a b c : List ℕ) → Rest a b → Rest b c → Rest a c
rest_trans a b c (i, room, here) (j, within, there) =
    let len : length b ≡ length a - i = ap length here ∙ length-drop i a in
    (i + j, omega arith, there ∙ ap (drop j) here ∙ drop-drop j i a)

rest_cons : (c : ℕ) (cs rest : List ℕ) → Rest cs rest → Rest (c ∷ cs) rest
rest_cons c cs rest h = rest_trans (c ∷ cs) cs rest (rest_drop 1 (c ∷ cs)) h

-- what a reader leaves, if it reads, is a rest of its text
pub leaves_some : (text rest : List ℕ) → Rest text rest → Leaves text (Some rest)
leaves_some text rest h more is = subst (λ (t : List ℕ). Rest text t) (same_Some rest more is) h

leaves_none : (text : List ℕ) → Leaves text None
leaves_none text rest h = absurd (none-some rest h)

-- one reader after another
pub leaves_then : (text : List ℕ) (o : Option (List ℕ)) (f : List ℕ → Option (List ℕ)) → Leaves text o → ((t : List ℕ) → Leaves t (f t)) → Leaves text (option_and_then f o)
leaves_then text o f h g rest is =
    let one = stepped o f rest is in
    rest_trans text one.value rest (h one.value one.is) (g one.value rest one.then)

pub leaves_map : (text : List ℕ) (o : Option (List ℕ)) (f : List ℕ → List ℕ) → Leaves text o → ((t : List ℕ) → Rest t (f t)) → Leaves text (option_map f o)
leaves_map text o f h g rest is =
    let m = mapped o f rest is in
    rest_trans text m.value rest (h m.value m.is) (subst (λ (t : List ℕ). Rest m.value t) m.same (g m.value))

pub leaves_if : (text : List ℕ) (b : Bool) (x y : Option (List ℕ)) → Leaves text x → Leaves text y → Leaves text (cond b x y)
leaves_if text true x y h g = h
leaves_if text false x y h g = g

-- a reader after a front
pub leaves_after : (text t : List ℕ) (o : Option (List ℕ)) → Rest text t → Leaves t o → Leaves text o
leaves_after text t o h g rest is = rest_trans text t rest h (g rest is)

rest_if : (text : List ℕ) (b : Bool) (x y : List ℕ) → Rest text x → Rest text y → Rest text (cond b x y)
rest_if text true x y h g = h
rest_if text false x y h g = g

skipped : (comments inside : Bool) (text : List ℕ) → Rest text (skip_from comments inside text)
unfolding skip_from
skipped comments inside [] = rest_same []
skipped comments inside (c ∷ cs) =
    let turn = skip_turn comments inside c (first cs) in
    rest_if (c ∷ cs) (is_some turn) (skip_from comments (unwrap_or turn false) cs) (c ∷ cs)
    (rest_cons c cs _ (skipped comments (unwrap_or turn false) cs)) (rest_same (c ∷ cs))

pub ws_left : (text : List ℕ) → Rest text (skip_ws text)
unfolding skip_ws
ws_left text = rest_drop _ text

pub byte_left : (byte : ℕ) (text : List ℕ) → Leaves text (after_byte byte text)
byte_left byte text = leaves_if text (first text == byte) (Some (drop 1 text)) None (leaves_some text _ (rest_drop 1 text)) (leaves_none text)

pub element_left : (closing : ℕ) (text : List ℕ) → Leaves text (after_element closing text)
unfolding after_element
element_left closing text =
    let rest = skip_blank text in
    leaves_after text rest _ (skipped true false text)
    (leaves_if rest (first rest == 44) _ _ (leaves_some rest _ (rest_drop 1 rest))
    (leaves_if rest (first rest == closing) _ _ (leaves_some rest _ (rest_same rest)) (leaves_none rest)))

-- what a step leaves
abbrev StepLeaves : List ℕ → Read Step → Type 0
StepLeaves text o = (s : Step) (rest : List ℕ) → o ≡ Some (s, rest) → Rest text rest

step_some : (text rest : List ℕ) (s : Step) → Rest text rest → StepLeaves text (Some (s, rest))
step_some text rest s h t more is = subst (λ (x : List ℕ). Rest text x) (ap (λ p. p.1) (same_Some (s, rest) (t, more) is)) h

step_none : (text : List ℕ) → StepLeaves text None
step_none text s rest h = absurd (none-some (s, rest) h)

step_if : (text : List ℕ) (b : Bool) (x y : Read Step) → StepLeaves text x → StepLeaves text y → StepLeaves text (cond b x y)
step_if text true x y h g = h
step_if text false x y h g = g

escape_left : (text : List ℕ) → Leaves text (after_escape text)
unfolding after_escape after_hex
escape_left text =
    let hex = drop 1 text in
    leaves_if text (nat_lt 0 (hex_len (first text))) _ _
    (leaves_after text hex _ (rest_drop 1 text) (leaves_if hex _ _ _ (leaves_some hex _ (rest_drop _ hex)) (leaves_none hex)))
    (leaves_if text (is_some (simple_escape (first text))) _ _ (leaves_some text _ (rest_drop 1 text)) (leaves_none text))

escaped_left : (multi : Bool) (text : List ℕ) → StepLeaves text (escape multi text)
unfolding escape
escaped_left multi text =
    step_if text (multi && starts_newline (skip_ws text)) _ _ (step_some text _ Cut (skipped false false text))
    (λ s rest is.
    let m = mapped (after_escape text) (λ t. (Char, t)) (s, rest) is in
    subst (λ (x : List ℕ). Rest text x) (ap (λ p. p.1) m.same) (escape_left text m.value m.is))

delims_left : (delim : ℕ) (text : List ℕ) → StepLeaves text (at_delims delim text)
unfolding at_delims
delims_left delim text =
    step_if text (prefix_len (λ c. c == delim) text == 3) _ _ (step_some text _ End (rest_drop 3 text))
    (step_if text (nat_lt (prefix_len (λ c. c == delim) text) 6) _ _ (step_some text _ Char (rest_drop 1 text)) (step_none text))

step_left : (delim : ℕ) (multi : Bool) (text : List ℕ) → StepLeaves text (next_step delim multi text)
unfolding next_step after_char
step_left delim multi text =
    step_if text (is_plain delim multi (first text)) _ _ (step_some text _ (cond (starts_char (first text)) Char Cut) (rest_drop _ text))
    (step_if text (first text == delim) _ _
    (step_if text multi _ _ (delims_left delim text) (step_some text _ End (rest_drop 1 text)))
    (step_if text (first text == 92) _ _
    (λ s rest is. rest_trans text (drop 1 text) rest (rest_drop 1 text) (escaped_left multi (drop 1 text) s rest is))
    (step_if text (multi && starts_newline text) _ _ (step_some text _ Char (rest_drop 1 text)) (step_none text))))

content_left : (delim : ℕ) (multi : Bool) (n : ℕ) (text : List ℕ) → Leaves text (after_content delim multi n text)
unfolding after_content
content_left delim multi zero text rest is = absurd (none-some rest is)
content_left delim multi (suc n) text rest is =
    let one = stepped (next_step delim multi text) (λ s. after_step (after_content delim multi n) s.0 s.1) rest is in
    let left = step_left delim multi text one.value.0 one.value.1 one.is in
    leaves_after text one.value.1 _ left
    (leaves_if one.value.1 (is_end one.value.0) _ _ (leaves_some one.value.1 _ (rest_same one.value.1)) (content_left delim multi n one.value.1)) rest one.then

trimmed : (text : List ℕ) → Rest text (trim_newline text)
trimmed text = rest_if text (first text == 10) _ _ (rest_drop 1 text) (rest_if text (starts_newline text) _ _ (rest_drop 2 text) (rest_same text))

start_left : (text : List ℕ) → Rest text (content text)
unfolding content
start_left text = rest_if text (is_multi text) _ _ (rest_trans text (drop 3 text) _ (rest_drop 3 text) (trimmed (drop 3 text))) (rest_drop 1 text)

string_left : (text : List ℕ) → Leaves text (after_string text)
unfolding after_string
string_left text = leaves_after text (content text) _ (start_left text) (content_left (first text) (is_multi text) (length text) (content text))

pub part_left : (text : List ℕ) → Leaves text (after_part text)
unfolding after_part
part_left text =
    leaves_if text (starts_string text) _ _
    (leaves_after text (drop 1 text) _ (rest_drop 1 text) (content_left (first text) false (length text) (drop 1 text)))
    (leaves_if text (is_bare (first text)) _ _ (leaves_some text _ (rest_drop _ text)) (leaves_none text))

next_left : (text : List ℕ) → Leaves text (next_part text)
unfolding next_part
next_left text = leaves_map text _ skip_ws (leaves_after text (skip_ws text) _ (ws_left text) (byte_left 46 (skip_ws text))) ws_left

pub part_from_left : (k : ℕ) (text : List ℕ) → Leaves text (part_from k text)
unfolding part_from
part_from_left zero text = leaves_some text text (rest_same text)
part_from_left (suc k) text =
    leaves_then text (after_part text) _ (part_left text) (λ t. leaves_then t (next_part t) (part_from k) (next_left t) (part_from_left k))

pub key_left : (n : ℕ) (text : List ℕ) → Leaves text (after_key n text)
unfolding after_key
key_left zero text = leaves_none text
key_left (suc n) text =
    leaves_then text (after_part text) _ (part_left text) (λ t.
    let dot = skip_ws t in
    let next = skip_ws (drop 1 dot) in
    leaves_if t (first dot == 46) _ _
    (leaves_after t next _ (rest_trans t dot next (ws_left t) (rest_trans dot (drop 1 dot) next (rest_drop 1 dot) (ws_left (drop 1 dot)))) (key_left n next))
    (leaves_some t t (rest_same t)))

pub value_from_left : (n : ℕ) (text : List ℕ) → Leaves text (value_from n text)
unfolding value_from
value_from_left n text =
    leaves_then text (after_key n text) _ (key_left n text) (λ t.
    leaves_map t _ skip_ws (leaves_after t (skip_ws t) _ (ws_left t) (byte_left 61 (skip_ws t))) ws_left)

atom_left : (text : List ℕ) → Leaves text (after_atom text)
unfolding after_atom after_word
atom_left text =
    leaves_if text (starts_string text) _ _ (string_left text)
    (leaves_if text (word_len text == 0) _ _ (leaves_none text) (leaves_some text _ (rest_drop _ text)))

module _ (after : List ℕ → Option (List ℕ)) (left : (t : List ℕ) → Leaves t (after t)) where
  member_left : (closing : ℕ) (text : List ℕ) → Leaves text (after_member after closing text)
  unfolding after_member
  member_left closing text =
      leaves_if text (closing == 125) _ _ (leaves_then text (value_from 80 text) after (value_from_left 80 text) left) (left text)

  members_left : (closing n : ℕ) (text : List ℕ) → Leaves text (after_members after closing n text)
  unfolding after_members
  members_left closing zero text = leaves_none text
  members_left closing (suc n) text =
      let start = skip_blank text in
      leaves_after text start _ (skipped true false text)
      (leaves_if start (first start == closing) _ _ (leaves_some start _ (rest_drop 1 start))
      (leaves_then start (after_member after closing start) _ (member_left closing start) (λ t.
      leaves_then t (after_element closing t) (after_members after closing n) (element_left closing t) (members_left closing n))))

pub value_left : (depth : ℕ) (text : List ℕ) → Leaves text (after_value depth text)
unfolding after_value
value_left zero text = atom_left text
value_left (suc depth) text =
    let inside = drop 1 text in
    let members = λ (closing : ℕ). leaves_after text inside _ (rest_drop 1 text) (members_left (after_value depth) (value_left depth) closing (length text) inside) in
    leaves_if text (first text == 91) _ _ (members 93) (leaves_if text (first text == 123) _ _ (members 125) (atom_left text))

-- A piece lies in a text.
abbrev pub Inside : List ℕ → TextPart → Type 0
Inside text p = Rest text p.0 × Rest p.0 p.1

pub inside_after : (text t : List ℕ) (p : TextPart) → Rest text t → Inside t p → Inside text p
inside_after text t p h g = (rest_trans text t p.0 h g.0, g.1)

pub char_inside : (delim : ℕ) (multi : Bool) (n k : ℕ) (text : List ℕ) (p : TextPart) → content_char delim multi n k text ≡ Some p → Inside text p
unfolding content_char
char_inside delim multi zero k text p is = absurd (none-some p is)
char_inside delim multi (suc n) k text p is =
    let one = stepped (next_step delim multi text) (λ s. char_step (content_char delim multi n) k text s.0 s.1) p is in
    let left = step_left delim multi text one.value.0 one.value.1 one.is in
    elim (cases_Bool (is_end one.value.0)) [
      | inl end ↦ absurd (none-some p (rw end at one.then))
      | inr goes ↦ elim (cases_Bool (is_char one.value.0 && k == 0)) [
        | inl here ↦
            let same = same_Some (text, one.value.1) p (rw (goes, here) at one.then) in
            subst (λ (q : TextPart). Inside text q) same (rest_same text, left)
        | inr other ↦ inside_after text one.value.1 p left (char_inside delim multi n _ one.value.1 p (rw (goes, other) at one.then))
      ]
    ]

pub string_char_inside : (k : ℕ) (text : List ℕ) (p : TextPart) → string_char k text ≡ Some p → Inside text p
unfolding string_char
string_char_inside k text p is =
    elim (cases_Bool (starts_string text)) [
      | inl quotes ↦
          inside_after text (content text) p (start_left text) (char_inside (first text) (is_multi text) (length text) k (content text) p (rw quotes at is))
      | inr other ↦ absurd (none-some p (rw other at is))
    ]

next_inside : (text next : List ℕ) (p : TextPart) → next_element text ≡ Some (p, next) → Inside text p × Rest text next
unfolding next_element
next_inside text next p is =
    let start = skip_blank text in
    let blank = skipped true false text in
    elim (cases_Bool (first start == 93)) [
      | inl end ↦ absurd (none-some (p, next) (rw end at is))
      | inr other ↦
          let one = stepped (after_value 80 start) (λ rest. option_map (λ t. ((start, rest), t)) (after_element 93 rest)) (p, next) (rw other at is) in
          let m = mapped (after_element 93 one.value) (λ t. ((start, one.value), t)) (p, next) one.then in
          let value = value_left 80 start one.value one.is in
          let after = element_left 93 one.value m.value m.is in
          let P : TextPart × List ℕ → Type 0 = λ q. Inside text q.0 × Rest text q.1 in
          subst P m.same ((blank, value), rest_trans text start m.value blank (rest_trans start one.value m.value value after))
    ]

pub element_from_inside : (k : ℕ) (text : List ℕ) (p : TextPart) → element_from k text ≡ Some p → Inside text p
unfolding element_from
element_from_inside zero text p is =
    let m = mapped (next_element text) (λ e. e.0) p is in
    subst (λ (q : TextPart). Inside text q) m.same (next_inside text m.value.1 m.value.0 m.is).0
element_from_inside (suc k) text p is =
    let one = stepped (next_element text) (λ e. element_from k e.1) p is in
    inside_after text one.value.1 p (next_inside text one.value.1 one.value.0 one.is).1 (element_from_inside k one.value.1 p one.then)

pub element_inside : (k : ℕ) (text : List ℕ) (p : TextPart) → element k text ≡ Some p → Inside text p
unfolding element
element_inside k text p is =
    elim (cases_Bool (first text == 91)) [
      | inl list ↦ inside_after text (drop 1 text) p (rest_drop 1 text) (element_from_inside k (drop 1 text) p (rw list at is))
      | inr other ↦ absurd (none-some p (rw other at is))
    ]
