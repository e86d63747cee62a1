-- Each span lies in its text, and has what its definition says.
use Rattle.std.proofs.Common.{◌≡◌, ℕ, ◌-◌, ◌≤◌, ◌==◌, ◌&&◌, nat_le, slice_index, List, length, length-drop, drop, Option, Some, option_and_then, refl, sym, ap, ◌∙◌, subst, inl, inr, arith}
use Rattle.std.proofs.lemmas.Bool.{cases_Bool}
use Rattle.std.proofs.lemmas.Option.{none-some, same_Some}
use Rattle.toml_parser.specs.Lexical.{first, skip_ws}
use Rattle.toml.specs.Parse.{after_byte}
use Rattle.toml_places.specs.declared.spans.Span.{Span}
use Rattle.toml_places.specs.Strings.{TextPart, starts_char, after_part, part_from, after_key, value_from}
use Rattle.toml_places.specs.Values.{after_value}
use Rattle.toml_places.specs.Spans.{from_offset, span_in, up_to, is_double, key_start, after_header, key_piece, after_pair, value_or_key, value_piece, pair_piece, frame_piece, at_offset}
use Rattle.toml_places.specs.SpanReads.{IsPieceAt, Stand, SpansStand, IsCharPlace}
use Rattle.toml_places.proofs.Options.{stepped, mapped}
use Rattle.toml_places.proofs.Rests.{Rest, Leaves, Inside, rest_same, rest_drop, rest_trans, leaves_some, leaves_then, leaves_if, leaves_after, ws_left, byte_left, part_left, part_from_left, key_left, value_from_left, value_left, inside_after, element_inside, string_char_inside}

-- the pieces of this reader lie in its text
abbrev pub Insides : (List ℕ → Option TextPart) → Type 0
Insides piece = (text : List ℕ) (p : TextPart) → piece text ≡ Some p → Inside text p

up_to_inside : (text t : List ℕ) (end : Option (List ℕ)) (p : TextPart) → Rest text t → Leaves t end → up_to t end ≡ Some p → Inside text p
up_to_inside text t end p here left is =
    let m = mapped end (λ rest. (t, rest)) p is in
    subst (λ (q : TextPart). Inside text q) m.same (here, left m.value m.is)

start_left : (text : List ℕ) → Rest text (key_start text)
unfolding key_start
start_left text =
    elim (cases_Bool (first text == 91)) [
      | inl header ↦ elim (cases_Bool (is_double text)) [
        | inl double ↦ rw (header, double) (rest_trans text (drop 2 text) _ (rest_drop 2 text) (ws_left (drop 2 text)))
        | inr single ↦ rw (header, single) (rest_trans text (drop 1 text) _ (rest_drop 1 text) (ws_left (drop 1 text)))
      ]
      | inr other ↦ rw other (rest_same text)
    ]

header_left : (text : List ℕ) → Leaves text (after_header text)
unfolding after_header
header_left text =
    let start = key_start text in
    leaves_after text start _ (start_left text)
    (leaves_then start (after_key 80 start) _ (key_left 80 start) (λ t.
    leaves_then t (after_byte 93 (skip_ws t)) _ (leaves_after t (skip_ws t) _ (ws_left t) (byte_left 93 (skip_ws t))) (λ more.
    leaves_if more (is_double text) _ _ (byte_left 93 more) (leaves_some more more (rest_same more)))))

pair_left : (text : List ℕ) → Leaves text (after_pair text)
unfolding after_pair
pair_left text = leaves_then text (value_from 80 text) (after_value 80) (value_from_left 80 text) (value_left 80)

pub key_inside : (k : ℕ) → Insides (key_piece k)
unfolding key_piece
key_inside k text p is =
    let start = key_start text in
    let one = stepped (part_from k start) (λ t. up_to t (after_part t)) p is in
    inside_after text start p (start_left text)
    (up_to_inside start one.value (after_part one.value) p (part_from_left k start one.value one.is) (part_left one.value) one.then)

value_or_key_inside : Insides value_or_key
unfolding value_or_key
value_or_key_inside text p is =
    let one = stepped (after_part text) _ p is in
    elim (cases_Bool (first (skip_ws one.value) == 46)) [
      | inl dotted ↦ up_to_inside text text (after_key 80 text) p (rest_same text) (key_left 80 text) (rw dotted at one.then)
      | inr last ↦
          let two = stepped (value_from 80 text) (λ value. up_to value (after_value 80 value)) p (rw last at one.then) in
          up_to_inside text two.value (after_value 80 two.value) p (value_from_left 80 text two.value two.is) (value_left 80 two.value) two.then
    ]

pub value_inside : (k : ℕ) → Insides (value_piece k)
unfolding value_piece
value_inside k text p is =
    elim (cases_Bool (first text == 91)) [
      | inl header ↦ up_to_inside text text (after_header text) p (rest_same text) (header_left text) (rw header at is)
      | inr other ↦
          let one = stepped (part_from k text) value_or_key p (rw other at is) in
          inside_after text one.value p (part_from_left k text one.value one.is) (value_or_key_inside one.value p one.then)
    ]

pair_inside : (k : ℕ) → Insides (pair_piece k)
unfolding pair_piece
pair_inside k text p is =
    elim (cases_Bool (first text == 91)) [
      | inl header ↦ up_to_inside text text (after_header text) p (rest_same text) (header_left text) (rw header at is)
      | inr other ↦
          let one = stepped (part_from k text) (λ start. up_to start (after_pair start)) p (rw other at is) in
          up_to_inside text one.value (after_pair one.value) p (part_from_left k text one.value one.is) (pair_left one.value) one.then
    ]

frame_inside : Insides frame_piece
unfolding frame_piece
frame_inside text p is =
    elim (cases_Bool (first text == 91)) [
      | inl header ↦ up_to_inside text text (after_header text) p (rest_same text) (header_left text) (rw header at is)
      | inr other ↦ up_to_inside text text (after_value 80 text) p (rest_same text) (value_left 80 text) (rw other at is)
    ]

-- the offset of the end of a text
offset_of : (text t : List ℕ) (i : ℕ) → i ≤ length text → t ≡ drop i text → length text - length t ≡ i
offset_of text t i room is =
    let len : length t ≡ length text - i = ap length is ∙ length-drop i text in
    omega arith

-- the span of a piece that lies in the text
pub piece_stands : (text : List ℕ) (p : TextPart) → Inside text p → IsPieceAt text (span_in text p) p
piece_stands text p h =
    let (i, room, begins) = h.0 in
    let (j, within, ends) = rest_trans text p.0 p.1 h.0 h.1 in
    let begin : length text - length p.0 ≡ i = offset_of text p.0 i room begins in
    let end : length text - length p.1 ≡ j = offset_of text p.1 j within ends in
    let (k, inner, later) = h.1 in
    let shorter : length p.1 ≡ length p.0 - k = ap length later ∙ length-drop k p.0 in
    record {
      ascends = omega arith;
      within = omega arith;
      begins = rw begin begins;
      ends = rw end ends;
    }

from_there : (at : ℕ) (text t : List ℕ) → from_offset at text ≡ Some t → t ≡ drop at text
unfolding from_offset
from_there at text t is =
    elim (cases_Bool (nat_le at (length text) && starts_char (slice_index text at))) [
      | inl here ↦ sym (same_Some (drop at text) t (rw here at is))
      | inr other ↦ absurd (none-some t (rw other at is))
    ]

stand : (piece : List ℕ → Option TextPart) → Insides piece → Stand piece
stand piece inside text at s is =
    let m = mapped (option_and_then piece (from_offset at text)) (span_in text) s is in
    let one = stepped (from_offset at text) piece m.value m.is in
    let here : piece (drop at text) ≡ Some m.value = subst (λ (t : List ℕ). piece t ≡ Some m.value) (from_there at text one.value one.is) one.then in (
      m.value,
      here,
      subst (λ (x : Span). IsPieceAt text x m.value) m.same
          (piece_stands text m.value (inside_after text (drop at text) m.value (rest_drop at text) (inside (drop at text) m.value here))),
    )

pub spans_stand : SpansStand
spans_stand = record {
  keys = λ k. stand (key_piece k) (key_inside k);
  values = λ k. stand (value_piece k) (value_inside k);
  pairs = λ k. stand (pair_piece k) (pair_inside k);
  frames = stand frame_piece frame_inside;
  elements = λ k. stand _ (element_inside k);
  chars = λ k. stand _ (string_char_inside k);
}

-- a piece from an offset on has a span
pub span_of : (piece : List ℕ → Option TextPart) (inside : Insides piece) (text : List ℕ) (at : ℕ) (p : TextPart) → IsCharPlace at text → piece (drop at text) ≡ Some p
    → (s : Span) × (at_offset piece at text ≡ Some s) × IsPieceAt text s p
span_of piece inside text at p place is =
    (span_in text p, rw (place, is) refl, piece_stands text p (inside_after text (drop at text) p (rest_drop at text) (inside (drop at text) p is)))
