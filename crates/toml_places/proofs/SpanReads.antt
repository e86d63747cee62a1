-- What toml's grammar reads in a span.
use Rattle.std.proofs.Common.{◌≡◌, ℕ, suc, ◌<◌, ◌≤◌, true, List, ◌++◌, length, drop, slice_get, Some, refl, ap, ◌∙◌, subst}
use Rattle.std.specs.List.{count_by}
use Rattle.toml_parser.specs.Lexical.{Read}
use Rattle.toml_parser.specs.Strings.{Key, key, simple_key, quoted, starts_string}
use Rattle.toml.specs.Data.{Data, Items, array, get_item}
use Rattle.toml.specs.Parse.{val, key_equals}
use Rattle.toml_places.specs.declared.spans.Span.{Span}
use Rattle.toml_places.specs.Strings.{TextPart, starts_char, string_char, part_from, after_part}
use Rattle.toml_places.specs.Values.{element}
use Rattle.toml_places.specs.Spans.{key_start, key_piece, value_piece, key_span, value_span, element_span, char_span}
use Rattle.toml_places.specs.Places.{parts}
use Rattle.toml_places.specs.Reads.{Writes, IsChar}
use Rattle.toml_places.specs.SpanReads.{IsPieceAt, IsCharPlace, spot, ReadsIn, SpansAreRead}
use Rattle.toml_places.proofs.Options.{stepped}
use Rattle.toml_places.proofs.Follows.{parts_are_read, last_value, key_no_header}
use Rattle.toml_places.proofs.ElementReads.{elements_are_read}
use Rattle.toml_places.proofs.StringFollows.{char_at}
use Rattle.toml_places.proofs.Rests.{element_inside, string_char_inside}
use Rattle.toml_places.proofs.SpanStands.{span_of, key_inside, value_inside}

-- what is read at a piece is read at its span
reads_in : {A : Type 0} (read : List ℕ → Read A) (text : List ℕ) (s : Span) (p : TextPart) (a : A) → IsPieceAt text s p → read p.0 ≡ Some (a, p.1) → ReadsIn read text s a
reads_in read text s p a stands is =
    let here : read (drop s.begin text) ≡ Some (a, p.1) = rw (← stands.begins) is in
    (stands.ascends, stands.within, here ∙ ap (λ (t : List ℕ). Some (a, t)) stands.ends)

key_piece_is : (i : ℕ) (text start end : List ℕ) → part_from i (key_start text) ≡ Some start → after_part start ≡ Some end → key_piece i text ≡ Some (start, end)
unfolding key_piece
key_piece_is i text start end from ends = rw (from, ends) refl

key_read : (text rest part : List ℕ) (at i : ℕ) (k : Key) → IsCharPlace at text → key (key_start (drop at text)) ≡ Some (k, rest) → slice_get (parts k) i ≡ Some part
    → (s : Span) × (key_span (spot at i) text ≡ Some s) × ReadsIn simple_key text s part
unfolding key_piece
key_read text rest part at i k place h found =
    let (p, from, ends, reads) = parts_are_read (key_start (drop at text)) rest part k i h found in
    let (s, is, stands) = span_of (key_piece i) (key_inside i) text at (p.0, p.1) place (key_piece_is i (drop at text) p.0 p.1 from ends) in
    (s, is, reads_in simple_key text s (p.0, p.1) part stands reads)

value_read : (text value rest : List ℕ) (at : ℕ) (k : Key) (d : Data) → IsCharPlace at text → key_equals (drop at text) ≡ Some (k, value) → val 80 value ≡ Some (d, rest)
    → (s : Span) × (value_span (spot at (length k.0)) text ≡ Some s) × ReadsIn (val 80) text s d
unfolding value_piece key_equals
value_read text value rest at k d place h reads =
    let one = stepped (key (drop at text)) _ (k, value) h in
    let no_header = key_no_header (drop at text) one.value.1 one.value.0 one.is in
    let (t, from, here) = last_value (drop at text) value rest k d h reads in
    let piece : value_piece (length k.0) (drop at text) ≡ Some (value, rest) = rw (no_header, from) here in
    let (s, is, stands) = span_of (value_piece (length k.0)) (value_inside (length k.0)) text at (value, rest) place piece in
    (s, is, reads_in (val 80) text s (value, rest) d stands reads)

element_read : (text rest : List ℕ) (at n k : ℕ) (all : Items) (d : Data) → IsCharPlace at text → n ≤ 80 → val (suc n) (drop at text) ≡ Some (array all, rest) → get_item k all ≡ Some d
    → (s : Span) × (element_span k at text ≡ Some s) × ReadsIn (val n) text s d
element_read text rest at n k all d place room h there =
    let (p, is, reads) = elements_are_read n k (drop at text) rest all d room h there in
    let (s, span, stands) = span_of (element k) (element_inside k) text at p place is in
    (s, span, reads_in (val n) text s p d stands reads)

char_read : (text content rest : List ℕ) (at k : ℕ) → IsCharPlace at text → starts_string (drop at text) ≡ true → quoted (drop at text) ≡ Some (content, rest) → k < count_by starts_char content
    → (s : Span) × (char after : List ℕ) × (char_span k at text ≡ Some s) × IsChar content k char after × (s.begin ≤ s.end) × (s.end ≤ length text)
    × Writes (drop at text) (drop s.begin text) (char ++ after) rest × Writes (drop at text) (drop s.end text) after rest
char_read text content rest at k place string h some =
    let r = char_at (drop at text) content rest k string h some in
    let (s, span, stands) = span_of (string_char k) (string_char_inside k) text at r.p place r.is in (
      s,
      r.char,
      r.after,
      span,
      r.place,
      stands.ascends,
      stands.within,
      subst (λ (t : List ℕ). Writes (drop at text) t (r.char ++ r.after) rest) stands.begins r.here,
      subst (λ (t : List ℕ). Writes (drop at text) t r.after rest) stands.ends r.next,
    )

pub spans_are_read : SpansAreRead
spans_are_read = record { keys = key_read; values = value_read; elements = element_read; chars = char_read }
