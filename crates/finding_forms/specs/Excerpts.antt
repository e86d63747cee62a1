-- Which part of a span's line is shown.
use Rattle.std.specs.Prelude.{ℕ, zero, suc, ◌+◌, ◌-◌, Bool, not, ◌&&◌, ◌||◌, ◌==◌, nat_lt, nat_le, if◌then◌else◌, List, take, drop, length, slice_index, min, max}
use Rattle.std.specs.List.{count_by}
use Rattle.toml_places.specs.declared.spans.Span.{Span}
use Rattle.toml_places.specs.Strings.{starts_char}
use Rattle.toml_places.specs.Skips.{is_feed}
use Rattle.toml_places.specs.Extents.{is_marked}
use Rattle.finding_forms.specs.declared.excerpt.Excerpt.{Excerpt}

-- The text without a byte order mark.

abbrev pub mark_length : List ℕ → ℕ
mark_length text = if is_marked text then 3 else 0

-- the bytes from one offset to another
abbrev pub part : List ℕ → ℕ → ℕ → List ℕ
part text from to = take (to - from) (drop from text)

-- Characters before an offset and from it on, on its line.

-- a line ends at an offset: at the end of the text, a line feed, or 13 and a line feed
abbrev pub line_ends_at : List ℕ → ℕ → Bool
line_ends_at text at =
    nat_le (length text) at || (is_feed (slice_index text at) || (slice_index text at == 13 && is_feed (slice_index text (at + 1))))

-- how many characters are left to take after a byte
abbrev pub left_after : ℕ → ℕ → ℕ
left_after left byte = if starts_char byte then left - 1 else left

-- one more byte is taken before an offset
abbrev pub goes_back : List ℕ → ℕ → ℕ → Bool
goes_back text left at = (nat_lt 0 at && nat_lt 0 left) && not (is_feed (slice_index text (at - 1)))

-- where the last characters before an offset begin, at most this many
unfoldable pub begin_before : List ℕ → ℕ → ℕ → ℕ
begin_before text left zero = zero
begin_before text left (suc at) =
    if goes_back text left (suc at) then begin_before text (left_after left (slice_index text at)) at else suc at

-- one more byte is taken at an offset
abbrev pub goes_ahead : List ℕ → ℕ → ℕ → Bool
goes_ahead text left at = not (line_ends_at text at) && (nat_lt 0 left || not (starts_char (slice_index text at)))

-- where the next characters end, at most this many, if at most this many bytes are left
unfoldable pub end_within : List ℕ → ℕ → ℕ → ℕ → ℕ
end_within text zero left at = at
end_within text (suc bytes) left at =
    if goes_ahead text left at then end_within text bytes (left_after left (slice_index text at)) (at + 1) else at

abbrev pub end_ahead : List ℕ → ℕ → ℕ → ℕ
end_ahead text left at = end_within text (length text - at) left at

-- What is shown.

-- where a span begins: a line feed that ends a line after 13 has its place
abbrev pub is_pair : List ℕ → ℕ → Bool
is_pair text at = (nat_lt 0 at && is_feed (slice_index text at)) && slice_index text (at - 1) == 13

abbrev pub begin_in : List ℕ → ℕ → ℕ
begin_in text at = if is_pair text at then at - 1 else at

-- the line has more than 120 characters
abbrev pub is_long_line : List ℕ → ℕ → Bool
is_long_line text at = nat_lt 120 (count_by starts_char (part text (begin_before text 121 at) (end_ahead text 121 at)))

-- the line goes on before an offset
abbrev pub goes_before : List ℕ → ℕ → Bool
goes_before text at = nat_lt 0 at && not (is_feed (slice_index text (at - 1)))

-- The line of the span, from its begin: all of it, or of a long line up to 37 characters before and 77 from there.
abbrev pub excerpt_with : List ℕ → ℕ → ℕ → ℕ → ℕ → Excerpt
excerpt_with text at end from to = record {
  from = from;
  begin = at;
  end = max at (min end to);
  to = to;
  goes_before = goes_before text from;
  goes_on = not (line_ends_at text to);
}

abbrev pub excerpt_at : List ℕ → ℕ → ℕ → Bool → Excerpt
excerpt_at text at end long =
    excerpt_with text at end (begin_before text (if long then 37 else 120) at) (end_ahead text (if long then 77 else 120) at)

abbrev pub excerpt_of : List ℕ → Span → Excerpt
excerpt_of text s =
    let at = begin_in text (min s.begin (length text)) in excerpt_at text at s.end (is_long_line text at)
