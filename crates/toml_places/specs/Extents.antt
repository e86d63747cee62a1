-- A span in lines and columns.
use Rattle.std.specs.Prelude.{ℕ, ◌+◌, ◌-◌, Bool, ◌&&◌, ◌==◌, nat_lt, nat_le, if◌then◌else◌, List, slice_index}
use Rattle.toml_places.specs.declared.spans.Span.{Span}
use Rattle.toml_places.specs.declared.text_lines.Extent.{Extent}
use Rattle.toml_places.specs.Strings.{starts_char}
use Rattle.toml_places.specs.Skips.{place_at}

-- the text begins with a byte order mark
abbrev pub is_marked : List ℕ → Bool
is_marked text = (slice_index text 0 == 0xEF && slice_index text 1 == 0xBB) && slice_index text 2 == 0xBF

-- a place without the mark, which is no character of line 1
abbrev pub unmarked : List ℕ → ℕ × ℕ → ℕ × ℕ
unmarked text p = if (p.0 == 1 && nat_lt 1 p.1) && is_marked text then (p.0, p.1 - 1) else p

-- the place after the character that ends before an offset, on the line of that character
abbrev pub place_after : List ℕ → ℕ → ℕ × ℕ
place_after text end =
    let p = place_at text (end - 1) in
    if starts_char (slice_index text (end - 1)) then (p.0, p.1 + 1) else p

-- The same, at least a column past this place: a byte that isn't UTF-8 is a character of its own.
abbrev pub past_place : ℕ × ℕ → ℕ × ℕ → ℕ × ℕ
past_place from p = if p.0 == from.0 && nat_le p.1 from.1 then (from.0, from.1 + 1) else p

abbrev pub end_place : List ℕ → Span → ℕ × ℕ
end_place text s =
    if nat_le s.end s.begin then place_at text s.begin else past_place (place_at text s.begin) (place_after text s.end)

abbrev pub extent : List ℕ → Span → Extent
extent text s =
    let from = unmarked text (place_at text s.begin) in
    let to = unmarked text (end_place text s) in
    record { line = from.0; column = from.1; end_line = to.0; end_column = to.1 }
