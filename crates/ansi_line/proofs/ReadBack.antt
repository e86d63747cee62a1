-- The text in the form `ansi`, from its bytes on.
use Rattle.std.proofs.Common.{◌≡◌, ℕ, ◌+◌, ◌<◌, ◌≤◌, arith, refl, sym, ap, ◌∙◌, subst, Bool, true, false, not, ◌&&◌, List, [], ◌∷◌, ◌++◌, ◌==◌, nat_lt, if◌then◌else◌, map, Option, Some, None, codes, decimal, append_assoc, append-nil}
use Rattle.std.specs.Prelude as P
use Rattle.std.specs.List.{list_all, range_with_len}
use Rattle.std.specs.Char.{encode_utf8}
use Rattle.std.specs.Str.{chars, is_utf8, encode_utf8_all, all_scalars, IsUtf8}
use Rattle.std.proofs.Math.Utf8.{low_scalar}
use Rattle.std.proofs.lemmas.Bool.{cond_both, and_parts}
use Rattle.std.proofs.lemmas.Bool.Decides.{nat_tests}
use Rattle.std.proofs.lemmas.List.Elements.{All-head, All-tail}
use Rattle.std.proofs.lemmas.Str.{chars-encodes, encodes-append, chars-append, encode_ascii, is_utf8-from_IsUtf8, IsUtf8-from_is_utf8, IsUtf8-append}
use Rattle.page_ids.proofs.Digits.{PassesDigits, all_decimal}
use Rattle.screens.specs.declared.ansi.Pen.{Pen}
use Rattle.screens.specs.declared.look.Colour.{Colour}
use Rattle.screens.specs.declared.look.Look.{Look}
use Rattle.screens.specs.Table.{colour_number}
use Rattle.screens.specs.Looks.{shown, looks_at, looks}
use Rattle.screens.specs.Text.{seen_char}
use Rattle.screens.specs.Ansi.{sgr, unset, is_set, ground_bytes, ink_bytes, flash_by, blanked, cell_bytes, pen_after, cells_bytes, ansi}
use Rattle.screens.proofs.Glyphs.{glyphs_are_of_tables}
use Rattle.screens.proofs.Safe.{all_append}
use Rattle.ansi_line.specs.AnsiReading.{Mark, Characters, AnsiRead, read_on, below_rows, ansi_refused, ansi_read}
use Rattle.ansi_line.specs.Laws.{shown_mark, seen_cells}
use Rattle.ansi_line.proofs.Marks.{IsDrawn, Draws, OfTables, draws}
use Rattle.ansi_line.proofs.Shown.{cell_chars, row_chars, AllOfTables, all_chars, read_append, reads_rows}

-- these characters are spelled by these bytes
pub record Spells (cs bs : List ℕ) : Type 0 where
  pub scalars : all_scalars cs ≡ true
  pub bytes : encode_utf8_all cs ≡ bs

scalars_append : (xs ys : List ℕ) → all_scalars xs ≡ true → all_scalars ys ≡ true → all_scalars (xs ++ ys) ≡ true
scalars_append [] ys h k = k
scalars_append (x ∷ xs) ys h k =
    let parts = and_parts _ (all_scalars xs) h in
    rw (parts.0, scalars_append xs ys parts.1 k) refl

pub spells_both : (xs ys bs ds : List ℕ) → Spells xs bs → Spells ys ds → Spells (xs ++ ys) (bs ++ ds)
spells_both xs ys bs ds h k = record {
  scalars = scalars_append xs ys h.scalars k.scalars;
  bytes = encodes-append xs ys ∙ (ap (λ (b : List ℕ). b ++ encode_utf8_all ys) h.bytes ∙ ap (λ (d : List ℕ). bs ++ d) k.bytes);
}

-- no line end
abbrev pub is_inside : ℕ → Bool
is_inside b = not (b == 10)

-- within a line
pub record SpellsPart (cs bs : List ℕ) : Type 0 where
  pub spells : Spells cs bs
  pub inside : list_all is_inside bs ≡ true

part_both : (xs ys bs ds : List ℕ) → SpellsPart xs bs → SpellsPart ys ds → SpellsPart (xs ++ ys) (bs ++ ds)
part_both xs ys bs ds h k = record { spells = spells_both xs ys bs ds h.spells k.spells; inside = all_append is_inside bs ds h.inside k.inside }

-- ASCII spells itself.

abbrev pub is_low : ℕ → Bool
is_low b = nat_lt b 128 && not (b == 10)

pub low_spells : (bs : List ℕ) → list_all is_low bs ≡ true → SpellsPart bs bs
low_spells [] h = record { spells = record { scalars = refl; bytes = refl }; inside = refl }
low_spells (b ∷ bs) h =
    let parts = and_parts (is_low b) (list_all is_low bs) h in
    let rest = low_spells bs parts.1 in
    let lt : b < 128 = grind (arith, nat_tests) in
    let scalar = low_scalar b (omega arith) in
    let here : is_inside b ≡ true = (and_parts (nat_lt b 128) (is_inside b) parts.0).1 in
    record {
      spells = record {
        scalars = rw (scalar, rest.spells.scalars) refl;
        bytes = ap (λ (cs : List ℕ). cs ++ encode_utf8_all bs) (encode_ascii b lt) ∙ ap (λ (cs : List ℕ). b ∷ cs) rest.spells.bytes;
      };
      inside = rw (here, rest.inside) refl;
    }

-- a number among other bytes
pub low_number : (front : List ℕ) (n : ℕ) (end : List ℕ) → list_all is_low front ≡ true → list_all is_low end ≡ true → list_all is_low (front ++ decimal n ++ end) ≡ true
low_number front n end h k = all_append is_low (front ++ decimal n) end (all_append is_low front (decimal n) h (all_decimal is_low digit n)) k where
  digit : PassesDigits is_low
  digit d lt =
      let a : nat_lt (48 + d) 128 ≡ true = grind (arith, nat_tests) in
      let b : (48 + d == 10) ≡ false = grind (arith, nat_tests) in
      rw (a, b) refl

abbrev Plain : List ℕ → Type 0
Plain bs = SpellsPart bs bs

plain_sgr : (n : ℕ) → Plain (sgr n)
plain_sgr n = low_spells (sgr n) (low_number (codes "\u{1b}[") n (codes "m") refl refl)

plain_none : Plain []
plain_none = low_spells [] refl

plain_flash : (old new : Bool) → Plain (flash_by old new)
plain_flash true true = plain_none
plain_flash true false = plain_sgr 25
plain_flash false true = plain_sgr 5
plain_flash false false = plain_none

plain_ground : (p : Pen) (k : Colour) → Plain (ground_bytes p k)
plain_ground p k = cond_both (is_set p.background k) [] (sgr (40 + colour_number k)) Plain (λ e. plain_none) (λ e. plain_sgr (40 + colour_number k))

plain_ink : (p : Pen) (k : Colour) → Plain (ink_bytes p k)
plain_ink p k = cond_both (is_set p.foreground k) [] (sgr (30 + colour_number k)) Plain (λ e. plain_none) (λ e. plain_sgr (30 + colour_number k))

plain_both : (xs ys : List ℕ) → Plain xs → Plain ys → Plain (xs ++ ys)
plain_both xs ys h k = part_both xs ys xs ys h k

-- Cells.

spells_blank : (p : Pen) (a : Look) → Plain (blanked p a)
spells_blank p a =
    plain_both (ground_bytes p a.background ++ flash_by p.flash false) (codes " ")
    (plain_both (ground_bytes p a.background) (flash_by p.flash false) (plain_ground p a.background) (plain_flash p.flash false)) (low_spells (codes " ") refl)

-- the bytes of a cell that shows c, or a space
abbrev pub bytes_by : Pen → Look → ℕ → List ℕ
bytes_by p a c =
    if c == 0x20 then blanked p a
    else ground_bytes p a.background ++ ink_bytes p a.foreground ++ flash_by p.flash a.flash ++ encode_utf8 c

inside_above : (b : ℕ) → 128 ≤ b → is_inside b ≡ true
inside_above b h = let e : (b == 10) ≡ false = grind (arith, nat_tests) in rw e refl

-- the bytes of a character pass if it passes itself and all from 128 on do
encode_passes : (p : ℕ → Bool) (c : ℕ) → ((b : ℕ) → 128 ≤ b → p b ≡ true) → p c ≡ true → list_all p (encode_utf8 c) ≡ true
unfolding encode_utf8
encode_passes p c high own =
    cond_both (nat_lt c 128) _ _ (λ (bs : List ℕ). list_all p bs ≡ true) (λ e. one c own)
    (λ e. cond_both (nat_lt c 2048) _ _ (λ (bs : List ℕ). list_all p bs ≡ true) (λ f. two _ _ (high _ (omega arith)) (high _ (omega arith)))
    (λ f. cond_both (nat_lt c 65536) _ _ (λ (bs : List ℕ). list_all p bs ≡ true) (λ g. three _ _ _ (high _ (omega arith)) (high _ (omega arith)) (high _ (omega arith)))
    (λ g. four _ _ _ _ (high _ (omega arith)) (high _ (omega arith)) (high _ (omega arith)) (high _ (omega arith))))) where
      one : (a : ℕ) → p a ≡ true → list_all p (a ∷ []) ≡ true
      one a h = rw h refl

      two : (a b : ℕ) → p a ≡ true → p b ≡ true → list_all p (a ∷ b ∷ []) ≡ true
      two a b h k = rw (h, k) refl

      three : (a b d : ℕ) → p a ≡ true → p b ≡ true → p d ≡ true → list_all p (a ∷ b ∷ d ∷ []) ≡ true
      three a b d h k l = rw (h, k, l) refl

      four : (a b d e : ℕ) → p a ≡ true → p b ≡ true → p d ≡ true → p e ≡ true → list_all p (a ∷ b ∷ d ∷ e ∷ []) ≡ true
      four a b d e h k l m = rw (h, k, l, m) refl

spells_char : (m : Mark) (c : ℕ) → IsDrawn m c → SpellsPart (c ∷ []) (encode_utf8 c)
spells_char m c d = record {
  spells = record { scalars = rw d.scalar refl; bytes = append-nil (encode_utf8 c) };
  inside = encode_passes is_inside c inside_above (rw d.line_end refl);
}

spells_inked : (p : Pen) (a : Look) (m : Mark) (c : ℕ) → IsDrawn m c → SpellsPart (cell_chars p a c) (bytes_by p a c)
spells_inked p a m c d =
    let ground = ground_bytes p a.background in
    let ink = ink_bytes p a.foreground in
    let flash = flash_by p.flash a.flash in
    let front : Plain (ground ++ ink ++ flash) = plain_both (ground ++ ink) flash (plain_both ground ink (plain_ground p a.background) (plain_ink p a.foreground)) (plain_flash p.flash a.flash) in
    let all : SpellsPart (ground ++ ink ++ flash ++ c ∷ []) (ground ++ ink ++ flash ++ encode_utf8 c) = part_both (ground ++ ink ++ flash) (c ∷ []) (ground ++ ink ++ flash) (encode_utf8 c) front (spells_char m c d) in
    rw d.space all

spells_drawn : (p : Pen) (a : Look) (m : Option Mark) (c : ℕ) → Draws m c → SpellsPart (cell_chars p a c) (bytes_by p a c)
spells_drawn p a None c d = subst (λ (k : ℕ). SpellsPart (cell_chars p a k) (bytes_by p a k)) (sym d) (spells_blank p a)
spells_drawn p a (Some m) c d = spells_inked p a m c d

-- Rows.

-- the bytes of the rest of a row, without its line end
abbrev pub row_bytes : Pen → List Look → List ℕ
row_bytes p [] = sgr 0
row_bytes p (a ∷ rest) = cell_bytes p a ++ row_bytes (pen_after p a) rest

pub line_of_row : (p : Pen) (looks : List Look) → cells_bytes p looks ≡ row_bytes p looks ++ codes "\n"
line_of_row p [] = refl
line_of_row p (a ∷ rest) = ap (λ (bs : List ℕ). cell_bytes p a ++ bs) (line_of_row (pen_after p a) rest) ∙ sym (append_assoc (cell_bytes p a) (row_bytes (pen_after p a) rest) (codes "\n"))

pub spells_row : (p : Pen) (looks : List Look) → P.All OfTables looks → SpellsPart (row_chars p looks) (row_bytes p looks)
spells_row p [] h = plain_sgr 0
spells_row p (a ∷ rest) h =
    part_both (cell_chars p a (seen_char a)) (row_chars (pen_after p a) rest) (cell_bytes p a) (row_bytes (pen_after p a) rest)
    (spells_drawn p a (shown_mark (shown a)) (seen_char a) (draws a (All-head OfTables a rest h)))
    (spells_row (pen_after p a) rest (All-tail OfTables a rest h))

end_spells : Spells (codes "\n") (codes "\n")
unfolding encode_utf8
end_spells = record { scalars = refl; bytes = refl }

spells_line : (looks : List Look) → P.All OfTables looks → Spells (row_chars unset looks ++ codes "\n") (cells_bytes unset looks)
spells_line looks h =
    subst (Spells (row_chars unset looks ++ codes "\n")) (sym (line_of_row unset looks)) (spells_both (row_chars unset looks) (codes "\n") (row_bytes unset looks) (codes "\n") (spells_row unset looks h).spells end_spells)

spells_rows : (rows : List (List Look)) → AllOfTables rows → Spells (all_chars rows) (ansi rows)
spells_rows [] h = (low_spells [] refl).spells
spells_rows (row ∷ rows) h = spells_both (row_chars unset row ++ codes "\n") (all_chars rows) (cells_bytes unset row) (ansi rows) (spells_line row h.0) (spells_rows rows h.1)

-- what was read as text is text
was_text : (b : Bool) (r : AnsiRead) → (if b then r else ansi_refused (below_rows [])).mode ≡ Characters → b ≡ true
was_text true r h = refl
was_text false r h = let none : ⊥ = cc in absurd none

-- a text is read by its characters, after others
pub reads_after : (before cs bs : List ℕ) → (ansi_read before).mode ≡ Characters → Spells cs bs → ansi_read (before ++ bs) ≡ read_on (ansi_read before) cs
reads_after before cs bs mode h =
    let first : is_utf8 before ≡ true = was_text (is_utf8 before) (read_on (below_rows []) (chars before)) mode in
    let text : IsUtf8 before = IsUtf8-from_is_utf8 before first in
    let both : is_utf8 (before ++ bs) ≡ true = is_utf8-from_IsUtf8 (before ++ bs) (IsUtf8-append before bs text (cs, (h.scalars, h.bytes))) in
    let own : chars bs ≡ cs = ap chars (sym h.bytes) ∙ chars-encodes cs h.scalars in
    let all : chars (before ++ bs) ≡ chars before ++ cs = chars-append before bs text ∙ ap (λ (ds : List ℕ). chars before ++ ds) own in
    rw (both, first) (ap (read_on (below_rows [])) all ∙ read_append (below_rows []) (chars before) cs)

pub reads_spelled : (cs bs : List ℕ) → Spells cs bs → ansi_read bs ≡ read_on (below_rows []) cs
unfolding chars is_utf8
reads_spelled cs bs h = reads_after [] cs bs refl h

pub reads_ansi : (rows : List (List Look)) → AllOfTables rows → ansi_read (ansi rows) ≡ below_rows (seen_cells rows)
reads_ansi rows h = reads_spelled (all_chars rows) (ansi rows) (spells_rows rows h) ∙ reads_rows [] rows h

-- The looks of a screen are of the tables.

all_of_tables : (cells rs : List ℕ) → AllOfTables (map (looks_at cells) rs)
all_of_tables cells [] = tt
all_of_tables cells (r ∷ rs) = (glyphs_are_of_tables cells r, all_of_tables cells rs)

pub looks_of_tables : (cells : List ℕ) → AllOfTables (looks cells)
unfolding looks
looks_of_tables cells = all_of_tables cells (range_with_len 0 24)
