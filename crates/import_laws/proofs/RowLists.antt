-- The rows of a frame, one a line, each with a comma after it.
use Rattle.std.proofs.Common.{◌≡◌, ℕ, ◌-◌, ◌<◌, false, ◌==◌, List, [], ◌∷◌, ◌++◌, length, Some, refl, ap, ◌∙◌, arith, append_assoc, length-append}
use Rattle.std.proofs.lemmas.List.Elements.{All-head, All-tail}
use Rattle.std.specs.List.{All, flat_map}
use Rattle.terminal_codes.specs.Writes.{IsCode}
use Rattle.screen_files.specs.Texts.{quoted_code, row_text_line}
use Rattle.toml_parser.specs.Lexical.{first, skip_blank}
use Rattle.toml.specs.Data.{Items, no_items, array, push_item}
use Rattle.toml.specs.Parse.{val, items, after_element}
use Rattle.toml.proofs.Turns.{items_end, items_more, val_array}
use Rattle.toml.proofs.Blanks.{skip_newline, skip_space, skip_none, skip_within}
use Rattle.toml.proofs.ReadValues.{item_join, item_join-none, item_join-push}
use Rattle.import_laws.specs.Imported.{row_item, row_items}
use Rattle.import_laws.proofs.RowTexts.{row_read}
use Rattle.import_laws.proofs.Pairs.{IsValue}

-- each row holds codes of cells
abbrev pub HoldCodes : List (List ℕ) → Type 0
HoldCodes rows = All (All IsCode) rows

after_comma : (more : List ℕ) → after_element 93 (44 ∷ more) ≡ Some more
unfolding after_element
after_comma more = rw (skip_none (44 ∷ more) 44 refl refl)

-- after the indent
row_begins : (more : List ℕ) → skip_blank (32 ∷ 32 ∷ 32 ∷ 32 ∷ 34 ∷ more) ≡ 34 ∷ more
row_begins more = skip_space _ ∙ skip_space _ ∙ skip_space _ ∙ skip_space _ ∙ skip_none (34 ∷ more) 34 refl refl

line_and_more : (row more : List ℕ) → row_text_line row ++ more ≡ 32 ∷ 32 ∷ 32 ∷ 32 ∷ 34 ∷ (flat_map quoted_code row ++ 34 ∷ 44 ∷ 10 ∷ more)
line_and_more row more = simp append_assoc refl

rows_read : (depth : ℕ) (rows : List (List ℕ)) (rest x : List ℕ) (found : Items) (m : ℕ) → HoldCodes rows
    → skip_blank x ≡ skip_blank (flat_map row_text_line rows ++ 93 ∷ rest) → length x < m
    → items (val depth) m found x ≡ Some (item_join found (row_items rows), rest)
rows_read depth [] rest x found m all same room =
    let closing : skip_blank x ≡ 93 ∷ rest = same ∙ skip_none (93 ∷ rest) 93 refl refl in
    items_end (val depth) m found x (omega arith) (rw closing refl) ∙ rw (closing, item_join-none found)
rows_read depth (row ∷ rows) rest x found m all same room =
    let more = flat_map row_text_line rows ++ 93 ∷ rest in
    let start = 34 ∷ (flat_map quoted_code row ++ 34 ∷ 44 ∷ 10 ∷ more) in
    let at : skip_blank x ≡ start =
    same ∙ ap skip_blank (append_assoc (row_text_line row) (flat_map row_text_line rows) (93 ∷ rest) ∙ line_and_more row more)
    ∙ row_begins (flat_map quoted_code row ++ 34 ∷ 44 ∷ 10 ∷ more) in
    let other : (first (skip_blank x) == 93) ≡ false = rw at refl in
    let long : length (skip_blank x) ≡ length start = ap length at in
    let sizes = length-append (flat_map quoted_code row) (34 ∷ 44 ∷ 10 ∷ more) in
    let read = row_read depth row (44 ∷ 10 ∷ more) (All-head (All IsCode) row rows all) refl in
    let next = rows_read depth rows rest (10 ∷ more) (push_item found (row_item row)) (m - 1) (All-tail (All IsCode) row rows all) (skip_newline more)
    (omega (arith, room, long, sizes, skip_within x)) in
    items_more (val depth) m found x (row_item row) (44 ∷ 10 ∷ more) (10 ∷ more) (omega (arith, room)) other (ap (val depth) at ∙ read) (after_comma (10 ∷ more))
    ∙ next ∙ ap (λ (ds : Items). Some (ds, rest)) (item_join-push found (row_item row) (row_items rows))

-- the array: 91 is `[`, 93 is `]`
abbrev pub array_text : List (List ℕ) → List ℕ
array_text rows = 91 ∷ 10 ∷ (flat_map row_text_line rows ++ 93 ∷ [])

array_read : (rows : List (List ℕ)) (rest : List ℕ) → HoldCodes rows → val 80 (array_text rows ++ rest) ≡ Some (array (row_items rows), rest)
array_read rows rest all =
    let more = flat_map row_text_line rows ++ 93 ∷ rest in
    let text = 91 ∷ 10 ∷ more in
    let same : array_text rows ++ rest ≡ text = ap (λ (t : List ℕ). 91 ∷ 10 ∷ t) (append_assoc (flat_map row_text_line rows) (93 ∷ []) rest) in
    ap (val 80) same ∙ val_array 79 text refl
    ∙ rw (rows_read 79 rows rest (10 ∷ more) no_items (length text) all (skip_newline more) (omega arith)) refl

pub array_value : (rows : List (List ℕ)) (tail : List ℕ) → HoldCodes rows → IsValue (array_text rows) tail (array (row_items rows))
array_value rows tail all = record {
  starts = λ rest. refl;
  reads = λ rest. array_read rows (tail ++ rest) all;
}
