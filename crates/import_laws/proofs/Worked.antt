-- The definitions at small screens.
use Rattle.std.proofs.Common.{◌≡◌, ℕ, pos, List, [], ◌∷◌, ◌++◌, replicate, codes, Option, Some, None, refl}
use Rattle.std.specs.Char.{encode_utf8}
use Rattle.std.specs.Fmt.{digits}
use Rattle.page_ids.specs.Ids.{first_frame}
use Rattle.screens.specs.Looks.{looks}
use Rattle.screen_files.specs.declared.filed.Filed.{Filed}
use Rattle.screen_files.specs.declared.filed.ScreenPlace.TheVariants.{Whole}
use Rattle.screen_files.specs.Rows.{last_row}
use Rattle.screen_files.specs.Routes.{routes_from}
use Rattle.screen_files.specs.Texts.{keys_from, keys_label, guessed_label}
use Rattle.screen_files.specs.Album.{base_text, frames_text}
use Rattle.toml.specs.Parse.{parse_document}
use Rattle.toml.proofs.OnLiterals.{toml_on_literals}
use Rattle.toml.specs.Data.{Members, string, integer, array, table, no_items, item, no_members, member}
use Rattle.import_laws.specs.Imported.{route_members, members_of}

-- a blank row 0, then these codes and n spaces
abbrev screen : List ℕ → ℕ → List ℕ
screen codes n = replicate 40 32 ++ (codes ++ replicate n 32)

abbrev filed : ℕ → Option ℕ → List ℕ → Filed
filed letter price codes = record {
  origin = record { file = 0; place = Whole };
  frame = record { id = record { page = 4; letter = letter }; price = price; codes = codes };
}

-- an attribute, 81, and what TOML escapes
abbrev first_screen : List ℕ
first_screen = screen (codes "HI \"" ++ 0x81 ∷ codes "\\") 914

-- its text, and its table with this row
abbrev first_text : List ℕ
first_text = codes "entry = 4\n\n[[frame]]\nid = \"4a\"\nprice = 5\nroutes = { }\nrows = [\n    \"HI \\\"\\u0081\\\\\",\n]\n"

abbrev first_table : List ℕ → Members
first_table row =
    member (codes "id") (string (codes "4a")) (member (codes "price") (integer (pos 5))
    (member (codes "routes") (table no_members) (member (codes "rows") (array (item (string row) no_items)) no_members)))

abbrev base_with : Members → Members
base_with frame = member (codes "entry") (integer (pos 4)) (member (codes "frame") (array (item (table frame) no_items)) no_members)

its_text : base_text None [] (filed 97 (Some 5) first_screen ∷ []) ≡ first_text
unfolding digits looks frames_text routes_from keys_from keys_label guessed_label last_row
its_text = refl

its_members : members_of None [] (filed 97 (Some 5) first_screen ∷ []) ≡ base_with (first_table (codes "HI \"" ++ 0xC2 ∷ 0x81 ∷ codes "\\"))
unfolding digits looks route_members last_row encode_utf8
its_members = refl

what_is_read : parse_document first_text ≡ Some (base_with (first_table (codes "HI \"" ++ 0xC2 ∷ 0x81 ∷ codes "\\")))
unfolding toml_on_literals
what_is_read = refl

-- Two frames, with a route to page 41 and a comment of row 23.

abbrev second_screen : List ℕ
second_screen = screen (codes "1 NEWS") 874 ++ (codes "BYE" ++ replicate 37 32)

two_texts : base_text (Some 7) (first_frame 41 ∷ []) (filed 97 None second_screen ∷ filed 98 None second_screen ∷ []) ≡
    codes "entry = 7\n\n[[frame]]\nid = \"4a\"\nnext = true\nroutes = { 1 = 41 } # by its number; keys shown: 1\nrows = [\n    \"1 NEWS\",\n]\n# BYE\n"
    ++ codes "\n[[frame]]\nid = \"4b\"\nroutes = { 1 = 41 } # by its number; keys shown: 1\nrows = [\n    \"1 NEWS\",\n]\n# BYE\n"
unfolding digits looks frames_text routes_from keys_from keys_label guessed_label last_row
two_texts = refl
