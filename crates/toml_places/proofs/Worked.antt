-- The definitions at small texts.
use Rattle.std.proofs.Common.{◌≡◌, [], ◌∷◌, Some, None, codes, refl}
use Rattle.std.specs.Prelude.{⊤}
use Rattle.toml.proofs.OnLiterals.{toml_on_literals}
use Rattle.toml_places.specs.Strings.{after_char, after_hex, after_escape, escape, at_delims, next_step, after_content, content, after_string, after_part, next_part, part_from, after_key, value_from}
use Rattle.toml_places.specs.Values.{after_word, after_atom, after_member, after_members, after_value}
use Rattle.toml_places.specs.Skips.{line_after, column_after, place_at}
use Rattle.toml_places.specs.Places.{marks_from, marks, header_place, key_place, route_place}

unfoldable strings_on_literals : ⊤
unfolding after_char after_hex after_escape escape at_delims next_step after_content content after_string after_part next_part part_from after_key value_from
strings_on_literals = tt

a_frame : marks (codes "a = 1\n[[frame]]\nid = 1") ≡
    record { at = 0; parts = 1; frame = None; path = codes "a" ∷ [] } ∷ record { at = 6; parts = 1; frame = Some 0; path = [] }
    ∷ record { at = 16; parts = 1; frame = Some 0; path = codes "id" ∷ [] } ∷ []
unfolding toml_on_literals marks marks_from
a_frame = refl

a_header_below_a_frame : marks (codes "[[ 'frame' ]] #\n[frame.routes]\n3 = 5") ≡
    record { at = 0; parts = 1; frame = Some 0; path = [] } ∷ record { at = 16; parts = 2; frame = Some 0; path = codes "routes" ∷ [] }
    ∷ record { at = 31; parts = 1; frame = Some 0; path = codes "routes" ∷ codes "3" ∷ [] } ∷ []
unfolding toml_on_literals marks marks_from
a_header_below_a_frame = refl

a_header_at_the_top : marks (codes "[[frame]]\n[b]\nc.d = 1") ≡
    record { at = 0; parts = 1; frame = Some 0; path = [] } ∷ record { at = 10; parts = 1; frame = None; path = codes "b" ∷ [] }
    ∷ record { at = 14; parts = 2; frame = None; path = codes "b" ∷ codes "c" ∷ codes "d" ∷ [] } ∷ []
unfolding toml_on_literals marks marks_from
a_header_at_the_top = refl

a_header_in_a_string : marks (codes "a = '''\n[[frame]]'''") ≡ record { at = 0; parts = 1; frame = None; path = codes "a" ∷ [] } ∷ []
unfolding toml_on_literals marks marks_from
a_header_in_a_string = refl

a_table_frame : marks (codes "[frame]\nid = 1") ≡
    record { at = 0; parts = 1; frame = None; path = codes "frame" ∷ [] } ∷ record { at = 8; parts = 1; frame = None; path = codes "frame" ∷ codes "id" ∷ [] } ∷ []
unfolding toml_on_literals marks marks_from
a_table_frame = refl

a_route : route_place (marks (codes "[[frame]]\nroutes.1 = 2\nroutes.3 = 5")) 0 (codes "3") ≡ 23
unfolding toml_on_literals marks marks_from
a_route = refl

a_missing_route : route_place (marks (codes "[[frame]]\nroutes.1 = 2\nroutes.3 = 5")) 0 (codes "4") ≡ 10
unfolding toml_on_literals marks marks_from
a_missing_route = refl

a_missing_key : key_place (marks (codes "a = 1\n[[frame]]\nb = 2")) (Some 0) (codes "a") ≡ 6
unfolding toml_on_literals marks marks_from
a_missing_key = refl

an_inline_frame : header_place (marks (codes "a = 1\nframe = [{}]")) 0 ≡ 6
unfolding toml_on_literals marks marks_from
an_inline_frame = refl

too_deep : after_value 2 (codes "[{a = [1]}, ']'] # end") ≡ None
unfolding toml_on_literals strings_on_literals after_word after_atom after_member after_members after_value
too_deep = refl

deep_enough : after_value 3 (codes "[{a = [1]}, ']'] # end") ≡ Some (codes " # end")
unfolding toml_on_literals strings_on_literals after_word after_atom after_member after_members after_value
deep_enough = refl

second_line : place_at (codes "ab\ncd") 4 ≡ (2, 2)
unfolding line_after column_after
second_line = refl

-- C3 A9 is one character.
one_character : place_at (0xC3 ∷ 0xA9 ∷ 0x61 ∷ []) 2 ≡ (1, 2)
unfolding line_after column_after
one_character = refl
