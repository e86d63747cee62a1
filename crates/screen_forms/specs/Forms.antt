-- The files of screens that other programs read.
use Rattle.std.specs.Prelude.{ℕ, zero, suc, List, [], ◌∷◌, ◌++◌, ◌+◌, ◌-◌, ◌*◌, ◌/◌, ◌%◌, ◌==◌, ◌&&◌, codes, decimal, drop, map, nat_le, nat_lt, take, if◌then◌else◌}
use Rattle.std.specs.List.{flat_map, list_all}
use Rattle.page_ids.specs.Ids.{Id, frame_text}
use Rattle.screen_forms.specs.Bits.{low_bits}
use Rattle.screen_forms.specs.Links.{link_letters}
use Rattle.screen_forms.specs.declared.forms.SavedForm.{SavedForm}
use Rattle.screen_forms.specs.declared.forms.SavedForm.TheVariants.{Cells, Ep1, Tti, Link}

-- what comes before the letters
unfoldable pub address_head : List ℕ
address_head = codes "https://edit.tf/#0:"

-- an address of edit.tf
abbrev pub address : List ℕ → List ℕ
address screen = address_head ++ link_letters screen

-- the bytes before the rows: FE 01 09 00 00 00
abbrev pub ep1_head : List ℕ
ep1_head = 0xFE ∷ 0x01 ∷ 0x09 ∷ 0 ∷ 0 ∷ 0 ∷ []

abbrev pub ep1_bytes : List ℕ → List ℕ
ep1_bytes screen = (ep1_head ++ map low_bits screen) ++ 0 ∷ 0 ∷ []

-- the id, a space (32), the address and a line end (10)
abbrev pub link_line : Id → List ℕ → List ℕ
link_line id screen = ((frame_text id ++ 32 ∷ []) ++ address screen) ++ 10 ∷ []

-- TTI.

-- a line end: 13, 10
abbrev pub tti_end : List ℕ
tti_end = 13 ∷ 10 ∷ []

-- an attribute is 1B (27) and a letter
abbrev pub tti_cell : ℕ → List ℕ
tti_cell c = if nat_lt c 0x80 then c ∷ [] else 27 ∷ (c - 0x40) ∷ []

abbrev pub screen_row_codes : List ℕ → ℕ → List ℕ
screen_row_codes screen n = take 40 (drop (40 * n) screen)

abbrev pub tti_row_line : ℕ → List ℕ → List ℕ
tti_row_line n row = (((codes "OL," ++ decimal n) ++ 44 ∷ []) ++ flat_map tti_cell row) ++ tti_end

-- none of a blank row
abbrev pub tti_row : List ℕ → ℕ → List ℕ
tti_row screen n =
    if list_all (λ c. c == 32) (screen_row_codes screen n) then [] else tti_row_line n (screen_row_codes screen n)

-- n rows from one on
unfoldable pub tti_rows : List ℕ → ℕ → ℕ → List ℕ
tti_rows screen zero n = []
tti_rows screen (suc k) n = tti_row screen n ++ tti_rows screen k (n + 1)

-- the page of a teletext page number, 100 to 899
abbrev pub tti_page : ℕ → ℕ
tti_page page = if nat_le 100 page && nat_le page 899 then page else 100

-- the place of a letter, `a` (97) is 01
abbrev pub tti_place : ℕ → List ℕ
tti_place letter = (48 + (letter - 96) / 10) ∷ (48 + (letter - 96) % 10) ∷ []

-- the lines before the rows

abbrev pub tti_name : Id → List ℕ
tti_name id = (codes "DE," ++ frame_text id) ++ tti_end

abbrev pub tti_number : Id → List ℕ
tti_number id = ((codes "PN," ++ decimal (tti_page id.page)) ++ tti_place id.letter) ++ tti_end

abbrev pub tti_subpage : Id → List ℕ
tti_subpage id = (codes "SC,00" ++ tti_place id.letter) ++ tti_end

unfoldable pub tti_settings : List ℕ
tti_settings = codes "PS,8000\r\nRE,0\r\n"

abbrev pub tti_head : Id → List ℕ
tti_head id = ((tti_name id ++ tti_number id) ++ tti_subpage id) ++ tti_settings

-- rows 0 to 22
abbrev pub tti_bytes : Id → List ℕ → List ℕ
tti_bytes id screen = tti_head id ++ tti_rows screen 23 0

-- the file of a frame's screen
abbrev pub form_bytes : SavedForm → Id → List ℕ → List ℕ
form_bytes Cells id screen = screen
form_bytes Ep1 id screen = ep1_bytes screen
form_bytes Tti id screen = tti_bytes id screen
form_bytes Link id screen = link_line id screen
