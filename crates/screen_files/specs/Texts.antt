-- The text of a frame that shows a screen.
use Rattle.std.specs.Prelude.{ℕ, zero, suc, Bool, true, false, List, [], ◌∷◌, ◌++◌, Option, Some, None, ◌+◌, ◌*◌, ◌/◌, ◌%◌, ◌==◌, length, nat_lt, map, take, drop, codes, decimal, if◌then◌else◌}
use Rattle.std.specs.List.{flat_map}
use Rattle.screens.specs.declared.look.Look.{Look}
use Rattle.page_ids.specs.Ids.{Id, frame_text}
use Rattle.page_ids.specs.Texts.{hex_digit}
use Rattle.screens.specs.Looks.{looks}
use Rattle.screen_files.specs.Keys.{shows_key}
use Rattle.screens.specs.Text.{trimmed}
use Rattle.screen_files.specs.Rows.{rows_of}
use Rattle.screen_files.specs.Routes.{guessed_routes}
use Rattle.screen_files.specs.declared.frame.ScreenFrame.{ScreenFrame}

-- A row.

-- `"` (34) and `\` (92) after a backslash, 7F to 9F as `\u007F` to `\u009F`
abbrev pub quoted_code : ℕ → List ℕ
quoted_code c =
    if c == 34 then codes "\\\""
    else if c == 92 then codes "\\\\"
    else if nat_lt c 0x7F then c ∷ []
    else codes "\\u00" ++ hex_digit (c / 16) ∷ hex_digit (c % 16) ∷ []

abbrev pub row_text_line : List ℕ → List ℕ
row_text_line row = (codes "    \"" ++ flat_map quoted_code row) ++ codes "\",\n"

-- A comment.

-- attributes and 7F are spaces
abbrev pub comment_code : ℕ → ℕ
comment_code c = if nat_lt c 0x7F then c else 32

abbrev pub comment_by : List ℕ → List ℕ
comment_by [] = []
comment_by (c ∷ cs) = (codes "# " ++ (c ∷ cs)) ++ codes "\n"

-- the comment of what a row of a screen shows; a blank one has none
abbrev pub row_comment : List ℕ → ℕ → List ℕ
row_comment screen row = comment_by (trimmed (map comment_code (take 40 (drop (40 * row) screen))))

-- The keys that are shown.

-- those of n digits from one on, each after a space (32); 48 is `0`
unfoldable pub keys_from : List (List Look) → ℕ → ℕ → List ℕ
keys_from all zero digit = []
keys_from all (suc n) digit =
    if shows_key all digit then 32 ∷ (48 + digit) ∷ keys_from all n (digit + 1) else keys_from all n (digit + 1)

abbrev pub shown_keys_text : List (List Look) → List ℕ
shown_keys_text all = keys_from all 10 0

-- what comes before them
unfoldable pub keys_label : List ℕ
keys_label = codes " # keys shown:"

-- a comment of some keys
abbrev pub keys_comment : List ℕ → List ℕ
keys_comment keys = if length keys == 0 then [] else keys_label ++ keys

-- The frame.

abbrev pub price_text_line : Option ℕ → List ℕ
price_text_line None = []
price_text_line (Some price) = (codes "price = " ++ decimal price) ++ codes "\n"

abbrev pub next_line : Bool → List ℕ
next_line true = codes "next = true\n"
next_line false = []

-- what comes before them if routes are guessed
unfoldable pub guessed_label : List ℕ
guessed_label = codes " # by its number; keys shown:"

-- some routes, with the comment
abbrev pub routes_comment : List ℕ → List ℕ → List ℕ
routes_comment routes keys = if length routes == 0 then keys_comment keys else guessed_label ++ keys

abbrev pub routes_with : List ℕ → List ℕ → List ℕ
routes_with routes keys = ((codes "routes = {" ++ routes) ++ codes " }") ++ (routes_comment routes keys ++ codes "\n")

abbrev pub routes_line : List Id → ScreenFrame → List ℕ
routes_line known f = routes_with (guessed_routes known f.id.page (looks f.codes)) (shown_keys_text (looks f.codes))

abbrev pub rows_text : List ℕ → List ℕ
rows_text screen = (codes "rows = [\n" ++ flat_map row_text_line (rows_of screen)) ++ codes "]\n"

abbrev pub id_line : Id → List ℕ
id_line id = (codes "id = \"" ++ frame_text id) ++ codes "\"\n"

-- what comes before the routes
abbrev pub lines_before_routes : ScreenFrame → Bool → List ℕ
lines_before_routes f next = (((codes "\n[[frame]]\n" ++ row_comment f.codes 0) ++ id_line f.id) ++ price_text_line f.price) ++ next_line next

-- the frame, whose routes are guessed if they lead to one of these; `next` if `#` leads on
abbrev pub frame_lines : List Id → ScreenFrame → Bool → List ℕ
frame_lines known f next = ((lines_before_routes f next ++ routes_line known f) ++ rows_text f.codes) ++ row_comment f.codes 23

-- the line before all frames
abbrev pub entry_key_line : ℕ → List ℕ
entry_key_line page = (codes "entry = " ++ decimal page) ++ codes "\n"
