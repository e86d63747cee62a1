-- The members of a base that is made of screens.
use Rattle.std.specs.Prelude.{◌≡◌, ◌≤◌, ℕ, zero, suc, ◌+◌, Bool, true, false, pos, List, [], ◌∷◌, Option, Some, None, codes, if◌then◌else◌}
use Rattle.std.specs.List.{All}
use Rattle.std.specs.Str.{encode_utf8_all}
use Rattle.frame_records.specs.declared.limits.TheConstants.{MOST_PENCE}
use Rattle.page_ids.specs.Ids.{Id, IsFrameId, IsPageNumber, frame_text}
use Rattle.screens.specs.declared.look.Look.{Look}
use Rattle.screens.specs.Looks.{looks}
use Rattle.screen_forms.specs.Laws.{IsSavedScreen}
use Rattle.screen_files.specs.declared.filed.Filed.{Filed}
use Rattle.screen_files.specs.declared.frame.ScreenFrame.{ScreenFrame}
use Rattle.screen_files.specs.Routes.{is_guessed, page_by}
use Rattle.screen_files.specs.Rows.{rows_of}
use Rattle.screen_files.specs.Album.{base_text, entry_or, leads_on}
use Rattle.toml.specs.Data.{Data, string, integer, boolean, array, table, Items, no_items, item, Members, no_members, member}
use Rattle.toml.specs.Parse.{parse_document}

-- Values.

-- a row: its codes in UTF-8
abbrev pub row_item : List ℕ → Data
row_item row = string (encode_utf8_all row)

abbrev pub row_items : List (List ℕ) → Items
row_items [] = no_items
row_items (row ∷ rows) = item (row_item row) (row_items rows)

-- the routes that are guessed, those of n digits from one on; 48 is `0`
unfoldable pub route_members : List Id → ℕ → List (List Look) → ℕ → ℕ → Members
route_members known page all zero digit = no_members
route_members known page all (suc n) digit =
    if is_guessed known page all digit
    then member ((48 + digit) ∷ []) (integer (pos (page_by page digit))) (route_members known page all n (digit + 1))
    else route_members known page all n (digit + 1)

-- Frames.

-- `price` before other members
abbrev pub with_price : Option ℕ → Members → Members
with_price None ms = ms
with_price (Some price) ms = member (codes "price") (integer (pos price)) ms

-- `next` before other members, if `#` leads on
abbrev pub with_next : Bool → Members → Members
with_next true ms = member (codes "next") (boolean true) ms
with_next false ms = ms

-- the routes and the rows
abbrev pub screen_members : List Id → ScreenFrame → Members
screen_members known f =
    member (codes "routes") (table (route_members known f.id.page (looks f.codes) 10 0))
    (member (codes "rows") (array (row_items (rows_of f.codes))) no_members)

-- the frame: its keys ascend
abbrev pub frame_members : List Id → ScreenFrame → Bool → Members
frame_members known f next =
    member (codes "id") (string (frame_text f.id)) (with_next next (with_price f.price (screen_members known f)))

-- frames in turn, each of which has `next` if the one after it has the following letter
abbrev pub frame_items : List Id → List Filed → Items
frame_items known [] = no_items
frame_items known (f ∷ rest) = item (table (frame_members known f.frame (leads_on f.frame.id rest))) (frame_items known rest)

-- The base.

abbrev pub members_with : ℕ → Items → Members
members_with entry frames = member (codes "entry") (integer (pos entry)) (member (codes "frame") (array frames) no_members)

-- no frames make no members
abbrev pub members_of : Option ℕ → List Id → List Filed → Members
members_of asked known [] = no_members
members_of asked known (f ∷ rest) = members_with (entry_or asked f.frame.id.page) (frame_items known (f ∷ rest))

-- What TOML reads.

-- the page that is asked for, if there is one, is a page number
abbrev pub IsAsked : Option ℕ → Type 0
IsAsked None = Unit {0}
IsAsked (Some page) = IsPageNumber page

abbrev pub IsFiledPrice : Option ℕ → Type 0
IsFiledPrice None = Unit {0}
IsFiledPrice (Some price) = price ≤ MOST_PENCE

-- what each frame of a file has: an id, a price within the limit, and codes that cells can hold
pub record IsFiled (f : Filed) : Type 0 where
  pub id : IsFrameId f.frame.id
  pub price : IsFiledPrice f.frame.price
  pub screen : IsSavedScreen f.frame.codes

-- TOML reads the text of a base that is made of frames as just their members
abbrev pub ImportsAreRead : Type 0
ImportsAreRead = (asked : Option ℕ) (known : List Id) (frames : List Filed) → IsAsked asked → All IsFiled frames
    → parse_document (base_text asked known frames) ≡ Some (members_of asked known frames)
