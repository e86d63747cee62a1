-- What is printed of a base.
use Rattle.std.specs.Prelude.{ℕ, nat_lt, ◌==◌, List, [], ◌∷◌, ◌++◌, length, take, codes, decimal, Option, Some, None, count_by, if◌then◌else◌}
use Rattle.std.specs.List.{flat_map}
use Rattle.page_ids.specs.Ids.{Id, frame_text}
use Rattle.frame_records.specs.declared.frame.Frame.{Frame}
use Rattle.frame_records.specs.Bases.{BaseView, frame_at}
use Rattle.base_differences.specs.declared.summary.TheConstants.{MOST_NAMED}
use Rattle.base_differences.specs.Differences.{differs, ids_lacked, ids_of_prices}

-- how many, and of what
unfoldable pub count_text : ℕ → List ℕ → List ℕ
count_text n what = (decimal n ++ codes " ") ++ what

-- after those that are named, if there are more
unfoldable pub more_text : List Id → List ℕ → List ℕ
more_text ids end = if nat_lt MOST_NAMED (length ids) then codes " .." ++ end else end

-- an id after a space
unfoldable pub further_id : Id → List ℕ
further_id id = codes " " ++ frame_text id

-- ids, with a space between two
abbrev pub ids_text : List Id → List ℕ
ids_text [] = []
ids_text (id ∷ ids) = frame_text id ++ flat_map further_id ids

-- how many frames of a kind there are, and the first eight, as `, 2 new (4783a 4783b)`
unfoldable pub some_frames : List Id → List ℕ → List ℕ
some_frames ids what = ((codes ", " ++ count_text (length ids) what) ++ codes " (") ++ (ids_text (take MOST_NAMED ids) ++ more_text ids (codes ")"))

abbrev pub frames_named : List Id → List ℕ → List ℕ
frames_named [] what = []
frames_named (id ∷ ids) what = some_frames (id ∷ ids) what

-- how many frames differ, if any does
abbrev pub changed_text : ℕ → List ℕ
changed_text n = if nat_lt 0 n then codes ", " ++ count_text n (codes "changed") else []

abbrev pub found_price : Option Frame → ℕ
found_price None = 0
found_price (Some f) = f.price

-- what a frame costs in both bases, as `4785a 10p -> 15p`
unfoldable pub price_change : BaseView → BaseView → Id → List ℕ
price_change old new id = ((frame_text id ++ codes " ") ++ (decimal (found_price (frame_at old id)) ++ codes "p -> ")) ++ (decimal (found_price (frame_at new id)) ++ codes "p")

-- prices after a comma
unfoldable pub further_price : BaseView → BaseView → Id → List ℕ
further_price old new id = codes ", " ++ price_change old new id

abbrev pub first_prices : BaseView → BaseView → List Id → List ℕ
first_prices old new [] = []
first_prices old new (id ∷ ids) = codes ", prices " ++ price_change old new id ++ flat_map (further_price old new) ids

-- the first eight prices, and whether there are more
unfoldable pub prices_text : BaseView → BaseView → List Id → List ℕ
prices_text old new ids = first_prices old new (take MOST_NAMED ids) ++ more_text ids []

-- what differs from an old base
abbrev pub differences_text : BaseView → BaseView → List ℕ
differences_text old new =
    frames_named (ids_lacked old new.frames) (codes "new")
    ++ (frames_named (ids_lacked new old.frames) (codes "gone")
    ++ (changed_text (count_by (differs old) new.frames)
    ++ prices_text old new (ids_of_prices old new.frames)))

-- what differs from the base before it, if there is one
abbrev pub since_text : Option BaseView → BaseView → List ℕ
since_text None new = []
since_text (Some old) new = differences_text old new

-- `frame` if there is one, else `frames`
abbrev pub frames_word : ℕ → List ℕ
frames_word n = if n == 1 then codes " frame" else codes " frames"

-- the number of frames, and what differs
abbrev pub summary : Option BaseView → BaseView → List ℕ
summary old new = (decimal (length new.frames) ++ frames_word (length new.frames)) ++ since_text old new
