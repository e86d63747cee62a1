-- A few words by which a frame can be recognised.
use Rattle.std.specs.Prelude.{ℕ, ◌-◌, ◌==◌, ◌&&◌, ◌||◌, Bool, true, false, if◌then◌else◌, List, [], ◌∷◌, ◌++◌, length, take, drop, find, codes, nat_lt, nat_le, unwrap_or, decimal, Option, Some, None}
use Rattle.std.specs.List.{list_any, slice_split, prefix_len, suffix_len}
use Rattle.std.specs.Char.{encode_utf8, is_ascii_alphabetic, is_ascii_whitespace}
use Rattle.page_ids.specs.Ids.{id_eq, frame_text, page_text}
use Rattle.frame_records.specs.declared.frame.Frame.{Frame}
use Rattle.frame_records.specs.Seek.{entry_of, is_open}
use Rattle.finder.specs.Finds.{has_id}
use Rattle.screens.specs.Table.{character}
use Rattle.base_map.specs.Edges.{MapView}

-- a body without its escapes, after the first code of one or not: an escape is 1B and the byte after it
abbrev pub without_escapes : Bool → List ℕ → List ℕ
without_escapes dot_escaped [] = []
without_escapes true (c ∷ cs) = without_escapes false cs
without_escapes false (c ∷ cs) = if c == 27 then without_escapes true cs else c ∷ without_escapes false cs

-- any code but 20 to 7E ends a run
abbrev pub ends_run : ℕ → Bool
ends_run code = nat_lt code 32 || nat_lt 126 code

-- three or more codes, a letter among them
abbrev pub is_title : List ℕ → Bool
is_title run = nat_le 3 (length run) && list_any is_ascii_alphabetic run

-- without the spaces at its start, and at its end
abbrev pub start_trimmed : List ℕ → List ℕ
start_trimmed run = drop (prefix_len is_ascii_whitespace run) run

abbrev pub end_trimmed : List ℕ → List ℕ
end_trimmed run = take (length run - suffix_len is_ascii_whitespace run) run

-- trimmed, at most 24 characters
abbrev pub shortened : List ℕ → List ℕ
shortened run = take 24 (end_trimmed (start_trimmed run))

-- the first run that can be a title
abbrev pub run_in : List ℕ → List ℕ
run_in text = unwrap_or (find is_title (slice_split ends_run text)) []

-- that of a body without its escapes
abbrev pub title_run : List ℕ → List ℕ
title_run body = run_in (without_escapes false body)

abbrev pub node_title : List ℕ → List ℕ
node_title body = shortened (title_run body)

-- what a caller sees of a code, as a label of DOT has it: a quote after a backslash, `&` as its reference. A terminal shows no backslash
abbrev pub escaped_code : ℕ → List ℕ
escaped_code code =
    if code == 0x22 then codes "\\\""
    else if code == 0x26 then codes "&amp;"
    else encode_utf8 (character code)

abbrev pub dot_escaped : List ℕ → List ℕ
dot_escaped [] = []
dot_escaped (c ∷ cs) = escaped_code c ++ dot_escaped cs

-- a line of a label, if there is a title
abbrev pub title_line : List ℕ → List ℕ
title_line [] = []
title_line (c ∷ cs) = codes "\\n" ++ dot_escaped (c ∷ cs)

-- The nodes of frames, by pages.

-- the id, the title if there is one, and the price, each in a line
abbrev pub label : Frame → List ℕ
label f = frame_text f.id ++ title_line (node_title f.body) ++ codes "\\nPRICE " ++ decimal f.price

-- the entry frame has two lines round it
abbrev pub entry_mark : MapView → Frame → List ℕ
entry_mark m f = if id_eq f.id (entry_of m.base) then codes " peripheries=2" else []

-- what is closed to the caller is red
abbrev pub closed_mark : MapView → Frame → List ℕ
closed_mark m f = if is_open m.caller f then [] else codes " color=red"

-- what no key reaches is dashed
abbrev pub unreached_mark : MapView → Frame → List ℕ
unreached_mark m f = if has_id m.reached f.id then [] else codes " style=dashed"

abbrev pub node_marks : MapView → Frame → List ℕ
node_marks m f = entry_mark m f ++ closed_mark m f ++ unreached_mark m f

abbrev pub node_line : MapView → Frame → List ℕ
node_line m f = codes "    \"" ++ frame_text f.id ++ codes "\" [label=\"" ++ label f ++ codes "\"" ++ node_marks m f ++ codes "]\n"

-- the cluster of a page begins
abbrev pub opened : ℕ → List ℕ
opened page = codes "  subgraph cluster_" ++ page_text page ++ codes " {\n    label=" ++ page_text page ++ codes "\n"

-- the cluster of a page ends, if there is one
abbrev pub closed : Option ℕ → List ℕ
closed None = []
closed (Some page) = codes "  }\n"

-- from the page of the frame before, if there is one, to the page of the next
abbrev pub page_turned : Option ℕ → ℕ → List ℕ
page_turned None page = opened page
page_turned (Some before) page = if before == page then [] else codes "  }\n" ++ opened page

-- the nodes of frames after one of a page, or at the start
abbrev pub cluster_lines : MapView → Option ℕ → List Frame → List ℕ
cluster_lines m page [] = closed page
cluster_lines m page (f ∷ fs) = page_turned page f.id.page ++ node_line m f ++ cluster_lines m (Some f.id.page) fs
