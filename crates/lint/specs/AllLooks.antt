-- All that may be wrong with what frames show, and the closed frames to which no way leads.
use Rattle.std.specs.Prelude.{ℕ, Bool, true, not, if◌then◌else◌, List, [], ◌∷◌, ◌++◌, flat_map, Option, Some, None, is_none}
use Rattle.std.specs.List.{list_any}
use Rattle.page_ids.specs.Ids.{Id, first_frame}
use Rattle.frame_records.specs.declared.frame.Frame.{Frame}
use Rattle.frame_records.specs.Seek.{is_open}
use Rattle.frame_records.specs.Ways.{next_sought}
use Rattle.lint_words.specs.declared.warning_words.LineEnd.TheVariants.{Feed, Return}
use Rattle.lint.specs.declared.looks.Look.{Look}
use Rattle.lint.specs.declared.looks.Look.TheVariants.{Unsought}
use Rattle.lint.specs.Lookups.{value_of}
use Rattle.lint.specs.Looks.{rows_if, line_end_if, line_end_of}
use Rattle.lint.specs.Sights.{sights_if}

-- What frames show.

-- all of a frame
abbrev pub frame_looks : Frame → List (Id × Look)
frame_looks f =
    rows_if f ++ (line_end_if f.id Feed (line_end_of Feed f.body) ++ (line_end_if f.id Return (line_end_of Return f.body) ++ sights_if f))

-- the looks of all frames, in their order
abbrev pub looks_of : List Frame → List (Id × Look)
looks_of frames = flat_map frame_looks frames

-- Where ways lead.

-- the frame that a route or `next` seeks
abbrev pub page_sought : Option ℕ → List (Id × Bool)
page_sought None = []
page_sought (Some page) = (first_frame page, true) ∷ []

abbrev pub id_sought : Option Id → List (Id × Bool)
id_sought None = []
id_sought (Some id) = (id, true) ∷ []

abbrev pub pages_sought : List (Option ℕ) → List (Id × Bool)
pages_sought routes = flat_map page_sought routes

-- those that the ways of a frame seek
abbrev pub ids_sought : Frame → List (Id × Bool)
ids_sought f = pages_sought f.routes ++ id_sought (next_sought f)

-- those that the ways of all frames seek
abbrev pub all_sought : List Frame → List (Id × Bool)
all_sought frames = flat_map ids_sought frames

-- a frame of a group that doesn't admit the caller
abbrev pub closed_look : List ℕ → Frame → Option ℕ → List (Id × Look)
closed_look groups f None = []
closed_look groups f (Some group) = if is_open groups f then [] else (f.id, Unsought group) ∷ []

abbrev pub unsought_look : List ℕ → List (Id × Bool) → Frame → List (Id × Look)
unsought_look groups known f = if is_none (value_of known f.id) then closed_look groups f f.group else []

abbrev pub unsought_among : List ℕ → List (Id × Bool) → List Frame → List (Id × Look)
unsought_among groups known frames = flat_map (unsought_look groups known) frames

abbrev pub has_closed : List ℕ → List Frame → Bool
has_closed groups frames = list_any (λ f. not (is_open groups f)) frames

-- the closed frames that no way of any frame seeks
abbrev pub unsought_of : List ℕ → List Frame → List (Id × Look)
unsought_of groups frames = if has_closed groups frames then unsought_among groups (all_sought frames) frames else []

-- what may be wrong with frames, whatever the audit says
abbrev pub all_looks : List ℕ → List Frame → List (Id × Look)
all_looks groups frames = looks_of frames ++ unsought_of groups frames
