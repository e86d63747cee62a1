-- The base that is made of screens.
use Rattle.std.specs.Prelude.{◌≡◌, ◌≤◌, ◌⊎◌, ℕ, zero, suc, ◌+◌, Bool, List, [], ◌∷◌, length, Option, Some, None, Result, Ok, Err, if◌then◌else◌}
use Rattle.std.specs.List.{All}
use Rattle.page_ids.specs.Ids.{Id}
use Rattle.frame_records.specs.declared.frame.Frame.{Frame}
use Rattle.frame_records.specs.declared.frame.Lead.TheVariants.{Clear}
use Rattle.frame_records.specs.declared.limits.TheConstants.{MOST_LISTED}
use Rattle.frame_records.specs.Bases.{BaseView}
use Rattle.base_text.specs.declared.fault.BaseCause.TheVariants.{Memory}
use Rattle.base_text.specs.declared.fault.BaseFault.{BaseFault}
use Rattle.base_text.specs.Frames.{top_fault}
use Rattle.base_text.specs.Rows.{body_of_rows}
use Rattle.base_text.specs.Whole.{IsTextBase, IsRead}
use Rattle.screens.specs.declared.look.Look.{Look}
use Rattle.screens.specs.Looks.{looks}
use Rattle.screen_files.specs.declared.filed.Filed.{Filed}
use Rattle.screen_files.specs.declared.frame.ScreenFrame.{ScreenFrame}
use Rattle.screen_files.specs.Routes.{is_guessed, page_by}
use Rattle.screen_files.specs.Rows.{rows_of}
use Rattle.screen_files.specs.Album.{IsBaseText, entry_or, leads_on}
use Rattle.import_laws.specs.Imported.{IsAsked, IsFiled}

-- A frame that shows a screen.

abbrev pub price_or_0 : Option ℕ → ℕ
price_or_0 None = 0
price_or_0 (Some price) = price

-- the page to which a digit leads, if a route is guessed
abbrev pub route_page : List Id → ℕ → List (List Look) → ℕ → Option ℕ
route_page known page all digit = if is_guessed known page all digit then Some (page_by page digit) else None

-- those of n digits from one on
abbrev pub route_pages : List Id → ℕ → List (List Look) → ℕ → ℕ → List (Option ℕ)
route_pages known page all zero digit = []
route_pages known page all (suc n) digit = route_page known page all digit ∷ route_pages known page all n (digit + 1)

-- it is open, and clears
abbrev pub screen_frame : List Id → ScreenFrame → Bool → Frame
screen_frame known f next = record {
  id = f.id;
  price = price_or_0 f.price;
  group = None;
  next = next;
  routes = route_pages known f.id.page (looks f.codes) 10 0;
  lead = Clear;
  body = body_of_rows (rows_of f.codes);
}

-- frames in turn, each of which has `next` if the one after it has the following letter
abbrev pub screen_frames : List Id → List Filed → List Frame
screen_frames known [] = []
screen_frames known (f ∷ rest) = screen_frame known f.frame (leads_on f.frame.id rest) ∷ screen_frames known rest

-- The base.

-- the base of a first frame and the others
abbrev pub screen_base : Option ℕ → List Id → Filed → List Filed → BaseView
screen_base asked known f rest = record { entry = entry_or asked f.frame.id.page; outside = []; frames = screen_frames known (f ∷ rest) }

-- a text means this base, and nothing else is read of it, refused memory aside
pub record MeansBase (text : List ℕ) (base : BaseView) : Type 0 where
  pub means : IsTextBase text base
  pub only : (read : Result BaseView BaseFault) → IsRead text read → (read ≡ Ok base) ⊎ (read ≡ Err (top_fault Memory))

-- the text of a base that is made of frames, of which there is one at least, means just that base
abbrev pub ImportsAreBases : Type 0
ImportsAreBases =
    (asked : Option ℕ) (guessed : Bool) (f : Filed) (rest : List Filed) (text : List ℕ)
    → IsAsked asked → All IsFiled (f ∷ rest) → length (f ∷ rest) ≤ MOST_LISTED
    → (made : IsBaseText asked guessed (f ∷ rest) text) → MeansBase text (screen_base asked made.known f rest)
