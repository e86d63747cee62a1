-- The frames of some files, and the base that is made of them.
use Rattle.std.specs.Prelude.{◌≡◌, ◌<◌, ◌≤◌, ◌+◌, ◌++◌, ◌∷◌, [], ℕ, ◌&&◌, Bool, false, List, Option, Some, None, Result, Ok, Err, length, nat_lt, if◌then◌else◌}
use Rattle.page_ids.specs.Ids.{Id, id_eq, following}
use Rattle.base_text.specs.declared.limits.TheConstants.{MOST_TEXT}
use Rattle.screen_files.specs.declared.filed.Filed.{Filed}
use Rattle.screen_files.specs.declared.album.BaseTextFault.{BaseTextFault}
use Rattle.screen_files.specs.declared.album.BaseTextFault.TheVariants.{TooLong, Memory}
use Rattle.screen_files.specs.declared.album.AddFault.{AddFault}
use Rattle.screen_files.specs.declared.album.AddFault.TheVariants as add
use Rattle.frame_records.specs.declared.limits.TheConstants.{MOST_LISTED}
use Rattle.screen_files.specs.Routes.{KnowsFrames}
use Rattle.screen_files.specs.Settling.{Ascend}
use Rattle.screen_files.specs.Texts.{entry_key_line, frame_lines}

-- the list after frames, or the list as it was; memory is refused only if there is room
abbrev pub AreFramesFiled : List Filed → List Filed → List Filed → Result (Unit {0}) AddFault → Type 0
AreFramesFiled old new more (Ok _) = new ≡ old ++ more
AreFramesFiled old new more (Err add.TooMany) = (new ≡ old) × (MOST_LISTED < length old + length more)
AreFramesFiled old new more (Err add.Memory) = (new ≡ old) × (length old + length more ≤ MOST_LISTED)

-- The base.

abbrev pub is_first : Id → List Filed → Bool
is_first id [] = false
is_first id (f ∷ rest) = id_eq f.frame.id id

-- whether the frame of the following letter comes next; no letter follows `z` (122)
abbrev pub leads_on : Id → List Filed → Bool
leads_on id rest = nat_lt id.letter 122 && is_first (following id) rest

abbrev pub filed_lines : List Id → Filed → List Filed → List ℕ
filed_lines known f rest = frame_lines known f.frame (leads_on f.frame.id rest)

unfoldable pub frames_text : List Id → List Filed → List ℕ
frames_text known [] = []
frames_text known (f ∷ rest) = filed_lines known f rest ++ frames_text known rest

-- the page that is asked for, else this one
abbrev pub entry_or : Option ℕ → ℕ → ℕ
entry_or None page = page
entry_or (Some asked) page = asked

-- no frames make no text
abbrev pub base_text : Option ℕ → List Id → List Filed → List ℕ
base_text asked known [] = []
base_text asked known (f ∷ rest) = entry_key_line (entry_or asked f.frame.id.page) ++ frames_text known (f ∷ rest)

-- the file of the first frame whose text ends after the most bytes of a base; this many bytes come before
unfoldable pub first_over : List Id → ℕ → List Filed → Option ℕ
first_over known before [] = None
first_over known before (f ∷ rest) =
    if nat_lt MOST_TEXT (before + length (filed_lines known f rest)) then Some f.origin.file
    else first_over known (before + length (filed_lines known f rest)) rest

abbrev pub over_most : Option ℕ → List Id → List Filed → Option ℕ
over_most asked known [] = None
over_most asked known (f ∷ rest) = first_over known (length (entry_key_line (entry_or asked f.frame.id.page))) (f ∷ rest)

-- the text of frames whose ids ascend, none of which ends too late; whether routes to them are guessed
pub record IsBaseText (asked : Option ℕ) (guessed : Bool) (frames : List Filed) (text : List ℕ) : Type 0 where
  pub ascend : Ascend frames
  pub known : List Id
  pub knows : KnowsFrames guessed frames known
  pub is : text ≡ base_text asked known frames
  pub within : over_most asked known frames ≡ None

-- why there is no text; `over` is the file of the first frame that ends too late
abbrev pub IsNoText : Option ℕ → BaseTextFault → Type 0
IsNoText over (TooLong file) = over ≡ Some file
IsNoText over Memory = Unit {0}

abbrev pub IsNoBaseText : Option ℕ → Bool → List Filed → BaseTextFault → Type 0
IsNoBaseText asked guessed frames (TooLong file) = (known : List Id) × KnowsFrames guessed frames known × (over_most asked known frames ≡ Some file)
IsNoBaseText asked guessed frames Memory = Unit {0}
