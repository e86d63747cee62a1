-- Frames that go into a base's text.
use Rattle.std.specs.Prelude.{◌≡◌, ℕ, Bool, true, false, ◌&&◌, ◌||◌, ◌-◌, ◌==◌, nat_eq, IsPermutation, List, [], ◌∷◌, ◌++◌, Option, Some, None, get_or, length, map, take, if◌then◌else◌}
use Rattle.std.specs.Cmp.Lexicographic.{pointwise}
use Rattle.std.specs.List.Sorted.{IsSortedByKey, IsStableByKey}
use Rattle.std.specs.Ordering.{nat_cmp}
use Rattle.toml.specs.Data.{Members}
use Rattle.std.specs.List.{list_any}
use Rattle.page_ids.specs.Ids.{Id, id_eq}
use Rattle.frame_records.specs.declared.frame.Lead.{Lead}
use Rattle.frame_records.specs.declared.frame.Lead.TheVariants.{Clear, Keep}
use Rattle.frame_records.specs.declared.frame.Frame.{Frame}
use Rattle.frame_records.specs.Bases.{BaseView, frame_at}
use Rattle.terminal_codes.specs.Screen.{Screen, run}
use Rattle.terminal_codes.specs.Bodies.{lead_codes}
use Rattle.base_text.specs.declared.fault.BaseFault.{BaseFault}
use Rattle.base_text.specs.declared.listed.Listed.{Listed}
use Rattle.base_text.specs.Drafts.{draft_of}
use Rattle.base_text.specs.Whole.{IsTextBase, IsFirstFault, tree_of}
use Rattle.toml_places.specs.declared.spans.Span.{Span}
use Rattle.lint.specs.declared.pictures.PicturePlace.{PicturePlace}
use Rattle.lint.specs.Pictures.{written_picture}
use Rattle.text_edits.specs.Edits.{ReplacementView, edited}
use Rattle.screen_files.specs.declared.filed.Filed.{Filed}
use Rattle.screen_files.specs.declared.frame.ScreenFrame.{ScreenFrame}
use Rattle.screen_files.specs.Codes.{switched_on}
use Rattle.screen_files.specs.Laws.{rows_alone}
use Rattle.screen_files.specs.Routes.{has_frame, knows_frame}
use Rattle.screen_files.specs.Album.{first_over, frames_text}
use Rattle.screen_files.specs.Texts.{rows_text}
use Rattle.frame_edits.specs.declared.intake.Fate.{Fate}
use Rattle.frame_edits.specs.declared.intake.Fate.TheVariants as fate
use Rattle.frame_edits.specs.declared.merging.MergeFault.{MergeFault}
use Rattle.frame_edits.specs.declared.merging.MergeFault.TheVariants.{Unread, Spoilt, TooLong, Overlap, Memory}

-- What contracts see.

pub record IntakeView : Type 0 where
  pub edits : List ReplacementView
  pub replaced : List Id
  pub added : List Filed
  pub left : List Id
  pub same : List Id

pub record MergedView : Type 0 where
  pub text : List ℕ
  pub edits : List ReplacementView
  pub replaced : List Id
  pub added : List Id
  pub left : List Id
  pub same : List Id

-- What a frame of the base shows.

-- a terminal after a body that was sent to a cleared screen
abbrev pub after_body : List ℕ → Screen
after_body body = run (run switched_on (lead_codes Clear)) body

-- it shows rows 1 to 22 of a screen, between blank rows
abbrev pub shows_rows : List ℕ → List ℕ → Bool
shows_rows body codes = pointwise nat_eq (after_body body).cells (rows_alone codes)

abbrev pub shows_screen : Option Frame → List ℕ → Bool
shows_screen None codes = false
shows_screen (Some f) codes = shows_rows f.body codes

-- the base's frame of this one's id shows its screen, if its lead clears
abbrev pub is_shown : BaseView → ScreenFrame → Bool
is_shown base f = shows_screen (frame_at base f.id) f.codes

-- What becomes of a frame, by where the text writes what it shows, and whether that is the screen.

-- a frame over another stays, since its rows aren't all that it shows
abbrev pub fate_led : Lead → Span → Bool → Fate
fate_led Clear span true = fate.Same
fate_led Clear span false = fate.Replaced span
fate_led Keep span shown = fate.Left

abbrev pub fate_with : Lead → Option Span → Bool → Fate
fate_with lead None shown = fate.Left
fate_with lead (Some span) shown = fate_led lead span shown

abbrev pub fate_of : Option PicturePlace → Bool → Fate
fate_of None shown = fate.Added
fate_of (Some p) shown = fate_with p.lead p.span shown

-- the key `rows` with the rows of a screen, without a line end
abbrev pub rows_pair : List ℕ → List ℕ
rows_pair codes = take (length (rows_text codes) - 1) (rows_text codes)

abbrev pub rows_edit : Span → Filed → ReplacementView
rows_edit span f = record { begin = span.begin; end = span.end; text = rows_pair f.frame.codes }

-- What the frames result in.

abbrev pub nothing_taken : IntakeView
nothing_taken = record { edits = []; replaced = []; added = []; left = []; same = [] }

abbrev pub taken_by : IntakeView → Filed → Fate → IntakeView
taken_by i f fate.Added = record { edits = i.edits; replaced = i.replaced; added = i.added ++ f ∷ []; left = i.left; same = i.same }
taken_by i f fate.Left = record { edits = i.edits; replaced = i.replaced; added = i.added; left = i.left ++ f.frame.id ∷ []; same = i.same }
taken_by i f fate.Same = record { edits = i.edits; replaced = i.replaced; added = i.added; left = i.left; same = i.same ++ f.frame.id ∷ [] }
taken_by i f (fate.Replaced span) = record {
  edits = i.edits ++ rows_edit span f ∷ [];
  replaced = i.replaced ++ f.frame.id ∷ [];
  added = i.added;
  left = i.left;
  same = i.same;
}

-- after frames that are written in these places of a base
unfoldable pub intake_from : BaseView → IntakeView → List (Option PicturePlace) → List Filed → IntakeView
intake_from base i places [] = i
intake_from base i [] (f ∷ fs) = i
intake_from base i (p ∷ ps) (f ∷ fs) = intake_from base (taken_by i f (fate_of p (is_shown base f.frame))) ps fs

abbrev pub filed_ids : List Filed → List Id
filed_ids frames = map (λ f. f.frame.id) frames

-- the result of these frames, if the text of the base lists those of the third argument
abbrev pub intake_in : List ℕ → BaseView → List Listed → List Filed → IntakeView
intake_in text base listed frames = intake_from base nothing_taken (map (written_picture text listed) (filed_ids frames)) frames

-- What is added at the end.

-- 10 is a line feed; a text without a byte lacks none
abbrev pub is_line_ended : List ℕ → Bool
is_line_ended text = get_or text (length text - 1) 10 == 10

abbrev pub missing_line_end : List ℕ → List ℕ
missing_line_end text = if is_line_ended text then [] else 10 ∷ []

abbrev pub additions : List ℕ → List Id → List Filed → List ℕ
additions text known [] = []
additions text known (f ∷ fs) = missing_line_end text ++ frames_text known (f ∷ fs)

-- the file of the first frame that ends too late, counted from the end of the text
abbrev pub addition_over : List ℕ → List Id → List Filed → Option ℕ
addition_over text known added = first_over known (length (missing_line_end text)) added

-- The text.

-- the same edits in the order of where they begin
pub record AreEditsInOrder (edits ordered : List ReplacementView) : Type 0 where
  pub same : IsPermutation edits ordered
  pub ascend : IsSortedByKey (λ (r : ReplacementView). r.begin) nat_cmp ordered
  pub stable : IsStableByKey (λ (r : ReplacementView). r.begin) nat_cmp edits ordered

abbrev pub end_edit : List ℕ → List Id → List Filed → ReplacementView
end_edit text known added = record { begin = length text; end = length text; text = additions text known added }

-- these edits in order, and the one that adds frames, are made, and nothing else of the text is changed
pub record IsEdited (text : List ℕ) (edits : List ReplacementView) (known : List Id) (added : List Filed) (made : List ReplacementView) (new : List ℕ) : Type 0 where
  pub ordered : List ReplacementView
  pub order : AreEditsInOrder edits ordered
  pub are : made ≡ ordered ++ end_edit text known added ∷ []
  pub is : edited text made ≡ Some new

pub record AreOverlapping (text : List ℕ) (edits : List ReplacementView) (known : List Id) (added : List Filed) : Type 0 where
  pub ordered : List ReplacementView
  pub order : AreEditsInOrder edits ordered
  pub none : edited text (ordered ++ end_edit text known added ∷ []) ≡ None

-- why they aren't
abbrev pub IsUnedited : List ℕ → List ReplacementView → List Id → List Filed → MergeFault → Type 0
IsUnedited text edits known added (TooLong file) = addition_over text known added ≡ Some file
IsUnedited text edits known added Overlap = AreOverlapping text edits known added
IsUnedited text edits known added Memory = Unit {0}
IsUnedited text edits known added _ = ⊥

-- The base.

-- a text lists the frame of an id
abbrev pub lists_frame : List Listed → Id → Bool
lists_frame listed id = list_any (λ (l : Listed). id_eq l.frame.id id) listed

-- the frames to which guessed routes may lead: these and those that the text lists, or none if no routes are guessed
abbrev pub KnowsBoth : Bool → List Listed → List Filed → List Id → Type 0
KnowsBoth guessed listed frames known = (id : Id) → knows_frame known id ≡ (guessed && (lists_frame listed id || has_frame frames id))

-- the text after it got what the frames result in
pub record IsMergeOf (text : List ℕ) (i : IntakeView) (known : List Id) (merged : MergedView) : Type 0 where
  pub edits : IsEdited text i.edits known i.added merged.edits merged.text
  pub replaced : merged.replaced ≡ i.replaced
  pub added : merged.added ≡ filed_ids i.added
  pub left : merged.left ≡ i.left
  pub same : merged.same ≡ i.same

-- the text of a base that lists these frames after it got others; whether routes are guessed
pub record IsTextMerged (text : List ℕ) (base : BaseView) (listed : List Listed) (guessed : Bool) (frames : List Filed) (merged : MergedView) : Type 0 where
  pub known : List Id
  pub knows : KnowsBoth guessed listed frames known
  pub merge : IsMergeOf text (intake_in text base listed frames) known merged

-- why it doesn't get them
pub record IsTextRefused (text : List ℕ) (base : BaseView) (listed : List Listed) (guessed : Bool) (frames : List Filed) (fault : MergeFault) : Type 0 where
  pub known : List Id
  pub knows : KnowsBoth guessed listed frames known
  pub refused : IsUnedited text (intake_in text base listed frames).edits known (intake_in text base listed frames).added fault

-- the text of a base after it got the frames
pub record AreMerged (text : List ℕ) (guessed : Bool) (frames : List Filed) (merged : MergedView) : Type 0 where
  pub old : BaseView
  pub was : IsTextBase text old
  pub members : Members
  pub tree : tree_of text ≡ Some members
  pub merge : IsTextMerged text old (draft_of members).frames guessed frames merged

-- and it is a base
pub record IsMerged (text : List ℕ) (guessed : Bool) (frames : List Filed) (merged : MergedView) : Type 0 where
  pub merge : AreMerged text guessed frames merged
  pub new : BaseView
  pub is : IsTextBase merged.text new

-- why frames don't go into a text
pub record AreSpoilt (text : List ℕ) (guessed : Bool) (frames : List Filed) (fault : BaseFault) : Type 0 where
  pub merged : MergedView
  pub merge : AreMerged text guessed frames merged
  pub first : IsFirstFault merged.text fault

pub record AreRefused (text : List ℕ) (guessed : Bool) (frames : List Filed) (fault : MergeFault) : Type 0 where
  pub old : BaseView
  pub was : IsTextBase text old
  pub members : Members
  pub tree : tree_of text ≡ Some members
  pub refused : IsTextRefused text old (draft_of members).frames guessed frames fault

abbrev pub IsNotMerged : List ℕ → Bool → List Filed → MergeFault → Type 0
IsNotMerged text guessed frames (Unread fault) = IsFirstFault text fault
IsNotMerged text guessed frames (Spoilt fault) = AreSpoilt text guessed frames fault
IsNotMerged text guessed frames (TooLong file) = AreRefused text guessed frames (TooLong file)
IsNotMerged text guessed frames Overlap = AreRefused text guessed frames Overlap
IsNotMerged text guessed frames Memory = Unit {0}
