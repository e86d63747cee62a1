-- The section of a frame.
use Rattle.std.specs.Prelude.{ℕ, Bool, true, false, List, [], ◌∷◌, ◌++◌, Option, Some, None, codes, decimal, filter, length, ◌==◌, if◌then◌else◌}
use Rattle.std.specs.List.{flat_map}
use Rattle.std.specs.Str.{chars}
use Rattle.page_ids.specs.Ids.{Id, frame_text}
use Rattle.frame_records.specs.declared.frame.Frame.{Frame}
use Rattle.frame_records.specs.declared.frame.Lead.{Lead}
use Rattle.frame_records.specs.declared.frame.Lead.TheVariants.{Clear, Keep}
use Rattle.frame_records.specs.Bases.{BaseView}
use Rattle.finder.specs.declared.found.Discovered.{Discovered}
use Rattle.base_faults.specs.declared.fault.Fault.{Fault}
use Rattle.finder.specs.Parts.{part_shows}
use Rattle.lint.specs.declared.lines.WrittenFrame.{WrittenFrame}
use Rattle.lint.specs.FrameLines.{SentenceView}
use Rattle.lint.specs.Lookups.{value_of}
use Rattle.screens.specs.declared.look.Look.{Look}
use Rattle.screens.specs.Text.{text}
use Rattle.screens.specs.Svg.{Piece, markup, svg_pieces}
use Rattle.base_pages.specs.declared.source.BaseSource.{BaseSource}
use Rattle.base_pages.specs.Elements.{element_pieces, around}
use Rattle.base_pages.specs.Ways.{ways_pieces}
use Rattle.base_pages.specs.Faults.{faults_about, fault_list, touched_cell, sentences_about}
use Rattle.base_pages.specs.Screens.{is_reached, screen_of}
use Rattle.base_pages.specs.Revealed.{revealed, screen_conceals}

-- the text of a base: the name of its file, in UTF-8, and where it writes each frame
pub record SourceView : Type 0 where
  pub name : List ℕ
  pub lines : List (Id × WrittenFrame)

abbrev pub source_view : BaseSource → SourceView
source_view s = record { name = s.name.now; lines = s.lines.now }

-- what the sections are written of: a base and its text, the caller's groups, the frames that the caller reaches, the faults of the
-- audit with what lint says of each, and the part that is shown
pub record BookView : Type 0 where
  pub source : SourceView
  pub base : BaseView
  pub caller : List ℕ
  pub found : List Discovered
  pub faults : List Fault
  pub sentences : List SentenceView
  pub part : Option (List Id)

-- a frame that no key reaches is marked
abbrev pub section_attributes : Id → Bool → List (List ℕ × List ℕ)
section_attributes id true = (codes "id", frame_text id) ∷ []
section_attributes id false = (codes "id", frame_text id) ∷ (codes "class", codes "unreached") ∷ []

unfoldable pub heading : Id → List Piece
heading id = element_pieces (codes "h2") [] (frame_text id)

-- the picture and the text of a screen
unfoldable pub drawn_pieces : Id → List (List Look) → Option ℕ → List Piece
drawn_pieces id rows cell = svg_pieces id rows cell

unfoldable pub text_pieces : List (List Look) → List Piece
text_pieces rows = element_pieces (codes "pre") [] (text rows)

-- both of a screen with all that it conceals
unfoldable pub revealed_pieces : Id → List (List Look) → Option ℕ → List Piece
revealed_pieces id rows cell = around (codes "div") ((codes "class", codes "revealed") ∷ []) (drawn_pieces id rows cell ++ text_pieces rows)

-- which comes after both if it conceals something
unfoldable pub screen_pieces : Id → List (List Look) → Option ℕ → List Piece
screen_pieces id rows cell =
    drawn_pieces id rows cell ++ text_pieces rows ++ (if screen_conceals rows then revealed_pieces id (revealed rows) cell else [])

-- a price, as `5p`
unfoldable pub price_pieces : ℕ → List Piece
price_pieces price = element_pieces (codes "p") ((codes "class", codes "price") ∷ []) (decimal price ++ codes "p")

-- the group of the callers who can open it, as `group 31`
unfoldable pub group_pieces : Option ℕ → List Piece
group_pieces None = []
group_pieces (Some group) = element_pieces (codes "p") ((codes "class", codes "group") ∷ []) (codes "group " ++ decimal group)

-- the line of the base's file that writes it, as `town.toml:112`
abbrev pub place_chars : List ℕ → WrittenFrame → List ℕ
place_chars name line = chars name ++ codes ":" ++ decimal line.line

unfoldable pub place_pieces : List ℕ → Option WrittenFrame → List Piece
place_pieces name None = []
place_pieces name (Some line) = element_pieces (codes "p") ((codes "class", codes "place") ∷ []) (place_chars name line)

-- a frame that keeps what is on the screen says so
unfoldable pub over : Lead → List Piece
over Clear = []
over Keep = element_pieces (codes "p") ((codes "class", codes "over") ∷ []) (codes "Painted over what is on the screen.")

-- what lint says of a fault, as `MESSAGE; HINT`
abbrev pub hint_chars : List ℕ → List ℕ
hint_chars hint = if length hint == 0 then [] else codes "; " ++ chars hint

abbrev pub sentence_chars : SentenceView → List ℕ
sentence_chars s = chars s.message ++ hint_chars s.hint

abbrev pub sentence_item : SentenceView → List Piece
sentence_item s = element_pieces (codes "li") [] (sentence_chars s)

-- in a list, if there are any
abbrev pub sentence_list : List SentenceView → List Piece
sentence_list [] = []
sentence_list (s ∷ sentences) = around (codes "ul") ((codes "class", codes "said") ∷ []) (flat_map sentence_item (s ∷ sentences))

-- what is said of the faults of a frame: what lint says, and the audit's lines
unfoldable pub finding_pieces : List SentenceView → List Fault → List Piece
finding_pieces sentences faults = sentence_list sentences ++ fault_list faults

-- what belongs to a frame beside its screen, and where it is written
unfoldable pub beside_screen : SourceView → Frame → List Piece
beside_screen source f = price_pieces f.price ++ group_pieces f.group ++ place_pieces source.name (value_of source.lines f.id)

-- what comes after the picture and the text
unfoldable pub below_screen : BookView → Frame → List SentenceView → List Fault → List Piece
below_screen b f sentences faults =
    beside_screen b.source f ++ ways_pieces b.caller b.base b.part f ++ over f.lead ++ finding_pieces sentences faults

-- a section by its faults and what is said of them, the looks of its screen, and whether a key reaches its frame
unfoldable pub shaped : BookView → Frame → List SentenceView → List Fault → List (List Look) → Bool → List Piece
shaped b f sentences faults rows is_reached =
    around (codes "section") (section_attributes f.id is_reached)
    (heading f.id ++ screen_pieces f.id rows (touched_cell f faults) ++ below_screen b f sentences faults)

-- its faults are those about its frame
abbrev pub section_pieces : BookView → Frame → List Piece
section_pieces b f =
    shaped b f (sentences_about b.faults b.sentences f.id) (faults_about b.faults f.id) (screen_of b.caller b.base b.found f.id) (is_reached b.found f.id)

abbrev pub section : BookView → Frame → List ℕ
section b f = markup (section_pieces b f)

-- the frames that are shown, in order
abbrev pub shown_frames : BookView → List Frame → List Frame
shown_frames b frames = filter (λ f. part_shows b.part f.id) frames

-- their sections
abbrev pub sections : BookView → List Frame → List ℕ
sections b frames = flat_map (section b) (shown_frames b frames)
