-- What the sections of a file say of the frames.
use Rattle.std.specs.Prelude.{ℕ, List, [], ◌∷◌, ◌++◌, Option, Some, None, codes, decimal, map, if◌then◌else◌}
use Rattle.std.specs.List.{flat_map}
use Rattle.page_ids.specs.Ids.{Id, frame_text, page_text}
use Rattle.page_ids.specs.declared.key.Key.{Key}
use Rattle.page_ids.specs.Ways.{way_key, ways}
use Rattle.frame_records.specs.declared.frame.Frame.{Frame}
use Rattle.frame_records.specs.declared.frame.Lead.{Lead}
use Rattle.frame_records.specs.declared.frame.Lead.TheVariants.{Clear, Keep}
use Rattle.frame_records.specs.declared.ways.Destination.{Destination}
use Rattle.frame_records.specs.declared.ways.Destination.TheVariants.{NotOffered, Found, Closed, Missing, Outside}
use Rattle.frame_records.specs.Ways.{destination_of}
use Rattle.base_faults.specs.declared.fault.Fault.{Fault}
use Rattle.audit_report.specs.ReportLines.{words_as}
use Rattle.finder.specs.Parts.{part_shows}
use Rattle.screens.specs.declared.look.Look.{Look}
use Rattle.screens.specs.declared.writing.Writing.TheVariants.{Plain}
use Rattle.screens.specs.Writing.{written}
use Rattle.screens.specs.Text.{text}
use Rattle.screens.specs.Svg.{newline}
use Rattle.base_pages.specs.Ways.{link_attributes, marked_attributes}
use Rattle.lint.specs.declared.lines.WrittenFrame.{WrittenFrame}
use Rattle.lint.specs.FrameLines.{SentenceView}
use Rattle.lint.specs.Lookups.{value_of}
use Rattle.base_pages.specs.Faults.{faults_about, sentences_about}
use Rattle.base_pages.specs.Screens.{is_reached, screen_of}
use Rattle.base_pages.specs.Revealed.{revealed, screen_conceals}
use Rattle.base_pages.specs.Sections.{BookView, SourceView, section_attributes, place_chars, sentence_chars}
use Rattle.base_pages.specs.Reading.{Element}

-- an element of a name, attributes and characters, in UTF-8
abbrev pub said_as : List ℕ → List (List ℕ × List ℕ) → List ℕ → Element
said_as name attributes chars =
    record { name = name; attributes = map (λ a. (a.0, written Plain a.1)) attributes; chars = written Plain chars }

abbrev pub link_said : Id → Key → Element
link_said to key = said_as (codes "a") (link_attributes to key) (frame_text to)

abbrev pub marked_said : List ℕ → Key → List ℕ → Element
marked_said class key chars = said_as (codes "span") (marked_attributes class key) chars

-- a way is a link if it leads to a frame of the file, and else says why not
abbrev pub way_said : Option (List Id) → Key → Destination → List Element
way_said part key NotOffered = []
way_said part key (Found to price) = (if part_shows part to then link_said to key else marked_said (codes "elsewhere") key (frame_text to)) ∷ []
way_said part key (Closed to) = marked_said (codes "closed") key (frame_text to) ∷ []
way_said part key (Missing to) = marked_said (codes "missing") key (frame_text to) ∷ []
way_said part key (Outside page) = marked_said (codes "outside") key (page_text page) ∷ []

abbrev pub ways_said : BookView → Frame → List Element
ways_said b f = flat_map (λ way. way_said b.part (way_key way) (destination_of b.caller b.base f way)) ways

abbrev pub class_said : List ℕ → List ℕ → Element
class_said class chars = said_as (codes "p") ((codes "class", class) ∷ []) chars

-- a frame that keeps what is on the screen says so
abbrev pub over_said : Lead → List Element
over_said Clear = []
over_said Keep = class_said (codes "over") (codes "Painted over what is on the screen.") ∷ []

-- the group of the callers who can open the frame
abbrev pub group_said : Option ℕ → List Element
group_said None = []
group_said (Some group) = class_said (codes "group") (codes "group " ++ decimal group) ∷ []

-- the line of the base's file that writes it
abbrev pub place_said : List ℕ → Option WrittenFrame → List Element
place_said name None = []
place_said name (Some line) = class_said (codes "place") (place_chars name line) ∷ []

abbrev pub marks_said : SourceView → Frame → List Element
marks_said source f = group_said f.group ++ place_said source.name (value_of source.lines f.id)

-- what lint says of a fault, with its hint
abbrev pub sentence_said : SentenceView → List Element
sentence_said s = said_as (codes "li") [] (sentence_chars s) ∷ []

abbrev pub sentences_said : List SentenceView → List Element
sentences_said [] = []
sentences_said (s ∷ sentences) = said_as (codes "ul") ((codes "class", codes "said") ∷ []) newline ∷ flat_map sentence_said (s ∷ sentences)

-- a fault is the audit's line
abbrev pub fault_said : Fault → List Element
fault_said fault = said_as (codes "li") [] (words_as fault.kind fault) ∷ []

-- a list has at least one
abbrev pub faults_said : List Fault → List Element
faults_said [] = []
faults_said (fault ∷ faults) = said_as (codes "ul") ((codes "class", codes "faults") ∷ []) newline ∷ flat_map fault_said (fault ∷ faults)

-- what lint says of its faults, and the audit's lines
abbrev pub findings_said : BookView → Frame → List Element
findings_said b f = sentences_said (sentences_about b.faults b.sentences f.id) ++ faults_said (faults_about b.faults f.id)

-- the text of a screen, and, if it conceals something, the text with that
abbrev pub text_said : List (List Look) → Element
text_said rows = said_as (codes "pre") [] (text rows)

abbrev pub revealed_said : List (List Look) → List Element
revealed_said rows =
    if screen_conceals rows then said_as (codes "div") ((codes "class", codes "revealed") ∷ []) newline ∷ text_said (revealed rows) ∷ [] else []

-- the heading is the frame's id; then come its text, its price, its group and where it is written
abbrev pub screen_said : BookView → Frame → List Element
screen_said b f =
    said_as (codes "h2") [] (frame_text f.id)
    ∷ text_said (screen_of b.caller b.base b.found f.id)
    ∷ (revealed_said (screen_of b.caller b.base b.found f.id) ++ class_said (codes "price") (decimal f.price ++ codes "p") ∷ marks_said b.source f)

-- then its ways, and the faults about it
abbrev pub frame_said : BookView → Frame → List Element
frame_said b f = screen_said b f ++ class_said (codes "ways") newline ∷ (ways_said b f ++ over_said f.lead ++ findings_said b f)

-- the section's own id is that too, and its class says if no key reaches the frame
abbrev pub section_said : BookView → Frame → List Element
section_said b f = said_as (codes "section") (section_attributes f.id (is_reached b.found f.id)) newline ∷ frame_said b f
