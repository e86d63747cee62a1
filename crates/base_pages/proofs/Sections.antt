-- What is kept of the parts of a section and of the header.
use Rattle.std.proofs.Common.{◌≡◌, ℕ, refl, subst, append_assoc, Bool, true, false, List, [], ◌∷◌, ◌++◌, Option, Some, None, codes, decimal, length, if◌then◌else◌}
use Rattle.std.specs.List.{flat_map}
use Rattle.std.specs.Str.{chars}
use Rattle.page_ids.specs.Ids.{Id, frame_text, page_text}
use Rattle.page_ids.specs.declared.key.Key.{Key}
use Rattle.page_ids.specs.declared.way.Way.{Way}
use Rattle.page_ids.specs.Ways.{way_key, ways}
use Rattle.frame_records.specs.declared.frame.Frame.{Frame}
use Rattle.frame_records.specs.declared.frame.Lead.{Lead}
use Rattle.frame_records.specs.declared.frame.Lead.TheVariants.{Clear, Keep}
use Rattle.frame_records.specs.declared.ways.Destination.{Destination}
use Rattle.frame_records.specs.declared.ways.Destination.TheVariants.{NotOffered, Found, Closed, Missing, Outside}
use Rattle.frame_records.specs.Bases.{BaseView}
use Rattle.frame_records.specs.Seek.{entry_of}
use Rattle.frame_records.specs.Ways.{destination_of}
use Rattle.checker.specs.declared.policy.Policy.{Policy}
use Rattle.base_faults.specs.declared.fault.Fault.{Fault}
use Rattle.fault_scripts.specs.declared.outcome.Outcome.{Outcome}
use Rattle.fault_scripts.specs.declared.outcome.Outcome.TheVariants.{Certified, Faulty}
use Rattle.audit_report.specs.ReportLines.{words_as}
use Rattle.finder.specs.Parts.{part_shows}
use Rattle.screens.specs.declared.look.Look.{Look}
use Rattle.screens.specs.Text.{text}
use Rattle.screens.specs.Svg.{newline}
use Rattle.base_pages.specs.Elements.{around}
use Rattle.base_pages.specs.Ways.{link, link_attributes, marked, marked_attributes, way_pieces, each_way, ways_pieces}
use Rattle.lint.specs.declared.lines.WrittenFrame.{WrittenFrame}
use Rattle.lint.specs.FrameLines.{SentenceView}
use Rattle.lint.specs.Lookups.{value_of}
use Rattle.base_pages.specs.Faults.{faults_about, sentences_about, item, items, listed, fault_list, entry_faults, touched_cell}
use Rattle.base_pages.specs.Screens.{screen_of}
use Rattle.base_pages.specs.Revealed.{revealed, screen_conceals}
use Rattle.base_pages.specs.Sections.{BookView, SourceView, heading, drawn_pieces, text_pieces, revealed_pieces, screen_pieces, price_pieces, group_pieces, place_chars, place_pieces, over, sentence_chars, sentence_item, sentence_list, finding_pieces, beside_screen, below_screen}
use Rattle.base_pages.specs.Head.{certified_words, certified, fault_count, faulty_pieces, outcome_pieces, paragraph, policy_words, name_line, outcome_faults, header_pieces}
use Rattle.base_pages.specs.Said.{said_as, link_said, marked_said, way_said, ways_said, class_said, over_said, group_said, place_said, marks_said, sentence_said, sentences_said, fault_said, faults_said, findings_said, text_said, revealed_said, frame_said}
use Rattle.base_pages.specs.Reading.{Element}
use Rattle.base_pages.proofs.Parts.{Part, none, both, each, of_element, of_around}
use Rattle.base_pages.proofs.Picture.{silent_picture}

heading_part : (id : Id) → Part (heading id) (said_as (codes "h2") [] (frame_text id) ∷ [])
unfolding heading
heading_part id = of_element (codes "h2") [] (frame_text id) refl refl refl refl refl refl

picture_part : (id : Id) (rows : List (List Look)) (cell : Option ℕ) → Part (drawn_pieces id rows cell) []
unfolding drawn_pieces
picture_part id rows cell = silent_picture id rows cell

text_part : (rows : List (List Look)) → Part (text_pieces rows) (text_said rows ∷ [])
unfolding text_pieces
text_part rows = of_element (codes "pre") [] (text rows) refl refl refl refl refl refl

drawn_part : (id : Id) (rows : List (List Look)) (cell : Option ℕ) → Part (drawn_pieces id rows cell ++ text_pieces rows) (text_said rows ∷ [])
drawn_part id rows cell = both (drawn_pieces id rows cell) (text_pieces rows) [] (text_said rows ∷ []) (picture_part id rows cell) (text_part rows)

abbrev opening_said : Element
opening_said = said_as (codes "div") ((codes "class", codes "revealed") ∷ []) newline

revealed_part : (id : Id) (rows : List (List Look)) (cell : Option ℕ) → Part (revealed_pieces id rows cell) (opening_said ∷ text_said rows ∷ [])
unfolding revealed_pieces
revealed_part id rows cell =
    of_around (codes "div") ((codes "class", codes "revealed") ∷ []) (drawn_pieces id rows cell ++ text_pieces rows) (text_said rows ∷ []) refl refl refl refl refl refl (drawn_part id rows cell)

screen_part : (id : Id) (rows : List (List Look)) (cell : Option ℕ) → Part (screen_pieces id rows cell) (text_said rows ∷ revealed_said rows)
unfolding screen_pieces
screen_part id rows cell =
    both (drawn_pieces id rows cell ++ text_pieces rows) (if screen_conceals rows then revealed_pieces id (revealed rows) cell else []) (text_said rows ∷ []) (revealed_said rows)
    (drawn_part id rows cell) (by (screen_conceals rows)) where
      by : (q : Bool) → Part (if q then revealed_pieces id (revealed rows) cell else []) (if q then opening_said ∷ text_said (revealed rows) ∷ [] else [])
      by true = revealed_part id (revealed rows) cell
      by false = none

price_part : (price : ℕ) → Part (price_pieces price) (class_said (codes "price") (decimal price ++ codes "p") ∷ [])
unfolding price_pieces
price_part price = of_element (codes "p") ((codes "class", codes "price") ∷ []) (decimal price ++ codes "p") refl refl refl refl refl refl

marked_part : (class : List ℕ) (key : Key) (chars : List ℕ) → Part (marked class key chars) (marked_said class key chars ∷ [])
marked_part class key chars = of_element (codes "span") (marked_attributes class key) chars refl refl refl refl refl refl

found_part : (key : Key) (to : Id) (shows : Bool)
    → Part (if shows then link to key else marked (codes "elsewhere") key (frame_text to)) ((if shows then link_said to key else marked_said (codes "elsewhere") key (frame_text to)) ∷ [])
found_part key to true = of_element (codes "a") (link_attributes to key) (frame_text to) refl refl refl refl refl refl
found_part key to false = marked_part (codes "elsewhere") key (frame_text to)

way_part : (part : Option (List Id)) (key : Key) (leads : Destination) → Part (way_pieces part key leads) (way_said part key leads)
way_part part key NotOffered = none
way_part part key (Found to price) = found_part key to (part_shows part to)
way_part part key (Closed to) = marked_part (codes "closed") key (frame_text to)
way_part part key (Missing to) = marked_part (codes "missing") key (frame_text to)
way_part part key (Outside page) = marked_part (codes "outside") key (page_text page)

ways_part : (b : BookView) (f : Frame) → Part (ways_pieces b.caller b.base b.part f) (class_said (codes "ways") newline ∷ ways_said b f)
unfolding ways_pieces
ways_part b f =
    let leads : Way → Destination = λ way. destination_of b.caller b.base f way in
    of_around (codes "p") ((codes "class", codes "ways") ∷ []) (each_way b.caller b.base b.part f) (ways_said b f) refl refl refl refl refl refl
    (each (λ (way : Way). way_pieces b.part (way_key way) (leads way)) (λ (way : Way). way_said b.part (way_key way) (leads way)) (λ (way : Way). way_part b.part (way_key way) (leads way)) ways)

group_part : (group : Option ℕ) → Part (group_pieces group) (group_said group)
unfolding group_pieces
group_part None = none
group_part (Some group) = of_element (codes "p") ((codes "class", codes "group") ∷ []) (codes "group " ++ decimal group) refl refl refl refl refl refl

place_part : (name : List ℕ) (line : Option WrittenFrame) → Part (place_pieces name line) (place_said name line)
unfolding place_pieces
place_part name None = none
place_part name (Some line) = of_element (codes "p") ((codes "class", codes "place") ∷ []) (place_chars name line) refl refl refl refl refl refl

beside_part : (source : SourceView) (f : Frame) → Part (beside_screen source f) (class_said (codes "price") (decimal f.price ++ codes "p") ∷ marks_said source f)
unfolding beside_screen
beside_part source f =
    let price = class_said (codes "price") (decimal f.price ++ codes "p") in
    both (price_pieces f.price ++ group_pieces f.group) (place_pieces source.name (value_of source.lines f.id)) (price ∷ group_said f.group) (place_said source.name (value_of source.lines f.id))
    (both (price_pieces f.price) (group_pieces f.group) (price ∷ []) (group_said f.group) (price_part f.price) (group_part f.group)) (place_part source.name (value_of source.lines f.id))

over_part : (lead : Lead) → Part (over lead) (over_said lead)
unfolding over
over_part Clear = none
over_part Keep = of_element (codes "p") ((codes "class", codes "over") ∷ []) (codes "Painted over what is on the screen.") refl refl refl refl refl refl

item_part : (fault : Fault) → Part (item fault) (fault_said fault)
item_part fault = of_element (codes "li") [] (words_as fault.kind fault) refl refl refl refl refl refl

faults_part : (faults : List Fault) → Part (fault_list faults) (faults_said faults)
unfolding listed
faults_part [] = none
faults_part (f ∷ faults) =
    of_around (codes "ul") ((codes "class", codes "faults") ∷ []) (items (f ∷ faults)) (flat_map fault_said (f ∷ faults)) refl refl refl refl refl refl (each item fault_said item_part (f ∷ faults))

sentence_part : (s : SentenceView) → Part (sentence_item s) (sentence_said s)
sentence_part s = of_element (codes "li") [] (sentence_chars s) refl refl refl refl refl refl

sentences_part : (ss : List SentenceView) → Part (sentence_list ss) (sentences_said ss)
sentences_part [] = none
sentences_part (s ∷ ss) =
    of_around (codes "ul") ((codes "class", codes "said") ∷ []) (flat_map sentence_item (s ∷ ss)) (flat_map sentence_said (s ∷ ss)) refl refl refl refl refl refl (each sentence_item sentence_said sentence_part (s ∷ ss))

findings_part : (b : BookView) (f : Frame) → Part (finding_pieces (sentences_about b.faults b.sentences f.id) (faults_about b.faults f.id)) (findings_said b f)
unfolding finding_pieces
findings_part b f =
    let ss = sentences_about b.faults b.sentences f.id in
    let fs = faults_about b.faults f.id in
    both (sentence_list ss) (fault_list fs) (sentences_said ss) (faults_said fs) (sentences_part ss) (faults_part fs)

-- all between the tags of a section
pub inner_part : (b : BookView) (f : Frame)
    → Part (heading f.id ++ screen_pieces f.id (screen_of b.caller b.base b.found f.id) (touched_cell f (faults_about b.faults f.id)) ++ below_screen b f (sentences_about b.faults b.sentences f.id) (faults_about b.faults f.id)) (frame_said b f)
unfolding below_screen
inner_part b f =
    let faults = faults_about b.faults f.id in
    let rows = screen_of b.caller b.base b.found f.id in
    let shown = screen_pieces f.id rows (touched_cell f faults) in
    let onward = ways_pieces b.caller b.base b.part f in
    let h2 = said_as (codes "h2") [] (frame_text f.id) in
    let texts = text_said rows ∷ revealed_said rows in
    let findings = finding_pieces (sentences_about b.faults b.sentences f.id) faults in
    let marked = class_said (codes "price") (decimal f.price ++ codes "p") ∷ marks_said b.source f in
    let led = class_said (codes "ways") newline ∷ ways_said b f in
    let seen : (h2 ∷ texts) ++ (((marked ++ led) ++ over_said f.lead) ++ findings_said b f) ≡ frame_said b f = simp append_assoc in
    subst (Part _) seen
    (both (heading f.id ++ shown) (below_screen b f (sentences_about b.faults b.sentences f.id) faults) (h2 ∷ texts) (((marked ++ led) ++ over_said f.lead) ++ findings_said b f)
    (both (heading f.id) shown (h2 ∷ []) texts (heading_part f.id) (screen_part f.id rows (touched_cell f faults)))
    (both (beside_screen b.source f ++ onward ++ over f.lead) findings ((marked ++ led) ++ over_said f.lead) (findings_said b f)
    (both (beside_screen b.source f ++ onward) (over f.lead) (marked ++ led) (over_said f.lead) (both (beside_screen b.source f) onward marked led (beside_part b.source f) (ways_part b f)) (over_part f.lead))
    (findings_part b f)))

-- The header.

paragraph_part : (words : List ℕ) → Part (paragraph words) (said_as (codes "p") [] words ∷ [])
unfolding paragraph
paragraph_part words = of_element (codes "p") [] words refl refl refl refl refl refl

abbrev outcome_said : Outcome → List Element
outcome_said (Certified cert) = class_said (codes "verdict certified") (codes "CERTIFIED") ∷ said_as (codes "p") [] (certified_words cert) ∷ []
outcome_said (Faulty faults) = class_said (codes "verdict faulty") (fault_count (length faults) (codes "fault")) ∷ []

outcome_part : (outcome : Outcome) → Part (outcome_pieces outcome) (outcome_said outcome)
unfolding certified faulty_pieces
outcome_part (Certified cert) =
    both certified (paragraph (certified_words cert)) (class_said (codes "verdict certified") (codes "CERTIFIED") ∷ []) (said_as (codes "p") [] (certified_words cert) ∷ [])
    (of_element (codes "p") ((codes "class", codes "verdict certified") ∷ []) (codes "CERTIFIED") refl refl refl refl refl refl) (paragraph_part (certified_words cert))
outcome_part (Faulty faults) = of_element (codes "p") ((codes "class", codes "verdict faulty") ∷ []) (fault_count (length faults) (codes "fault")) refl refl refl refl refl refl

pub header_part : (name : List ℕ) (base : BaseView) (policy : Policy) (outcome : Outcome)
    → Part (header_pieces name base policy outcome) (outcome_said outcome ++ (said_as (codes "p") [] (policy_words policy) ∷ []) ++ faults_said (entry_faults (outcome_faults outcome)))
unfolding header_pieces name_line
header_part name base policy outcome =
    let faults = entry_faults (outcome_faults outcome) in
    let attributes = (codes "data-entry", frame_text (entry_of base)) ∷ [] in
    let words = paragraph (policy_words policy) in
    let line = said_as (codes "p") [] (policy_words policy) ∷ [] in
    let named = both (name_line name) (outcome_pieces outcome) [] (outcome_said outcome) (of_element (codes "h1") [] (chars name) refl refl refl refl refl refl) (outcome_part outcome) in
    let whole = both (name_line name ++ outcome_pieces outcome) words (outcome_said outcome) line named (paragraph_part (policy_words policy)) in
    both (around (codes "header") attributes (name_line name ++ outcome_pieces outcome ++ words)) (fault_list faults) (outcome_said outcome ++ line) (faults_said faults)
    (of_around (codes "header") attributes (name_line name ++ outcome_pieces outcome ++ words) (outcome_said outcome ++ line) refl refl refl refl refl refl whole) (faults_part faults)
