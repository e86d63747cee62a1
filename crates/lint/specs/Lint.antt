-- Every finding of a text.
use Rattle.std.specs.Prelude.{◌≡◌, ◌≤◌, ℕ, ◌==◌, Bool, true, false, not, ◌&&◌, List, [], ◌∷◌, ◌++◌, map, flat_map, if◌then◌else◌, Option, Some, None, unwrap_or, is_some, is_none, option_and_then, nat_lt, length, filter}
use Rattle.std.specs.Bool.{then_some}
use Rattle.page_ids.specs.Ids.{Id}
use Rattle.frame_records.specs.declared.frame.Frame.{Frame}
use Rattle.frame_records.specs.Bases.{BaseView, frame_at}
use Rattle.frame_records.specs.Seek.{is_open}
use Rattle.checker.specs.declared.policy.Policy.{Policy}
use Rattle.finder.specs.declared.found.Discovered.{Discovered}
use Rattle.finder.specs.Finds.{FindsReached, RanksAreLeast}
use Rattle.base_faults.specs.declared.fault.Fault.{Fault}
use Rattle.fault_scripts.specs.Faults.{AreFaults}
use Rattle.toml_places.specs.declared.spans.Span.{Span}
use Rattle.toml_places.specs.Places.{Mark, marks}
use Rattle.lint_words.specs.declared.fault_words.Judged.{Judged}
use Rattle.lint_words.specs.FaultWords.{audit_fault_words, unreached_words, none_reached_words}
use Rattle.lint_words.specs.WarningWords.{hidden_words, line_end_words, escape_words, shown_escape_words, menu_words, unsought_words}
use Rattle.lint_words.specs.WordsOf.{WordsView}
use Rattle.lint.specs.Findings.{FindingView, error_at, warning_at, AreInOrder}
use Rattle.lint.specs.Lookups.{value_of}
use Rattle.lint.specs.Tables.{TableView, empty_at, table_at, id_span, id_place}
use Rattle.lint.specs.declared.looks.Look.{Look}
use Rattle.lint.specs.declared.looks.Look.TheVariants.{Hidden, Escape, EndsLine, Shown, Offers, Unsought}
use Rattle.lint.specs.AllLooks.{all_looks}
use Rattle.lint.specs.Outside.{page_at, outside_element}
use Rattle.lint.specs.Spots.{has_rows, row_span, entry_span, line_end_at, single_at, sight_span, shown_field, named_span, detail_span, whole_table, whole_span, kind_table, audit_span}
use Rattle.base_text.specs.declared.detail.TextFault.{TextFault}
use Rattle.base_text.specs.declared.listed.Listed.{Listed}
use Rattle.base_text.specs.declared.whole_fault.WholeFault.{WholeFault}
use Rattle.base_text.specs.declared.whole_fault.WholeFault.TheVariants.{Duplicate}
use Rattle.toml_places.specs.Skips.{place_at}
use Rattle.lint_words.specs.TextWords.{text_fault_words, too_long_words, not_toml_words}
use Rattle.lint_words.specs.WholeWords.{whole_fault_words}
use Rattle.toml.specs.Data.{Members}
use Rattle.base_text.specs.declared.limits.TheConstants.{MOST_TEXT}
use Rattle.base_text.specs.Whole.{tree_of, IsTextBase}
use Rattle.base_text.specs.Drafts.{DraftView, draft_of}
use Rattle.base_text.specs.WholeFaults.{AreWholeFaults}

-- The findings of an audit: its faults, and the frames that no key reaches.

-- the fewest keys from each frame that is reached back to the entry frame
abbrev pub ranks_of : List Discovered → List (Id × Option ℕ)
ranks_of found = map (λ d. (d.id, d.rank)) found

-- open to a caller of the groups, and not reached
abbrev pub is_unreached : List ℕ → List (Id × Option ℕ) → Frame → Bool
is_unreached groups ranks f = is_open groups f && is_none (value_of ranks f.id)

abbrev pub unreached : List ℕ → List (Id × Option ℕ) → List Frame → List Frame
unreached groups ranks frames = filter (is_unreached groups ranks) frames

-- not even the entry frame is found
abbrev pub finds_none : List Discovered → Bool
finds_none [] = true
finds_none (d ∷ ds) = false

abbrev pub frame_ids : List Frame → List Id
frame_ids frames = map (λ f. f.id) frames

abbrev pub table_of : List (Id × ℕ) → Id → ℕ
table_of tables id = unwrap_or (value_of tables id) 0

abbrev pub rank_of : List (Id × Option ℕ) → Id → Option ℕ
rank_of ranks id = option_and_then (λ r. r) (value_of ranks id)

-- the group of the frame that a fault finds closed
abbrev pub group_closed_to : BaseView → Fault → Option ℕ
group_closed_to base fault = option_and_then (λ f. f.group) (frame_at base (unwrap_or fault.sought fault.frame))

abbrev pub judged : TableView → BaseView → Policy → List (Id × Option ℕ) → Fault → Judged
judged table base policy ranks fault = record {
  ceiling = policy.ceiling;
  keyings = policy.keyings;
  has_rows = has_rows table;
  rank = rank_of ranks fault.frame;
  group = group_closed_to base fault;
}

-- the table that a fault is about
abbrev pub fault_table : List ℕ → List Mark → List (Id × ℕ) → Fault → TableView
fault_table text ms tables fault = table_at text ms (kind_table (table_of tables fault.frame) fault.kind)

abbrev pub fault_finding : List ℕ → List Mark → List (Id × ℕ) → BaseView → Policy → List (Id × Option ℕ) → Fault → FindingView
fault_finding text ms tables base policy ranks fault =
    let table = fault_table text ms tables fault in
    error_at (audit_span table fault) (audit_fault_words (judged table base policy ranks fault) fault)

abbrev pub warning : List ℕ → List Mark → List (Id × ℕ) → Id → FindingView
warning text ms tables id = warning_at (id_span text ms (table_of tables id)) (unreached_words id)

-- if the entry frame isn't found, one warning has the number of all these frames
abbrev pub none_reached : List ℕ → List Mark → ℕ → List FindingView
none_reached text ms n = if n == 0 then [] else warning_at (entry_span (table_at text ms None)) (none_reached_words n) ∷ []

abbrev pub unreached_findings : List ℕ → List Mark → List (Id × ℕ) → Bool → List Id → List FindingView
unreached_findings text ms tables none ids = if none then none_reached text ms (length ids) else map (warning text ms tables) ids

-- a warning if the text has the span that it is about
abbrev pub warning_if : Option Span → WordsView → List FindingView
warning_if None words = []
warning_if (Some span) words = warning_at span words ∷ []

-- where the text writes what may be wrong with the frame of this table, if it does
abbrev pub look_at : TableView → Look → Option Span
look_at table (Hidden row) = then_some (has_rows table) (row_span table row)
look_at table (Escape row) = single_at table row
look_at table (EndsLine end index) = line_end_at table end index
look_at table (Shown row at escaped) = then_some (not (escaped && is_some (single_at table row))) (sight_span table row at)
look_at table (Offers row at digit) = Some (sight_span table row at)
look_at table (Unsought group) = Some (named_span table)

abbrev pub look_words : TableView → Id → Look → WordsView
look_words table id (Hidden row) = hidden_words id row
look_words table id (Escape row) = escape_words id row
look_words table id (EndsLine end index) = line_end_words id end
look_words table id (Shown row at escaped) = shown_escape_words id row (shown_field table)
look_words table id (Offers row at digit) = menu_words id row digit
look_words table id (Unsought group) = unsought_words id group

-- the warning of it
abbrev pub look_in : TableView → Id → Look → List FindingView
look_in table id look = warning_if (look_at table look) (look_words table id look)

abbrev pub look_finding : List ℕ → List Mark → List (Id × ℕ) → Id × Look → List FindingView
look_finding text ms tables p = look_in (table_at text ms (Some (table_of tables p.0))) p.0 p.1

abbrev pub look_findings : List ℕ → List Mark → List (Id × ℕ) → List (Id × Look) → List FindingView
look_findings text ms tables looks = flat_map (look_finding text ms tables) looks

-- each fault of a base, then each frame that no key reaches or their number, and then what may be wrong with what frames show, and closed frames
pub record AreAuditFindings (text : List ℕ) (ms : List Mark) (tables : List (Id × ℕ)) (base : BaseView) (policy : Policy) (findings : List FindingView) : Type 0 where
  pub faults : List Fault
  pub found : List Discovered
  pub are_faults : AreFaults base policy faults
  pub reached : FindsReached policy.groups base found
  pub least : RanksAreLeast policy.groups base found
  pub all : findings ≡ map (fault_finding text ms tables base policy (ranks_of found)) faults
      ++ unreached_findings text ms tables (finds_none found) (frame_ids (unreached policy.groups (ranks_of found) base.frames))
      ++ look_findings text ms tables (all_looks policy.groups base.frames)

-- The findings of the faults of a base's text.

abbrev pub text_finding : List ℕ → List Mark → TextFault → FindingView
text_finding text ms fault = error_at (detail_span (table_at text ms fault.frame) fault.detail) (text_fault_words fault)

-- the line of the first frame with the id, if the fault is a further frame with it
abbrev pub first_table_line : List ℕ → List Mark → WholeFault → ℕ
first_table_line text ms (Duplicate table first id) = (place_at text (id_place text ms first)).0
first_table_line text ms _ = 0

abbrev pub whole_finding : List ℕ → List Mark → WholeFault → FindingView
whole_finding text ms fault =
    let element = outside_element (page_at (table_at text ms None)) fault in
    error_at (whole_span (table_at text ms (whole_table fault)) element fault) (whole_fault_words fault (first_table_line text ms fault))

-- What a finding of a text is about, if it isn't one of the audit.

-- the text's length; toml's message and its span, which are taken as given; a fault of the text; one of its base as a whole
pub data Subject : Type 0 where
  Length : Subject
  Toml : (span : Span) (message : List ℕ) → Subject
  Text : (fault : TextFault) → Subject
  Whole : (fault : WholeFault) → Subject

abbrev pub finding_of : List ℕ → Subject → FindingView
finding_of text Length = error_at (empty_at 0) too_long_words
finding_of text (Toml span message) = error_at span (not_toml_words message)
finding_of text (Text fault) = text_finding text (marks text) fault
finding_of text (Whole fault) = whole_finding text (marks text) fault

-- the faults of a text and of its base as a whole, in the order of judging
abbrev pub faulty : List TextFault → List WholeFault → List Subject
faulty faults whole = map Text faults ++ map Whole whole

abbrev pub AreDraftSubjects : DraftView → List Subject → Type 0
AreDraftSubjects draft subjects =
    (whole : List WholeFault) × AreWholeFaults draft.outside draft.frames whole × (subjects ≡ faulty draft.faults whole)

-- the span begins and ends in the text
pub record IsSpanWithin (text : List ℕ) (span : Span) : Type 0 where
  pub ascends : span.begin ≤ span.end
  pub within : span.end ≤ length text

-- a text that isn't TOML has nothing else
abbrev pub AreTreeSubjects : List ℕ → Option Members → List Subject → Type 0
AreTreeSubjects text None subjects = (span : Span) × (message : List ℕ) × IsSpanWithin text span × (subjects ≡ Toml span message ∷ [])
AreTreeSubjects text (Some ms) subjects = AreDraftSubjects (draft_of ms) subjects

-- nor has one that is too long, which isn't read
abbrev pub AreSubjectsIf : Bool → List ℕ → List Subject → Type 0
AreSubjectsIf true text subjects = subjects ≡ Length ∷ []
AreSubjectsIf false text subjects = AreTreeSubjects text (tree_of text) subjects

-- all that is wrong with a text before its base is audited, in the order of judging
abbrev pub AreSubjects : List ℕ → List Subject → Type 0
AreSubjects text subjects = AreSubjectsIf (nat_lt MOST_TEXT (length text)) text subjects

-- What lint finds in a text.

-- the frames of a draft by their ids, each with the index of its table
abbrev pub tables_of : List Listed → List (Id × ℕ)
tables_of frames = map (λ p. (p.frame.id, p.table)) frames

abbrev pub tree_tables : Option Members → List (Id × ℕ)
tree_tables None = []
tree_tables (Some ms) = tables_of (draft_of ms).frames

abbrev pub text_tables : List ℕ → List (Id × ℕ)
text_tables text = tree_tables (tree_of text)

-- the findings of the audit of a base of the text
abbrev pub IsAudited : List ℕ → Policy → BaseView → List FindingView → Type 0
IsAudited text policy base findings = AreAuditFindings text (marks text) (text_tables text) base policy findings

-- if nothing is wrong with the text, its base is audited
abbrev pub IsJudgedBy : List Subject → List ℕ → Policy → List FindingView → Type 0
IsJudgedBy [] text policy findings = (base : BaseView) × IsTextBase text base × IsAudited text policy base findings
IsJudgedBy (s ∷ ss) text policy findings = findings ≡ map (finding_of text) (s ∷ ss)

abbrev pub IsJudged : List ℕ → Policy → List FindingView → Type 0
IsJudged text policy findings = (subjects : List Subject) × AreSubjects text subjects × IsJudgedBy subjects text policy findings

-- the findings in the order of where they begin
abbrev pub IsLint : List ℕ → Policy → List FindingView → Type 0
IsLint text policy findings = (judged : List FindingView) × IsJudged text policy judged × AreInOrder judged findings
