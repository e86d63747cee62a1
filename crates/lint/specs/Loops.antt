-- Facts that hold between the turns of loops, and what functions that aren't exported say. No promise rests on them.
use Rattle.std.specs.Prelude.{◌≡◌, List, Bool, true, false, [], ℕ, ◌∷◌, map, Option, Some, nat_lt, length, nat_eq, None, slice_get, codes}
use Rattle.frame_records.specs.Bases.{BaseView}
use Rattle.checker.specs.declared.policy.Policy.{Policy}
use Rattle.finder.specs.declared.found.Discovered.{Discovered}
use Rattle.finder.specs.Finds.{FindsReached, RanksAreLeast}
use Rattle.fault_scripts.specs.Faults.{AreFaults}
use Rattle.lint.specs.declared.audit_findings.Audit.{Audit}
use Rattle.lint.specs.Lookups.{KnowsValues}
use Rattle.lint.specs.AllLooks.{all_looks}
use Rattle.lint.specs.Lint.{Toml, ranks_of, unreached, finds_none, frame_ids, finding_of, IsSpanWithin}
use Rattle.indexmap.specs.IndexMap.{get}
use Rattle.page_ids.specs.Ids.{Id}
use Rattle.base_faults.specs.declared.fault.Fault.{Fault}
use Rattle.lint.specs.declared.looks.Look.{Look}
use Rattle.toml_places.specs.Places.{Mark, kept_route, kept_key, key_in, route_in, first_spot, routes_key, Keeps}
use Rattle.lint.specs.declared.audit_findings.Sources.{Sources}
use Rattle.lint.specs.Tables.{TableView, value_at, key_spot, dotted_spot, table_at, inline_marks, frame_element}
use Rattle.toml_places.specs.declared.spans.Span.{Span}
use Rattle.toml_places.specs.Spans.{pair_span}
use Rattle.toml_places.specs.Steps.{◌>>=◌}
use Rattle.lint.specs.Findings.{FindingView}
use Rattle.base_text.specs.declared.detail.TextFault.{TextFault}
use Rattle.base_text.specs.declared.listed.Listed.{Listed}
use Rattle.toml.specs.Data.{Members}
use Rattle.base_text.specs.declared.limits.TheConstants.{MOST_TEXT}
use Rattle.base_text.specs.Whole.{tree_of}
use Rattle.base_text.specs.Drafts.{DraftView, draft_of}
use Rattle.lint.specs.declared.outside.OutsidePages.{OutsidePages}
use Rattle.lint.specs.Outside.{page_at}
use Rattle.toml_places.specs.declared.spans.KeyPlace.{KeyPlace}
use Rattle.toml_places.specs.declared.places.Places.{Places}
use Rattle.std.specs.Option.{option_or}
use Rattle.lint.specs.declared.tables.TableKeys.{TableKeys}
use Rattle.lint.specs.declared.tables.TableSpots.{TableSpots}
use Rattle.toml_places.specs.declared.tables.TablePlaces.{TablePlaces}
use Rattle.lint.specs.declared.tables.TextTables.{TextTables}

-- What the code knows of a text's tables.

-- where the keys of a table are first written, and those of its `routes` that are dotted keys or headers
pub record KeysView : Type 0 where
  pub frame : Option ℕ
  pub key : List ℕ → Option KeyPlace
  pub dotted : List ℕ → Option KeyPlace

-- the keys of a table of the text
abbrev pub keys_of : List ℕ → List Mark → Option ℕ → KeysView
keys_of text ms frame = record { frame = frame; key = key_spot text ms frame; dotted = dotted_spot text ms frame }

-- the pair that writes what a frame with these keys shows
abbrev pub picture_seen : List ℕ → KeysView → Option Span
picture_seen text k = option_or (k.key (codes "rows")) (k.key (codes "body")) >>= (λ s. pair_span s text)

-- the value of the id of a frame with these keys
abbrev pub id_seen : List ℕ → KeysView → Option Span
id_seen text k = value_at text (k.key (codes "id"))

-- this is a table of the text
abbrev pub IsTable : List ℕ → List Mark → TableView → Type 0
IsTable text ms t = t ≡ table_at text ms t.frame

-- the key below `routes` that the places keep; the top has none
abbrev pub route_kept : Places → Option ℕ → List ℕ → Option KeyPlace
route_kept p None key = None
route_kept p (Some k) key = kept_route p k key

-- the keys of a table of the code: by the places of the text, or by those of an inline table
abbrev pub seen_keys : TableKeys → KeysView
seen_keys t = record {
  frame = t.frame;
  key = λ q. option_or (kept_key t.places.now t.frame q) (key_in t.inline q);
  dotted = λ q. option_or (route_kept t.places.now t.frame q) (route_in t.inline q);
}

-- a table of the code
abbrev pub table_seen : TableSpots → TableView
table_seen t = record {
  text = t.text.now;
  frame = t.keys.frame;
  whole = t.whole;
  key = (seen_keys t.keys).key;
  route = λ q. option_or ((seen_keys t.keys).dotted q) (key_in t.routes q);
  item = λ k. slice_get t.items.items k;
}

-- the places of the inline table of a span
pub record InlineKeeps (text : List ℕ) (s : Option Span) (t : Option TablePlaces) : Type 0 where
  pub keys : (q : List ℕ) → key_in t q ≡ first_spot (inline_marks text s) None (q ∷ [])
  pub routes : (q : List ℕ) → route_in t q ≡ first_spot (inline_marks text s) None (routes_key ∷ q ∷ [])

-- the text's marks, and the tables of its frames in an array
pub record KnowsTables (ms : List Mark) (t : TextTables) : Type 0 where
  pub keeps : Keeps t.places.now ms
  pub frames : (k : ℕ) → slice_get t.frames.items k ≡ frame_element t.text.now ms (Some k)

-- What the code knows of the elements of `outside`.

-- the element that is kept of a page
abbrev pub element_kept : OutsidePages → ℕ → Option Span
element_kept pages page = get nat_eq pages.spans page

-- it is the first that the text has
abbrev pub Lists : TableView → OutsidePages → Type 0
Lists t pages = (page : ℕ) → element_kept pages page ≡ page_at t page

-- What an audit has found, and what is known of the text beside it.

-- the faults of a base, and what is reached of it
pub record IsAudit (base : BaseView) (policy : Policy) (audit : Audit) : Type 0 where
  pub found : List Discovered
  pub faults : AreFaults base policy audit.faults
  pub reached : FindsReached policy.groups base found
  pub least : RanksAreLeast policy.groups base found
  pub known : KnowsValues (ranks_of found) audit.ranks
  pub finds_none : audit.finds_none ≡ finds_none found
  pub unreached : audit.unreached.items ≡ frame_ids (unreached policy.groups (ranks_of found) base.frames)
  pub looks : audit.looks.items ≡ all_looks policy.groups base.frames

-- nothing was found
abbrev pub is_clear : List Fault → List Id → List (Id × Look) → Bool
is_clear [] [] [] = true
is_clear faults ids looks = false

-- what the sources know
pub record AreKnown (ms : List Mark) (tables : List (Id × ℕ)) (sources : Sources) : Type 0 where
  pub places : KnowsTables ms sources.text.now
  pub knows : KnowsValues tables sources.tables

-- What the steps of lint say.

-- the one finding of a text that isn't TOML
abbrev pub IsNotToml : List ℕ → List FindingView → Type 0
IsNotToml text findings =
    (span : Span) × (message : List ℕ) × IsSpanWithin text span × (findings ≡ map (finding_of text) (Toml span message ∷ []))

-- the draft of the TOML of a text that isn't too long
abbrev pub IsDraftOf : List ℕ → DraftView → Type 0
IsDraftOf text draft = (ms : Members) × (nat_lt MOST_TEXT (length text) ≡ false) × (tree_of text ≡ Some ms) × (draft ≡ draft_of ms)

-- a draft without a fault
abbrev pub sound_draft : ℕ → List ℕ → List Listed → DraftView
sound_draft entry outside frames = record { entry = Some entry; outside = outside; frames = frames; faults = [] }

-- what the draft of a text lists, if it has a fault or no entry page
abbrev pub IsFaultyDraft : List ℕ → List ℕ → List Listed → List TextFault → Type 0
IsFaultyDraft text outside frames faults =
    (entry : Option ℕ) × IsDraftOf text (record { entry = entry; outside = outside; frames = frames; faults = faults })
    × (faults ≡ [] → (e : ℕ) → entry ≡ Some e → ⊥)
