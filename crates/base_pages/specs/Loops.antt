-- Facts that hold between the turns of loops, and what functions that aren't exported say. No promise rests on them.
use Rattle.std.specs.Prelude.{◌≡◌, ◌+◌, ℕ, List, [], ◌∷◌, ◌++◌, Option, Some, None, codes, length, ◌==◌, if◌then◌else◌, slice_get}
use Rattle.std.specs.Option.{option_map_or}
use Rattle.std.specs.List.{flat_map}
use Rattle.indexmap.specs.IndexMap.{get}
use Rattle.page_ids.specs.Ids.{Id, id_eq}
use Rattle.frame_records.specs.Bases.{BaseView}
use Rattle.finder.specs.Finds.{IsFinding}
use Rattle.checker.specs.declared.policy.Policy.{Policy}
use Rattle.base_faults.specs.declared.fault.Fault.{Fault}
use Rattle.fault_scripts.specs.Outcomes.{IsOutcome}
use Rattle.abstract_paint.specs.declared.start.Start.{Start}
use Rattle.base_pages.specs.declared.index.FaultIndex.{FaultIndex}
use Rattle.base_pages.specs.declared.index.Numbered.{Numbered}
use Rattle.base_pages.specs.declared.book.Book.{Book}
use Rattle.base_pages.specs.declared.pages.Prepared.{Prepared}
use Rattle.base_pages.specs.declared.pages.FrontMatter.{FrontMatter}
use Rattle.screens.specs.Svg.{Piece, markup}
use Rattle.base_pages.specs.Elements.{opening_pieces, ending}
use Rattle.lint.specs.FrameLines.{SentenceView, AreSentences}
use Rattle.base_pages.specs.Faults.{is_entry_kind, item, start_or}
use Rattle.base_pages.specs.Head.{outcome_faults}
use Rattle.base_pages.specs.Sections.{BookView, SourceView, source_view, sentence_item}
use Rattle.base_pages.specs.Pages.{page, StoppedWithin}
use Rattle.devices.specs.Devices.{Seen, WrotePart}
use Rattle.base_pages.specs.declared.fault.PagesFault.{PagesFault}
use Rattle.base_pages.specs.declared.fault.PagesFault.TheVariants.{Write, Memory}

-- The numbers of faults, by frames.

-- the number, if it is of a fault of the frame
abbrev pub number_by : Numbered → Id → List ℕ
number_by n id = if id_eq n.frame id then n.number ∷ [] else []

-- the numbers of a frame's faults
abbrev pub numbers_of : List Numbered → Id → List ℕ
numbers_of ns id = flat_map (λ n. number_by n id) ns

-- the numbers that are kept of a frame
abbrev pub kept_of : FaultIndex → Id → List ℕ
kept_of index id = option_map_or (λ numbers. numbers.items) (get id_eq index.map id) []

-- a fault and its number, if it is a frame's own
abbrev pub numbered_one : ℕ → Fault → List Numbered
numbered_one n fault = if is_entry_kind fault.kind then [] else record { frame = fault.frame; number = n } ∷ []

-- those of faults, numbered from one on
abbrev pub numbered_faults : ℕ → List Fault → List Numbered
numbered_faults n [] = []
numbered_faults n (fault ∷ faults) = numbered_one n fault ++ numbered_faults (n + 1) faults

-- something as items, if it is there
abbrev pub lines_as : {A : Type 0} → (A → List Piece) → Option A → List ℕ
lines_as f None = []
lines_as f (Some x) = markup (f x)

-- the lines of the faults of numbers
abbrev pub numbered_item : List Fault → ℕ → List ℕ
numbered_item faults n = lines_as item (slice_get faults n)

abbrev pub numbered_items : List Fault → List ℕ → List ℕ
numbered_items faults numbers = flat_map (numbered_item faults) numbers

abbrev pub entry_item : Fault → List ℕ
entry_item fault = if is_entry_kind fault.kind then markup (item fault) else []

abbrev pub entry_items : List Fault → List ℕ
entry_items faults = flat_map entry_item faults

-- the sentences of numbers
abbrev pub numbered_sentence : List SentenceView → ℕ → List ℕ
numbered_sentence sentences n = lines_as sentence_item (slice_get sentences n)

abbrev pub numbered_sentences : List SentenceView → List ℕ → List ℕ
numbered_sentences sentences numbers = flat_map (numbered_sentence sentences) numbers

-- items in a list of a class, if there are any
abbrev pub wrapped_in : List ℕ → List ℕ → List ℕ
wrapped_in class bs =
    if length bs == 0 then []
    else markup (opening_pieces (codes "ul") ((codes "class", class) ∷ [])) ++ bs ++ markup (ending (codes "ul"))

-- and the first start that they name
abbrev pub earliest_start : Option Fault → Option Start
earliest_start None = None
earliest_start (Some fault) = fault.start

abbrev pub numbered_start : List Fault → ℕ → Option Start
numbered_start faults n = earliest_start (slice_get faults n)

abbrev pub first_numbered_start : List Fault → List ℕ → Option Start
first_numbered_start faults [] = None
first_numbered_start faults (n ∷ ns) = start_or (numbered_start faults n) (first_numbered_start faults ns)

-- What screens conceal.

-- a code that conceals nothing: 80 has no effect
abbrev pub revealed_code : ℕ → ℕ
revealed_code c = if c == 0x98 then 0x80 else c

-- What is prepared for the sections.

-- what contracts see of a book
abbrev pub book_view : Book → BookView
book_view b = record {
  source = source_view b.source.now;
  base = b.base.now;
  caller = b.groups.now;
  found = b.gallery.now.found;
  faults = b.faults.now;
  sentences = b.sentences.now;
  part = b.part.now;
}

pub record IsReady (b : Book) : Type 0 where
  pub of_base : b.gallery.now.base ≡ b.base.now
  pub of_groups : b.gallery.now.groups ≡ b.groups.now
  pub index : (id : Id) → kept_of b.index.now id ≡ numbers_of (numbered_faults 0 b.faults.now) id

-- What is prepared for a file.

pub record IsFilePrepared (source : SourceView) (base : BaseView) (policy : Policy) (p : Prepared) : Type 0 where
  pub of_base : p.gallery.base ≡ base
  pub of_groups : p.gallery.groups ≡ policy.groups
  pub finding : IsFinding policy.groups base p.gallery.found
  pub audited : IsOutcome base policy p.outcome
  pub said : AreSentences source.lines base policy p.gallery.found (outcome_faults p.outcome) p.sentences.items
  pub index : (id : Id) → kept_of p.index id ≡ numbers_of (numbered_faults 0 (outcome_faults p.outcome)) id

-- the file of a book and its cover
abbrev pub book_file : FrontMatter → Book → List ℕ
book_file cover b = page cover.policy.now cover.outcome.now (book_view b)

-- Why a text isn't written whole.

-- the sink failed, or memory was refused after a front of the text
abbrev pub IsStopped : Seen → Seen → List ℕ → PagesFault → Type 0
IsStopped old new text (Write wrote) = WrotePart old new text wrote
IsStopped old new text Memory = StoppedWithin old new text
