-- The file of a base, and what was written of it.
use Rattle.std.specs.Prelude.{◌≡◌, ℕ, List, [], ◌++◌, ◌⊎◌, Option, Some, None, Result, Ok, Err, map}
use Rattle.page_ids.specs.Ids.{Id}
use Rattle.frame_records.specs.Bases.{BaseView}
use Rattle.finder.specs.declared.found.Discovered.{Discovered}
use Rattle.finder.specs.Finds.{IsFinding}
use Rattle.checker.specs.declared.policy.Policy.{Policy}
use Rattle.fault_scripts.specs.declared.outcome.Outcome.{Outcome}
use Rattle.fault_scripts.specs.Outcomes.{IsOutcome}
use Rattle.devices.specs.Devices.{Seen, TookAll, WrotePart, WroteWhole}
use Rattle.finder.specs.declared.view.View.{View}
use Rattle.finder.specs.Parts.{IsViewPart}
use Rattle.base_pages.specs.declared.pages.PagesStatus.{PagesStatus}
use Rattle.base_pages.specs.declared.pages.PagesStatus.TheVariants.{Written, NoPage}
use Rattle.base_pages.specs.declared.fault.PagesFault.{PagesFault}
use Rattle.base_pages.specs.declared.fault.PagesFault.TheVariants.{Write, Memory}
use Rattle.screens.specs.Laws.{tags_of}
use Rattle.lint.specs.FrameLines.{SentenceView, AreSentences}
use Rattle.base_pages.specs.Sections.{BookView, SourceView, sections, shown_frames}
use Rattle.base_pages.specs.Head.{header, outcome_faults}
use Rattle.base_pages.specs.Shell.{head, middle, foot}
use Rattle.base_pages.specs.Tags.{page_tags}
use Rattle.base_pages.specs.Reading.{sections_in}
use Rattle.base_pages.specs.Said.{section_said}
use Rattle.base_pages.specs.Links.{AllLinksAreWays, NoneFails}

-- the fixed head with the style, the header, and the fixed views and keypad
abbrev pub front : List ℕ → BaseView → Policy → Outcome → List ℕ
front name base policy outcome = head ++ header name base policy outcome ++ middle

-- the sections come after it, and then the fixed foot with the script
abbrev pub page : Policy → Outcome → BookView → List ℕ
page policy outcome b = front b.source.name b.base policy outcome ++ sections b b.base.frames ++ foot

-- what the sections of a base are written of
abbrev pub book : SourceView → BaseView → Policy → Option (List Id) → List Discovered → Outcome → List SentenceView → BookView
book source base policy part found outcome sentences = record {
  source = source;
  base = base;
  caller = policy.groups;
  found = found;
  faults = outcome_faults outcome;
  sentences = sentences;
  part = part;
}

-- the file of the part of a base, for the policy's caller, by the frames that this caller reaches, the outcome of the audit, and what
-- lint says of each of its faults
pub record IsPage (source : SourceView) (base : BaseView) (policy : Policy) (part : Option (List Id)) (text : List ℕ) : Type 0 where
  pub found : List Discovered
  pub finding : IsFinding policy.groups base found
  pub outcome : Outcome
  pub audited : IsOutcome base policy outcome
  pub sentences : List SentenceView
  pub said : AreSentences source.lines base policy found (outcome_faults outcome) sentences
  pub is : text ≡ page policy outcome (book source base policy part found outcome sentences)

-- read as markup, it has the tags of its form and no others, with the form's characters between them
abbrev pub HasItsTags : (source : SourceView) (base : BaseView) (policy : Policy) (part : Option (List Id)) (text : List ℕ)
    → IsPage source base policy part text → Type 0
HasItsTags source base policy part text is =
    tags_of text ≡ page_tags policy is.outcome (book source base policy part is.found is.outcome is.sentences)

-- its sections are the frames that are shown, and say of them what `show`, lint and the audit say, and where they are written
abbrev pub SaysWhatIsShown : (source : SourceView) (base : BaseView) (policy : Policy) (part : Option (List Id)) (text : List ℕ)
    → IsPage source base policy part text → Type 0
SaysWhatIsShown source base policy part text is =
    let b = book source base policy part is.found is.outcome is.sentences in
    sections_in text ≡ map (section_said b) (shown_frames b base.frames)

-- its links are the ways that lead to frames of the file
abbrev pub LinksTheWays : (source : SourceView) (base : BaseView) (policy : Policy) (part : Option (List Id)) (text : List ℕ)
    → IsPage source base policy part text → Type 0
LinksTheWays source base policy part text is = AllLinksAreWays (book source base policy part is.found is.outcome is.sentences)

-- the file was written whole; if the base is certified, no way of a section that callers reach fails
pub record IsFileWritten (old new : Seen) (source : SourceView) (base : BaseView) (policy : Policy) (part : Option (List Id)) : Type 0 where
  pub text : List ℕ
  pub is : IsPage source base policy part text
  pub tags : HasItsTags source base policy part text is
  pub says : SaysWhatIsShown source base policy part text is
  pub links : LinksTheWays source base policy part text is
  pub lead : NoneFails is.outcome (sections_in text)
  pub written : WroteWhole old new text

-- a sink took the front of a text, wasn't flushed and has not failed
pub record StoppedWithin (old new : Seen) (text : List ℕ) : Type 0 where
  pub front : List ℕ
  pub rest : List ℕ
  pub is : text ≡ front ++ rest
  pub took : TookAll old new front

-- A run that writes the file.

-- memory was refused before the first byte was written, or after a front of the file; or the sink failed
abbrev pub IsPagesFault : Seen → Seen → (List ℕ → Type 0) → PagesFault → Type 0
IsPagesFault old new Is (Write wrote) = (text : List ℕ) × Is text × WrotePart old new text wrote
IsPagesFault old new Is Memory = TookAll old new [] ⊎ ((text : List ℕ) × Is text × StoppedWithin old new text)

-- the file of a part was written
abbrev pub IsPartWritten : Seen → Seen → SourceView → BaseView → Policy → Option (List Id) → Result PagesStatus PagesFault → Type 0
IsPartWritten old new source base policy part (Ok Written) = IsFileWritten old new source base policy part
IsPartWritten old new source base policy part (Ok NoPage) = ⊥
IsPartWritten old new source base policy part (Err fault) = IsPagesFault old new (IsPage source base policy part) fault

pub record IsViewWritten (old new : Seen) (source : SourceView) (base : BaseView) (policy : Policy) (view : View) (result : Result PagesStatus PagesFault) : Type 0 where
  pub part : Option (List Id)
  pub is : IsViewPart policy.groups base view (Some part)
  pub written : IsPartWritten old new source base policy part result

-- that of a view's part, if there is one
abbrev pub IsPagesRun : Seen → Seen → SourceView → BaseView → Policy → View → Result PagesStatus PagesFault → Type 0
IsPagesRun old new source base policy view (Ok NoPage) = IsViewPart policy.groups base view None × TookAll old new []
IsPagesRun old new source base policy view (Err Memory) = TookAll old new [] ⊎ IsViewWritten old new source base policy view (Err Memory)
IsPagesRun old new source base policy view result = IsViewWritten old new source base policy view result
