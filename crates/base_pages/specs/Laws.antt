-- What the file means.
use Rattle.std.specs.Prelude.{◌≡◌, List, Option, map}
use Rattle.page_ids.specs.Ids.{Id}
use Rattle.frame_records.specs.Bases.{BaseView, IsBase}
use Rattle.finder.specs.declared.found.Discovered.{Discovered}
use Rattle.finder.specs.Finds.{IsFinding}
use Rattle.checker.specs.declared.policy.Policy.{Policy}
use Rattle.fault_scripts.specs.declared.outcome.Outcome.{Outcome}
use Rattle.fault_scripts.specs.Outcomes.{IsOutcome}
use Rattle.screens.specs.Laws.{tags_of}
use Rattle.lint.specs.FrameLines.{SentenceView}
use Rattle.base_pages.specs.Sections.{BookView, SourceView, shown_frames}
use Rattle.base_pages.specs.Tags.{page_tags, HaveIds}
use Rattle.base_pages.specs.Reading.{sections_in}
use Rattle.base_pages.specs.Said.{section_said}
use Rattle.base_pages.specs.Links.{AllLinksAreWays, NoneFails}
use Rattle.base_pages.specs.Pages.{page, book}

-- The file of every base has the tags of its form and no others, whatever its name, the base's texts and its faults hold: they add
-- no tag and no attribute. Between them are the form's characters.
abbrev pub FileHasItsTags : Type 0
FileHasItsTags =
    (policy : Policy) (outcome : Outcome) (b : BookView) → tags_of (page policy outcome b) ≡ page_tags policy outcome b

-- Its sections are the frames that are shown, in order, and each says what `show`, lint and the audit say of its frame, its group, and
-- the line of the base's file that writes it.
abbrev pub FileSaysWhatIsShown : Type 0
FileSaysWhatIsShown =
    (policy : Policy) (outcome : Outcome) (b : BookView)
    → sections_in (page policy outcome b) ≡ map (section_said b) (shown_frames b b.base.frames)

-- The links in them are the ways that lead to frames of the file. The premise is what every base keeps.
abbrev pub LinksLead : Type 0
LinksLead = (b : BookView) → HaveIds b.part b.base.frames → AllLinksAreWays b

-- If the base is certified, no way of a section that callers reach is missing or closed. Its premise too.
abbrev pub CertifiedWaysLead : Type 0
CertifiedWaysLead =
    (source : SourceView) (base : BaseView) (policy : Policy) (part : Option (List Id)) (found : List Discovered) (outcome : Outcome)
    (sentences : List SentenceView)
    → IsBase base → IsFinding policy.groups base found → IsOutcome base policy outcome
    → NoneFails outcome (sections_in (page policy outcome (book source base policy part found outcome sentences)))
