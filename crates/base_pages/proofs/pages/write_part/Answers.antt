use Rattle.std.proofs.Common.{◌≡◌, ◌∙◌, ℕ, List, Option, ap, sym, subst}
use Rattle.page_ids.specs.Ids.{Id}
use Rattle.frame_records.specs.Bases.{BaseView}
use Rattle.checker.specs.declared.policy.Policy.{Policy}
use Rattle.base_faults.specs.declared.fault.Fault.{Fault}
use Rattle.lint.specs.FrameLines.{SentenceView}
use Rattle.base_pages.specs.declared.pages.Prepared.{Prepared}
use Rattle.base_pages.specs.Sections.{BookView, SourceView, source_view}
use Rattle.base_pages.specs.Head.{outcome_faults}
use Rattle.screens.specs.Laws.{tags_of}
use Rattle.base_pages.specs.Reading.{sections_in}
use Rattle.base_pages.specs.Pages.{page, book, IsPage}
use Rattle.base_pages.specs.Links.{NoneFails}
use Rattle.base_pages.proofs.Certified.{certified_ways_lead}
use Rattle.base_pages.proofs.Links.{links_lead}
use Rattle.base_pages.proofs.Files.{has_its_tags, says_what_is_shown}
use Rattle.base_pages.specs.Loops.{IsFilePrepared, numbers_of, numbered_faults}
use Rattle.base_pages.proofs.OnTheWay.{fault_of}
use Rattle.base_pages.proofs.pages.write_part.Goals as goal

-- the file that is written of what was prepared
module _ (source : SourceView) (base : BaseView) (policy : Policy) (part : Option (List Id)) (p : Prepared) (made : IsFilePrepared source base policy p) where
  abbrev book_of : List Fault → List SentenceView → BookView
  book_of faults sentences = record {
    source = source;
    base = base;
    caller = policy.groups;
    found = p.gallery.found;
    faults = faults;
    sentences = sentences;
    part = part;
  }

  abbrev written_of : List Fault → List SentenceView → List ℕ
  written_of faults sentences = page policy p.outcome (book_of faults sentences)

  abbrev is_page : (faults : List Fault) (sentences : List SentenceView) → faults ≡ outcome_faults p.outcome → sentences ≡ p.sentences.items → IsPage source base policy part (written_of faults sentences)
  is_page faults sentences same said =
      record {
        found = p.gallery.found;
        finding = made.finding;
        outcome = p.outcome;
        audited = made.audited;
        sentences = p.sentences.items;
        said = made.said;
        is = ap (λ (fs : List Fault). written_of fs sentences) same ∙ ap (written_of (outcome_faults p.outcome)) said;
      }

pub write_book-requires-clause-ready : goal.write_book-requires-clause-ready
write_book-requires-clause-ready g c =
    let made = c.in-Ok.ensures in
    record {
      of_base = made.of_base;
      of_groups = made.of_groups;
      index = λ (id : Id). made.index id ∙ ap (λ (fs : List Fault). numbers_of (numbered_faults 0 fs) id) (sym c.faults_in.ensures);
    }

pub returns-in-Ok-write_book : goal.returns-in-Ok-write_book
returns-in-Ok-write_book g c =
    let p = c.in-Ok.prepared in
    let faults = c.faults_in.result.now in
    let sentences = c.as_slice.result.now in
    let is = is_page (source_view c.args.source.now) c.args.base.now c.args.policy.now c.args.part.now p c.in-Ok.ensures faults sentences c.faults_in.ensures c.as_slice.ensures.value in
    let b = book (source_view c.args.source.now) c.args.base.now c.args.policy.now c.args.part.now is.found is.outcome is.sentences in
    let wrote = c.in-Ok-write_book.ensures in
    record {
      text = written_of (source_view c.args.source.now) c.args.base.now c.args.policy.now c.args.part.now p c.in-Ok.ensures faults sentences;
      is = is;
      tags = ap tags_of is.is ∙ has_its_tags c.args.policy.now is.outcome b;
      says = ap sections_in is.is ∙ says_what_is_shown c.args.policy.now is.outcome b;
      links = links_lead b wrote.ids;
      lead = subst (λ (text : List ℕ). NoneFails is.outcome (sections_in text)) (sym is.is)
          (certified_ways_lead (source_view c.args.source.now) c.args.base.now c.args.policy.now c.args.part.now is.found is.outcome is.sentences wrote.valid is.finding is.audited);
      written = wrote.whole;
    }

pub returns : goal.returns
returns g c =
    let p = c.in-Ok.prepared in
    let faults = c.faults_in.result.now in
    let sentences = c.as_slice.result.now in
    let text = written_of (source_view c.args.source.now) c.args.base.now c.args.policy.now c.args.part.now p c.in-Ok.ensures faults sentences in
    let is = is_page (source_view c.args.source.now) c.args.base.now c.args.policy.now c.args.part.now p c.in-Ok.ensures faults sentences c.faults_in.ensures c.as_slice.ensures.value in
    fault_of (g.S.Sink.seen c.args.sink.now) (g.S.Sink.seen c.write_book.new.sink) (IsPage (source_view c.args.source.now) c.args.base.now c.args.policy.now c.args.part.now) text is c.in-Err.fault c.in-Err.ensures.part
