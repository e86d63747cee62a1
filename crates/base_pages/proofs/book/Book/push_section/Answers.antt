use Rattle.std.proofs.Common.{◌≡◌, ◌∙◌, ◌++◌, ℕ, Bool, List, ap, subst}
use Rattle.std.specs.Prelude.{OnOk}
use Rattle.frame_records.specs.Bases.{BaseView}
use Rattle.base_faults.specs.declared.fault.Fault.{Fault}
use Rattle.screens.specs.Looks.{looks}
use Rattle.screens.specs.Svg.{Piece, markup}
use Rattle.frame_screens.specs.Frames.{place_of, way_by}
use Rattle.frame_screens.specs.Screens.{screen_codes}
use Rattle.lint.specs.FrameLines.{SentenceView}
use Rattle.base_pages.specs.Faults.{faults_about, picked, sentences_about}
use Rattle.base_pages.specs.Sections.{shaped}
use Rattle.base_pages.specs.Loops.{book_view}
use Rattle.base_pages.proofs.Numbering.{numbers_are, picks_all}
use Rattle.base_pages.proofs.book.Book.push_section.Goals as goal

pub returns-clause-text : goal.returns-clause-text
returns-clause-text c =
    let b = book_view c.args.self.now in
    let f = c.args.frame.now in
    let place = place_of b.found f.id in
    let numbers = c.numbers-numbers.ensures ∙ c.requires.index f.id in
    let about : picked b.faults c.numbers-numbers.result.now ≡ faults_about b.faults f.id = ap (picked b.faults) numbers ∙ picks_all b.faults f.id in
    let said : picked b.sentences c.numbers-numbers.result.now ≡ sentences_about b.faults b.sentences f.id =
    ap (picked b.sentences) (numbers ∙ numbers_are b.faults f.id) in
    let codes = c.in_ok-codes.ensures.value
    ∙ ap (λ (of : BaseView). screen_codes of (way_by c.args.self.now.gallery.now.groups of b.found f.id place)) c.requires.of_base
    ∙ ap (λ (groups : List ℕ). screen_codes b.base (way_by groups b.base b.found f.id place)) c.requires.of_groups in
    let path =
    ap (λ (ss : List SentenceView). shaped b f ss (picked b.faults c.numbers-numbers.result.now) (looks c.in_ok-codes.codes) c.is_reached-is_reached.result) said
    ∙ ap (λ (fs : List Fault). shaped b f (sentences_about b.faults b.sentences f.id) fs (looks c.in_ok-codes.codes) c.is_reached-is_reached.result) about
    ∙ ap (λ (cells : List ℕ). shaped b f (sentences_about b.faults b.sentences f.id) (faults_about b.faults f.id) (looks cells) c.is_reached-is_reached.result) codes
    ∙ ap (λ (r : Bool). shaped b f (sentences_about b.faults b.sentences f.id) (faults_about b.faults f.id) (looks (screen_codes b.base (way_by b.caller b.base b.found f.id place))) r) c.is_reached-is_reached.ensures in
    subst (λ (ps : List Piece). OnOk c.push_with.result (c.push_with.new.out.items ≡ c.args.out.now.items ++ markup ps)) path c.push_with.ensures.text
