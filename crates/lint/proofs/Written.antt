-- The base that a text means, if it means one.
use Rattle.std.proofs.Common.{◌≡◌, ◌∙◌, ℕ, List, [], ◌∷◌, Option, Some, None, Ok, refl, sym, ap, subst}
use Rattle.toml.specs.Data.{Members}
use Rattle.frame_records.specs.Bases.{BaseView}
use Rattle.base_text.specs.declared.detail.TextFault.{TextFault}
use Rattle.base_text.specs.declared.listed.Listed.{Listed}
use Rattle.base_text.specs.declared.whole_fault.WholeFault.{WholeFault}
use Rattle.base_text.specs.Drafts.{DraftView, draft_of, text_faults, BeginAlike}
use Rattle.base_text.specs.Whole.{PartsView, parts_or, listed_parts, IsTextBase}
use Rattle.base_text.specs.WholeFaults.{AreWholeFaults}
use Rattle.base_text.proofs.KeptDetails.{begin_alike}
use Rattle.lint.specs.Lint.{faulty, tables_of, tree_tables, text_tables}
use Rattle.lint.specs.Loops.{IsDraftOf, IsFaultyDraft, sound_draft}
use Rattle.lint.proofs.Judged.{in_tree, whole_some}
use Rattle.lint.proofs.Readings.{agreed}

-- the text means no base
abbrev pub MeansNone : List ℕ → Type 0
MeansNone text = (base : BaseView) → IsTextBase text base → ⊥

none_listed : (listed all : List TextFault) → BeginAlike listed all → all ≡ [] → listed ≡ []
none_listed [] all alike e = refl
none_listed (t ∷ ts) [] alike e = absurd alike
none_listed (t ∷ ts) (u ∷ us) alike e = absurd cc

lists_none : (faults : List TextFault) (entry : Option ℕ) (d : DraftView) (p : PartsView) → (faults ≡ [] → (e : ℕ) → entry ≡ Some e → ⊥)
    → parts_or faults entry d ≡ Ok p → ⊥
lists_none [] None d p bad e = cc
lists_none [] (Some n) d p bad e = bad refl n refl
lists_none (t ∷ ts) entry d p bad e = cc

pub faulty_draft : (text outside : List ℕ) (frames : List Listed) (faults : List TextFault) → IsFaultyDraft text outside frames faults → MeansNone text
faulty_draft text outside frames faults is base means =
    let ms : Members = is.1.0 in
    let d : DraftView = record { entry = is.0; outside = outside; frames = frames; faults = faults } in
    let same : d ≡ draft_of ms = is.1.3 in
    let parts : listed_parts text ≡ parts_or (text_faults ms) (draft_of ms).entry (draft_of ms) = rw (is.1.1, is.1.2) refl in
    lists_none (text_faults ms) (draft_of ms).entry (draft_of ms) means.0
    (λ none e has. is.2 (ap (λ (v : DraftView). v.faults) same ∙ none_listed (draft_of ms).faults (text_faults ms) (begin_alike ms) none) e (ap (λ (v : DraftView). v.entry) same ∙ has))
    (sym parts ∙ means.1)

pub faulty_whole : (text : List ℕ) (entry : ℕ) (outside : List ℕ) (frames : List Listed) (whole : List WholeFault) → IsDraftOf text (sound_draft entry outside frames)
    → AreWholeFaults outside frames whole → (whole ≡ [] → ⊥) → MeansNone text
faulty_whole text entry outside frames whole is are some base means =
    let subjects = faulty [] whole in
    let listed = subst (λ (v : DraftView). (ws : List WholeFault) × AreWholeFaults v.outside v.frames ws × (subjects ≡ faulty v.faults ws)) is.3 (whole, are, refl) in
    whole_some whole some (agreed text subjects (Ok base) (in_tree text (Some is.0) subjects is.1 is.2 listed) means)

-- the tables of a draft are those of the text
pub known_tables : (text : List ℕ) (entry : ℕ) (outside : List ℕ) (frames : List Listed) → IsDraftOf text (sound_draft entry outside frames) → tables_of frames ≡ text_tables text
known_tables text entry outside frames is = ap (λ (v : DraftView). tables_of v.frames) is.3 ∙ sym (ap tree_tables is.2)
