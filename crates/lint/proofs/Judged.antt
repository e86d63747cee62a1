-- A text that is judged in steps.
use Rattle.std.proofs.Common.{◌≡◌, ◌∙◌, ◌<◌, ◌≤◌, Bool, true, false, List, [], ◌∷◌, ◌++◌, Ok, Some, None, length, map, refl, sym, ap, subst, arith}
use Rattle.std.specs.Prelude.{ℕ, nat_lt, Option}
use Rattle.std.specs.Str.{is_utf8}
use Rattle.std.proofs.lemmas.Bool.Decides.{nat_tests}
use Rattle.toml.specs.Data.{Members}
use Rattle.toml.specs.Parse.{parse_document}
use Rattle.checker.specs.declared.policy.Policy.{Policy}
use Rattle.base_text.specs.declared.limits.TheConstants.{MOST_TEXT}
use Rattle.base_text.specs.declared.detail.TextFault.{TextFault}
use Rattle.base_text.specs.declared.whole_fault.WholeFault.{WholeFault}
use Rattle.base_text.specs.declared.listed.Listed.{Listed}
use Rattle.base_text.specs.Drafts.{DraftView, framed, draft_of, text_faults, BeginAlike}
use Rattle.base_text.specs.Whole.{PartsView, tree_of, listed_parts, IsTextBase}
use Rattle.base_text.specs.WholeFaults.{AreWholeFaults}
use Rattle.frame_records.specs.Bases.{BaseView, IsBaseOf}
use Rattle.toml_places.specs.Places.{marks}
use Rattle.lint.specs.Findings.{FindingView}
use Rattle.base_text.proofs.KeptDetails.{begin_alike}
use Rattle.base_text.proofs.SoundFrames as lemmas
use Rattle.lint.specs.Lint.{Subject, Length, Toml, finding_of, faulty, text_finding, whole_finding, tables_of, tree_tables, AreSubjects, AreSubjectsIf, AreTreeSubjects, AreAuditFindings, IsJudgedBy, IsJudged}
use Rattle.lint.specs.Loops.{IsNotToml, IsDraftOf, IsFaultyDraft, sound_draft}

-- what is wrong with a text that isn't too long is what is wrong with its tree
pub in_tree : (text : List ℕ) (tree : Option Members) (subjects : List Subject) → nat_lt MOST_TEXT (length text) ≡ false → tree_of text ≡ tree
    → AreTreeSubjects text tree subjects → AreSubjects text subjects
in_tree text tree subjects short is are =
    subst (λ b. AreSubjectsIf b text subjects) (sym short) (subst (λ t. AreTreeSubjects text t subjects) (sym is) are)

pub of_length : (text : List ℕ) (policy : Policy) (findings : List FindingView) → MOST_TEXT < length text → findings ≡ map (finding_of text) (Length ∷ [])
    → IsJudged text policy findings
of_length text policy findings long is =
    let e : nat_lt MOST_TEXT (length text) ≡ true = grind (arith, nat_tests) in
    (Length ∷ [], subst (λ b. AreSubjectsIf b text (Length ∷ [])) (sym e) refl, is)

pub of_toml : (text : List ℕ) (policy : Policy) (findings : List FindingView) → length text ≤ MOST_TEXT → tree_of text ≡ None → IsNotToml text findings
    → IsJudged text policy findings
of_toml text policy findings short none is =
    let e : nat_lt MOST_TEXT (length text) ≡ false = grind (arith, nat_tests) in
    (Toml is.0 is.1 ∷ [], in_tree text None (Toml is.0 is.1 ∷ []) e none (is.0, is.1, is.2, refl), is.3)

-- something is wrong, and each of it is a finding
of_some : (text : List ℕ) (policy : Policy) (findings : List FindingView) (subjects : List Subject) → (subjects ≡ [] → ⊥)
    → findings ≡ map (finding_of text) subjects → IsJudgedBy subjects text policy findings
of_some text policy findings [] some is = absurd (some refl)
of_some text policy findings (s ∷ ss) some is = is

-- a finding for each subject
pub each_subject : (text : List ℕ) (faults : List TextFault) (whole : List WholeFault)
    → map (text_finding text (marks text)) faults ++ map (whole_finding text (marks text)) whole ≡ map (finding_of text) (faulty faults whole)
each_subject text [] [] = refl
each_subject text [] (w ∷ ws) = ap (λ fs. whole_finding text (marks text) w ∷ fs) (each_subject text [] ws)
each_subject text (t ∷ ts) whole = ap (λ fs. text_finding text (marks text) t ∷ fs) (each_subject text ts whole)

parts : (text : List ℕ) (ms : Members) (e : ℕ) → nat_lt MOST_TEXT (length text) ≡ false → tree_of text ≡ Some ms → (draft_of ms).faults ≡ [] → (draft_of ms).entry ≡ Some e
    → listed_parts text ≡ Ok (record { entry = e; outside = (draft_of ms).outside; frames = map framed (draft_of ms).frames })
parts text ms e short tree sound entry = rw (short, tree, none (draft_of ms).faults (text_faults ms) (begin_alike ms) sound, entry) refl where
  none : (listed all : List TextFault) → BeginAlike listed all → listed ≡ [] → all ≡ []
  none [] [] alike e = refl
  none [] (u ∷ us) alike e = absurd alike
  none (t ∷ ts) all alike e = absurd cc

-- the base of a draft without a fault is that of the text
pub text_base : (text : List ℕ) (entry : ℕ) (outside : List ℕ) (frames : List Listed) → IsDraftOf text (sound_draft entry outside frames)
    → (base : BaseView) → IsBaseOf entry outside (map framed frames) base → IsTextBase text base
text_base text entry outside frames is base is_base =
    let d : DraftView = draft_of is.0 in
    let same : sound_draft entry outside frames ≡ d = is.3 in
    let p : PartsView = record { entry = entry; outside = d.outside; frames = map framed d.frames } in (
      p,
      parts text is.0 entry is.1 is.2 (sym (ap (λ (v : DraftView). v.faults) same)) (sym (ap (λ (v : DraftView). v.entry) same)),
      subst (λ (v : DraftView). IsBaseOf entry v.outside (map framed v.frames) base) same is_base,
    )

module _ (text : List ℕ) (policy : Policy) (findings : List FindingView) where
  -- a draft without a fault, whose base is audited
  module _ (entry : ℕ) (outside : List ℕ) (frames : List Listed) (is : IsDraftOf text (sound_draft entry outside frames)) where
    abbrev ms : Members
    ms = is.0

    abbrev d : DraftView
    d = draft_of ms

    same : sound_draft entry outside frames ≡ d
    same = is.3

    pub of_base : (base : BaseView) → IsBaseOf entry outside (map framed frames) base → AreWholeFaults outside frames []
        → AreAuditFindings text (marks text) (tables_of frames) base policy findings → IsJudged text policy findings
    of_base base is_base are audited =
        let whole = subst (λ (v : DraftView). AreWholeFaults v.outside v.frames []) same are in
        let none = subst (λ (v : DraftView). [] ≡ faulty v.faults []) same refl in
        let known = subst (λ t. AreAuditFindings text (marks text) (tree_tables t) base policy findings) (sym is.2)
        (subst (λ (v : DraftView). AreAuditFindings text (marks text) (tables_of v.frames) base policy findings) same audited) in
        ([], in_tree text (Some ms) [] is.1 is.2 ([], whole, none), (base, text_base text entry outside frames is base is_base, known))

  -- a draft of which something is wrong
  pub of_faults : (d : DraftView) (whole : List WholeFault) → IsDraftOf text d → AreWholeFaults d.outside d.frames whole → (faulty d.faults whole ≡ [] → ⊥)
      → findings ≡ map (text_finding text (marks text)) d.faults ++ map (whole_finding text (marks text)) whole → IsJudged text policy findings
  of_faults d whole is are some found =
      let ms = is.0 in
      let subjects = faulty d.faults whole in
      let whole_are = subst (λ (v : DraftView). (ws : List WholeFault) × AreWholeFaults v.outside v.frames ws × (subjects ≡ faulty v.faults ws)) is.3 (whole, are, refl) in
      (subjects, in_tree text (Some ms) subjects is.1 is.2 whole_are, of_some text policy findings subjects some (found ∙ each_subject text d.faults whole))

-- faults of the whole alone are some
pub whole_some : (whole : List WholeFault) → (whole ≡ [] → ⊥) → faulty [] whole ≡ [] → ⊥
whole_some [] some e = some refl
whole_some (w ∷ ws) some e = absurd cc

-- a draft with a fault or without an entry page has some
pub faulty_some : (text outside : List ℕ) (frames : List Listed) (faults : List TextFault) (whole : List WholeFault) → IsFaultyDraft text outside frames faults → faulty faults whole ≡ [] → ⊥
faulty_some text outside frames [] whole is e =
    let d : DraftView = record { entry = is.0; outside = outside; frames = frames; faults = [] } in
    let same : d ≡ draft_of is.1.0 = is.1.3 in
    let has = lemmas.entry is.1.0 (sym (ap (λ (v : DraftView). v.faults) same)) in
    is.2 refl has.0 (ap (λ (v : DraftView). v.entry) same ∙ has.1)
faulty_some text outside frames (t ∷ ts) whole is e = absurd cc

pub parsed : (bs : List ℕ) (ms : Members) → tree_of bs ≡ Some ms → parse_document bs ≡ Some ms
parsed bs ms e = on_test (is_utf8 bs) refl where
  on_test : (b : Bool) → is_utf8 bs ≡ b → parse_document bs ≡ Some ms
  on_test true u = rw u at e
  on_test false u = absurd (clash (rw u at e)) where
    clash : {A : Type 0} {a : A} → None ≡ Some a → ⊥
    clash e = cc
