-- What is wrong with a text, and what base_read answers for it.
use Rattle.std.proofs.Common.{◌≡◌, ◌∙◌, ℕ, List, [], ◌∷◌, length, map, nat_lt, Bool, true, false, Option, Some, None, Result, Ok, Err, refl, sym, ap, subst}
use Rattle.toml.specs.Data.{Members}
use Rattle.frame_records.specs.declared.frame.Frame.{Frame}
use Rattle.frame_records.specs.declared.build.BuildFault.{BuildFault}
use Rattle.frame_records.specs.declared.build.BuildFault.TheVariants as build
use Rattle.frame_records.specs.Bases.{BaseView, IsBaseOf, IsBuildFault, IsBuilt}
use Rattle.base_text.specs.declared.limits.TheConstants.{MOST_TEXT}
use Rattle.base_text.specs.declared.fault.BaseFault.{BaseFault}
use Rattle.base_text.specs.declared.fault.BaseCause.{BaseCause}
use Rattle.base_text.specs.declared.fault.BaseCause.TheVariants as cause
use Rattle.base_text.specs.declared.detail.TextFault.{TextFault}
use Rattle.base_text.specs.declared.whole_fault.WholeFault.{WholeFault}
use Rattle.base_text.specs.Drafts.{DraftView, framed, draft_of, text_faults, BeginAlike, draft_fault}
use Rattle.base_text.specs.Frames.{top_fault}
use Rattle.base_text.specs.Whole.{PartsView, parts_or, listed_parts, table_parts, tree_parts, tree_of, build_cause, IsWholeCause, IsFaultOf}
use Rattle.base_text.specs.WholeFaults.{AreWholeFaults, Agrees, build_fault, whole_cause}
use Rattle.base_text.proofs.KeptDetails.{begin_alike}
use Rattle.base_text.proofs.SoundFrames as lemmas
use Rattle.base_text.proofs.WholeAgreements.{all_agree}
use Rattle.lint.specs.Lint.{Subject, Length, Toml, Text, Whole, faulty, AreTreeSubjects, AreSubjects}
use Rattle.lint.specs.Laws.{IsReadAnswer, answer_of}

-- the refusal of a whole that has the cause
pub record IsRefusal (outside : List ℕ) (frames : List Frame) (c : BaseCause) : Type 0 where
  pub fault : BuildFault
  pub same : build_cause fault ≡ c
  pub is : IsBuildFault outside frames fault

pub refusal : (outside : List ℕ) (frames : List Frame) (c : BaseCause) → IsWholeCause outside frames c → IsRefusal outside frames c
refusal outside frames cause.TooMany h = record { fault = build.TooMany; same = refl; is = h }
refusal outside frames (cause.BodyTooLong id) h = record { fault = build.BodyTooLong id; same = refl; is = h }
refusal outside frames (cause.NextAfterZ id) h = record { fault = build.NextAfterZ id; same = refl; is = h }
refusal outside frames (cause.Duplicate id) h = record { fault = build.Duplicate id; same = refl; is = h }
refusal outside frames (cause.OutsideInside page) h = record { fault = build.OutsideInside page; same = refl; is = h }
refusal outside frames cause.Memory h = absurd h
refusal outside frames cause.TooLong h = absurd h
refusal outside frames cause.NotToml h = absurd h
refusal outside frames cause.UnknownKey h = absurd h
refusal outside frames (cause.Absent f) h = absurd h
refusal outside frames (cause.WrongKind f) h = absurd h
refusal outside frames (cause.Range f) h = absurd h
refusal outside frames cause.BodyAndRows h = absurd h
refusal outside frames cause.RowTooLong h = absurd h
refusal outside frames cause.RowCode h = absurd h
refusal outside frames cause.BadFrame h = absurd h

at_top : (fault : BaseFault) (c : BaseCause) → c ≡ fault.cause → fault.frame ≡ None → top_fault c ≡ fault
at_top fault c same top = ap top_fault same ∙ ap (λ (frame : Option ℕ). record { frame = frame; cause = fault.cause }) (sym top)

-- what base_read answers for what a text lists, or for its own first fault
abbrev IsAnswerTo : Result PartsView BaseFault → Result BaseView BaseFault → Type 0
IsAnswerTo parts (Ok base) = (p : PartsView) × (parts ≡ Ok p) × IsBaseOf p.entry p.outside p.frames base
IsAnswerTo parts (Err fault) = IsFaultOf parts fault

-- a text that is refused by itself
of_itself : (first : BaseFault) (s : Subject) (ss : List Subject) (answer : Result BaseView BaseFault) → answer_of s ≡ first
    → IsAnswerTo (Err first) answer → Agrees answer_of answer (s ∷ ss)
of_itself first s ss (Ok base) e a = absurd (clash a.1) where
  clash : {p : PartsView} → Err first ≡ Ok p → ⊥
  clash e = cc
of_itself first s ss (Err fault) e a = e ∙ sym a

module _ (ms : Members) (whole : List WholeFault) where
  abbrev d : DraftView
  d = draft_of ms

  module _ (are : AreWholeFaults d.outside d.frames whole) where
    -- what Base::build answers for what the draft lists
    built : (entry : ℕ) (r : Result BaseView BuildFault) → IsBuilt entry d.outside (map framed d.frames) r → Agrees build_fault r whole
    built entry r is = all_agree entry d.outside d.frames whole r are is

    first_of_whole : (fault : BaseFault) (b : BuildFault) (ws : List WholeFault) → build_cause b ≡ fault.cause → fault.frame ≡ None
        → Agrees {A = BaseView} build_fault (Err b) ws → Agrees {A = BaseView} answer_of (Err fault) (map Whole ws)
    first_of_whole fault b [] same top h = absurd h
    first_of_whole fault b (w ∷ ws) same top h = at_top fault (whole_cause w) (ap build_cause h ∙ same) top

    -- a text that is sound by itself
    of_listed : (entry : ℕ) (answer : Result BaseView BaseFault) → IsAnswerTo (Ok (record { entry = entry; outside = d.outside; frames = map framed d.frames })) answer
        → Agrees answer_of answer (map Whole whole)
    of_listed entry (Ok base) a =
        let p : PartsView = record { entry = entry; outside = d.outside; frames = map framed d.frames } in
        let same : a.0 ≡ p = same_parts a.0 p (sym a.1) in
        ap (map Whole) (built entry (Ok base) (subst (λ (q : PartsView). IsBaseOf q.entry q.outside q.frames base) same a.2)) where
          listed : PartsView → Result PartsView BaseFault
          listed p = Ok p

          same_parts : (p q : PartsView) → listed p ≡ listed q → p ≡ q
          same_parts p q e = cc
    of_listed entry (Err fault) a =
        let r = refusal d.outside (map framed d.frames) fault.cause a.1 in
        first_of_whole fault r.fault whole r.same a.0 (built entry (Err r.fault) r.is)

    of_draft : (answer : Result BaseView BaseFault) → IsAnswerTo (table_parts ms) answer → Agrees answer_of answer (faulty d.faults whole)
    of_draft answer a = on d.faults (text_faults ms) refl (begin_alike ms) a where
      entered : (entry : Option ℕ) → d.entry ≡ entry → (e : ℕ) × (d.entry ≡ Some e) → IsAnswerTo (parts_or [] entry d) answer → Agrees answer_of answer (map Whole whole)
      entered (Some e) is has b = of_listed e answer b
      entered None is has b = absurd cc

      on : (listed all : List TextFault) → d.faults ≡ listed → BeginAlike listed all → IsAnswerTo (parts_or all d.entry d) answer
          → Agrees answer_of answer (faulty listed whole)
      on [] [] e alike b = entered d.entry refl (lemmas.entry ms e) b
      on [] (u ∷ us) e alike b = absurd alike
      on (t ∷ ts) [] e alike b = absurd alike
      on (t ∷ ts) (u ∷ us) e alike b = of_itself (draft_fault u) (Text t) _ answer alike b

of_tree : (text : List ℕ) (tree : Option Members) (subjects : List Subject) (answer : Result BaseView BaseFault) → AreTreeSubjects text tree subjects
    → IsAnswerTo (tree_parts tree) answer → Agrees answer_of answer subjects
of_tree text None subjects answer are a = subst (Agrees answer_of answer) (sym are.3) (of_itself (top_fault cause.NotToml) (Toml are.0 are.1) [] answer refl a)
of_tree text (Some ms) subjects answer are a = subst (Agrees answer_of answer) (sym are.2) (of_draft ms are.0 are.1 answer a)

-- nothing is wrong with a text if base_read answers a base; else the first is what it answers
pub agreed : (text : List ℕ) (subjects : List Subject) (answer : Result BaseView BaseFault) → AreSubjects text subjects → IsReadAnswer text answer
    → Agrees answer_of answer subjects
agreed text subjects answer are a = on (nat_lt MOST_TEXT (length text)) refl (as_parts answer a) where
  as_parts : (r : Result BaseView BaseFault) → IsReadAnswer text r → IsAnswerTo (listed_parts text) r
  as_parts (Ok base) b = b
  as_parts (Err fault) b = b

  on : (long : Bool) → nat_lt MOST_TEXT (length text) ≡ long → IsAnswerTo (listed_parts text) answer → Agrees answer_of answer subjects
  on true e b = subst (Agrees answer_of answer) (sym (rw e at are)) (of_itself (top_fault cause.TooLong) Length [] answer refl (rw e at b))
  on false e b = of_tree text (tree_of text) subjects answer (rw e at are) (rw e at b)
