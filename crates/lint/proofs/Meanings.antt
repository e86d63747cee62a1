-- What the findings of a text mean.
use Rattle.std.proofs.Common.{◌≡◌, ◌∙◌, ℕ, List, [], ◌∷◌, length, Result, Ok, Err, refl, sym, ap, subst}
use Rattle.std.proofs.lemmas.List.{nil_from_length}
use Rattle.frame_records.specs.Bases.{BaseView}
use Rattle.base_text.specs.declared.fault.BaseFault.{BaseFault}
use Rattle.base_text.proofs.OneText.{one_text_base}
use Rattle.base_text.specs.Whole.{IsTextBase}
use Rattle.base_text.specs.WholeFaults.{Agrees}
use Rattle.checker.specs.declared.policy.Policy.{Policy}
use Rattle.fault_scripts.specs.Faults.{AreFaults}
use Rattle.fault_scripts.proofs.NoneSafe.{none_safe}
use Rattle.fault_scripts.proofs.OneList.{faults_one}
use Rattle.lint.specs.declared.finding.Level.TheVariants.{Error}
use Rattle.lint.specs.Findings.{FindingView, count_of, AreInOrder}
use Rattle.lint.specs.Lint.{Subject, IsJudgedBy, IsAudited, IsLint}
use Rattle.lint.specs.Laws.{IsReadAnswer, answer_of, AreOfAudit, AreByAnswer, LintFollowsBaseRead, IsCertified, LintDecidesSafety}
use Rattle.lint.proofs.Errors.{text_errors, audit_errors}
use Rattle.lint.proofs.Readings.{agreed}

-- by what is wrong with the text, which base_read answers
by_subjects : (text : List ℕ) (policy : Policy) (judged findings : List FindingView) (answer : Result BaseView BaseFault) (subjects : List Subject)
    → IsJudgedBy subjects text policy judged → AreInOrder judged findings → IsReadAnswer text answer → Agrees answer_of answer subjects
    → AreByAnswer text policy findings answer
by_subjects text policy judged findings (Ok base) [] by order is h =
    (judged, subst (λ b. IsAudited text policy b judged) (one_text_base text by.0 base by.1 is) by.2, order)
by_subjects text policy judged findings (Err fault) [] by order is h = absurd h
by_subjects text policy judged findings (Ok base) (s ∷ ss) by order is h = absurd cc
by_subjects text policy judged findings (Err fault) (s ∷ ss) by order is h =
    record { first = s; rest = ss; is_answer = h; in_order = subst (λ js. AreInOrder js findings) by order }

pub follows : LintFollowsBaseRead
follows text policy findings lint answer is =
    by_subjects text policy lint.0 findings answer lint.1.0 lint.1.2 lint.2 is (agreed text lint.1.0 answer lint.1.1 is)

-- The rest follows from that.
module _ (text : List ℕ) (policy : Policy) (findings : List FindingView) (lint : IsLint text policy findings) where
  -- the audit of the text's base
  audit : (base : BaseView) → IsTextBase text base → AreOfAudit text policy findings base
  audit base is = follows text policy findings lint (Ok base) is

  none_from : (base : BaseView) (a : AreOfAudit text policy findings base) → a.1.faults ≡ [] → count_of Error findings ≡ 0
  none_from base a none = rw (audit_errors a.0 findings a.2 text policy base a.1) (ap length none)

  certified : count_of Error findings ≡ 0 → IsCertified text policy
  certified none = on lint.1.0 lint.1.2 where
    on : (subjects : List Subject) → IsJudgedBy subjects text policy lint.0 → IsCertified text policy
    on [] by =
        let faults : length by.2.faults ≡ 0 = sym (audit_errors lint.0 findings lint.2 text policy by.0 by.2) ∙ none in
        (by.0, by.1, subst (AreFaults by.0 policy) (nil_from_length by.2.faults faults) by.2.are_faults)
    on (s ∷ ss) by = absurd (text_errors lint.0 findings lint.2 text s ss by none)

  pub decided : LintDecidesSafety text policy findings
  decided = record {
    certified = (
      certified,
      λ c. let a = audit c.0 c.1 in none_from c.0 a (faults_one c.0 policy a.1.faults [] a.1.are_faults c.2),
    );
    safe = (
      λ none. let c = certified none in (c.0, c.1, (none_safe c.0 policy [] c.1.2.valid.apart c.2).0 refl),
      λ s. let a = audit s.0 s.1 in none_from s.0 a ((none_safe s.0 policy a.1.faults s.1.2.valid.apart a.1.are_faults).1 s.2),
    );
  }
