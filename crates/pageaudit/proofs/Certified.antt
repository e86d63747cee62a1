-- What an audit certifies, the check clears.
use Rattle.std.proofs.Common.{◌≡◌, ◌<◌, ◌+◌, ℕ, Bool, true, false, cond, List, [], ◌++◌, length, Option, Some, None, Result, Ok, Err, refl, sym, ap, subst, ◌∙◌, inl, inr, arith, length-append, append-nil}
use Rattle.std.specs.Prelude.{nat_lt}
use Rattle.std.proofs.lemmas.Bool.{ltb-false}
use Rattle.std.specs.Io.KnownBytes.{Consumes, Appends, IsAtEnd}
use Rattle.page_ids.specs.Ids.{Id}
use Rattle.page_ids.proofs.Truths.{clash}
use Rattle.frame_records.specs.declared.frame.Frame.{Frame}
use Rattle.frame_records.specs.declared.build.BuildFault.{BuildFault}
use Rattle.frame_records.specs.declared.build.BuildFault.TheVariants.{TooMany, BodyTooLong, NextAfterZ, Duplicate, OutsideInside}
use Rattle.frame_records.specs.Bases.{BaseView, NoFrame, IsLeastId, IsBuildFault, IsBaseOf}
use Rattle.base_text.specs.declared.fault.BaseFault.{BaseFault}
use Rattle.base_text.specs.declared.limits.TheConstants.{MOST_TEXT}
use Rattle.base_text.specs.Frames.{top_fault}
use Rattle.base_text.specs.declared.fault.BaseCause.TheVariants.{TooLong}
use Rattle.base_text.specs.Whole.{PartsView, IsTextBase, IsFirstFault, IsFaultOf, listed_parts, tree_parts, tree_of}
use Rattle.base_text.proofs.OneText.{one_text_base}
use Rattle.lint.proofs.Readings.{refusal}
use Rattle.cert_table.specs.Table.{CertView}
use Rattle.cert_text.specs.declared.fault.LineCause.{LineCause}
use Rattle.cert_text.specs.declared.fault.LineCause.TheVariants.{Truncated}
use Rattle.cert_text.specs.declared.fault.ReadFault.{ReadFault}
use Rattle.cert_text.specs.declared.fault.ReadFault.TheVariants as read
use Rattle.cert_text.specs.Grammar.{IsCertificateText}
use Rattle.frame_records.specs.Steps.{◌>>=◌}
use Rattle.cert_text.specs.Reading.{Reading, Fault, reading_start, reading_after, ended, reading, reading_fault, certificate_fault, is_over, due_number, certificate_of}
use Rattle.cert_text.proofs.Only.{only, one_certificate, run_append}
use Rattle.checker.specs.declared.policy.Policy.{Policy}
use Rattle.checker.specs.declared.verdict.Verdict.{Verdict}
use Rattle.checker.specs.declared.verdict.Verdict.TheVariants.{Cleared}
use Rattle.checker.specs.Verdict.{verdict}
use Rattle.checker.specs.Headline.{IsBaseRefused}
use Rattle.fault_scripts.specs.declared.outcome.Outcome.{Outcome}
use Rattle.fault_scripts.specs.declared.outcome.Outcome.TheVariants.{Certified, Faulty}
use Rattle.fault_scripts.specs.Outcomes.{IsOutcomeOf}
use Rattle.audit_report.specs.declared.run_fault.RunFault.{RunFault}
use Rattle.audit_report.specs.declared.run_fault.RunFault.TheVariants as fault
use Rattle.audit_report.specs.ReportLines.{IsReport, report_text}
use Rattle.audit_report.specs.Lines.{verdict_text}
use Rattle.audit_report.specs.Statuses.{status_of_verdict}
use Rattle.audit_report.specs.declared.status.Status.{Status}
use Rattle.audit_report.specs.declared.status.Status.TheVariants.{Clear}
use Rattle.pageaudit.specs.Files.{Device, base_limit, IsTextWritten, IsBaseOfFile, IsCertOfFile, IsBaseTextFault, IsCertTextFault}
use Rattle.pageaudit.specs.AuditRun.{IsReportWritten, IsSplitWritten}
use Rattle.pageaudit.specs.CheckRun.{IsCheckRun, IsVerdictRun}
use Rattle.pageaudit.specs.Certified.{IsCertifying, IsFirstRun, IsSecondRun, IsClearing}

-- What was read of a device that shows its bytes.

-- the front of a text, which is all of it if nothing is left
whole_text : (known left : Option (List ℕ)) (text got : List ℕ) → known ≡ Some text → Consumes known left got → IsAtEnd left → got ≡ text
whole_text None left text got shows given over = absurd (cc (shows))
whole_text (Some known) None text got shows given over = absurd given
whole_text (Some known) (Some more) text got shows given over =
    sym (some_is (sym shows) ∙ given ∙ ap (λ l. got ++ l) over ∙ append-nil got) where
      some_is : {a b : List ℕ} → Some a ≡ Some b → a ≡ b
      some_is e = cc

-- A base's text isn't refused.

-- it isn't too long
is_short : (text : List ℕ) (p : PartsView) → listed_parts text ≡ Ok p → length text < base_limit
is_short text p listed = by (nat_lt MOST_TEXT (length text)) refl listed where
  by : (b : Bool) → nat_lt MOST_TEXT (length text) ≡ b → cond b (Err (top_fault TooLong)) (tree_parts (tree_of text)) ≡ Ok p → length text < base_limit
  by true e h = absurd (cc (h))
  by false e h = omega (arith, ltb-false MOST_TEXT (length text) e)

-- what makes a base has no fault as a whole
module _ (outside : List ℕ) (frames : List Frame) where
  none_is_least : (test : Frame → Bool) (id : Id) → NoFrame test frames → IsLeastId test frames id → ⊥
  none_is_least test id none h = clash (test h.some.1) h.some.4.0 (ap test (sym h.some.3) ∙ none h.some.0 h.some.1 h.some.2)

  is_whole : (entry : ℕ) (base : BaseView) (f : BuildFault) → IsBaseOf entry outside frames base → IsBuildFault outside frames f → ⊥
  is_whole entry base TooMany h q = clash _ q h.few
  is_whole entry base (BodyTooLong id) h q = none_is_least _ id h.short q.1
  is_whole entry base (NextAfterZ id) h q = none_is_least _ id h.no_next_after_z q.2
  is_whole entry base (Duplicate id) h q = absurd (omega (arith, h.none_twice id, q.3.twice))
  is_whole entry base (OutsideInside page) h q = clash _ q.4.inside (h.none_inside page q.4.listed)

-- it has no first fault, unless memory is refused
never_refused : (text : List ℕ) (base : BaseView) (f : BaseFault) → IsTextBase text base → IsBaseRefused text f → ⊥
never_refused text base f is h = by h.first where
  of_parts : IsFaultOf (listed_parts text) f → ⊥
  of_parts wrong =
      let whole = subst (λ (r : Result PartsView BaseFault). IsFaultOf r f) is.1 wrong in
      let refused = refusal is.0.outside is.0.frames f.cause whole.1 in
      is_whole is.0.outside is.0.frames is.0.entry base refused.fault is.2 refused.is

  by : IsFirstFault text f → ⊥
  by (inl memory) = h.no_memory (ap (λ (g : BaseFault). g.cause) memory)
  by (inr wrong) = of_parts wrong

-- the front of a text, what is left of it, and that it is all if nothing is
record IsFront (text got : List ℕ) (left : Option (List ℕ)) : Type 0 where
  pub more : List ℕ
  pub joined : text ≡ got ++ more
  pub over : IsAtEnd left → got ≡ text

front_of : (known left : Option (List ℕ)) (text got : List ℕ) → known ≡ Some text → Consumes known left got → IsFront text got left
front_of None left text got shows given = absurd (cc (shows))
front_of (Some known) None text got shows given = absurd given
front_of (Some known) (Some more) text got shows given =
    record { more = more; joined = some_is (sym shows) ∙ given; over = whole_text (Some known) (Some more) text got shows given } where
      some_is : {a b : List ℕ} → Some a ≡ Some b → a ≡ b
      some_is e = cc

-- so no run finds a fault of the base's file
base_is_right : (d : Device) (text : List ℕ) (base : BaseView) (f : BaseFault) → d.before.bytes ≡ Some text → IsTextBase text base → IsBaseTextFault d f → ⊥
base_is_right d text base f shows is h =
    let front = front_of d.before.bytes d.after.bytes text h.text shows h.is.read.given in
    let short : length h.text < base_limit = omega (arith, is_short text is.0 is.1, ap length front.joined, length-append h.text front.more) in
    never_refused text base f is (subst (λ (t : List ℕ). IsBaseRefused t f) (front.over (h.is.whole short)) h.first)

-- A certificate's text isn't refused.

module _ (text : List ℕ) (cert : CertView) (is : IsCertificateText text cert) where
  right : reading text ≡ Ok cert
  right = ap reading is.spelled ∙ only cert is.valid

  -- no front of it stops the reading
  never_stops : (got more : List ℕ) (f : Fault) → text ≡ got ++ more → reading_after reading_start got ≡ Err f → ⊥
  never_stops got more f joined stops = clash (sym right ∙ ap reading joined ∙ stopped) where
    stopped : reading (got ++ more) ≡ Err f
    stopped = ap (λ (r : Result Reading Fault). r >>= ended) (run_append reading_start got more ∙ ap (λ (r : Result Reading Fault). r >>= λ t. reading_after t more) stops)

    clash : {A E : Type 0} {x : A} {e : E} → Ok x ≡ Err e → ⊥
    clash e = cc

  -- a reading that goes on has no fault but that the text ends early
  goes_on : (s : Reading) (n : ℕ) (cause : LineCause) → reading_fault (ended s) ≡ Some (n, cause) → Truncated ≡ cause
  goes_on s n cause = by (is_over s.stage) where
    cause_in : Option Fault → LineCause
    cause_in None = Truncated
    cause_in (Some f) = f.1

    by : (b : Bool) → reading_fault (cond b (Ok (certificate_of s.said)) (Err (due_number s.stage s.said, Truncated))) ≡ Some (n, cause) → Truncated ≡ cause
    by true e = ap cause_in e
    by false e = ap cause_in e

  whole_is_right : (n : ℕ) (cause : LineCause) → certificate_fault text ≡ Some (n, cause) → ⊥
  whole_is_right n cause e = clash (sym (ap (λ (r : Result CertView Fault). reading_fault r) right) ∙ e) where
    clash : {A : Type 0} {x : A} → None ≡ Some x → ⊥
    clash e = cc

  pub cert_is_right : (d : Device) (f : ReadFault) → d.before.bytes ≡ Some text → IsCertTextFault d f → ⊥
  cert_is_right d read.Memory shows h = absurd h.first
  cert_is_right d read.Failed shows h = absurd h.first
  cert_is_right d (read.Line n cause) shows h =
      let front = front_of d.before.bytes d.after.bytes text h.text shows h.read.given in
      by front (reading_after reading_start h.text) refl h.first where
        by : IsFront text h.text d.after.bytes → (r : Result Reading Fault) → reading_after reading_start h.text ≡ r → reading_fault (r >>= ended) ≡ Some (n, cause) → ⊥
        by front (Err f) stops e = never_stops h.text front.more f front.joined stops
        by front (Ok s) goes e =
            let same = front.over (h.whole (sym (goes_on s n cause e))) in
            whole_is_right n cause (ap certificate_fault (sym same) ∙ h.first)

-- What the first run shows of the two texts.

record IsDecided (base_text cert_text : List ℕ) (policy : Policy) : Type 0 where
  pub base : BaseView
  pub cert : CertView
  pub of_base : IsTextBase base_text base
  pub of_cert : IsCertificateText cert_text cert
  pub cleared : verdict base policy cert ≡ Cleared

-- what was appended to nothing
appended : (was now : Option (List ℕ)) (text added : List ℕ) → was ≡ Some [] → now ≡ Some text → Appends was now added → added ≡ text
appended None now text added empty shows h = absurd (cc (empty))
appended (Some before) None text added empty shows h = absurd h
appended (Some before) (Some after) text added empty shows h =
    sym (ap (λ l. l ++ added) (some_is empty)) ∙ sym h ∙ some_is shows where
      some_is : {a b : List ℕ} → Some a ≡ Some b → a ≡ b
      some_is e = cc

module _ (base_text cert_text : List ℕ) (policy : Policy) where
  text_base : (d : Device) (base : BaseView) → d.before.bytes ≡ Some base_text → IsBaseOfFile d base → IsTextBase base_text base
  text_base d base shows h =
      subst (λ (t : List ℕ). IsTextBase t base) (whole_text d.before.bytes d.after.bytes base_text h.text shows h.read.so_far.given h.read.whole) h.is

  module _ (h : IsFirstRun base_text cert_text policy) where
    certified : (base : BaseView) (c : CertView) → IsBaseOfFile h.base_file base → IsOutcomeOf base policy (Certified c)
        → IsReport (report_text (Certified c)) (Certified c) → IsReportWritten h.cert (Certified c) (Ok Clear) → IsDecided base_text cert_text policy
    certified base c read is grammar written =
        let same = appended h.cert.before.bytes h.cert.after.bytes cert_text _ h.cert_was h.cert_is written.0.taken in
        record {
          base = base;
          cert = c;
          of_base = text_base h.base_file base h.base_is read;
          of_cert = subst (λ (t : List ℕ). IsCertificateText t c) same grammar;
          cleared = is.is.1.cleared;
        }

    decided : IsDecided base_text cert_text policy
    decided = by h.audit where
      alone : (base : BaseView) (o : Outcome) → IsBaseOfFile h.base_file base → IsOutcomeOf base policy o → IsReport (report_text o) o → IsReportWritten h.cert o (Ok Clear) → IsDecided base_text cert_text policy
      alone base (Certified c) read is grammar written = certified base c read is grammar written
      alone base (Faulty faults) read is grammar written = absurd (cc (written.1))

      apart : (base : BaseView) (o : Outcome) (out : Device) → IsBaseOfFile h.base_file base → IsOutcomeOf base policy o → IsReport (report_text o) o → IsSplitWritten h.cert out o (Ok Clear) → IsDecided base_text cert_text policy
      apart base (Certified c) out read is grammar written = certified base c read is grammar written.0
      apart base (Faulty faults) out read is grammar written = absurd (cc (written.0.1))

      by : IsCertifying h.base_file h.cert policy → IsDecided base_text cert_text policy
      by (inl reading_after) = alone reading_after.base reading_after.written.outcome reading_after.base_read reading_after.written.is reading_after.written.in_grammar reading_after.written.written
      by (inr reading_after) = apart reading_after.1.base reading_after.1.written.outcome reading_after.0 reading_after.1.base_read reading_after.1.written.is reading_after.1.written.in_grammar reading_after.1.written.written

  -- the second run
  module _ (d : IsDecided base_text cert_text policy) (out : Device) where
    text_cert : (file : Device) (cert : CertView) → file.before.bytes ≡ Some cert_text → IsCertOfFile file cert → IsCertificateText cert_text cert
    text_cert file cert shows h =
        subst (λ (t : List ℕ). IsCertificateText t cert) (whole_text file.before.bytes file.after.bytes cert_text h.text shows h.read.so_far.given h.read.whole) h.is

    module _ (base_file cert_file : Device) (base_is : base_file.before.bytes ≡ Some base_text) (cert_is : cert_file.before.bytes ≡ Some cert_text) where
      of_verdict : (answer : Result Status RunFault) → IsVerdictRun base_file cert_file out policy answer → IsTextWritten out (verdict_text Cleared) Clear answer
      of_verdict answer v =
          let same_base = one_text_base base_text v.base d.base (text_base base_file v.base base_is v.base_read) d.of_base in
          let same_cert = one_certificate cert_text v.cert d.cert (text_cert cert_file v.cert cert_is v.cert_read) d.of_cert in
          let cleared : verdict v.base policy v.cert ≡ Cleared =
          ap (λ (b : BaseView). verdict b policy v.cert) same_base ∙ ap (λ (c : CertView). verdict d.base policy c) same_cert ∙ d.cleared in
          subst (λ (w : Verdict). IsTextWritten out (verdict_text w) (status_of_verdict w) answer) cleared v.written

      clearing : (answer : Result Status RunFault) → IsCheckRun base_file cert_file out policy answer → IsClearing out answer
      clearing (Ok status) reading_after = of_verdict (Ok status) reading_after
      clearing (Err (fault.Write wrote)) reading_after = of_verdict (Err (fault.Write wrote)) reading_after
      clearing (Err (fault.Base f)) reading_after = absurd (base_is_right base_file base_text d.base f base_is d.of_base reading_after.0)
      clearing (Err fault.ReadBase) reading_after = reading_after.2
      clearing (Err (fault.Cert f)) reading_after = absurd (cert_is_right cert_text d.cert d.of_cert cert_file f cert_is reading_after.why)
      clearing (Err fault.ReadCert) reading_after = reading_after.nothing
      clearing (Err fault.Memory) reading_after = reading_after.2
      clearing (Err (fault.Keys offset)) reading_after = absurd reading_after
      clearing (Err fault.Groups) reading_after = absurd reading_after
      clearing (Err (fault.NewBase f)) reading_after = absurd reading_after
      clearing (Err (fault.NewCert f)) reading_after = absurd reading_after
      clearing (Err fault.ReadNewBase) reading_after = absurd reading_after
      clearing (Err fault.ReadNewCert) reading_after = absurd reading_after

pub clears : (base_text cert_text : List ℕ) (policy : Policy) (out : Device) (answer : Result Status RunFault) → IsFirstRun base_text cert_text policy → IsSecondRun base_text cert_text out policy answer → IsClearing out answer
clears base_text cert_text policy out answer first second =
    clearing base_text cert_text policy (decided base_text cert_text policy first) out second.base_file second.cert_file second.base_is second.cert_is answer second.check
