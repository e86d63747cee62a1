-- The result of the outcome of an audit.
use Rattle.std.proofs.Common.{◌≡◌, ◌≢◌, ◌≤◌, ℕ, List, [], length, Some, Bool, true, false, eqb, refl, sym, ◌∙◌, ap, subst, arith}
use Rattle.std.specs.Prelude.{Result, Ok, Err, IfOk, slice_get}
use Rattle.std.proofs.lemmas.Bool.Decides.{nat_tests}
use Rattle.std.proofs.lemmas.List.{take_all, nil_from_length}
use Rattle.frame_records.specs.Bases.{BaseView, IsBase}
use Rattle.cert_table.specs.declared.row.Row.{Row}
use Rattle.cert_table.specs.Table.{CertView}
use Rattle.checker.specs.declared.policy.Policy.{Policy}
use Rattle.finder.specs.declared.found.Discovered.{Discovered}
use Rattle.finder.specs.Finds.{IsFinding, EntryIsFound}
use Rattle.fault_scripts.specs.declared.frames.Judge.{Judge}
use Rattle.fault_scripts.specs.declared.outcome.Outcome.{Outcome}
use Rattle.fault_scripts.specs.declared.outcome.Outcome.TheVariants.{Certified, Faulty}
use Rattle.fault_scripts.specs.Faults.{AreDue, AreFaultsAlong}
use Rattle.fault_scripts.specs.Loops.{IsGathered, IsWhole, IsTableInOrder, IsSortedTable, AreSortedRows}
use Rattle.fault_scripts.specs.Outcomes.{IsCertificateOf, IsOutcome, DecidesSafety, AreShown}
use Rattle.fault_scripts.proofs.Certified.{no_table_fault, is_certificate}
use Rattle.fault_scripts.proofs.FaultsDue.{from_along}
use Rattle.fault_scripts.proofs.GoodRows.{certificate}
use Rattle.fault_scripts.proofs.Limits.{frames_few}
use Rattle.fault_scripts.proofs.NoneSafe.{none_due, none_safe}
use Rattle.fault_scripts.proofs.Shown.{faults_shown}
use Rattle.fault_scripts.proofs.Sound.{IsSound, sound}
use Rattle.fault_scripts.proofs.Reported.{all_reported}

-- a list that is tested to be empty, or not to be
pub none_reported : {X : Type 0} (xs ys : List X) (b : Bool) → ys ≡ xs → b ≡ eqb (length ys) 0 → b ≡ true → xs ≡ []
none_reported xs ys b same test passes =
    let is : eqb (length ys) 0 ≡ true = sym test ∙ passes in
    sym same ∙ nil_from_length ys (grind (arith, nat_tests))

pub some_reported : {X : Type 0} (xs ys : List X) (b : Bool) → ys ≡ xs → b ≡ eqb (length ys) 0 → b ≡ false → xs ≢ []
some_reported xs ys b same test fails none =
    let is : eqb (length ys) 0 ≡ false = sym test ∙ fails in
    let nothing : length ys ≡ 0 = ap length (same ∙ none) in
    absurd (grind (arith, nat_tests))

module _ (base : BaseView) (policy : Policy) (j : Judge) (whole : IsWhole base policy j) where
  -- what was reported is all
  pub reported_along : AreFaultsAlong base policy j.reporter.faults.items
  reported_along = record {
    found = whole.found;
    finding = whole.judged.reporting.finding;
    due = all_reported base policy whole.found whole.judged.reporting.finding j.reporter.faults.items whole.judged.reporting.reported;
  }

  module _ (entry : EntryIsFound policy.groups base) (none : j.reporter.faults.items ≡ []) where
    abbrev found : List Discovered
    found = whole.found

    abbrev finding : IsFinding policy.groups base found
    finding = whole.judged.reporting.finding

    abbrev none_along : AreFaultsAlong base policy []
    none_along = record {
      found = found;
      finding = finding;
      due = subst (AreDue base policy found) none (all_reported base policy found finding j.reporter.faults.items whole.judged.reporting.reported);
    }

    sounds : (i : ℕ) (d : Discovered) → slice_get found i ≡ Some d → IsSound base policy d
    sounds = sound base policy found finding (none_due base policy none_along)

    gathered : IsGathered base found j.table
    gathered = subst (λ (f : List Discovered). IsGathered base f j.table) (take_all (length found) found (omega arith)) whole.judged.gathered

    small : length found ≤ 65535
    small = omega (arith, finding.few, frames_few base whole.valid)

    pub in_order_table : IsTableInOrder j.table.rows.items
    in_order_table rows s =
        no_table_fault base policy found finding entry small sounds j.table.ceiling j.table.keyings gathered.ceiling gathered.keyings rows (subst (λ (l : List Row). AreSortedRows l rows) gathered.rows s)

    pub certified_by : (cert : CertView) → IsSortedTable base policy.groups j.table cert
        → IsOutcome base policy (Certified cert)
    certified_by cert t =
        let is = is_certificate base policy found finding entry small sounds j.table.ceiling j.table.keyings gathered.ceiling gathered.keyings cert.rows (subst (λ (l : List Row). AreSortedRows l cert.rows) gathered.rows t.rows) in
        let same : cert ≡ certificate base j.table.ceiling j.table.keyings policy.groups cert.rows =
        ap (λ (e : ℕ). record { entry = e; ceiling = cert.ceiling; keyings = cert.keyings; groups = cert.groups; rows = cert.rows }) t.entry
        ∙ ap (λ (p : ℕ). certificate base p cert.keyings cert.groups cert.rows) t.ceiling
        ∙ ap (λ (k : ℕ). certificate base j.table.ceiling k cert.groups cert.rows) t.keyings
        ∙ ap (λ (g : List ℕ). certificate base j.table.ceiling j.table.keyings g cert.rows) t.groups in
        (from_along base policy entry.0 [] entry.1 none_along, subst (IsCertificateOf base policy) (sym same) is)

module _ (base : BaseView) (policy : Policy) (valid : IsBase base) where
  decided : (o : Outcome) → IsOutcome base policy o → DecidesSafety base policy o
  decided (Certified cert) is = (none_safe base policy [] valid.apart is.0).0 refl
  decided (Faulty faults) is = λ safe. is.1 ((none_safe base policy faults valid.apart is.0).1 safe)

  shown : (o : Outcome) → IsOutcome base policy o → AreShown base policy o
  shown (Certified cert) is = tt
  shown (Faulty faults) is = λ fault reported. faults_shown base policy faults fault is.0 reported

  pub if_decided : {E : Type 0} (r : Result Outcome E) → IfOk r (IsOutcome base policy)
      → IfOk r (DecidesSafety base policy)
  if_decided (Ok o) is = decided o is
  if_decided (Err e) is = is

  pub if_shown : {E : Type 0} (r : Result Outcome E) → IfOk r (IsOutcome base policy) → IfOk r (AreShown base policy)
  if_shown (Ok o) is = shown o is
  if_shown (Err e) is = is
