-- What the audit answers, for a caller of exactly the policy's groups.
use Rattle.std.specs.Prelude.{◌≡◌, ◌≢◌, ◌≤◌, ◌↔◌, ℕ, true, List, [], Some, Contains}
use Rattle.page_ids.specs.Ids.{Id}
use Rattle.frame_records.specs.declared.frame.Frame.{Frame}
use Rattle.frame_records.specs.Bases.{BaseView, frame_at}
use Rattle.abstract_paint.specs.Paint.{Ends}
use Rattle.cert_table.specs.declared.row.Row.{Row}
use Rattle.cert_table.specs.Table.{AreRows, CertView}
use Rattle.checker.specs.declared.policy.Policy.{Policy}
use Rattle.checker.specs.declared.verdict.Verdict.TheVariants.{Cleared}
use Rattle.checker.specs.Good.{is_row_of}
use Rattle.checker.specs.Safe.{Safe}
use Rattle.checker.specs.Verdict.{verdict}
use Rattle.finder.specs.Finds.{IsReached, IsDistance}
use Rattle.base_faults.specs.declared.fault.Fault.{Fault}
use Rattle.fault_scripts.specs.declared.outcome.Outcome.{Outcome}
use Rattle.fault_scripts.specs.declared.outcome.Outcome.TheVariants.{Certified, Faulty}
use Rattle.fault_scripts.specs.Faults.{AreFaults}
use Rattle.fault_scripts.specs.Shows.{Shows}

-- the ceiling is the greatest price of a covered frame
pub record IsGreatestPrice (base : BaseView) (rows : List Row) (ceiling : ℕ) : Type 0 where
  pub at_most : (id : Id) (frame : Frame) → is_row_of rows id ≡ true → frame_at base id ≡ Some frame
      → frame.price ≤ ceiling
  pub some : (id : Id) × (frame : Frame) × (is_row_of rows id ≡ true) × (frame_at base id ≡ Some frame) × (frame.price ≡ ceiling)

-- the keyings are the greatest rank of a row
pub record IsGreatestRank (rows : List Row) (keyings : ℕ) : Type 0 where
  pub at_most : (row : Row) → Contains rows row → row.rank ≤ keyings
  pub some : (row : Row) × Contains rows row × (row.rank ≡ keyings)

-- the certificate has the policy's groups, and exactly the reached frames as rows, each with its distance to the entry frame and
-- its ends; it costs and ranks no more than it must; and the check clears it
pub record IsCertificateOf (base : BaseView) (policy : Policy) (cert : CertView) : Type 0 where
  pub entry : cert.entry ≡ base.entry
  pub groups : cert.groups ≡ policy.groups
  pub rows : AreRows cert.rows
  pub reached : (id : Id) → (is_row_of cert.rows id ≡ true) ↔ IsReached policy.groups base id
  pub ranks : (row : Row) → Contains cert.rows row → IsDistance policy.groups base row.id row.rank
  pub ends : (row : Row) (frame : Frame) → Contains cert.rows row → frame_at base row.id ≡ Some frame
      → Ends frame.lead frame.body row.cursor
  pub ceiling : IsGreatestPrice base cert.rows cert.ceiling
  pub keyings : IsGreatestRank cert.rows cert.keyings
  pub cleared : verdict base policy cert ≡ Cleared

-- all faults of a base that has some
abbrev pub AreAllFaults : BaseView → Policy → List Fault → Type 0
AreAllFaults base policy faults = AreFaults base policy faults × (faults ≢ [])

-- a certificate if and only if there is no fault, else all faults
abbrev pub IsOutcome : BaseView → Policy → Outcome → Type 0
IsOutcome base policy (Certified cert) = AreFaults base policy [] × IsCertificateOf base policy cert
IsOutcome base policy (Faulty faults) = AreAllFaults base policy faults

-- Certified says that the base is safe within the policy, and Faulty that it isn't
abbrev pub DecidesSafety : BaseView → Policy → Outcome → Type 0
DecidesSafety base policy (Certified cert) = Safe policy.groups base policy.ceiling policy.keyings
DecidesSafety base policy (Faulty faults) = Safe policy.groups base policy.ceiling policy.keyings → ⊥

-- each fault that is reported is borne out by its script
abbrev pub AreShown : BaseView → Policy → Outcome → Type 0
AreShown base policy (Certified cert) = Unit {0}
AreShown base policy (Faulty faults) = (fault : Fault) → Contains faults fault → Shows base policy fault

-- an outcome that an audit may have: a certificate that the check clears, of a base that is safe for the policy's groups; or
-- all faults of a base that isn't, each shown by its script
pub record IsOutcomeOf (base : BaseView) (policy : Policy) (outcome : Outcome) : Type 0 where
  pub is : IsOutcome base policy outcome
  pub safety : DecidesSafety base policy outcome
  pub shown : AreShown base policy outcome
