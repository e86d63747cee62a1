-- What an audit's answer, and a lint without an error, say of a base.
use Rattle.std.specs.Prelude.{◌≡◌, ◌≢◌, ℕ, List, [], Contains}
use Rattle.frame_records.specs.Bases.{BaseView}
use Rattle.base_text.specs.Whole.{IsTextBase}
use Rattle.checker.specs.declared.policy.Policy.{Policy}
use Rattle.checker.specs.declared.verdict.Verdict.TheVariants.{Cleared}
use Rattle.checker.specs.Safe.{Safe}
use Rattle.checker.specs.Verdict.{verdict}
use Rattle.base_faults.specs.declared.fault.Fault.{Fault}
use Rattle.fault_scripts.specs.declared.outcome.Outcome.{Outcome}
use Rattle.fault_scripts.specs.declared.outcome.Outcome.TheVariants.{Certified, Faulty}
use Rattle.fault_scripts.specs.Shows.{Shows}
use Rattle.promises.specs.Kept.{IsKeptFromEntry}

-- a certificate, which the check clears, only of a base that is kept within the policy; faults, at least one and each shown by its
-- script, only of a base that isn't safe within it
abbrev pub IsAuditAnswer : BaseView → Policy → Outcome → Type 0
IsAuditAnswer base policy (Certified cert) =
    IsKeptFromEntry policy.groups base policy.ceiling policy.keyings × (verdict base policy cert ≡ Cleared)
IsAuditAnswer base policy (Faulty faults) =
    (Safe policy.groups base policy.ceiling policy.keyings → ⊥) × (faults ≢ []) × ((fault : Fault) → Contains faults fault → Shows base policy fault)

-- the text means a base that is safe within the policy
abbrev pub IsSafeText : List ℕ → Policy → Type 0
IsSafeText text policy = (base : BaseView) × IsTextBase text base × Safe policy.groups base policy.ceiling policy.keyings
