-- Runs of the check of a change, by what its files gave and by what was written.
use Rattle.std.proofs.Common.{◌≡◌, false, Result, Ok, Err, refl, sym, subst}
use Rattle.std.proofs.KnownBytes.{Keeps-refl}
use Rattle.devices.specs.Devices.{Seen}
use Rattle.frame_records.specs.Bases.{BaseView}
use Rattle.cert_table.specs.Table.{CertView}
use Rattle.checker.specs.declared.policy.Policy.{Policy}
use Rattle.checker.specs.declared.change.ChangeVerdict.{ChangeVerdict}
use Rattle.checker.specs.declared.change.ChangeVerdict.TheVariants as change
use Rattle.checker.specs.Change.{change_verdict, IsSafeChange}
use Rattle.audit_report.specs.declared.run_fault.RunFault.{RunFault}
use Rattle.audit_report.specs.Statuses.{status_of_change}
use Rattle.audit_report.specs.declared.status.Status.{Status}
use Rattle.audit_report.specs.declared.status.Status.TheVariants.{Clear}
use Rattle.pageaudit.specs.declared.file_fault.FileFault.TheVariants as file
use Rattle.pageaudit.specs.declared.edition.EditionFault.{EditionFault}
use Rattle.pageaudit.specs.declared.edition.EditionFault.TheVariants as edition
use Rattle.pageaudit.specs.Files.{Device, device, IsUntouched, base_limit, cert_limit}
use Rattle.pageaudit.proofs.Within.{untouched_within, base_within, cert_within}
use Rattle.pageaudit.proofs.Runs.{by_answer}
use Rattle.pageaudit.specs.Loops.{old_fault, new_fault, IsEditionFault}
use Rattle.pageaudit.specs.ChangeRun.{EditionFiles, IsEditionOf, AreUntouched, AreReadWithin, IsOfEditions, IsVerdictWritten, IsChangeRun, HoldsOfChange}

-- a device that was not called
pub untouched : {D : Type 0} (seen : D → Seen) (d : D) → (seen d).failed ≡ false → IsUntouched (device seen d d)
untouched seen d unbroken = record { kept = Keeps-refl (seen d).bytes; unbroken = unbroken; unflushed = refl }

files_within : (files : EditionFiles) → AreUntouched files → AreReadWithin files
files_within files h = (untouched_within base_limit files.base h.0, untouched_within cert_limit files.cert h.1)

edition_within : (files : EditionFiles) (base : BaseView) (cert : CertView) → IsEditionOf files base cert → AreReadWithin files
edition_within files base cert read = (base_within files.base base read.base_read, cert_within files.cert cert read.cert_read)

module _ (old_files new_files : EditionFiles) (out : Device) (policy : Policy) where
  abbrev IsFault : RunFault → Type 0
  IsFault fault = IsChangeRun old_files new_files out policy (Err fault)

  old_failed : (fault : EditionFault) → IsEditionFault old_files fault → AreUntouched new_files → IsUntouched out → IsFault (old_fault fault)
  old_failed (edition.Base (file.Text fault)) h new nothing = (h.0, h.1, new, nothing)
  old_failed (edition.Base file.Broken) h new nothing = (h.0, h.1, new, nothing)
  old_failed (edition.Base file.Memory) h new nothing = ((h.0, untouched_within cert_limit old_files.cert h.1), files_within new_files new, nothing)
  old_failed (edition.Cert (file.Text fault)) h new nothing = record { base = h.0; base_read = h.1; why = (h.2, new); nothing = nothing }
  old_failed (edition.Cert file.Broken) h new nothing = record { base = h.0; base_read = h.1; why = (h.2, new); nothing = nothing }
  old_failed (edition.Cert file.Memory) h new nothing = ((base_within old_files.base h.0 h.1, h.2), files_within new_files new, nothing)

  -- the old edition's files gave none
  pub old_files_failed : (fault : EditionFault) (answer : RunFault) → answer ≡ old_fault fault → IsEditionFault old_files fault → AreUntouched new_files → IsUntouched out → IsFault answer
  old_files_failed fault answer is h new nothing = subst IsFault (sym is) (old_failed fault h new nothing)

  module _ (old : BaseView) (old_cert : CertView) (old_read : IsEditionOf old_files old old_cert) where
    new_failed : (fault : EditionFault) → IsEditionFault new_files fault → IsUntouched out → IsFault (new_fault fault)
    new_failed (edition.Base (file.Text fault)) h nothing = record { old = old; old_cert = old_cert; old_read = old_read; why = (h.0, h.1); nothing = nothing }
    new_failed (edition.Base file.Broken) h nothing = record { old = old; old_cert = old_cert; old_read = old_read; why = (h.0, h.1); nothing = nothing }
    new_failed (edition.Base file.Memory) h nothing = (edition_within old_files old old_cert old_read, (h.0, untouched_within cert_limit new_files.cert h.1), nothing)
    new_failed (edition.Cert (file.Text fault)) h nothing = record { old = old; old_cert = old_cert; old_read = old_read; why = record { base = h.0; base_read = h.1; why = h.2; nothing = nothing }; nothing = nothing }
    new_failed (edition.Cert file.Broken) h nothing = record { old = old; old_cert = old_cert; old_read = old_read; why = record { base = h.0; base_read = h.1; why = h.2; nothing = nothing }; nothing = nothing }
    new_failed (edition.Cert file.Memory) h nothing = (edition_within old_files old old_cert old_read, (base_within new_files.base h.0 h.1, h.2), nothing)

    -- the old edition is whole, and the new edition's files gave none
    pub new_files_failed : (fault : EditionFault) (answer : RunFault) → answer ≡ new_fault fault → IsEditionFault new_files fault → IsUntouched out → IsFault answer
    new_files_failed fault answer is h nothing = subst IsFault (sym is) (new_failed fault h nothing)

    module _ (new : BaseView) (new_cert : CertView) (new_read : IsEditionOf new_files new new_cert) where
      of_editions : {What : BaseView → CertView → BaseView → CertView → Type 0} → What old old_cert new new_cert → IsOfEditions old_files new_files What
      of_editions what = record { old = old; old_cert = old_cert; new = new; new_cert = new_cert; old_read = old_read; new_read = new_read; what = what }

      written_run : (r : Result Status RunFault) → IsVerdictWritten out r (change_verdict policy old old_cert new new_cert) → IsChangeRun old_files new_files out policy r
      written_run =
          by_answer out _ _ (IsChangeRun old_files new_files out policy)
          (λ s w. of_editions w)
          (λ wrote w. of_editions w)
          (λ w. (edition_within old_files old old_cert old_read, edition_within new_files new new_cert new_read, w))

      cleared_is : (v : ChangeVerdict) → Clear ≡ status_of_change v → v ≡ change.Cleared
      cleared_is change.Cleared e = refl
      cleared_is (change.Old cause) e = absurd cc
      cleared_is (change.New cause) e = absurd cc
      cleared_is change.EntryMoved e = absurd cc
      cleared_is (change.NoLongerCovered id) e = absurd cc

      -- a verdict and its line
      module _ (v : ChangeVerdict) (is : v ≡ change_verdict policy old old_cert new new_cert) (r : Result Status RunFault) (w : IsVerdictWritten out r v) where
        pub change_run : IsChangeRun old_files new_files out policy r
        change_run = written_run r (subst (IsVerdictWritten out r) is w)

        clear_status : (r : Result Status RunFault) → IsVerdictWritten out r v → r ≡ Ok Clear → Clear ≡ status_of_change v
        clear_status (Ok s) written e = subst (λ (x : Status). x ≡ status_of_change v) (ok_is s e) written.1 where
          ok_is : (s : Status) → ◌≡◌ {A = Result Status RunFault} (Ok s) (Ok Clear) → s ≡ Clear
          ok_is s e = cc
        clear_status (Err fault) written e = absurd cc

        pub change_holds : (v ≡ change.Cleared → IsSafeChange policy old old_cert new new_cert) → r ≡ Ok Clear → HoldsOfChange old_files new_files policy
        change_holds safe clear = of_editions (safe (cleared_is v (clear_status r w clear)))
