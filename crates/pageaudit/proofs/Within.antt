-- How much was read of a file, whatever the result.
use Rattle.std.proofs.Common.{◌<◌, ℕ, List, [], Err, ◌++◌, arith, length-append}
use Rattle.std.proofs.KnownBytes.{Consumes-nil, Consumes-kept, Consumes-trans}
use Rattle.devices.specs.Devices.{Seen}
use Rattle.frame_records.specs.Bases.{BaseView}
use Rattle.cert_table.specs.Table.{CertView}
use Rattle.cert_text.specs.declared.fault.ReadFault.{ReadFault}
use Rattle.cert_text.specs.Reading.{ReaderView, HasRead}
use Rattle.pageaudit.specs.declared.file_fault.FileFault.{FileFault}
use Rattle.pageaudit.specs.declared.file_fault.FileFault.TheVariants as file
use Rattle.pageaudit.specs.Files.{Device, device, IsUntouched, base_limit, cert_limit, IsTextOfFile, IsBaseOfFile, IsCertOfFile, IsReadWithin}
use Rattle.pageaudit.specs.Loops.{IsCertFileFault, IsPieceTaken, IsBeingFed}

pub untouched_within : (limit : ℕ) (d : Device) → IsUntouched d → IsReadWithin limit d
untouched_within limit d h = record { bytes = []; within = omega (arith); given = Consumes-kept d.before.bytes d.before.bytes d.after.bytes [] (Consumes-nil d.before.bytes) h.kept; unbroken = h.unbroken }

pub base_within : (d : Device) (base : BaseView) → IsBaseOfFile d base → IsReadWithin base_limit d
base_within d base h = let so_far = h.read.so_far in record { bytes = h.text; within = so_far.within; given = so_far.given; unbroken = so_far.unbroken }

pub text_within : (d : Device) (text : List ℕ) → IsTextOfFile d text → IsReadWithin base_limit d
text_within d text h = record { bytes = text; within = h.read.within; given = h.read.given; unbroken = h.read.unbroken }

pub cert_within : (d : Device) (cert : CertView) → IsCertOfFile d cert → IsReadWithin cert_limit d
cert_within d cert h = let so_far = h.read.so_far in record { bytes = h.text; within = so_far.within; given = so_far.given; unbroken = so_far.unbroken }

-- after bytes that a certificate's reader took
module _ {D : Type 0} (seen : D → Seen) (before middle after : D) (old new : ReaderView) (room : ℕ) (fed : IsBeingFed (device seen before middle) old room) (some : 0 < room) where
  after_fed : (fault : FileFault ReadFault) → IsPieceTaken room (device seen middle after) fed.text new (Err fault) → IsCertFileFault (device seen before after) fault
  after_fed (file.Text fault) h = record {
    text = fed.text ++ h.piece;
    read = record {
      within = omega (arith, length-append fed.text h.piece, fed.counted, h.within);
      given = Consumes-trans (seen before).bytes (seen middle).bytes (seen after).bytes fed.text h.piece fed.read.given h.given;
      unbroken = h.unbroken;
    };
    whole = λ early. absurd (h.lasting early);
    first = h.first;
  }
  after_fed file.Broken h = record {
    broken = record { bytes = fed.text; within = omega (arith, fed.counted, some); given = Consumes-kept (seen before).bytes (seen middle).bytes (seen after).bytes fed.text fed.read.given h.0; broken = h.1 };
    right = fed.right;
  }
  after_fed file.Memory h = record {
    bytes = fed.text ++ h.bytes;
    within = omega (arith, length-append fed.text h.bytes, fed.counted, h.within);
    given = Consumes-trans (seen before).bytes (seen middle).bytes (seen after).bytes fed.text h.bytes fed.read.given h.given;
    unbroken = h.unbroken;
  }

  pub fault_after : (fault : FileFault ReadFault) → ((stream : List ℕ) → HasRead old stream → IsPieceTaken room (device seen middle after) stream new (Err fault)) → IsCertFileFault (device seen before after) fault
  fault_after fault taken = after_fed fault (taken fed.text fed.taken)
