-- The headline of texts and of files.
use Rattle.std.proofs.Common.{◌≤◌, ℕ, List}
use Rattle.frame_records.specs.Bases.{BaseView}
use Rattle.cert_table.specs.Table.{CertView}
use Rattle.checker.specs.declared.policy.Policy.{Policy}
use Rattle.checker.specs.Safe.{Safe}
use Rattle.checker.specs.Headline.{Headline}
use Rattle.pageaudit.specs.Files.{Device, WasRead}
use Rattle.pageaudit.specs.CheckRun.{HoldsOfFiles}
use Rattle.promises.specs.Headlines.{IsKeptByPolicy, HoldsOfTexts, IsAllOf, HoldsOfBothFiles}
use Rattle.promises.proofs.Kept.{kept_from_entry}

pub of_texts : (base_text cert_text : List ℕ) (policy : Policy) → Headline base_text cert_text policy → HoldsOfTexts base_text cert_text policy
of_texts base_text cert_text policy h = record {
  base = h.base;
  cert = h.cert;
  of_base = h.of_base;
  of_cert = h.of_cert;
  kept = record { kept = kept_from_entry _ h.base h.cert.ceiling h.cert.keyings h.safe; ceiling = h.ceiling; keyings = h.keyings };
}

pub all_of : (limit : ℕ) (d : Device) (text : List ℕ) → WasRead limit d text → IsAllOf d text
all_of limit d text h = record { given = h.so_far.given; all = h.whole; unbroken = h.so_far.unbroken }

pub of_files : (base_file cert_file : Device) (policy : Policy) → HoldsOfFiles base_file cert_file policy → HoldsOfBothFiles base_file cert_file policy
of_files base_file cert_file policy h = record {
  base_text = h.base_text;
  cert_text = h.cert_text;
  base_read = all_of _ base_file h.base_text h.base_read;
  cert_read = all_of _ cert_file h.cert_text h.cert_read;
  holds = of_texts h.base_text h.cert_text policy h.holds;
}

pub of_values : (base : BaseView) (cert : CertView) (policy : Policy) → Safe policy.groups base cert.ceiling cert.keyings → (cert.ceiling ≤ policy.ceiling) × (cert.keyings ≤ policy.keyings) → IsKeptByPolicy base cert policy
of_values base cert policy safe within = record { kept = kept_from_entry _ base cert.ceiling cert.keyings safe; ceiling = within.0; keyings = within.1 }
