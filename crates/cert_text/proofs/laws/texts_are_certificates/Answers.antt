use Rattle.std.proofs.Common.{ap, sym, ◌∙◌}
use Rattle.cert_text.specs.Reading.{reading}
use Rattle.cert_text.proofs.Found.{found}
use Rattle.cert_text.proofs.Only.{only, one_certificate, no_prefix, run_append}
use Rattle.cert_text.proofs.laws.texts_are_certificates.Goals as goal

pub returns : goal.returns
returns c = record {
  one_text = λ v a b p q. p.spelled ∙ sym q.spelled;
  one_certificate = one_certificate;
  no_prefix = no_prefix;
  no_fault = λ bytes v. (found bytes v, λ is. ap reading is.spelled ∙ only v is.valid);
  pieces = run_append _;
}
