use Rattle.std.proofs.Common.{Ok}
use Rattle.cert_text.proofs.Outcomes.{is_found}
use Rattle.pageaudit.proofs.input.read_cert.Goals as goal

-- a text that is read without a fault is the certificate's text
pub returns-in-Ok : goal.returns-in-Ok
returns-in-Ok g c =
    let fed = c.in_ok-feed_whole.ensures in
    record { text = fed.text; read = fed.read; is = is_found fed.text (Ok c.in-Ok.cert) (c.in-Ok.ensures.stream fed.text fed.taken) }
