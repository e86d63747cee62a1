-- What calls return.
use Rattle.std.proofs.Common.{◌≡◌, ℕ, Bool, true, false, cond, List, ◌++◌, None, Result, Ok, Err, refl, sym, ap, subst, ◌∙◌}
use Rattle.std.specs.Prelude.{IfOk, IfErr, OnOk}
use Rattle.cert_table.specs.Table.{CertView}
use Rattle.cert_text.specs.declared.fault.LineCause.TheVariants as causes
use Rattle.cert_text.specs.declared.fault.ReadFault.{ReadFault}
use Rattle.cert_text.specs.declared.fault.ReadFault.TheVariants as read
use Rattle.cert_text.specs.Grammar.{IsCertificateText}
use Rattle.frame_records.specs.Steps.{◌>>=◌}
use Rattle.cert_text.specs.Reading.{Reading, Fault, reading_start, due_number, is_over, reading_after, ended, certificate_of, reading, reading_fault, certificate_fault, Gives, Refuses, Answers, ReaderView, HasRead, lasting}
use Rattle.cert_text.specs.Loops.{TakesBytes}
use Rattle.cert_text.proofs.Found.{found}
use Rattle.cert_text.proofs.Only.{only, run_append}

pub is_found : (bytes : List ℕ) (r : Result CertView ReadFault) → Gives (λ c. c) r (reading bytes)
    → IfOk r (λ c. IsCertificateText bytes c)
is_found bytes (Ok c) given = found bytes c given
is_found bytes (Err e) given = tt

pub is_only : (bytes : List ℕ) (r : Result CertView ReadFault) (c : CertView) → IsCertificateText bytes c
    → Gives (λ d. d) r (reading bytes) → Gives (λ d. d) r (Ok c)
is_only bytes r c is given = subst (Gives (λ d. d) r) (ap reading is.spelled ∙ only c is.valid) given

answers_of : {A : Type 0} (e : ReadFault) (r : Result A Fault) → Refuses e r → Answers e (reading_fault r)
answers_of read.Memory r h = tt
answers_of read.Failed r h = absurd h
answers_of (read.Line n cause) r h = ap reading_fault h

pub is_fault : (bytes : List ℕ) (r : Result CertView ReadFault) → Gives (λ c. c) r (reading bytes)
    → IfErr r (λ e. Answers e (certificate_fault bytes))
is_fault bytes (Ok c) given = tt
is_fault bytes (Err e) given = answers_of e (reading bytes) given

-- ---- a piece of a stream

over_run : (stream piece : List ℕ) (s : Reading) → reading_after reading_start stream ≡ Ok s → reading_after reading_start (stream ++ piece) ≡ reading_after s piece
over_run stream piece s so_far =
    run_append reading_start stream piece ∙ ap (λ (r : Result Reading Fault). r >>= λ t. reading_after t piece) so_far

pub stream_ok : (r : Result (Unit {0}) ReadFault) (old new : ReaderView) (stream piece : List ℕ) → HasRead old stream
    → TakesBytes r new.reading (reading_after old.reading piece) → OnOk r (new.failed ≡ false) → OnOk r (HasRead new (stream ++ piece))
stream_ok (Ok x) old new stream piece h reads going =
    record { going = going; so_far = over_run stream piece old.reading h.so_far ∙ reads }
stream_ok (Err e) old new stream piece h reads going = tt

ended_none : (b : Bool) (c : CertView) (n : ℕ) → lasting (reading_fault (cond b (Ok c) (Err (n, causes.Truncated)))) ≡ None
ended_none true c n = refl
ended_none false c n = refl

pub stream_none : (r : Result (Unit {0}) ReadFault) (old new : ReaderView) (stream piece : List ℕ) → HasRead old stream
    → TakesBytes r new.reading (reading_after old.reading piece) → OnOk r (lasting (certificate_fault (stream ++ piece)) ≡ None)
stream_none (Ok x) old new stream piece h reads =
    ap (λ (r : Result Reading Fault). lasting (reading_fault (r >>= ended)))
    (over_run stream piece old.reading h.so_far ∙ reads)
    ∙ ended_none (is_over new.reading.stage) (certificate_of new.reading.said)
    (due_number new.reading.stage new.reading.said)
stream_none (Err e) old new stream piece h reads = tt

fault_lasts : (e : ReadFault) (s : Reading) (stream piece : List ℕ) → reading_after reading_start stream ≡ Ok s → Refuses e (reading_after s piece)
    → Answers e (lasting (reading_fault (reading_after s piece))) → Answers e (lasting (certificate_fault (stream ++ piece)))
fault_lasts read.Memory s stream piece so_far h lasts = tt
fault_lasts read.Failed s stream piece so_far h lasts = absurd h
fault_lasts (read.Line n cause) s stream piece so_far h lasts =
    ap (λ (r : Result Reading Fault). lasting (reading_fault (r >>= ended))) (over_run stream piece s so_far ∙ h)
    ∙ sym (ap (λ (r : Result Reading Fault). lasting (reading_fault r)) h) ∙ lasts

pub stream_fault : (r : Result (Unit {0}) ReadFault) (old new : ReaderView) (stream piece : List ℕ)
    → HasRead old stream → TakesBytes r new.reading (reading_after old.reading piece)
    → IfErr r (λ e. Answers e (lasting (certificate_fault (stream ++ piece))))
stream_fault (Ok x) old new stream piece h reads = tt
stream_fault (Err e) old new stream piece h reads =
    fault_lasts e old.reading stream piece h.so_far reads.0 reads.1
