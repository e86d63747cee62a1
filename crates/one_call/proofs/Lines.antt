-- What was read and written of a call, byte by byte.
use Rattle.std.proofs.Common.{◌≡◌, ◌≢◌, ℕ, ◌+◌, ◌≤◌, refl, ap, sym, ◌∙◌, subst, arith, false, List, [], ◌∷◌, ◌++◌, length, take, get_or, append-nil}
use Rattle.std.proofs.Math.Seq.{take-append-add}
use Rattle.std.specs.Prelude.{Err}
use Rattle.std.specs.Io.KnownBytes.{Appends, Consumes}
use Rattle.std.proofs.KnownBytes.{Appends-nil, Appends-trans, Consumes-nil, Consumes-trans}
use Rattle.frame_records.specs.declared.base.Sought.{Sought}
use Rattle.devices.specs.Devices.{Seen}
use Rattle.editions.specs.Folders.{SeenFolder, IsLater}
use Rattle.edition_checks.specs.declared.served.Served.{Served}
use Rattle.edition_checks.specs.NextEditions.{IsEditionReached, AreNext, latest_of}
use Rattle.edition_checks.proofs.Reached.{all_next_before}
use Rattle.served_bytes.specs.Sent.{sent_bytes}
use Rattle.one_call.specs.declared.fault.ServeFault.{ServeFault}
use Rattle.one_call.specs.declared.fault.ServeFault.TheVariants.{NotOpened, Read, Write, Memory}
use Rattle.one_call.specs.Turns.{CallView, turn, first_bytes}
use Rattle.one_call.specs.Parts.{Parts, First, served_now, heard_in, call_over, call_bytes}
use Rattle.one_call.specs.Opened.{AreServed}
use Rattle.one_call.specs.Lines.{IsSoFar, IsCutCall, IsLineServed}
use Rattle.one_call.proofs.Renewed.{none_alone}
use Rattle.one_call.specs.Loops.{IsEntryRefused, IsRenewed, IsWritten, IsBegunText, IsCutBy, IsBegun}
use Rattle.one_call.proofs.Parts.{over_editions, now_over, call_over_same, heard_same, bytes_same, are_heard_over, served_over, with_byte, call_byte, bytes_byte, heard_byte, are_heard_byte, served_byte}
use Rattle.one_call.proofs.Safe.{begins_safe}

-- The beginning.

pub so_far_none : (groups : List ℕ) (s : Served) (from old new : Seen) → IsWritten old new (first_bytes s.base) → IsSoFar groups from from old new (First s [])
so_far_none groups s from old new h = record {
  given = Consumes-nil from.bytes;
  heard = tt;
  written = subst (λ (bs : List ℕ). Appends old.bytes new.bytes bs) (sym (append-nil (first_bytes s.base))) h.taken;
}

-- a beginning of some bytes is one of more
front : (old new : Seen) (n : ℕ) (xs ys : List ℕ) → xs ≡ ys → Appends old.bytes new.bytes (take n xs) → Appends old.bytes new.bytes (take n ys)
front old new n xs ys e h = subst (λ (bs : List ℕ). Appends old.bytes new.bytes (take n bs)) e h

begin_cut : (groups : List ℕ) (folder : SeenFolder) (s : Served) (from old new : Seen) → AreServed groups folder (First s []) → IsBegunText old new (first_bytes s.base) → IsCutCall groups folder from from old new
begin_cut groups folder s from old new served h = record {
  parts = First s [];
  served = served;
  given = Consumes-nil from.bytes;
  heard = tt;
  n = h.n;
  written = front old new h.n (first_bytes s.base) (call_bytes groups (First s [])) (sym (append-nil (first_bytes s.base))) h.taken;
}

nothing_begun : (old new : Seen) (text : List ℕ) → new ≡ old → IsBegunText old new text
nothing_begun old new text e = record { n = 0; taken = subst (λ (s : Seen). Appends old.bytes s.bytes []) (sym e) (Appends-nil old.bytes) }

-- whatever stopped it: the entry frame of what is cleared is found
pub begin_stopped : (groups : List ℕ) (folder : SeenFolder) (s : Served) (from old new : Seen) (fault : ServeFault) → AreServed groups folder (First s []) → IsBegun groups s.base old new (Err fault)
    → IsLineServed groups folder from from old new (Err fault)
begin_stopped groups folder s from old new NotOpened served h = subst (λ (sought : Sought). IsEntryRefused sought) (begins_safe groups s [] served.0 served.1.fit).found h.0
begin_stopped groups folder s from old new Read served h = absurd h
begin_stopped groups folder s from old new Write served h = (h.0, begin_cut groups folder s from old new served h.1)
begin_stopped groups folder s from old new Memory served h = begin_cut groups folder s from old new served (nothing_begun old new (first_bytes s.base) h)

-- Other editions.

pub so_far_over : (groups : List ℕ) (from to old new : Seen) (parts : Parts) (editions : List Served) → IsSoFar groups from to old new parts → IsSoFar groups from to old new (over_editions parts editions)
so_far_over groups from to old new parts editions h = record {
  given = subst (λ (bs : List ℕ). Consumes from.bytes to.bytes bs) (sym (heard_same parts editions)) h.given;
  heard = are_heard_over groups parts editions h.heard;
  written = subst (λ (bs : List ℕ). Appends old.bytes new.bytes bs) (sym (bytes_same groups parts editions)) h.written;
}

-- One byte more.

-- what is known of a call before a byte that was read is heard
pub record IsToHear (groups : List ℕ) (from mid to old written : Seen) (parts : Parts) (s : Served) (c : CallView) (b : ℕ) : Type 0 where
  pub so_far : IsSoFar groups from mid old written parts
  pub now : s ≡ served_now parts
  pub call : c ≡ call_over groups parts
  pub goes_on : c.over ≡ false
  pub given : Consumes mid.bytes to.bytes (b ∷ [])

-- the editions between are those along which the one that is served now was reached
pub to_hear : (groups : List ℕ) (at : SeenFolder) (from mid to old written : Seen) (parts : Parts) (before s : Served) (c : CallView) (b : ℕ) (h : IsEditionReached at before s)
    → IsSoFar groups from mid old written parts → before ≡ served_now parts → c ≡ call_over groups parts → c.over ≡ false → Consumes mid.bytes to.bytes (b ∷ [])
    → IsToHear groups from mid to old written (over_editions parts h.editions) s c b
to_hear groups at from mid to old written parts before s c b h so_far now call goes_on given = record {
  so_far = so_far_over groups from mid old written parts h.editions so_far;
  now = h.is ∙ (ap (λ (x : Served). latest_of x h.editions) now ∙ sym (now_over parts h.editions));
  call = call ∙ sym (call_over_same groups parts h.editions);
  goes_on = goes_on;
  given = given;
}

pub served_more : (groups : List ℕ) (start at : SeenFolder) (parts : Parts) (before s : Served) (h : IsRenewed at before s)
    → AreServed groups start parts → before ≡ served_now parts → IsLater start at → AreServed groups start (over_editions parts h.reached.editions)
served_more groups start at parts before s h served now later =
    served_over groups start parts h.reached.editions served
    (subst (λ (x : Served). AreNext start x h.reached.editions) now (all_next_before start at before h.reached.editions later h.reached.next))
    (none_alone groups start at parts before s h served now later)

pub call_more : (groups : List ℕ) (parts : Parts) (s : Served) (c d : CallView) (b : ℕ) → s ≡ served_now parts → c ≡ call_over groups parts → d ≡ (turn s.base c b).0 → d ≡ call_over groups (with_byte parts b)
call_more groups parts s c d b now call is =
    is
    ∙ (ap (λ (x : Served). (turn x.base c b).0) now
    ∙ (ap (λ (x : CallView). (turn (served_now parts).base x b).0) call
    ∙ sym (call_byte groups parts b)))

over_false : (groups : List ℕ) (parts : Parts) (c : CallView) → c ≡ call_over groups parts → c.over ≡ false → (call_over groups parts).over ≡ false
over_false groups parts c e over = subst (λ (x : CallView). x.over ≡ false) e over

bytes_more : (groups : List ℕ) (parts : Parts) (s : Served) (c : CallView) (b : ℕ) → s ≡ served_now parts → c ≡ call_over groups parts
    → call_bytes groups (with_byte parts b) ≡ call_bytes groups parts ++ sent_bytes c.caret (turn s.base c b).1
bytes_more groups parts s c b now e =
    bytes_byte groups parts b
    ∙ (ap (λ (x : CallView). call_bytes groups parts ++ sent_bytes x.caret (turn (served_now parts).base x b).1) (sym e)
    ∙ ap (λ (x : Served). call_bytes groups parts ++ sent_bytes c.caret (turn x.base c b).1) (sym now))

given_more : (from mid to : Seen) (parts : Parts) (b : ℕ) → Consumes from.bytes mid.bytes (heard_in parts) → Consumes mid.bytes to.bytes (b ∷ []) → Consumes from.bytes to.bytes (heard_in (with_byte parts b))
given_more from mid to parts b before one =
    subst (λ (bs : List ℕ). Consumes from.bytes to.bytes bs) (sym (heard_byte parts b)) (Consumes-trans from.bytes mid.bytes to.bytes (heard_in parts) (b ∷ []) before one)

pub so_far_more : (groups : List ℕ) (from mid to old written new : Seen) (parts : Parts) (s : Served) (c : CallView) (b : ℕ)
    → IsToHear groups from mid to old written parts s c b → IsWritten written new (sent_bytes c.caret (turn s.base c b).1) → IsSoFar groups from to old new (with_byte parts b)
so_far_more groups from mid to old written new parts s c b h more = record {
  given = given_more from mid to parts b h.so_far.given h.given;
  heard = are_heard_byte groups parts b h.so_far.heard (over_false groups parts c h.call h.goes_on);
  written = subst (λ (bs : List ℕ). Appends old.bytes new.bytes bs) (sym (bytes_more groups parts s c b h.now h.call))
      (Appends-trans old.bytes written.bytes new.bytes (call_bytes groups parts) (sent_bytes c.caret (turn s.base c b).1) h.so_far.written more.taken);
}

-- an answer that was cut
cut_more : (groups : List ℕ) (folder : SeenFolder) (from mid to old written new : Seen) (parts : Parts) (s : Served) (c : CallView) (b : ℕ)
    → IsToHear groups from mid to old written parts s c b → AreServed groups folder parts → IsBegunText written new (sent_bytes c.caret (turn s.base c b).1) → IsCutCall groups folder from to old new
cut_more groups folder from mid to old written new parts s c b h served more =
    let before = call_bytes groups parts in
    let answer = sent_bytes c.caret (turn s.base c b).1 in
    record {
      parts = with_byte parts b;
      served = served_byte groups folder parts b served;
      given = given_more from mid to parts b h.so_far.given h.given;
      heard = are_heard_byte groups parts b h.so_far.heard (over_false groups parts c h.call h.goes_on);
      n = length before + more.n;
      written = front old new (length before + more.n) (before ++ answer) (call_bytes groups (with_byte parts b)) (sym (bytes_more groups parts s c b h.now h.call))
          (subst (λ (bs : List ℕ). Appends old.bytes new.bytes bs) (sym (take-append-add before answer more.n))
          (Appends-trans old.bytes written.bytes new.bytes before (take more.n answer) h.so_far.written more.taken));
    }

-- whatever cut it
pub cut_by : (groups : List ℕ) (folder : SeenFolder) (from mid to old written new : Seen) (parts : Parts) (s : Served) (c : CallView) (b : ℕ) (fault : ServeFault)
    → IsToHear groups from mid to old written parts s c b → AreServed groups folder parts → IsCutBy written new (sent_bytes c.caret (turn s.base c b).1) fault
    → IsLineServed groups folder from to old new (Err fault)
cut_by groups folder from mid to old written new parts s c b NotOpened h served cut = absurd cut
cut_by groups folder from mid to old written new parts s c b Read h served cut = absurd cut
cut_by groups folder from mid to old written new parts s c b Write h served cut = (cut.0, cut_more groups folder from mid to old written new parts s c b h served cut.1)
cut_by groups folder from mid to old written new parts s c b Memory h served cut =
    cut_more groups folder from mid to old written new parts s c b h served (nothing_begun written new (sent_bytes c.caret (turn s.base c b).1) cut)

-- Reads.

-- a read into one byte that gave something gave that byte
one_byte : (into : List ℕ) (n : ℕ) → length into ≡ 1 → n ≡ 1 → take n into ≡ get_or into 0 0 ∷ []
one_byte [] n long one = absurd (omega (arith, long))
one_byte (b ∷ bs) n long one = subst (λ (m : ℕ). take m (b ∷ bs) ≡ b ∷ []) (sym one) refl

pub given_one : (mid to : Seen) (into : List ℕ) (n : ℕ) → length into ≡ 1 → n ≤ length into → n ≢ 0 → Consumes mid.bytes to.bytes (take n into) → Consumes mid.bytes to.bytes (get_or into 0 0 ∷ [])
given_one mid to into n long most some h = subst (λ (bs : List ℕ). Consumes mid.bytes to.bytes bs) (one_byte into n long (omega (arith, long, most, some))) h
