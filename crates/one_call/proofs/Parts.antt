-- One byte more, and other editions.
use Rattle.std.proofs.Common.{◌≡◌, ℕ, refl, ap, sym, subst, ◌∙◌, false, List, [], ◌∷◌, ◌++◌, append_assoc, append-nil}
use Rattle.frame_records.specs.Bases.{BaseView}
use Rattle.editions.specs.Folders.{SeenFolder}
use Rattle.edition_checks.specs.declared.served.Served.{Served}
use Rattle.edition_checks.specs.NextEditions.{IsNextEdition, AreNext, latest_of}
use Rattle.served_bytes.specs.Sent.{sent_bytes}
use Rattle.one_call.specs.Turns.{CallView, begun_call, turn, call_after, answers_to, first_bytes}
use Rattle.one_call.specs.Parts.{Parts, First, Then, served_now, heard_in, call_over, call_bytes, AreHeard}
use Rattle.edition_checks.specs.Served.{IfHeld}
use Rattle.one_call.specs.Opened.{AreServed, MayChange}
use Rattle.one_call.proofs.Renewed.{may_change}
use Rattle.one_call.proofs.Turns.{after_append, answers_append, heard_one}

-- Other editions, the latest first, without bytes.

abbrev pub over_editions : Parts → List Served → Parts
over_editions parts [] = parts
over_editions parts (s ∷ earlier) = Then (over_editions parts earlier) s []

pub now_over : (parts : Parts) (editions : List Served) → served_now (over_editions parts editions) ≡ latest_of (served_now parts) editions
now_over parts [] = refl
now_over parts (s ∷ earlier) = refl

pub call_over_same : (groups : List ℕ) (parts : Parts) (editions : List Served) → call_over groups (over_editions parts editions) ≡ call_over groups parts
call_over_same groups parts [] = refl
call_over_same groups parts (s ∷ earlier) = call_over_same groups parts earlier

pub bytes_same : (groups : List ℕ) (parts : Parts) (editions : List Served) → call_bytes groups (over_editions parts editions) ≡ call_bytes groups parts
bytes_same groups parts [] = refl
bytes_same groups parts (s ∷ earlier) = append-nil (call_bytes groups (over_editions parts earlier)) ∙ bytes_same groups parts earlier

pub heard_same : (parts : Parts) (editions : List Served) → heard_in (over_editions parts editions) ≡ heard_in parts
heard_same parts [] = refl
heard_same parts (s ∷ earlier) = append-nil (heard_in (over_editions parts earlier)) ∙ heard_same parts earlier

pub are_heard_over : (groups : List ℕ) (parts : Parts) (editions : List Served) → AreHeard groups parts → AreHeard groups (over_editions parts editions)
are_heard_over groups parts [] h = h
are_heard_over groups parts (s ∷ earlier) h = (are_heard_over groups parts earlier h, tt)

served_if : (groups : List ℕ) (folder : SeenFolder) (parts : Parts) (editions : List Served) → AreServed groups folder parts → AreNext folder (served_now parts) editions → MayChange folder → AreServed groups folder (over_editions parts editions)
served_if groups folder parts [] h next may = h
served_if groups folder parts (s ∷ earlier) h next may =
    (served_if groups folder parts earlier h next.1 may, subst (λ (old : Served). IsNextEdition folder old s) (sym (now_over parts earlier)) next.0, may)

pub served_over : (groups : List ℕ) (folder : SeenFolder) (parts : Parts) (editions : List Served) → AreServed groups folder parts → AreNext folder (served_now parts) editions → IfHeld folder (λ f. editions ≡ [])
    → AreServed groups folder (over_editions parts editions)
served_over groups folder parts [] h next alone = h
served_over groups folder parts (s ∷ earlier) h next alone = served_if groups folder parts (s ∷ earlier) h next (may_change folder s earlier alone)

-- One byte more.

abbrev pub with_byte : Parts → ℕ → Parts
with_byte (First s bytes) b = First s (bytes ++ b ∷ [])
with_byte (Then before s bytes) b = Then before s (bytes ++ b ∷ [])

pub now_byte : (parts : Parts) (b : ℕ) → served_now (with_byte parts b) ≡ served_now parts
now_byte (First s bytes) b = refl
now_byte (Then before s bytes) b = refl

pub call_byte : (groups : List ℕ) (parts : Parts) (b : ℕ) → call_over groups (with_byte parts b) ≡ (turn (served_now parts).base (call_over groups parts) b).0
call_byte groups (First s bytes) b = after_append s.base (begun_call groups s.base) bytes (b ∷ [])
call_byte groups (Then before s bytes) b = after_append s.base (call_over groups before) bytes (b ∷ [])

-- the answer to it
answer_one : (base : BaseView) (c : CallView) (bytes : List ℕ) (b : ℕ) (first : List ℕ)
    → first ++ answers_to base c (bytes ++ b ∷ []) ≡ (first ++ answers_to base c bytes) ++ sent_bytes (call_after base c bytes).caret (turn base (call_after base c bytes) b).1
answer_one base c bytes b first =
    let answers = answers_to base c bytes in
    let last = sent_bytes (call_after base c bytes).caret (turn base (call_after base c bytes) b).1 in
    ap (λ (bs : List ℕ). first ++ bs) (answers_append base c bytes (b ∷ []) ∙ ap (λ (bs : List ℕ). answers ++ bs) (append-nil last))
    ∙ sym (append_assoc first answers last)

pub bytes_byte : (groups : List ℕ) (parts : Parts) (b : ℕ)
    → call_bytes groups (with_byte parts b) ≡ call_bytes groups parts ++ sent_bytes (call_over groups parts).caret (turn (served_now parts).base (call_over groups parts) b).1
bytes_byte groups (First s bytes) b = answer_one s.base (begun_call groups s.base) bytes b (first_bytes s.base)
bytes_byte groups (Then before s bytes) b = answer_one s.base (call_over groups before) bytes b (call_bytes groups before)

pub heard_byte : (parts : Parts) (b : ℕ) → heard_in (with_byte parts b) ≡ heard_in parts ++ b ∷ []
heard_byte (First s bytes) b = refl
heard_byte (Then before s bytes) b = sym (append_assoc (heard_in before) bytes (b ∷ []))

pub are_heard_byte : (groups : List ℕ) (parts : Parts) (b : ℕ) → AreHeard groups parts → (call_over groups parts).over ≡ false → AreHeard groups (with_byte parts b)
are_heard_byte groups (First s bytes) b h e = heard_one s.base (begun_call groups s.base) bytes b h e
are_heard_byte groups (Then before s bytes) b h e = (h.0, heard_one s.base (call_over groups before) bytes b h.1 e)

pub served_byte : (groups : List ℕ) (folder : SeenFolder) (parts : Parts) (b : ℕ) → AreServed groups folder parts → AreServed groups folder (with_byte parts b)
served_byte groups folder (First s bytes) b h = h
served_byte groups folder (Then before s bytes) b h = h
