-- Turns one after another.
use Rattle.std.proofs.Common.{◌≡◌, ℕ, refl, ap, sym, ◌∙◌, false, List, [], ◌∷◌, ◌++◌, append_assoc}
use Rattle.page_ids.specs.Ids.{Id}
use Rattle.frame_records.specs.Bases.{BaseView}
use Rattle.terminal_codes.specs.declared.caret.Caret.{Caret}
use Rattle.session_machine.specs.declared.reply.Reply.{Reply}
use Rattle.frame_screens.specs.Frames.{sent_by, sent_in}
use Rattle.served_bytes.specs.Sent.{Sending, Paints, Says, caret_after, sending_bytes, sent_bytes}
use Rattle.served_bytes.specs.Words.{sending_of, sendings_of}
use Rattle.served_bytes.specs.Seen.{frames_in, last_top, last_words}
use Rattle.one_call.specs.Turns.{CallView, turn, call_after, answers_to, AllHeard}
use Rattle.frame_screens.specs.Screens.{screen_codes}
use Rattle.one_call.specs.Safety.{top_after}

-- Calls.

pub after_append : (base : BaseView) (c : CallView) (xs ys : List ℕ) → call_after base c (xs ++ ys) ≡ call_after base (call_after base c xs) ys
after_append base c [] ys = refl
after_append base c (b ∷ xs) ys = after_append base (turn base c b).0 xs ys

pub answers_append : (base : BaseView) (c : CallView) (xs ys : List ℕ) → answers_to base c (xs ++ ys) ≡ answers_to base c xs ++ answers_to base (call_after base c xs) ys
answers_append base c [] ys = refl
answers_append base c (b ∷ xs) ys =
    let one = sent_bytes c.caret (turn base c b).1 in
    let next = (turn base c b).0 in
    ap (λ (bs : List ℕ). one ++ bs) (answers_append base next xs ys) ∙ sym (append_assoc one (answers_to base next xs) (answers_to base (call_after base next xs) ys))

pub heard_one : (base : BaseView) (c : CallView) (xs : List ℕ) (b : ℕ) → AllHeard base c xs → (call_after base c xs).over ≡ false → AllHeard base c (xs ++ b ∷ [])
heard_one base c [] b h e = (e, tt)
heard_one base c (x ∷ xs) b h e = (h.0, heard_one base (turn base c x).0 xs b h.1 e)

-- What is sent.

-- where the frames leave a terminal
abbrev pub caret_over : Caret → List Sending → Caret
caret_over p [] = p
caret_over p (s ∷ more) = caret_over (caret_after p s) more

pub caret_append : (p : Caret) (xs ys : List Sending) → caret_over p (xs ++ ys) ≡ caret_over (caret_over p xs) ys
caret_append p [] ys = refl
caret_append p (s ∷ xs) ys = caret_append (caret_after p s) xs ys

pub sent_append : (p : Caret) (xs ys : List Sending) → sent_bytes p (xs ++ ys) ≡ sent_bytes p xs ++ sent_bytes (caret_over p xs) ys
sent_append p [] ys = refl
sent_append p (s ∷ xs) ys =
    let next = caret_after p s in
    ap (λ (bs : List ℕ). sending_bytes p s ++ bs) (sent_append next xs ys) ∙ sym (append_assoc (sending_bytes p s) (sent_bytes next xs) (sent_bytes (caret_over next xs) ys))

pub frames_append : (xs ys : List Sending) → frames_in (xs ++ ys) ≡ frames_in xs ++ frames_in ys
frames_append [] ys = refl
frames_append (Paints frame top ∷ xs) ys = ap (λ (bs : List ℕ). frame ++ bs) (frames_append xs ys) ∙ sym (append_assoc frame (frames_in xs) (frames_in ys))
frames_append (Says words ∷ xs) ys = frames_append xs ys

pub top_append : (top : List ℕ) (xs ys : List Sending) → last_top top (xs ++ ys) ≡ last_top (last_top top xs) ys
top_append top [] ys = refl
top_append top (Paints frame next ∷ xs) ys = top_append next xs ys
top_append top (Says words ∷ xs) ys = top_append top xs ys

pub words_append : (words : List ℕ) (xs ys : List Sending) → last_words words (xs ++ ys) ≡ last_words (last_words words xs) ys
words_append words [] ys = refl
words_append words (Paints frame top ∷ xs) ys = words_append [] xs ys
words_append words (Says next ∷ xs) ys = words_append next xs ys

-- Replies.

pub sendings_append : (base : BaseView) (xs ys : List Reply) → sendings_of base (xs ++ ys) ≡ sendings_of base xs ++ sendings_of base ys
sendings_append base [] ys = refl
sendings_append base (r ∷ xs) ys = ap (λ (more : List Sending). sending_of base r ∷ more) (sendings_append base xs ys)

pub sent_in_append : (xs ys : List Reply) → sent_in (xs ++ ys) ≡ sent_in xs ++ sent_in ys
sent_in_append [] ys = refl
sent_in_append (r ∷ xs) ys = ap (λ (ids : List Id). sent_by r ++ ids) (sent_in_append xs ys) ∙ sym (append_assoc (sent_by r) (sent_in xs) (sent_in ys))

pub after_sent_append : (base : BaseView) (top : List ℕ) (xs ys : List Id) → top_after base top (xs ++ ys) ≡ top_after base (top_after base top xs) ys
after_sent_append base top [] ys = refl
after_sent_append base top (x ∷ xs) ys = after_sent_append base (screen_codes base (x ∷ [])) xs ys
