-- What a caller sees.
use Rattle.std.proofs.Common.{◌≡◌, ℕ, ◌==◌, refl, ap, sym, ◌∙◌, Bool, true, false, List, [], ◌∷◌, ◌++◌, length, append_assoc, if◌then◌else◌}
use Rattle.page_ids.specs.declared.key.Key.{Key}
use Rattle.frame_records.specs.Bases.{BaseView}
use Rattle.frame_records.specs.Seek.{entry_of}
use Rattle.terminal_codes.specs.declared.caret.Caret.{Caret}
use Rattle.terminal_codes.specs.Screen.{Screen, run}
use Rattle.terminal_codes.proofs.Runs.{run_append}
use Rattle.session_machine.specs.declared.reply.Reply.{Reply}
use Rattle.session_machine.specs.declared.reply.Reply.TheVariants.{Shown, Again, NotOffered, Missing, Closed, Gone}
use Rattle.session_machine.specs.Sessions.{SessionState, key_step, opening_reply}
use Rattle.session_machine.specs.Runs.{state_after, replies_to}
use Rattle.session_machine.proofs.Runs.{state_in_turn, replies_in_turn}
use Rattle.edition_checks.specs.declared.served.Served.{Served}
use Rattle.frame_screens.specs.Frames.{sent_in}
use Rattle.frame_screens.specs.Screens.{new_terminal, screen_codes}
use Rattle.line_keys.specs.declared.heard.Heard.{Heard}
use Rattle.line_keys.specs.declared.heard.Heard.TheVariants.{Nothing, Changed, Pressed, Page, End}
use Rattle.line_keys.specs.Heard.{HearingView, hear}
use Rattle.served_bytes.specs.Sent.{Sending, opening_bytes, home, sending_bytes, sent_bytes}
use Rattle.served_bytes.specs.Words.{reply_words, painting_of, sending_of, sendings_of}
use Rattle.served_bytes.specs.Seen.{frames_in, last_top, last_words, with_texts}
use Rattle.served_bytes.proofs.Served.{serves_exactly}
use Rattle.served_bytes.proofs.Replies.{replies_send_frames}
use Rattle.one_call.specs.Turns.{CallView, begun_call, bottom_text, with_hearing, heard_turn, unless_over, turn, call_after, answers_to, keys_unless_over, keys_in_call}
use Rattle.one_call.specs.Parts.{Parts, First, Then, call_over, call_bytes}
use Rattle.one_call.specs.Safety.{replies_in, top_after, top_over, shown_terminal, PartsAreSeen}
use Rattle.one_call.proofs.Heard.{LeavesBy, hear_leaves}
use Rattle.one_call.proofs.Turns.{caret_over, caret_append, sent_append, frames_append, top_append, words_append, sendings_append, sent_in_append, after_sent_append}

-- One turn: what it sends is what is sent for the replies to its keys, but for words.
record IsTurn (base : BaseView) (c : CallView) (keys : List Key) (o : CallView × List Sending) : Type 0 where
  pub caret : o.0.caret ≡ caret_over c.caret o.1
  pub groups : o.0.session.groups ≡ c.session.groups
  pub state : o.0.session.state ≡ state_after c.session.groups base c.session.state keys
  pub frames : frames_in o.1 ≡ frames_in (sendings_of base (replies_to c.session.groups base c.session.state keys))
  pub top : (top : List ℕ) → last_top top o.1 ≡ top_after base top (sent_in (replies_to c.session.groups base c.session.state keys))
  pub words : last_words (bottom_text c) o.1 ≡ bottom_text o.0

-- row 23 when no command goes on
no_command : (n : ℕ) (words command : List ℕ) → (n == 0) ≡ true → words ≡ (if n == 0 then words else command)
no_command n words command e = ap (λ (test : Bool). if true then words else command) e ∙ sym (ap (λ (test : Bool). if test then words else command) e)

-- rows 0 and 23 after a reply
reply_rows : (base : BaseView) (top words : List ℕ) (reply : Reply)
    → (last_top top (sending_of base reply ∷ []) ≡ top_after base top (sent_in (reply ∷ []))) × (last_words words (sending_of base reply ∷ []) ≡ reply_words reply)
reply_rows base top words (Shown to price) = (refl, refl)
reply_rows base top words (Again to) = (refl, refl)
reply_rows base top words NotOffered = (refl, refl)
reply_rows base top words (Missing to) = (refl, refl)
reply_rows base top words (Closed to) = (refl, refl)
reply_rows base top words (Gone page) = (refl, refl)

heard_is : (base : BaseView) (c : CallView) (h : HearingView) (heard : Heard) → LeavesBy c.hearing.command h.command heard → IsTurn base c (keys_unless_over false heard []) (heard_turn base (with_hearing c h) heard)
heard_is base c h Nothing leaves = record {
  caret = refl;
  groups = refl;
  state = refl;
  frames = refl;
  top = λ top. refl;
  words = ap (λ (command : List ℕ). if length command == 0 then c.words else command) (sym leaves);
}
heard_is base c h Changed leaves = record { caret = refl; groups = refl; state = refl; frames = refl; top = λ top. refl; words = refl }
heard_is base c h (Pressed key) leaves =
    let reply = (key_step c.session.groups base c.session.state key).1 in
    record {
      caret = refl;
      groups = refl;
      state = refl;
      frames = refl;
      top = λ top. (reply_rows base top [] reply).0;
      words = (reply_rows base [] (bottom_text c) reply).1 ∙ no_command (length h.command) (reply_words reply) h.command leaves;
    }
heard_is base c h Page leaves = record { caret = refl; groups = refl; state = refl; frames = refl; top = λ top. refl; words = no_command (length h.command) _ h.command leaves }
heard_is base c h End leaves = record { caret = refl; groups = refl; state = refl; frames = refl; top = λ top. refl; words = no_command (length h.command) _ h.command leaves }

turn_is : (over : Bool) (base : BaseView) (c : CallView) (b : ℕ) → IsTurn base c (keys_unless_over over (hear c.hearing b).1 []) (unless_over over base c (hear c.hearing b))
turn_is false base c b = heard_is base c (hear c.hearing b).0 (hear c.hearing b).1 (hear_leaves c.hearing b)
turn_is true base c b = record { caret = refl; groups = refl; state = refl; frames = refl; top = λ top. refl; words = refl }

first_keys : (over : Bool) (heard : Heard) (keys : List Key) → keys_unless_over over heard keys ≡ keys_unless_over over heard [] ++ keys
first_keys true heard keys = refl
first_keys false Nothing keys = refl
first_keys false Changed keys = refl
first_keys false (Pressed key) keys = refl
first_keys false Page keys = refl
first_keys false End keys = refl

-- All turns.

abbrev pub sendings_for : BaseView → CallView → List ℕ → List Sending
sendings_for base c [] = []
sendings_for base c (b ∷ bs) = (turn base c b).1 ++ sendings_for base (turn base c b).0 bs

pub record AreTurns (base : BaseView) (c : CallView) (bytes : List ℕ) : Type 0 where
  pub caret : (call_after base c bytes).caret ≡ caret_over c.caret (sendings_for base c bytes)
  pub groups : (call_after base c bytes).session.groups ≡ c.session.groups
  pub state : (call_after base c bytes).session.state ≡ state_after c.session.groups base c.session.state (keys_in_call base c bytes)
  pub written : answers_to base c bytes ≡ sent_bytes c.caret (sendings_for base c bytes)
  pub frames : frames_in (sendings_for base c bytes) ≡ frames_in (sendings_of base (replies_in base c bytes))
  pub top : (top : List ℕ) → last_top top (sendings_for base c bytes) ≡ top_after base top (sent_in (replies_in base c bytes))
  pub words : last_words (bottom_text c) (sendings_for base c bytes) ≡ bottom_text (call_after base c bytes)

-- the replies to a turn's keys, and then those to the others
replies_more : (base : BaseView) (c : CallView) (b : ℕ) (bs : List ℕ) →
    replies_in base c (b ∷ bs) ≡ replies_to c.session.groups base c.session.state (keys_unless_over c.over (hear c.hearing b).1 []) ++ replies_in base (turn base c b).0 bs
replies_more base c b bs =
    let one = turn_is c.over base c b in
    let groups = c.session.groups in
    let state = c.session.state in
    let next = (turn base c b).0 in
    let keys = keys_unless_over c.over (hear c.hearing b).1 [] in
    let rest = keys_in_call base next bs in
    ap (replies_to groups base state) (first_keys c.over (hear c.hearing b).1 rest)
    ∙ (replies_in_turn groups base state keys rest
    ∙ ap (λ (rs : List Reply). replies_to groups base state keys ++ rs)
    (ap (λ (s : SessionState). replies_to groups base s rest) (sym one.state) ∙ ap (λ (g : List ℕ). replies_to g base next.session.state rest) (sym one.groups)))

-- the state after a turn's keys, and then after the others
state_more : (base : BaseView) (c : CallView) (b : ℕ) (bs : List ℕ) → AreTurns base (turn base c b).0 bs
    → (call_after base c (b ∷ bs)).session.state ≡ state_after c.session.groups base c.session.state (keys_in_call base c (b ∷ bs))
state_more base c b bs rest =
    let one = turn_is c.over base c b in
    let groups = c.session.groups in
    let state = c.session.state in
    let next = (turn base c b).0 in
    let keys = keys_unless_over c.over (hear c.hearing b).1 [] in
    let more = keys_in_call base next bs in
    rest.state
    ∙ (ap (λ (g : List ℕ). state_after g base next.session.state more) one.groups
    ∙ (ap (λ (s : SessionState). state_after groups base s more) one.state
    ∙ (sym (state_in_turn groups base state keys more)
    ∙ ap (state_after groups base state) (sym (first_keys c.over (hear c.hearing b).1 more)))))

pub turns_are : (base : BaseView) (c : CallView) (bytes : List ℕ) → AreTurns base c bytes
turns_are base c [] = record { caret = refl; groups = refl; state = refl; written = refl; frames = refl; top = λ top. refl; words = refl }
turns_are base c (b ∷ bs) =
    let one = turn_is c.over base c b in
    let o = turn base c b in
    let rest = turns_are base o.0 bs in
    let mine = replies_to c.session.groups base c.session.state (keys_unless_over c.over (hear c.hearing b).1 []) in
    let others = replies_in base o.0 bs in
    let replies = replies_more base c b bs in
    let later = sendings_for base o.0 bs in
    record {
      caret = rest.caret ∙ (ap (λ (p : Caret). caret_over p later) one.caret ∙ sym (caret_append c.caret o.1 later));
      groups = rest.groups ∙ one.groups;
      state = state_more base c b bs rest;
      written =
          ap (λ (bytes : List ℕ). sent_bytes c.caret o.1 ++ bytes) (rest.written ∙ ap (λ (p : Caret). sent_bytes p later) one.caret)
          ∙ sym (sent_append c.caret o.1 later);
      frames =
          frames_append o.1 later
          ∙ (ap (λ (bytes : List ℕ). bytes ++ frames_in later) one.frames
          ∙ (ap (λ (bytes : List ℕ). frames_in (sendings_of base mine) ++ bytes) rest.frames
          ∙ (sym (frames_append (sendings_of base mine) (sendings_of base others))
          ∙ ap frames_in (sym (sendings_append base mine others) ∙ ap (sendings_of base) (sym replies)))));
      top = λ top.
          top_append top o.1 later
          ∙ (ap (λ (text : List ℕ). last_top text later) (one.top top)
          ∙ (rest.top (top_after base top (sent_in mine))
          ∙ (sym (after_sent_append base top (sent_in mine) (sent_in others))
          ∙ ap (top_after base top) (sym (sent_in_append mine others) ∙ ap sent_in (sym replies)))));
      words = words_append (bottom_text c) o.1 later ∙ (ap (λ (words : List ℕ). last_words words later) one.words ∙ rest.words);
    }

-- The whole call.

-- all that is sent
abbrev pub all_sendings : List ℕ → Parts → List Sending
all_sendings groups (First s bytes) = painting_of s.base (entry_of s.base) ∷ sendings_for s.base (begun_call groups s.base) bytes
all_sendings groups (Then before s bytes) = all_sendings groups before ++ sendings_for s.base (call_over groups before) bytes

pub record AreSent (groups : List ℕ) (parts : Parts) : Type 0 where
  pub written : call_bytes groups parts ≡ opening_bytes ++ sent_bytes home (all_sendings groups parts)
  pub caret : (call_over groups parts).caret ≡ caret_over home (all_sendings groups parts)
  pub groups_same : (call_over groups parts).session.groups ≡ groups
  pub words : last_words [] (all_sendings groups parts) ≡ bottom_text (call_over groups parts)
  pub top : last_top [] (all_sendings groups parts) ≡ top_over groups parts
  pub frames : run new_terminal (frames_in (all_sendings groups parts)) ≡ shown_terminal groups parts

-- the first edition
begun_sent : (groups : List ℕ) (s : Served) (bytes : List ℕ) → AreSent groups (First s bytes)
begun_sent groups s bytes =
    let base = s.base in
    let c = begun_call groups base in
    let first = painting_of base (entry_of base) in
    let later = sendings_for base c bytes in
    let all = turns_are base c bytes in
    let replies = opening_reply base 0 ∷ replies_in base c bytes in
    record {
      written =
          append_assoc opening_bytes (sending_bytes home first) (answers_to base c bytes)
          ∙ ap (λ (bs : List ℕ). opening_bytes ++ (sending_bytes home first ++ bs)) all.written;
      caret = all.caret;
      groups_same = all.groups;
      words = all.words;
      top = all.top (screen_codes base (entry_of base ∷ []));
      frames =
          ap (λ (bs : List ℕ). run new_terminal bs)
          (frames_append (first ∷ []) later
          ∙ (ap (λ (bs : List ℕ). frames_in (first ∷ []) ++ bs) all.frames ∙ sym (frames_append (first ∷ []) (sendings_of base (replies_in base c bytes)))))
          ∙ replies_send_frames base replies new_terminal;
    }

-- another
more_sent : (groups : List ℕ) (before : Parts) (s : Served) (bytes : List ℕ) → AreSent groups before → AreSent groups (Then before s bytes)
more_sent groups before s bytes h =
    let base = s.base in
    let c = call_over groups before in
    let sent = all_sendings groups before in
    let later = sendings_for base c bytes in
    let all = turns_are base c bytes in
    record {
      written =
          ap (λ (bs : List ℕ). call_bytes groups before ++ bs) (all.written ∙ ap (λ (p : Caret). sent_bytes p later) h.caret)
          ∙ (ap (λ (bs : List ℕ). bs ++ sent_bytes (caret_over home sent) later) h.written
          ∙ (append_assoc opening_bytes (sent_bytes home sent) (sent_bytes (caret_over home sent) later)
          ∙ ap (λ (bs : List ℕ). opening_bytes ++ bs) (sym (sent_append home sent later))));
      caret = all.caret ∙ (ap (λ (p : Caret). caret_over p later) h.caret ∙ sym (caret_append home sent later));
      groups_same = all.groups ∙ h.groups_same;
      words = words_append [] sent later ∙ (ap (λ (words : List ℕ). last_words words later) h.words ∙ all.words);
      top = top_append [] sent later ∙ (ap (λ (top : List ℕ). last_top top later) h.top ∙ all.top (top_over groups before));
      frames =
          ap (λ (bs : List ℕ). run new_terminal bs) (frames_append sent later)
          ∙ (run_append new_terminal (frames_in sent) (frames_in later)
          ∙ (ap (λ (t : Screen). run t (frames_in later)) h.frames
          ∙ (ap (λ (bs : List ℕ). run (shown_terminal groups before) bs) all.frames
          ∙ replies_send_frames base (replies_in base c bytes) (shown_terminal groups before))));
    }

pub are_sent : (groups : List ℕ) (parts : Parts) → AreSent groups parts
are_sent groups (First s bytes) = begun_sent groups s bytes
are_sent groups (Then before s bytes) = more_sent groups before s bytes (are_sent groups before)

pub parts_are_seen : PartsAreSeen
parts_are_seen groups parts t =
    let h = are_sent groups parts in
    let sent = all_sendings groups parts in
    ap (run t) h.written
    ∙ (serves_exactly sent t
    ∙ (ap (λ (top : List ℕ). with_texts top (last_words [] sent) (run new_terminal (frames_in sent))) h.top
    ∙ (ap (λ (words : List ℕ). with_texts (top_over groups parts) words (run new_terminal (frames_in sent))) h.words
    ∙ ap (λ (u : Screen). with_texts (top_over groups parts) (bottom_text (call_over groups parts)) u) h.frames)))
