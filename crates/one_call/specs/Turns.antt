-- What a byte of the caller does, and what is sent for it.
use Rattle.std.specs.Prelude.{◌≡◌, ℕ, ◌==◌, Bool, true, false, List, [], ◌∷◌, ◌++◌, length, if◌then◌else◌}
use Rattle.page_ids.specs.declared.key.Key.{Key}
use Rattle.frame_records.specs.Bases.{BaseView}
use Rattle.frame_records.specs.Seek.{entry_of}
use Rattle.terminal_codes.specs.declared.caret.Caret.{Caret}
use Rattle.session_machine.specs.declared.reply.Reply.{Reply}
use Rattle.session_machine.specs.declared.reply.Reply.TheVariants.{Gone}
use Rattle.session_machine.specs.Sessions.{SessionState, SessionView, key_step, opening}
use Rattle.line_keys.specs.declared.heard.Heard.{Heard}
use Rattle.line_keys.specs.declared.heard.Heard.TheVariants.{Nothing, Changed, Pressed, Page, End}
use Rattle.line_keys.specs.Heard.{HearingView, quiet, hear, and_key}
use Rattle.served_bytes.specs.Sent.{Sending, Says, opening_bytes, home, caret_after, sending_bytes, sent_bytes}
use Rattle.served_bytes.specs.Words.{reply_words, keyed_page_words, end_words, painting_of, sending_of}

-- A call so far.

-- what was heard, the caller's session, where the frames left the terminal, the words of the last reply, and whether the call is over
pub record CallView : Type 0 where
  pub hearing : HearingView
  pub session : SessionView
  pub caret : Caret
  pub words : List ℕ
  pub over : Bool

-- right after the entry frame
abbrev pub begun_call : List ℕ → BaseView → CallView
begun_call groups base = record {
  hearing = quiet;
  session = record { groups = groups; state = opening base };
  caret = caret_after home (painting_of base (entry_of base));
  words = [];
  over = false;
}

-- row 23: the command so far, else the words of the last reply
abbrev pub bottom_text : CallView → List ℕ
bottom_text c = if length c.hearing.command == 0 then c.words else c.hearing.command

-- One byte: the call after it, and what is sent.

-- words in row 23
abbrev pub said : CallView → List ℕ → Bool → CallView × List Sending
said c words over = (record { hearing = c.hearing; session = c.session; caret = c.caret; words = words; over = over }, Says words ∷ [])

-- a caller who leaves for a page has ended the call
abbrev pub is_leaving : Reply → Bool
is_leaving (Gone page) = true
is_leaving _ = false

-- what a key does to the session, and its reply
abbrev pub replied : BaseView → CallView → SessionState × Reply → CallView × List Sending
replied base c o = (
  record {
    hearing = c.hearing;
    session = record { groups = c.session.groups; state = o.0 };
    caret = caret_after c.caret (sending_of base o.1);
    words = reply_words o.1;
    over = is_leaving o.1;
  },
  sending_of base o.1 ∷ [],
)

abbrev pub keyed : BaseView → CallView → Key → CallView × List Sending
keyed base c key = replied base c (key_step c.session.groups base c.session.state key)

-- what was heard
--
--   nothing                       nothing
--   the command so far changed    row 23
--   a key                         its reply; Gone ends the call
--   a page that was keyed         words
--   `*90#`                        words, and the call is over
abbrev pub heard_turn : BaseView → CallView → Heard → CallView × List Sending
heard_turn base c Nothing = (c, [])
heard_turn base c Changed = (c, Says (bottom_text c) ∷ [])
heard_turn base c (Pressed key) = keyed base c key
heard_turn base c Page = said c keyed_page_words false
heard_turn base c End = said c end_words true

abbrev pub with_hearing : CallView → HearingView → CallView
with_hearing c h = record { hearing = h; session = c.session; caret = c.caret; words = c.words; over = c.over }

-- after its end nothing is heard
abbrev pub unless_over : Bool → BaseView → CallView → HearingView × Heard → CallView × List Sending
unless_over false base c o = heard_turn base (with_hearing c o.0) o.1
unless_over true base c o = (c, [])

abbrev pub turn : BaseView → CallView → ℕ → CallView × List Sending
turn base c b = unless_over c.over base c (hear c.hearing b)

-- Bytes, in order.

-- where they leave the call
abbrev pub call_after : BaseView → CallView → List ℕ → CallView
call_after base c [] = c
call_after base c (b ∷ bs) = call_after base (turn base c b).0 bs

-- what is written for them
abbrev pub answers_to : BaseView → CallView → List ℕ → List ℕ
answers_to base c [] = []
answers_to base c (b ∷ bs) = sent_bytes c.caret (turn base c b).1 ++ answers_to base (turn base c b).0 bs

-- the call is over at none of them but after the last
abbrev pub AllHeard : BaseView → CallView → List ℕ → Type 0
AllHeard base c [] = Unit {0}
AllHeard base c (b ∷ bs) = (c.over ≡ false) × AllHeard base (turn base c b).0 bs

-- the first bytes of a call: every terminal is made new, and the entry frame
abbrev pub first_bytes : BaseView → List ℕ
first_bytes base = opening_bytes ++ sending_bytes home (painting_of base (entry_of base))

-- the keys among the bytes, up to the end of the call
abbrev pub keys_unless_over : Bool → Heard → List Key → List Key
keys_unless_over false heard keys = and_key heard keys
keys_unless_over true heard keys = keys

abbrev pub keys_in_call : BaseView → CallView → List ℕ → List Key
keys_in_call base c [] = []
keys_in_call base c (b ∷ bs) = keys_unless_over c.over (hear c.hearing b).1 (keys_in_call base (turn base c b).0 bs)
