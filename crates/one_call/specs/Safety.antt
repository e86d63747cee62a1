-- What a caller sees, and what callers are promised.
use Rattle.std.specs.Prelude.{◌≡◌, ℕ, None, List, [], ◌∷◌}
use Rattle.std.specs.List.{AllByRecursion}
use Rattle.page_ids.specs.Ids.{Id}
use Rattle.page_ids.specs.declared.key.Key.{Key}
use Rattle.frame_records.specs.Bases.{BaseView}
use Rattle.frame_records.specs.declared.base.Sought.TheVariants.{Found}
use Rattle.frame_records.specs.Seek.{seek_entry}
use Rattle.terminal_codes.specs.Screen.{Screen, run}
use Rattle.session_machine.specs.declared.reply.Reply.{Reply}
use Rattle.session_machine.specs.Sessions.{SessionState, opening}
use Rattle.session_machine.specs.Runs.{state_after, replies_to, replies_of, IsFairReply, LeftOrRegains}
use Rattle.checker.specs.Safe.{IsCleanReply}
use Rattle.editions.specs.Chains.{IsClearedAgainst}
use Rattle.edition_checks.specs.declared.served.Served.{Served}
use Rattle.edition_checks.specs.Served.{served_view}
use Rattle.edition_checks.specs.NextEditions.{IsFit}
use Rattle.frame_screens.specs.Frames.{sent_in, frames_sent}
use Rattle.frame_screens.specs.Screens.{new_terminal, with_frames, records, screen_codes}
use Rattle.served_bytes.specs.Seen.{with_texts}
use Rattle.one_call.specs.Turns.{CallView, begun_call, bottom_text, keys_in_call}
use Rattle.one_call.specs.Parts.{Parts, First, Then, served_now, call_over, call_bytes}

-- What a caller sees.

-- the keys that are heard in a call of a base from its beginning
abbrev pub first_keys : List ℕ → BaseView → List ℕ → List Key
first_keys groups base bytes = keys_in_call base (begun_call groups base) bytes

-- the replies to the keys that are heard in a call from here on
abbrev pub replies_in : BaseView → CallView → List ℕ → List Reply
replies_in base c bytes = replies_to c.session.groups base c.session.state (keys_in_call base c bytes)

-- the terminal after the frames of the replies, each from the edition that was served: in the first edition that on which `show`
-- paints its screen for the keys
abbrev pub shown_terminal : List ℕ → Parts → Screen
shown_terminal groups (First s bytes) = with_frames new_terminal (records s.base (frames_sent groups s.base (first_keys groups s.base bytes)))
shown_terminal groups (Then before s bytes) = with_frames (shown_terminal groups before) (records s.base (sent_in (replies_in s.base (call_over groups before) bytes)))

-- the text of row 0 after frames of a base: that of the last one, or the one before them
abbrev pub top_after : BaseView → List ℕ → List Id → List ℕ
top_after base top [] = top
top_after base top (id ∷ ids) = top_after base (screen_codes base (id ∷ [])) ids

-- the text of row 0: that of the last frame, in the edition from which it was sent
abbrev pub top_over : List ℕ → Parts → List ℕ
top_over groups (First s bytes) = top_after s.base [] (frames_sent groups s.base (first_keys groups s.base bytes))
top_over groups (Then before s bytes) = top_after s.base (top_over groups before) (sent_in (replies_in s.base (call_over groups before) bytes))

-- whatever a terminal was, after a call's bytes it is the one above, but for rows 0 and 23: those are the last frame's, and the command
-- so far or else the words of the last reply
abbrev pub IsSeenAs : List ℕ → Parts → Screen → Type 0
IsSeenAs groups parts t =
    run t (call_bytes groups parts) ≡ with_texts (top_over groups parts) (bottom_text (call_over groups parts)) (shown_terminal groups parts)

-- all editions in turn, cleared or not
abbrev pub PartsAreSeen : Type 0
PartsAreSeen = (groups : List ℕ) (parts : Parts) (t : Screen) → IsSeenAs groups parts t

-- What callers are promised.

-- no reply is Missing or Closed; what is shown costs at most the ceiling of the edition's policy, and is clean
pub record AreSafeReplies (s : Served) (replies : List Reply) : Type 0 where
  pub fair : AllByRecursion (IsFairReply s.policy.ceiling) replies
  pub clean : AllByRecursion (IsCleanReply s.base) replies

-- the caller left, or at most the keyings of the edition's policy lead back to its entry frame
abbrev pub IsSafeState : List ℕ → Served → SessionState → Type 0
IsSafeState groups s state = LeftOrRegains groups s.base s.policy.keyings state

-- the first edition: the entry frame is found, and is the first reply
pub record IsSafeBeginning (groups : List ℕ) (s : Served) (bytes : List ℕ) : Type 0 where
  pub price : ℕ
  pub found : seek_entry groups s.base ≡ Found price
  pub replies : AreSafeReplies s (replies_of groups s.base (first_keys groups s.base bytes) price)
  pub regains : IsSafeState groups s (state_after groups s.base (opening s.base) (first_keys groups s.base bytes))

-- another edition, from the call so far
pub record IsSafeGoingOn (groups : List ℕ) (s : Served) (c : CallView) (bytes : List ℕ) : Type 0 where
  pub replies : AreSafeReplies s (replies_in s.base c bytes)
  pub regains : IsSafeState groups s (state_after groups s.base c.session.state (keys_in_call s.base c bytes))

-- each in turn
abbrev pub AreSafeParts : List ℕ → Parts → Type 0
AreSafeParts groups (First s bytes) = IsSafeBeginning groups s bytes
AreSafeParts groups (Then before s bytes) = AreSafeParts groups before × IsSafeGoingOn groups s (call_over groups before) bytes

-- what a caller sees, and what is promised of it
pub record IsSafeCall (groups : List ℕ) (parts : Parts) (t : Screen) : Type 0 where
  pub seen : IsSeenAs groups parts t
  pub safe : AreSafeParts groups parts

-- editions for callers of these groups, each cleared by its own policy and against the one before it
abbrev pub AreClearedInTurn : List ℕ → Parts → Type 0
AreClearedInTurn groups (First s bytes) = (s.policy.groups ≡ groups) × IsFit s
AreClearedInTurn groups (Then before s bytes) =
    AreClearedInTurn groups before × IsFit s × IsClearedAgainst (served_view None (served_now before)) (served_view None s)

-- any bytes in each, and any terminal
abbrev pub PartsAreSafe : Type 0
PartsAreSafe = (groups : List ℕ) (parts : Parts) → AreClearedInTurn groups parts → (t : Screen) → IsSafeCall groups parts t
