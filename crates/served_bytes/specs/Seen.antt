-- What a caller's terminal shows of what was sent.
use Rattle.std.specs.Prelude.{◌≡◌, ℕ, List, [], ◌∷◌, ◌++◌, Some, drop, take}
use Rattle.page_ids.specs.Ids.{Id, IsFrameId}
use Rattle.frame_records.specs.declared.frame.Frame.{Frame}
use Rattle.frame_records.specs.Bases.{BaseView, IsPrice, frame_at}
use Rattle.terminal_codes.specs.Screen.{Screen, run}
use Rattle.session_machine.specs.declared.reply.Reply.{Reply}
use Rattle.frame_screens.specs.Frames.{sent_in}
use Rattle.frame_screens.specs.Screens.{new_terminal, with_frames, records, screen_codes, top_row}
use Rattle.served_bytes.specs.Rows.{text_row}
use Rattle.served_bytes.specs.Sent.{Sending, Paints, Says, opening_bytes, home, sent_bytes}
use Rattle.served_bytes.specs.Words.{sendings_of}

-- the bytes of the frames alone
abbrev pub frames_in : List Sending → List ℕ
frames_in [] = []
frames_in (Paints frame top ∷ more) = frame ++ frames_in more
frames_in (Says words ∷ more) = frames_in more

-- the text of row 0 after what was sent: that of the last frame
abbrev pub last_top : List ℕ → List Sending → List ℕ
last_top top [] = top
last_top top (Paints frame next ∷ more) = last_top next more
last_top top (Says words ∷ more) = last_top top more

-- that of row 23: the last words, none after a frame
abbrev pub last_words : List ℕ → List Sending → List ℕ
last_words words [] = words
last_words words (Paints frame top ∷ more) = last_words [] more
last_words words (Says next ∷ more) = last_words next more

-- rows 1 to 22 between two rows
abbrev pub between_rows : List ℕ → List ℕ → List ℕ → List ℕ
between_rows top bottom cells = (top ++ take 880 (drop 40 cells)) ++ bottom

-- a terminal with the centre's rows, the rest as it is
abbrev pub with_texts : List ℕ → List ℕ → Screen → Screen
with_texts top words t = record { cells = between_rows (text_row top) (text_row words) t.cells; at = t.at; pending = t.pending; visible = t.visible }

-- whatever a terminal was, it is then as a new one that received the frames alone, with the centre's rows
abbrev pub ServesExactly : Type 0
ServesExactly =
    (sendings : List Sending) (t : Screen)
    → run t (opening_bytes ++ sent_bytes home sendings)
    ≡ with_texts (last_top [] sendings) (last_words [] sendings) (run new_terminal (frames_in sendings))

-- the frames that are sent for replies are those that `show` paints
abbrev pub RepliesSendFrames : Type 0
RepliesSendFrames =
    (base : BaseView) (replies : List Reply) (t : Screen)
    → run t (frames_in (sendings_of base replies)) ≡ with_frames t (records base (sent_in replies))

-- row 0 has the frame's id, which ends at column 34, and its price, which ends at column 39
abbrev pub TopIsShown : Type 0
TopIsShown =
    (base : BaseView) (id : Id) (f : Frame) → frame_at base id ≡ Some f → IsFrameId f.id → IsPrice f.price
    → text_row (screen_codes base (id ∷ [])) ≡ top_row f
