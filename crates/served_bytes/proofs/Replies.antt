-- The frames that are sent for replies.
use Rattle.std.proofs.Common.{◌≡◌, ℕ, refl, ap, ◌∙◌, List, [], ◌∷◌, ◌++◌, Option, Some, None}
use Rattle.frame_records.specs.declared.frame.Frame.{Frame}
use Rattle.frame_records.specs.Bases.{frame_at}
use Rattle.terminal_codes.specs.Screen.{Screen, run}
use Rattle.terminal_codes.specs.Bodies.{lead_codes}
use Rattle.terminal_codes.proofs.Runs.{run_append}
use Rattle.session_machine.specs.declared.reply.Reply.TheVariants.{Shown, Again, NotOffered, Missing, Closed, Gone}
use Rattle.frame_screens.specs.Frames.{sent_in}
use Rattle.frame_screens.specs.Screens.{with_frames, and_record, records}
use Rattle.served_bytes.specs.Words.{frame_bytes, sendings_of}
use Rattle.served_bytes.specs.Seen.{frames_in, RepliesSendFrames}

pub by_frame : (t : Screen) (fs : List Frame) (rest : List ℕ) (o : Option Frame) → ((u : Screen) → run u rest ≡ with_frames u fs) → run t (frame_bytes o ++ rest) ≡ with_frames t (and_record fs o)
by_frame t fs rest None same = same t
by_frame t fs rest (Some f) same =
    run_append t (lead_codes f.lead ++ f.body) rest ∙ (ap (λ (u : Screen). run u rest) (run_append t (lead_codes f.lead) f.body) ∙ same (run (run t (lead_codes f.lead)) f.body))

pub replies_send_frames : RepliesSendFrames
replies_send_frames base [] t = refl
replies_send_frames base (Shown id price ∷ rs) t = by_frame t (records base (sent_in rs)) (frames_in (sendings_of base rs)) (frame_at base id) (replies_send_frames base rs)
replies_send_frames base (Again id ∷ rs) t = by_frame t (records base (sent_in rs)) (frames_in (sendings_of base rs)) (frame_at base id) (replies_send_frames base rs)
replies_send_frames base (NotOffered ∷ rs) t = replies_send_frames base rs t
replies_send_frames base (Missing id ∷ rs) t = replies_send_frames base rs t
replies_send_frames base (Closed id ∷ rs) t = replies_send_frames base rs t
replies_send_frames base (Gone page ∷ rs) t = replies_send_frames base rs t
