use Rattle.served_bytes.proofs.Replies.{replies_send_frames}
use Rattle.served_bytes.proofs.laws.replies_send_frames.Goals as goal

pub returns : goal.returns
returns c = replies_send_frames
