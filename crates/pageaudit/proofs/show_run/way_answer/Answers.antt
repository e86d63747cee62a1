use Rattle.pageaudit.proofs.show_run.way_answer.Goals as goal

pub returns : goal.returns
returns c = record { frames = c.in_ok-frames.frames; way = c.in_ok-frames.ensures; screen = c.in_ok-screen_text.ensures }
