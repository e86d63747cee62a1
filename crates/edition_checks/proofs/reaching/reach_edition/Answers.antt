use Rattle.edition_checks.proofs.FolderReads.{later_then}
use Rattle.edition_checks.proofs.Reached.{next_before, reached_one, reached_more}
use Rattle.edition_checks.proofs.reaching.reach_edition.Goals as goal

pub loop-here-init : goal.loop-here-init
loop-here-init g c = record {
  later = c.in_ok-here.ensures.later;
  reached = reached_one (g.F.EditionFolder.seen c.args.folder.now) c.args.served.now c.in_ok-here.here c.in_ok-here.ensures.next;
  most = c.in_ok-here.ensures.within.1;
}

pub loop-here-preserved : goal.loop-here-preserved
loop-here-preserved g c =
    let seen = g.F.EditionFolder.seen in
    let first = seen c.args.folder.now in
    let here = c.loop-here.here in
    let next = c.in_ok-here-2.here in
    record {
      later = later_then first (seen c.loop-here.folder) (seen c.edition_after-in-loop-here.new.folder) c.loop-here.invariant.later c.in_ok-here-2.ensures.later;
      reached = reached_more first c.args.served.now here next c.loop-here.invariant.reached
          (next_before first (seen c.loop-here.folder) here next c.loop-here.invariant.later c.in_ok-here-2.ensures.next);
      most = c.in_ok-here-2.ensures.within.1;
    }
