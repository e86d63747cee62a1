use Rattle.std.proofs.Common.{rules, ◌<◌, ◌+◌, Err, length, subst}
use Rattle.frame_records.specs.declared.limits.TheConstants.{MOST_LISTED}
use Rattle.screen_files.specs.declared.album.AddFault.{AddFault}
use Rattle.screen_files.specs.declared.album.AddFault.TheVariants.{TooMany}
use Rattle.screen_files.specs.Album.{AreFramesFiled}
use Rattle.pageaudit.proofs.import_run.take_frames.Goals as goal

pub returns-in-Err-TooMany : goal.returns-in-Err-TooMany
returns-in-Err-TooMany g c =
    let refused : AreFramesFiled c.args.album.now c.add.new.self c.frames.result.now (Err TooMany) =
    subst (λ (fault : AddFault). AreFramesFiled c.args.album.now c.add.new.self c.frames.result.now (Err fault)) c.in-Err-TooMany.field-0-is c.in-Err-TooMany.ensures.filed in (
      refused.0,
      record {
        found = c.in_ok-found.found;
        are = search rules;
        full = subst (λ frames. MOST_LISTED < length c.args.album.now + length frames) c.frames.ensures.all refused.1;
      },
    )
