use Rattle.std.proofs.Common.{sym}
use Rattle.frame_records.specs.Bases.{is_body_long, is_next_after_z}
use Rattle.frame_records.proofs.SortedFrames.{least_named, none_named, none_twice}
use Rattle.frame_records.proofs.Pages.{least_inside, none_inside}
use Rattle.frame_records.proofs.build.first_fault.Goals as goal

pub returns-in-Some : goal.returns-in-Some
returns-in-Some c = (c.requires.few, least_named is_body_long c.args.frames.now c.in-Some.id c.requires.frames c.in-Some.ensures)

pub returns-in-Some-first_next_after_z : goal.returns-in-Some-first_next_after_z
returns-in-Some-first_next_after_z c =
    (c.requires.few, none_named is_body_long c.args.frames.now c.in_default.ensures, least_named is_next_after_z c.args.frames.now c.in-Some-first_next_after_z.id c.requires.frames c.in-Some-first_next_after_z.ensures)

pub returns-in-Some-shared_id : goal.returns-in-Some-shared_id
returns-in-Some-shared_id c =
    (c.requires.few, none_named is_body_long c.args.frames.now c.in_default.ensures, none_named is_next_after_z c.args.frames.now c.in_default-first_next_after_z.ensures, c.in-Some-shared_id.ensures.least)

pub returns-in-Some-outside_inside : goal.returns-in-Some-outside_inside
returns-in-Some-outside_inside c =
    (c.requires.few, none_named is_body_long c.args.frames.now c.in_default.ensures, none_named is_next_after_z c.args.frames.now c.in_default-first_next_after_z.ensures, none_twice c.args.frames.now c.in_default-shared_id.ensures.none, least_inside c.args.outside.now c.args.frames.now c.in-Some-outside_inside.page c.requires.pages (sym c.in-Some-outside_inside.ensures))

pub returns-in-None : goal.returns-in-None
returns-in-None c = record {
  short = none_named is_body_long c.args.frames.now c.in_default.ensures;
  no_next_after_z = none_named is_next_after_z c.args.frames.now c.in_default-first_next_after_z.ensures;
  ascending = c.in_default-shared_id.ensures.none;
  none_inside = none_inside c.args.outside.now c.args.frames.now (sym c.in-None.ensures);
}
