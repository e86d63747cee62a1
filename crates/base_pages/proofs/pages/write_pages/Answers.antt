use Rattle.std.proofs.Common.{subst}
use Rattle.finder.specs.Parts.{IsViewPart}
use Rattle.base_pages.specs.Sections.{source_view}
use Rattle.base_pages.proofs.OnTheWay.{run_of_part}
use Rattle.base_pages.proofs.pages.write_pages.Goals as goal

pub returns-in-Ok-Some : goal.returns-in-Ok-Some
returns-in-Ok-Some g c =
    run_of_part (g.S.Sink.seen c.args.sink.now) (g.S.Sink.seen c.write_part.new.sink) (source_view c.args.source.now) c.args.base.now c.args.policy.now c.args.view.now
    c.in-Ok-Some.part (subst (IsViewPart c.args.policy.now.groups c.args.base.now c.args.view.now) c.in-Ok-Some.field-0-is c.in-Ok-Some.ensures) c.write_part.result c.write_part.ensures
