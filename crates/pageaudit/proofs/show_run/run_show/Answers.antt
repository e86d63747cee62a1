use Rattle.pageaudit.proofs.Runs.{show_run}
use Rattle.pageaudit.proofs.show_run.run_show.Goals as goal

pub returns : goal.returns
returns g c =
    show_run _ _ c.in_ok-base.base c.in_ok-base.ensures c.args.groups.now c.args.target.now c.args.form c.in-Ok.answer c.in-Ok.ensures c.write_answer.result c.write_answer.ensures
