use Rattle.pageaudit.proofs.Runs.{map_run}
use Rattle.pageaudit.proofs.map_run.run_map.Goals as goal

pub returns : goal.returns
returns g c =
    map_run _ _ c.in_ok-base.base c.in_ok-base.ensures c.args.groups.now c.args.view.now c.in-Ok.map c.in-Ok.ensures c.write_map.result c.write_map.ensures
