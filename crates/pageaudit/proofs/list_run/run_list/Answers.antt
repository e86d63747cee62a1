use Rattle.pageaudit.proofs.Runs.{list_run}
use Rattle.pageaudit.proofs.list_run.run_list.Goals as goal

pub returns : goal.returns
returns g c =
    let listing = c.in-Ok.listing in
    list_run _ _ c.in_ok-base.base c.in_ok-base.ensures c.args.groups.now c.args.form listing.text listing.entry_is_found c.in-Ok.ensures c.write_listing.result c.write_listing.ensures
