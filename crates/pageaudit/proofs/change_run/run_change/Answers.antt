use Rattle.pageaudit.proofs.Changes.{untouched, old_files_failed, new_files_failed, change_run, change_holds}
use Rattle.pageaudit.proofs.change_run.run_change.Goals as goal

pub returns-in-Err-clause-run : goal.returns-in-Err-clause-run
returns-in-Err-clause-run g c =
    old_files_failed _ _ _ c.args.policy.now c.in-Err.fault c.old_fault.result c.old_fault.ensures c.in-Err.ensures (untouched g.N.Source.seen _ c.requires.new_open, untouched g.M.Source.seen _ c.requires.new_cert_open) (untouched g.O.Sink.seen _ c.requires.out_open)

pub returns-in-Err-read_edition-clause-run : goal.returns-in-Err-read_edition-clause-run
returns-in-Err-read_edition-clause-run g c =
    new_files_failed _ _ _ c.args.policy.now c.in-Ok.edition.0 c.in-Ok.edition.1 c.in-Ok.ensures c.in-Err-read_edition.fault c.new_fault.result c.new_fault.ensures c.in-Err-read_edition.ensures (untouched g.O.Sink.seen _ c.requires.out_open)

pub returns-clause-run : goal.returns-clause-run
returns-clause-run g c =
    change_run _ _ _ c.args.policy.now c.in-Ok.edition.0 c.in-Ok.edition.1 c.in-Ok.ensures c.in-Ok-read_edition.edition.0 c.in-Ok-read_edition.edition.1 c.in-Ok-read_edition.ensures c.check_change-verdict.result c.check_change-verdict.ensures.verdict c.write_change.result c.write_change.ensures

pub returns-clause-safe : goal.returns-clause-safe
returns-clause-safe g c =
    change_holds _ _ _ c.args.policy.now c.in-Ok.edition.0 c.in-Ok.edition.1 c.in-Ok.ensures c.in-Ok-read_edition.edition.0 c.in-Ok-read_edition.edition.1 c.in-Ok-read_edition.ensures c.check_change-verdict.result c.check_change-verdict.ensures.verdict c.write_change.result c.write_change.ensures c.check_change-verdict.ensures.safe
