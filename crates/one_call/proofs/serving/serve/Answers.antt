use Rattle.one_call.proofs.Calls.{of_open, kept}
use Rattle.one_call.proofs.serving.serve.Goals as goal

pub returns-in-Err-clause-call : goal.returns-in-Err-clause-call
returns-in-Err-clause-call g c = of_open (g.F.EditionFolder.seen c.args.folder.now) (g.R.Source.seen c.args.source.now) (g.W.Sink.seen c.args.sink.now) c.in-Err.fault c.in-Err.ensures.fault

pub returns-in-Ok-serve_line-clause-call : goal.returns-in-Ok-serve_line-clause-call
returns-in-Ok-serve_line-clause-call g c = record {
  groups = c.in-Ok.served.policy.groups;
  line = c.in-Ok-serve_line.ensures (g.F.EditionFolder.seen c.args.folder.now) c.in-Ok.ensures.later c.in-Ok.ensures.edition;
}

pub returns-in-Ok-serve_line-clause-kept : goal.returns-in-Ok-serve_line-clause-kept
returns-in-Ok-serve_line-clause-kept g c =
    kept c.in-Ok.served.policy.groups (g.F.EditionFolder.seen c.args.folder.now)
    (g.R.Source.seen c.args.source.now) (g.R.Source.seen c.serve_line.new.source) (g.W.Sink.seen c.args.sink.now) (g.W.Sink.seen c.serve_line.new.sink)
    (c.in-Ok-serve_line.ensures (g.F.EditionFolder.seen c.args.folder.now) c.in-Ok.ensures.later c.in-Ok.ensures.edition)

pub returns-in-Err-serve_line-clause-call : goal.returns-in-Err-serve_line-clause-call
returns-in-Err-serve_line-clause-call g c = record {
  groups = c.in-Ok.served.policy.groups;
  line = c.in-Err-serve_line.ensures (g.F.EditionFolder.seen c.args.folder.now) c.in-Ok.ensures.later c.in-Ok.ensures.edition;
}
