use Rattle.std.proofs.Common.{refl}
use Rattle.lint.specs.Lint.{ranks_of}
use Rattle.lint.proofs.audit_findings.Sources.findings.Goals as goal

pub returns : goal.returns
returns c = λ ms tables are.
    let a = c.requires in
    record {
      found = a.found;
      faults = c.args.audit.now.faults;
      are_faults = a.faults;
      reached = a.reached;
      least = a.least;
      all = rw (
        c.in_ok-add_looks.ensures ms tables are,
        c.in_ok-add_unreached.ensures ms tables are,
        c.in_ok-add_faults.ensures ms tables (ranks_of a.found) are a.known,
        c.new-findings.ensures.items,
        c.as_slice-unreached.ensures.value,
        a.unreached,
        a.finds_none,
        c.as_slice.ensures.value,
        a.looks,
      ) refl;
    }
