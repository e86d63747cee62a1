use Rattle.std.proofs.Common.{rules, ◌≡◌, true, false, inr, sym}
use Rattle.slip_fixes.specs.Rounds.{reads_further}
use Rattle.slip_fixes.proofs.Ways.{of_same}
use Rattle.slip_fixes.proofs.rounds.advanced.Goals as goal

pub returns : goal.returns
returns c =
    let after = of_same c.args.policy.now c.as_slice-3.result.now c.in-Some.text.items c.in_ok-findings.findings.items (sym c.as_slice-3.ensures.value) c.in_ok-findings.ensures.findings in
    let further : reads_further c.args.state.now.findings.items c.in_ok-findings.findings.items ≡ true = cc in
    record {
      round = λ found. (
        c.in-Some.fixes,
        (
          record {
            findings = c.args.state.now.findings.items;
            found = found;
            next = search rules;
            after = c.in_ok-findings.findings.items;
            found_after = after;
            further = further;
          },
          c.saturating_add-fixes.ensures,
        ),
      );
      found = after;
    }

pub returns-then-not-reads_further : goal.returns-then-not-reads_further
returns-then-not-reads_further c found =
    let after = of_same c.args.policy.now c.as_slice-3.result.now c.in-Some.text.items c.in_ok-findings.findings.items (sym c.as_slice-3.ensures.value) c.in_ok-findings.ensures.findings in
    let further : reads_further c.args.state.now.findings.items c.in_ok-findings.findings.items ≡ false = cc in
    record {
      findings = c.args.state.now.findings.items;
      found = found;
      why = inr record {
        new = c.in-Some.text.items;
        number = c.in-Some.fixes;
        next = search rules;
        after = c.in_ok-findings.findings.items;
        found_after = after;
        further = further;
      };
    }
