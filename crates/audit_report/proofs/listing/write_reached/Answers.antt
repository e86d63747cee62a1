use Rattle.std.proofs.Common.{rules, ◌≡◌, ◌∙◌, ◌+◌, ◌-◌, ◌++◌, sym, ap, subst, arith, append_assoc, length}
use Rattle.devices.specs.Devices.{WrotePart, IsOnItsWay}
use Rattle.audit_report.specs.Listing.{reached_line, reached_lines}
use Rattle.devices.proofs.OnTheWay.{kept_more}
use Rattle.audit_report.proofs.OnTheWay.{next, split}
use Rattle.audit_report.proofs.listing.write_reached.Goals as goal

pub returns-in-Err-clause-part : goal.returns-in-Err-clause-part
returns-in-Err-clause-part g c = λ rest.
    let form = c.args.form in
    let base = c.args.survey.now.base in
    let found = c.args.survey.now.found in
    let i = c.loop-index.index in
    let line = reached_line form base found i in
    let before = reached_lines form base found i in
    let start = g.S.Sink.seen c.args.sink.now in
    let more = kept_more start (g.S.Sink.seen c.loop-index.sink) c.loop-index.kept.items c.push_reached.new.out.items c.loop-index.wrote before line c.push_reached.ensures.items c.loop-index.invariant.way in
    let others = split form base found (i + 1) (length found - (i + 1)) in
    let whole : (length found - (i + 1)) + (i + 1) ≡ length found = omega (arith, ap length (c.as_slice.ensures ∙ c.found.ensures), c.loop-index-test.true) in
    let lines : (before ++ line) ++ others.0 ≡ reached_lines form base found (length found) =
    ap (λ xs. xs ++ others.0) (sym (next form base found i)) ∙ sym others.1 ∙ ap (λ n. reached_lines form base found n) whole in
    let all : (before ++ line) ++ (others.0 ++ rest) ≡ reached_lines form base found (length found) ++ rest =
    sym (append_assoc (before ++ line) others.0 rest) ∙ ap (λ xs. xs ++ rest) lines in
    subst (λ xs. WrotePart start (g.S.Sink.seen c.write_piece.new.sink) xs c.in-Err.fault.wrote) all (c.in-Err.ensures.part start (before ++ line) (others.0 ++ rest) more)

pub loop-index-preserved : goal.loop-index-preserved
loop-index-preserved g c =
    let form = c.args.form in
    let base = c.args.survey.now.base in
    let found = c.args.survey.now.found in
    let i = c.loop-index.index in
    let line = reached_line form base found i in
    let before = reached_lines form base found i in
    let start = g.S.Sink.seen c.args.sink.now in
    let more = kept_more start (g.S.Sink.seen c.loop-index.sink) c.loop-index.kept.items c.push_reached.new.out.items c.loop-index.wrote before line c.push_reached.ensures.items c.loop-index.invariant.way in
    record {
      unbroken = search rules;
      keys_room = search rules;
      few = search rules;
      room = search rules;
      count = omega (arith, c.in-Ok.ensures.count, c.push_reached.ensures.len, c.loop-index.invariant.count);
      way = subst (λ xs. IsOnItsWay start (g.S.Sink.seen c.write_piece.new.sink) c.write_piece.new.kept.items c.in-Ok.count xs) (sym (next form base found i)) (c.in-Ok.ensures.taken start (before ++ line) more);
    }
