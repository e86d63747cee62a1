use Rattle.std.proofs.Common.{◌≡◌, ◌≤◌, Some, length, sym, ap, ◌∙◌, arith}
use Rattle.std.specs.Option.{option_copied}
use Rattle.frame_records.specs.Bases.{frame_at}
use Rattle.page_ids.specs.Ids.{Id}
use Rattle.checker.specs.Counts.{are_ways_sought, ways_compared, found_probes, found_steps}
use Rattle.checker.proofs.Counted.{if_done, ways_few}
use Rattle.checker.proofs.judge.judge_row.Goals as goal

pub overflow_add-result : goal.overflow_add-result
overflow_add-result g c =
    let base = c.args.base.now in
    let cert = c.args.cert.now in
    let f = c.in-Some.frame.now in
    let compared = g.C.Cover.compared in
    let few : (id : Id) → compared cert.rows id ≤ 65535 = λ id. omega (arith, g.met.C.Cover.few cert.rows id c.requires.few, g.met.C.Cover.most_is_small (length cert.rows) c.requires.few) in
    omega (arith, c.from-asked.ensures, c.find_counted-asked.ensures.most, c.judge_frame_of_row-cause.ensures.probes, if_done (are_ways_sought cert.groups cert c.args.row.now f) (ways_compared compared base cert.rows f), ways_few compared base cert.rows 65535 c.find_counted-asked.ensures.valid few f)

pub returns-in-Some-clause-probes : goal.returns-in-Some-clause-probes
returns-in-Some-clause-probes g c =
    let cert = c.args.cert.now in
    let found : frame_at c.args.base.now c.args.row.now.id ≡ Some c.in-Some.frame.now = sym c.find_counted-asked.ensures.value ∙ ap option_copied c.in-Some.is in
    let ways = ap (found_probes g.C.Cover.compared cert.groups c.args.base.now cert c.args.row.now) found in
    omega (arith, ways, c.from-asked.ensures, c.find_counted-asked.ensures.exact, c.judge_frame_of_row-cause.ensures.probes)

pub returns-in-Some-clause-steps : goal.returns-in-Some-clause-steps
returns-in-Some-clause-steps g c =
    let cert = c.args.cert.now in
    let found : frame_at c.args.base.now c.args.row.now.id ≡ Some c.in-Some.frame.now = sym c.find_counted-asked.ensures.value ∙ ap option_copied c.in-Some.is in
    c.judge_frame_of_row-cause.ensures.steps ∙ sym (ap (found_steps cert.groups cert c.args.row.now) found)
