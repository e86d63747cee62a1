use Rattle.std.proofs.Common.{◌≡◌, ◌∙◌, Some, None, sym, rules, arith}
use Rattle.toml_places.specs.Spans.{span_in}
use Rattle.toml_places.specs.Values.{next_element}
use Rattle.toml_places.proofs.ListTurns.{one_more, no_more}
use Rattle.toml_places.proofs.spans.spans_from.Goals as goal

pub returns-in_default : goal.returns-in_default
returns-in_default c =
    let l = c.elements in
    let none : next_element l.rest.now ≡ None = sym c.in_default.ensures.value in
    λ k. sym (l.invariant.2 k ∙ no_more (span_in c.args.text.now) l.spans.items k l.rest.now none)

pub elements-preserved : goal.elements-preserved
elements-preserved c =
    let l = c.elements in
    let e = c.in-Some in
    let is : next_element l.rest.now ≡ Some ((e.start.now, e.end.now), e.next.now) = sym e.ensures.value in
    let within = e.ensures.within in (
      search rules,
      omega (arith, l.invariant.1, within.2),
      λ k. l.invariant.2 k ∙ one_more (span_in c.args.text.now) l.spans.items k l.rest.now e.next.now (e.start.now, e.end.now) is
          ∙ rw (c.in_ok-push.ensures.items, c.between.ensures),
    )
