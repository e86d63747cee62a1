use Rattle.std.proofs.Common.{◌≡◌, [], Some, None, option_map, le_refl, append-nil, refl, sym, ap, ◌∙◌, rules, arith}
use Rattle.toml_places.specs.Values.{next_pair}
use Rattle.toml_places.specs.Loops.{pair_view}
use Rattle.toml_places.proofs.PairTurns.{noted_all, noted_more}
use Rattle.toml_places.proofs.tables.TablePlaces.note_pairs.Goals as goal

pub pairs-init : goal.pairs-init
pairs-init c = (search rules, le_refl _, λ ms n h keeps. (n, [], h, rw (append-nil ms) keeps, refl))

pub returns-in_default : goal.returns-in_default
returns-in_default c ms n h keeps =
    let l = c.pairs in
    let none : next_pair l.rest.now ≡ None = sym c.in_ok-pair.ensures.value ∙ ap (option_map pair_view) c.in_default.is in
    noted_all c.args.size l.self ms n c.args.pairs.now l.rest.now (l.invariant.2 ms n h keeps) none

pub pairs-preserved : goal.pairs-preserved
pairs-preserved c =
    let l = c.pairs in
    let pair = c.in-Some.pair in
    let is : next_pair l.rest.now ≡ Some (pair_view pair) = sym c.in_ok-pair.ensures.value ∙ ap (option_map pair_view) c.in-Some.is in
    let within = rw c.in-Some.is at c.in_ok-pair.ensures.within in (
      search rules,
      omega (arith, l.invariant.1, within.1),
      λ ms n h keeps.
          noted_more c.args.size l.self c.note_pair.new.self ms n c.args.pairs.now l.rest.now pair.next.now (pair_view pair).0 (l.invariant.2 ms n h keeps) is within.1
          (λ ls kept. rw c.deref.ensures.value at (c.in_ok-note_pair.ensures ls kept)),
    )
