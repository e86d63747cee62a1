use Rattle.std.proofs.Common.{◌≡◌, drop}
use Rattle.lint.specs.Offers.{offers_from}
use Rattle.lint.proofs.offers.add_offers.Given as goal

abbrev pub invariant-loop-line : goal.invariant-loop-line
invariant-loop-line l =
    offers_from l.frame l.menu l.looks.items (drop l.line-index l.menu) ≡ offers_from l.frame l.menu l.fn.looks.items l.menu
