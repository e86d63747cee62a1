use Rattle.std.proofs.Common.{◌≡◌, ◌++◌, take}
use Rattle.lint.specs.AllLooks.{pages_sought}
use Rattle.lint.proofs.all_looks.add_pages.Given as goal

abbrev pub invariant-loop-page : goal.invariant-loop-page
invariant-loop-page l = l.ids.items ≡ l.fn.ids.items ++ pages_sought (take l.page-index l.routes)
