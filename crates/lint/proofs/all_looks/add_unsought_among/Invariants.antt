use Rattle.std.proofs.Common.{◌≡◌, ◌++◌, Bool, List, drop}
use Rattle.page_ids.specs.Ids.{Id}
use Rattle.lint.specs.Lookups.{KnowsValues}
use Rattle.lint.specs.AllLooks.{unsought_among}
use Rattle.lint.proofs.all_looks.add_unsought_among.Given as goal

abbrev pub invariant-loop-frame : goal.invariant-loop-frame
invariant-loop-frame l = (ids : List (Id × Bool)) → KnowsValues ids l.known
    → l.looks.items ++ unsought_among l.groups ids (drop l.frame-index l.frames) ≡ l.fn.looks.items ++ unsought_among l.groups ids l.frames
