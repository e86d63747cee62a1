use Rattle.std.proofs.Common.{◌≡◌, drop}
use Rattle.lint.specs.Looks.{feed_from, line_end_of}
use Rattle.lint.proofs.looks.line_end_of.Given as goal

abbrev pub invariant-loop-index : goal.invariant-loop-index
invariant-loop-index l = feed_from l.end l.caret l.returned l.feed l.index (drop l.index l.body) ≡ line_end_of l.end l.body
