use Rattle.std.proofs.Common.{◌∙◌, ap}
use Rattle.lint.specs.Loops.{picture_seen}
use Rattle.lint.proofs.tables.TextTables.picture.Goals as goal

pub returns : goal.returns
returns c = λ ms knows. c.picture_pair.ensures ∙ ap (picture_seen c.args.self.now.text.now) (c.in_ok-keys.ensures ms knows)
