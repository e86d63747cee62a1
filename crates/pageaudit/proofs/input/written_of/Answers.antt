use Rattle.std.proofs.Common.{subst}
use Rattle.lint.specs.FrameLines.{IsWrittenBase}
use Rattle.pageaudit.proofs.input.written_of.Goals as goal

pub unreachable-requires : goal.unreachable-requires
unreachable-requires c = subst (IsWrittenBase c.args.text.now) c.in-Ok-None.field-0-is c.in-Ok-None.ensures c.in-Ok.field-0 c.in-Ok.ensures
