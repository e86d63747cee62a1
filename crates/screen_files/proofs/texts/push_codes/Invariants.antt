use Rattle.std.proofs.Common.{◌≡◌, ◌++◌, drop}
use Rattle.std.specs.List.{flat_map}
use Rattle.screen_files.specs.Texts.{quoted_code}
use Rattle.screen_files.proofs.texts.push_codes.Given as goal

-- the text so far, and that of the codes that are left, is all
abbrev pub invariant-loop-code : goal.invariant-loop-code
invariant-loop-code l = l.out.items ++ flat_map quoted_code (drop l.code-index l.row) ≡ l.fn.out.items ++ flat_map quoted_code l.row
