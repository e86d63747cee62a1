use Rattle.std.proofs.Common.{◌≡◌, ◌++◌, drop}
use Rattle.std.specs.List.{flat_map}
use Rattle.screen_files.specs.Files.{filed_shot, unnamed_shot}
use Rattle.screen_files.proofs.file.found_shots.Given as goal

-- what is found so far, and what the screens that are left give, is all
abbrev pub invariant-loop-shot : goal.invariant-loop-shot
invariant-loop-shot l = record {
  filed : l.filed.items ++ flat_map (filed_shot l.file) (drop l.shot-index l.shots) ≡ flat_map (filed_shot l.file) l.shots;
  unnamed : l.unnamed.items ++ flat_map unnamed_shot (drop l.shot-index l.shots) ≡ flat_map unnamed_shot l.shots;
}
