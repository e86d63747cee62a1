use Rattle.std.proofs.Common.{◌≡◌, ◌++◌, drop}
use Rattle.std.specs.List.{flat_map}
use Rattle.screen_files.specs.Files.{filed_text}
use Rattle.screen_files.proofs.text_screens.filed_texts.Given as goal

-- the frames so far, and what the screens that are left give, are all
abbrev pub invariant-loop-screen : goal.invariant-loop-screen
invariant-loop-screen l =
    l.filed.items ++ flat_map (filed_text l.file l.name) (drop l.screen-index l.screens) ≡ flat_map (filed_text l.file l.name) l.screens
