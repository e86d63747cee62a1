use Rattle.std.proofs.Common.{◌≡◌, ◌∙◌, ◌++◌, ◌∷◌, [], ℕ, List, ap, map, rules, subst, sym}
use Rattle.std.specs.Prelude.{Result}
use Rattle.screen_files.specs.declared.capture.Shot.{Shot}
use Rattle.screen_files.specs.declared.filed.ScreenPlace.TheVariants.{Byte}
use Rattle.screen_files.specs.declared.file.ScreenFault.{ScreenFault}
use Rattle.screen_files.specs.declared.frame.ScreenFrame.{ScreenFrame}
use Rattle.screen_files.specs.Files.{ScreenList, found_last, found_one, named_frame}
use Rattle.screen_files.specs.Loops.{IsFound}
use Rattle.screen_files.proofs.Lasts.{found_at}
use Rattle.screen_files.proofs.file.found_last.Goals as goal

pub returns : goal.returns
returns c =
    let last = c.in-Some.last.now in
    let before = c.in-Some.before.now in
    let is : c.args.shots.now ≡ before ++ last ∷ [] = search rules in
    let unnamed : c.in_ok-unnamed.unnamed.items ≡ map (λ (s : Shot). s.byte) before = c.in_ok-unnamed.ensures in
    let frame : c.named_frame.result ≡ named_frame c.args.path.now last.codes = c.named_frame.ensures in
    let found = ap (λ (ns : List ℕ). found_one c.args.file (Byte last.byte) ns c.named_frame.result) unnamed
    ∙ ap (λ (r : Result ScreenFrame ScreenFault). found_one c.args.file (Byte last.byte) (map (λ (s : Shot). s.byte) before) r) frame
    ∙ sym (found_at c.args.path.now c.args.file before last)
    ∙ sym (ap (found_last c.args.path.now c.args.file) is) in
    subst (λ (r : Result ScreenList ScreenFault). IsFound r c.found_one.result) found c.found_one.ensures
