-- What the steps before a publish leave.
use Rattle.std.proofs.Common.{◌≡◌, ℕ, true, List, [], ◌∷◌, Option, Some, None, refl, sym, ap, ◌∙◌, subst, arith, nat_eq}
use Rattle.std.proofs.lemmas.Bool.Decides.{nat_tests}
use Rattle.std.specs.Prelude.{Result, Ok, Err, IfSome}
use Rattle.editions.specs.declared.edition_file.EditionFile.{EditionFile}
use Rattle.editions.specs.declared.edition_file.EditionFile.TheVariants.{Base}
use Rattle.editions.specs.Folders.{FilesSeen, FolderState, SeenFolder, edition_among, file_of, FolderStep, SetCurrent, TakesStep}
use Rattle.editions.specs.NumberLines.{follows_text, follows_in}
use Rattle.editions.proofs.LineLaws.{lines_numbers}
use Rattle.editions.specs.Moments.{IsSoundFolder, KeepsEditions, AreSafeSteps}
use Rattle.editions.proofs.TakenSteps.{taken_one, taken_sound, shown_after}
use Rattle.edition_checks.specs.declared.served.Served.{Served}
use Rattle.edition_checks.specs.Served.{IsUnchanged, IsServed}
use Rattle.edition_checks.specs.Putting.{LeavesSound}
use Rattle.edition_checks.proofs.PutLaws.{leaves_same}

-- a call that changes nothing
pub unchanged_leaves : (old new : SeenFolder) → old.held ≡ true → IsUnchanged old new → LeavesSound old new
unchanged_leaves old new held same = leaves_same old new (same.held ∙ sym held) same.same

-- one step, if it is safe in a sound folder
by_safety : (step : FolderStep) (o p : Option FolderState) → IfSome o (λ f. IsSoundFolder f → AreSafeSteps f (step ∷ []))
    → IfSome o (λ f. IsSoundFolder f → AreSafeSteps f (step ∷ []) → IfSome p (λ now. IsSoundFolder now × KeepsEditions f now))
    → IfSome o (λ f. IsSoundFolder f → IfSome p (λ now. IsSoundFolder now × KeepsEditions f now))
by_safety step None p safe stays = tt
by_safety step (Some f) p safe stays = λ sound. stays sound (safe sound)

pub step_leaves : {E : Type 0} (step : FolderStep) (old new : SeenFolder) (r : Result (Unit {0}) E) → TakesStep step old new r → IfSome old.state (λ f. IsSoundFolder f → AreSafeSteps f (step ∷ [])) → LeavesSound old new
step_leaves step old new (Ok t) taken safe = record {
  held = taken.0;
  shown = shown_after (step ∷ []) old.state new.state taken.1;
  sound = by_safety step old.state new.state safe (taken_sound {E = Unit {0}} (step ∷ []) old new (Ok t) (taken_one {E = Unit {0}} step old new (Ok t) taken));
}
step_leaves step old new (Err e) taken safe = record {
  held = taken.0;
  shown = taken.1;
  sound = by_safety step old.state new.state safe (taken_sound (step ∷ []) old new (Err e) (taken_one step old new (Err e) taken));
}

-- an edition of which a file is there may be made current
has_files : (o : Option FilesSeen) (file : EditionFile) (text : List ℕ) → file_of o file ≡ Some text → (files : FilesSeen) × (o ≡ Some files)
has_files None file text e = absurd cc
has_files (Some files) file text e = (files, refl)

served_safe : (o : Option FolderState) (s : Served) → IfSome o (λ f. IsServed f s) → IfSome o (λ f. IsSoundFolder f → AreSafeSteps f (SetCurrent s.number ∷ []))
served_safe None s is = tt
served_safe (Some f) s is = λ sound. (has_files (edition_among f.editions s.number) Base s.base_text.items is.base_there, tt)

pub current_leaves : {E : Type 0} (old new : SeenFolder) (s : Served) (r : Result (Unit {0}) E) → IfSome old.state (λ f. IsServed f s) → TakesStep (SetCurrent s.number) old new r → LeavesSound old new
current_leaves old new s r is taken = step_leaves (SetCurrent s.number) old new r taken (served_safe old.state s is)

-- what held before a call that changes nothing holds after it, and the other way round
pub after_same : (o p : Option FolderState) (P : FolderState → Type 0) → p ≡ o → IfSome o P → IfSome p P
after_same o p P same h = subst (λ (q : Option FolderState). IfSome q P) (sym same) h

-- what a text that names a number is
pub follows_line : (text : List ℕ) (r : Option (Option ℕ)) (o : Option ℕ) (number before : ℕ) → r ≡ follows_in text → r ≡ Some o → o ≡ Some number → nat_eq number before ≡ true → text ≡ follows_text (Some before)
follows_line text r o number before e is names eq =
    let same : number ≡ before = grind (arith, nat_tests, eq) in
    lines_numbers.follows_found text o (sym e ∙ is) ∙ ap follows_text (names ∙ ap Some same)
