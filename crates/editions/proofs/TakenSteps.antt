-- Steps that are taken in turn.
use Rattle.std.proofs.Common.{◌≡◌, ℕ, List, [], ◌∷◌, Option, Some, None, option_map, is_some, refl, sym, ap, ◌∙◌, subst, inl, inr}
use Rattle.std.specs.Prelude.{Result, Ok, Err, IfSome}
use Rattle.editions.specs.Folders.{FolderState, SeenFolder, EditionBytes, FolderStep, WriteEdition, SetCurrent, folder_after, IsDuring, TakesStep}
use Rattle.editions.specs.Moments.{IsSoundFolder, KeepsEditions, AreSafeSteps, IsMoment, after_steps, publish_steps, AreTaken, StaysSound}
use Rattle.editions.proofs.MomentLaws.{moments_sound}

-- the moment after all steps
last_moment : (steps : List FolderStep) (f : FolderState) → IsMoment steps f (after_steps steps f)
last_moment [] f = record { editions = refl; current = refl; policy = refl }
last_moment (step ∷ steps) f = inr (last_moment steps (folder_after step f))

-- if one of some moment is, it is one of another
each_moment : (P Q : FolderState → Type 0) (o : Option FolderState) → ((now : FolderState) → P now → Q now) → IfSome o P → IfSome o Q
each_moment P Q None h is = tt
each_moment P Q (Some now) h is = h now is

-- a folder that shows what is in it goes on showing it
pub shown_after : (steps : List FolderStep) (o p : Option FolderState) → p ≡ option_map (after_steps steps) o → is_some p ≡ is_some o
shown_after steps None p e = ap is_some e
shown_after steps (Some f) p e = ap is_some e

-- a stop at the first step
first_moment : (step : FolderStep) (more : List FolderStep) (o q : Option FolderState) → IfSome o (λ f. IfSome q (IsDuring step f)) → IfSome o (λ f. IfSome q (IsMoment (step ∷ more) f))
first_moment step more None q is = tt
first_moment step more (Some f) q is = each_moment (IsDuring step f) (IsMoment (step ∷ more) f) q (λ now. inl) is

pub taken_one : {E : Type 0} (step : FolderStep) (old new : SeenFolder) (r : Result (Unit {0}) E) → TakesStep step old new r → AreTaken (step ∷ []) old new r
taken_one step old new (Ok _) h = h
taken_one step old new (Err _) h = (h.0, h.1, first_moment step [] old.state new.state h.2)

-- what safe steps leave
sound_end : (steps : List FolderStep) (o q : Option FolderState) → q ≡ option_map (after_steps steps) o → IfSome o (λ f. IsSoundFolder f → AreSafeSteps f steps → IfSome q (λ now. IsSoundFolder now × KeepsEditions f now))
sound_end steps None q is = tt
sound_end steps (Some f) q is = λ sound safe.
    subst (λ (p : Option FolderState). IfSome p (λ now. IsSoundFolder now × KeepsEditions f now)) (sym is) (moments_sound steps f (after_steps steps f) sound safe (last_moment steps f))

sound_stop : (steps : List FolderStep) (o q : Option FolderState) → IfSome o (λ f. IfSome q (IsMoment steps f)) → IfSome o (λ f. IsSoundFolder f → AreSafeSteps f steps → IfSome q (λ now. IsSoundFolder now × KeepsEditions f now))
sound_stop steps None q is = tt
sound_stop steps (Some f) q is = λ sound safe. each_moment (IsMoment steps f) (λ now. IsSoundFolder now × KeepsEditions f now) q (λ now at. moments_sound steps f now sound safe at) is

pub taken_sound : {E : Type 0} (steps : List FolderStep) (old new : SeenFolder) (r : Result (Unit {0}) E) → AreTaken steps old new r → StaysSound steps old new
taken_sound steps old new (Ok _) h = sound_end steps old.state new.state h.1
taken_sound steps old new (Err _) h = sound_stop steps old.state new.state h.2

-- two steps, or a stop at the second
both_done : (one two : FolderStep) (o p q : Option FolderState) → p ≡ option_map (folder_after one) o → q ≡ option_map (folder_after two) p → q ≡ option_map (after_steps (one ∷ two ∷ [])) o
both_done one two None p q a b = b ∙ ap (option_map (folder_after two)) a
both_done one two (Some f) p q a b = b ∙ ap (option_map (folder_after two)) a

second_moment : (one two : FolderStep) (o p q : Option FolderState) → p ≡ option_map (folder_after one) o → IfSome p (λ f. IfSome q (IsDuring two f)) → IfSome o (λ f. IfSome q (IsMoment (one ∷ two ∷ []) f))
second_moment one two None p q a is = tt
second_moment one two (Some f) p q a is =
    each_moment (IsDuring two (folder_after one f)) (IsMoment (one ∷ two ∷ []) f) q (λ now during. inr (inl during))
    (subst (λ (o : Option FolderState). IfSome o (λ g. IfSome q (IsDuring two g))) a is)

-- the steps of a publish: the first stops, or it is done and then the second is taken
pub put_stopped : {E : Type 0} (n : ℕ) (edition : EditionBytes) (old new : SeenFolder) (e : E) → TakesStep {E = E} (WriteEdition n edition) old new (Err e) → AreTaken {E = E} (publish_steps n edition) old new (Err e)
put_stopped n edition old new e h = (h.0, h.1, first_moment (WriteEdition n edition) (SetCurrent n ∷ []) old.state new.state h.2)

pub put_done : {E : Type 0} (n : ℕ) (edition : EditionBytes) (old mid new : SeenFolder) (r : Result (Unit {0}) E) → TakesStep {E = E} (WriteEdition n edition) old mid (Ok tt) → TakesStep (SetCurrent n) mid new r → AreTaken (publish_steps n edition) old new r
put_done n edition old mid new (Ok _) first second = (second.0 ∙ first.0, both_done (WriteEdition n edition) (SetCurrent n) old.state mid.state new.state first.1 second.1)
put_done n edition old mid new (Err _) first second =
    (second.0 ∙ first.0, second.1 ∙ shown_after (WriteEdition n edition ∷ []) old.state mid.state first.1, second_moment (WriteEdition n edition) (SetCurrent n) old.state mid.state new.state first.1 second.2)
