-- One frame more of a base's text.
use Rattle.std.proofs.Common.{◌≡◌, ◌∙◌, ◌<◌, ◌≤◌, ℕ, Bool, true, false, cond, List, ◌∷◌, ◌++◌, Some, length, nat_lt, sym, ap, arith, append_assoc}
use Rattle.std.proofs.lemmas.Bool.Decides.{nat_tests}
use Rattle.std.proofs.lemmas.List.{length-append}
use Rattle.base_text.specs.declared.limits.TheConstants.{MOST_TEXT}
use Rattle.page_ids.specs.Ids.{Id}
use Rattle.screen_files.specs.declared.filed.Filed.{Filed}
use Rattle.screen_files.specs.Album.{filed_lines, first_over, frames_text}

module _ (known : List Id) (before new : List ℕ) (f : Filed) (more rest : List Filed) (is : rest ≡ f ∷ more) (wrote : new ≡ before ++ filed_lines known f more) where
  pub text_more : new ++ frames_text known more ≡ before ++ frames_text known rest
  unfolding frames_text
  text_more =
      ap (λ (text : List ℕ). text ++ frames_text known more) wrote
      ∙ append_assoc before (filed_lines known f more) (frames_text known more)
      ∙ ap (λ (fs : List Filed). before ++ frames_text known fs) (sym is)

  over_by : (b : Bool) → nat_lt MOST_TEXT (length new) ≡ b → first_over known (length before) rest ≡ cond b (Some f.origin.file) (first_over known (length new) more)
  unfolding first_over
  over_by b test =
      ap (first_over known (length before)) is
      ∙ ap (λ (n : ℕ). cond (nat_lt MOST_TEXT n) (Some f.origin.file) (first_over known n more)) (sym (ap length wrote ∙ length-append before (filed_lines known f more)))
      ∙ ap (λ (over : Bool). cond over (Some f.origin.file) (first_over known (length new) more)) test

  pub over_here : MOST_TEXT < length new → first_over known (length before) rest ≡ Some f.origin.file
  over_here past = let test : nat_lt MOST_TEXT (length new) ≡ true = grind (arith, nat_tests) in over_by true test

  pub over_later : length new ≤ MOST_TEXT → first_over known (length new) more ≡ first_over known (length before) rest
  over_later within = let test : nat_lt MOST_TEXT (length new) ≡ false = grind (arith, nat_tests) in sym (over_by false test)
