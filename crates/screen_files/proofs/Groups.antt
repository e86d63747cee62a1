-- One frame more of those in the order of their ids.
use Rattle.std.proofs.Common.{◌≡◌, ◌∙◌, ◌≤◌, ◌+◌, ◌-◌, ℕ, true, false, List, [], ◌∷◌, ◌++◌, drop, length, take, refl, sym, ap, arith}
use Rattle.std.proofs.lemmas.List.{drop-drop}
use Rattle.std.proofs.Math.Seq.{take-add}
use Rattle.screen_files.specs.declared.filed.Filed.{Filed}
use Rattle.screen_files.specs.Settling.{has_same_id, chosen, kept_from, twins_among, twins_from}

module _ (group left : List Filed) (f : Filed) (more : List Filed) (is : left ≡ f ∷ more) (within : length left ≤ length group) (there : drop (length group - length left) group ≡ left) where
  count : length group - length more ≡ (length group - length left) + 1
  count = omega (arith, within, ap (λ (fs : List Filed). length fs) is)

  pub more_within : length more ≤ length group
  more_within = omega (arith, within, ap (λ (fs : List Filed). length fs) is)

  pub more_there : drop (length group - length more) group ≡ more
  more_there =
      ap (λ (n : ℕ). drop n group) count
      ∙ sym (drop-drop 1 (length group - length left) group)
      ∙ ap (λ (fs : List Filed). drop 1 fs) (there ∙ is)

  pub more_taken : take (length group - length more) group ≡ take (length group - length left) group ++ f ∷ []
  more_taken =
      ap (λ (n : ℕ). take n group) count
      ∙ take-add (length group - length left) 1 group
      ∙ ap (λ (fs : List Filed). take (length group - length left) group ++ take 1 fs) (there ∙ is)

module _ (left : List Filed) (f : Filed) (more : List Filed) (is : left ≡ f ∷ more) where
  one : length left - length more ≡ 1
  one = omega (arith, ap (λ (fs : List Filed). length fs) is)

  pub new_within : length more ≤ length left
  new_within = omega (arith, ap (λ (fs : List Filed). length fs) is)

  pub new_there : drop (length left - length more) left ≡ more
  new_there = ap (λ (n : ℕ). drop n left) one ∙ ap (λ (fs : List Filed). drop 1 fs) is

  pub new_taken : take (length left - length more) left ≡ f ∷ []
  new_taken = ap (λ (n : ℕ). take n left) one ∙ ap (λ (fs : List Filed). take 1 fs) is

module _ (kept : Filed) (left : List Filed) (f : Filed) (more : List Filed) (is : left ≡ f ∷ more) where
  pub kept_same : has_same_id kept f ≡ true → kept_from kept left ≡ kept_from (chosen kept f) more
  unfolding kept_from
  kept_same e = ap (kept_from kept) is ∙ rw e refl

  pub kept_other : has_same_id kept f ≡ false → kept_from kept left ≡ kept ∷ kept_from f more
  unfolding kept_from
  kept_other e = ap (kept_from kept) is ∙ rw e refl

  pub twins_same : (group : List Filed) → has_same_id kept f ≡ true → twins_from kept group left ≡ twins_from (chosen kept f) (group ++ f ∷ []) more
  unfolding twins_from
  twins_same group e = ap (twins_from kept group) is ∙ rw e refl

  pub twins_other : (group : List Filed) → has_same_id kept f ≡ false → twins_from kept group left ≡ twins_among kept group ++ twins_from f (f ∷ []) more
  unfolding twins_from
  twins_other group e = ap (twins_from kept group) is ∙ rw e refl

pub kept_end : (kept : Filed) (left : List Filed) → left ≡ [] → kept_from kept left ≡ kept ∷ []
unfolding kept_from
kept_end kept left is = ap (kept_from kept) is

pub twins_end : (kept : Filed) (group left : List Filed) → left ≡ [] → twins_from kept group left ≡ twins_among kept group
unfolding twins_from
twins_end kept group left is = ap (twins_from kept group) is
