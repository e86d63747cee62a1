-- The lines of the frames that aren't reached, one frame at a time.
use Rattle.std.proofs.Common.{◌≡◌, ◌∙◌, Bool, true, false, not, ◌||◌, ℕ, List, [], ◌∷◌, ◌++◌, refl, sym, ap}
use Rattle.std.proofs.lemmas.List.{append-nil}
use Rattle.std.specs.Prelude.{cond}
use Rattle.frame_records.specs.declared.frame.Frame.{Frame}
use Rattle.finder.specs.declared.found.Discovered.{Discovered}
use Rattle.audit_report.specs.declared.list_form.ListForm.{ListForm}
use Rattle.audit_report.specs.Listing.{unreached_line, is_listed, others, lines_of_others, unreached_lines}

module _ (form : ListForm) (found : List Discovered) (f : Frame) where
  -- a frame that isn't listed has a line, and one that is has none
  pub has_line : (b : Bool) → b ≡ false → b ≡ is_listed found f.id → (before after : List ℕ) → after ≡ before ++ unreached_line form f → after ≡ before ++ unreached_lines form found (f ∷ [])
  has_line b new known before after is =
      is ∙ ap (λ xs. before ++ xs) (sym (append-nil (unreached_line form f)) ∙ ap (λ x. lines_of_others form (cond (not x) (f ∷ []) [])) (sym new ∙ known))

  pub has_none : (b : Bool) → b ≡ true → b ≡ is_listed found f.id → (text : List ℕ) → text ≡ text ++ unreached_lines form found (f ∷ [])
  has_none b old known text = sym (append-nil text) ∙ ap (λ xs. text ++ xs) (ap (λ x. lines_of_others form (cond (not x) (f ∷ []) [])) (sym old ∙ known))

  -- the lines of a frame and of those after it
  pub first_line : (fs : List Frame) → unreached_lines form found (f ∷ fs) ≡ unreached_lines form found (f ∷ []) ++ unreached_lines form found fs
  first_line fs = by (is_listed found f.id) where
    by : (b : Bool) → lines_of_others form (cond (not b) (f ∷ others found fs) (others found fs)) ≡ lines_of_others form (cond (not b) (f ∷ []) []) ++ unreached_lines form found fs
    by true = refl
    by false = ap (λ xs. xs ++ unreached_lines form found fs) (sym (append-nil (unreached_line form f)))

pub or_cond : (a b : Bool) → cond a true b ≡ (b || a)
or_cond true true = refl
or_cond true false = refl
or_cond false true = refl
or_cond false false = refl
