-- One cell more of those that hold others.
use Rattle.std.proofs.Common.{◌≡◌, ◌∙◌, ◌<◌, ◌≤◌, ◌+◌, ◌==◌, ◌&&◌, ◌||◌, ℕ, Bool, true, false, List, drop, get_or, length, refl, sym, ap, arith}
use Rattle.std.proofs.lemmas.List.{drop_more, length-drop, nil_from_length}
use Rattle.screen_files.specs.Settling.{cells_hold}

module _ (cells others : List ℕ) (at : ℕ) (same : length cells ≡ length others) (lt : at < length others) where
  abbrev here : ℕ
  here = get_or cells at 0

  abbrev there : ℕ
  there = get_or others at 0

  step : cells_hold (drop at cells) (drop at others) ≡ ((there == 32 || there == here) && cells_hold (drop (at + 1) cells) (drop (at + 1) others))
  unfolding cells_hold
  step = rw (drop_more cells at 0 (omega (arith, same, lt)), drop_more others at 0 lt) refl

  pub hold_space : (there == 32) ≡ true → cells_hold (drop (at + 1) cells) (drop (at + 1) others) ≡ cells_hold (drop at cells) (drop at others)
  hold_space e = sym (step ∙ rw e refl)

  pub hold_same : (there == here) ≡ true → cells_hold (drop (at + 1) cells) (drop (at + 1) others) ≡ cells_hold (drop at cells) (drop at others)
  hold_same e = by (there == 32) refl where
    by : (b : Bool) → (there == 32) ≡ b → cells_hold (drop (at + 1) cells) (drop (at + 1) others) ≡ cells_hold (drop at cells) (drop at others)
    by true f = sym (step ∙ rw f refl)
    by false f = sym (step ∙ rw (f, e) refl)

  pub hold_none : (there == 32) ≡ false → (there == here) ≡ false → false ≡ cells_hold (drop at cells) (drop at others)
  hold_none e f = sym (step ∙ rw (e, f) refl)

pub hold_end : (cells others : List ℕ) (at : ℕ) → length cells ≡ length others → length others ≤ at → true ≡ cells_hold (drop at cells) (drop at others)
unfolding cells_hold
hold_end cells others at same past =
    let none = nil_from_length (drop at cells) (omega (arith, same, past, length-drop at cells)) in
    ap (λ (cs : List ℕ). cells_hold cs (drop at others)) (sym none)
