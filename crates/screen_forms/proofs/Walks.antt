-- Steps of walks over a text.
use Rattle.std.proofs.Common.{◌≡◌, ◌∙◌, ◌<◌, ◌≤◌, ◌+◌, ◌-◌, ℕ, Bool, zero, suc, Some, None, Result, Ok, Err, true, false, List, [], ◌∷◌, refl, sym, ap, subst, drop, get_or, length, arith}
use Rattle.std.proofs.lemmas.List.{append-nil, drop_more, drop_all}
use Rattle.screen_forms.specs.Words.{belongs, run_start}
use Rattle.screen_forms.specs.declared.text_screens.TextScreen.{TextScreen}
use Rattle.screen_forms.specs.declared.text_screens.FaultyLine.{FaultyLine}
use Rattle.screen_forms.specs.declared.text_screens.TextScreensFault.{TextScreensFault}
use Rattle.screen_forms.specs.declared.text_screens.TextScreensFault.TheVariants.{Line, Memory}
use Rattle.screen_forms.specs.Loops.{IsLineAdded, after_screens}
use Rattle.screen_forms.specs.Links.{is_link_letter}
use Rattle.screen_forms.specs.TextScreens.{AreTextScreens}
use Rattle.screen_forms.specs.Addresses.{field_id, is_mark, is_number_field, letters_from, line_screen, lines_screens, mark_from, number_among, then_screens}

module _ (gap : Bool) (text : List ℕ) where
  pub start_none : run_start gap text 0 ≡ 0
  unfolding run_start
  start_none = refl

  pub start_step : (n : ℕ) → 0 < n → belongs gap text (n - 1) ≡ true → run_start gap text (n - 1) ≡ run_start gap text n
  unfolding run_start
  start_step zero some goes = absurd (omega (arith, some))
  start_step (suc n) some goes =
      let less : suc n - 1 ≡ n = omega arith in
      let is : belongs gap text n ≡ true = ap (λ (m : ℕ). belongs gap text m) (sym less) ∙ goes in
      let here : run_start gap text n ≡ run_start gap text (suc n) = rw is refl in
      ap (λ (m : ℕ). run_start gap text m) less ∙ here

  pub start_stop : (n : ℕ) → 0 < n → belongs gap text (n - 1) ≡ false → run_start gap text n ≡ n
  unfolding run_start
  start_stop zero some stops = absurd (omega (arith, some))
  start_stop (suc n) some stops =
      let less : suc n - 1 ≡ n = omega arith in
      let is : belongs gap text n ≡ false = ap (λ (m : ℕ). belongs gap text m) (sym less) ∙ stops in
      rw is refl

mark_hit : (at c : ℕ) (cs : List ℕ) → is_mark (c ∷ cs) ≡ true → mark_from at (c ∷ cs) ≡ Some at
unfolding mark_from
mark_hit at c cs is = rw is refl

mark_miss : (at c : ℕ) (cs : List ℕ) → is_mark (c ∷ cs) ≡ false → mark_from at (c ∷ cs) ≡ mark_from (at + 1) cs
unfolding mark_from
mark_miss at c cs is = rw is refl

pub mark_here : (at : ℕ) (text : List ℕ) → at < length text → is_mark (drop at text) ≡ true → mark_from at (drop at text) ≡ Some at
mark_here at text inside is =
    subst (λ l. is_mark l ≡ true → mark_from at l ≡ Some at) (sym (drop_more text at 0 inside)) (mark_hit at (get_or text at 0) (drop (at + 1) text)) is

pub mark_later : (at : ℕ) (text : List ℕ) → at < length text → is_mark (drop at text) ≡ false → mark_from at (drop at text) ≡ mark_from (at + 1) (drop (at + 1) text)
mark_later at text inside is =
    subst (λ l. is_mark l ≡ false → mark_from at l ≡ mark_from (at + 1) (drop (at + 1) text)) (sym (drop_more text at 0 inside)) (mark_miss at (get_or text at 0) (drop (at + 1) text)) is

pub mark_none : (at : ℕ) (text : List ℕ) → length text ≤ at → mark_from at (drop at text) ≡ None
unfolding mark_from
mark_none at text past = rw (drop_all at text past) refl

letters_hit : (at c : ℕ) (cs : List ℕ) → is_link_letter c ≡ false → letters_from at (c ∷ cs) ≡ at
unfolding letters_from
letters_hit at c cs is = rw is refl

letters_miss : (at c : ℕ) (cs : List ℕ) → is_link_letter c ≡ true → letters_from at (c ∷ cs) ≡ letters_from (at + 1) cs
unfolding letters_from
letters_miss at c cs is = rw is refl

pub letters_here : (at : ℕ) (text : List ℕ) → at < length text → is_link_letter (get_or text at 0) ≡ false → letters_from at (drop at text) ≡ at
letters_here at text inside is =
    subst (λ l. letters_from at l ≡ at) (sym (drop_more text at 0 inside)) (letters_hit at (get_or text at 0) (drop (at + 1) text) is)

pub letters_later : (at : ℕ) (text : List ℕ) → at < length text → is_link_letter (get_or text at 0) ≡ true → letters_from at (drop at text) ≡ letters_from (at + 1) (drop (at + 1) text)
letters_later at text inside is =
    subst (λ l. letters_from at l ≡ letters_from (at + 1) (drop (at + 1) text)) (sym (drop_more text at 0 inside)) (letters_miss at (get_or text at 0) (drop (at + 1) text) is)

pub letters_none : (at : ℕ) (text : List ℕ) → length text ≤ at → letters_from at (drop at text) ≡ at
unfolding letters_from
letters_none at text past = rw (drop_all at text past) refl

-- fields, the first of which is known
pub field_here : (all : List (List ℕ)) (f : List ℕ) (fs : List (List ℕ)) → all ≡ f ∷ fs → is_number_field f ≡ true → number_among all ≡ field_id f
unfolding number_among
field_here all f fs e is = rw (e, is) refl

pub field_later : (all : List (List ℕ)) (f : List ℕ) (fs : List (List ℕ)) → all ≡ f ∷ fs → is_number_field f ≡ false → number_among all ≡ number_among fs
unfolding number_among
field_later all f fs e is = rw (e, is) refl

pub field_none : (all : List (List ℕ)) (f : List ℕ) → all ≡ f ∷ [] → is_number_field f ≡ false → number_among all ≡ None
unfolding number_among
field_none all f e is = rw (e, is) refl

-- lines, the first of which is known
pub line_first : (line : ℕ) (all : List (List ℕ)) (l : List ℕ) (ls : List (List ℕ)) → all ≡ l ∷ ls
    → lines_screens line all ≡ then_screens line (line_screen line l) (lines_screens (line + 1) ls)
unfolding lines_screens
line_first line all l ls e = rw e refl

pub line_last : (line : ℕ) (all : List (List ℕ)) (l : List ℕ) → all ≡ l ∷ [] → lines_screens line all ≡ then_screens line (line_screen line l) (Ok [])
unfolding lines_screens
line_last line all l e = rw e refl

-- Lines that are read.

pub fault_in : (line : ℕ) (old new : List TextScreen) (all : List (List ℕ)) (l : List ℕ) (ls : List (List ℕ)) (whole : Result (List TextScreen) FaultyLine) (fault : TextScreensFault)
    → IsLineAdded line old new (line_screen line l) (Err fault) → after_screens old (lines_screens line all) ≡ whole → all ≡ l ∷ ls → AreTextScreens whole (Err fault)
fault_in line old new all l ls whole (Line f) added e parts =
    sym e ∙ ap (λ m. after_screens old m) (line_first line all l ls parts) ∙ added (lines_screens (line + 1) ls)
fault_in line old new all l ls whole Memory added e parts = tt

pub screens_in : (line : ℕ) (old new : List TextScreen) (all : List (List ℕ)) (l : List ℕ) (whole : Result (List TextScreen) FaultyLine) (u : Unit {0})
    → IsLineAdded line old new (line_screen line l) (Ok u) → after_screens old (lines_screens line all) ≡ whole → all ≡ l ∷ [] → whole ≡ Ok new
screens_in line old new all l whole u added e parts =
    sym e ∙ ap (λ m. after_screens old m) (line_last line all l parts) ∙ added (Ok []) ∙ ap (λ (ss : List TextScreen). let r : Result (List TextScreen) FaultyLine = Ok ss in r) (append-nil new)
