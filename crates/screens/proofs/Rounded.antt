-- The outlines of letters are their dots, rounded.
use Rattle.std.proofs.Common.{◌≡◌, ℕ, ◌+◌, ◌<◌, ◌≤◌, arith, refl, sym, ap, ◌∙◌, subst, Bool, true, false, not, ◌&&◌, ◌||◌, List, [], ◌∷◌, ◌==◌, nat_lt, nat_le, if◌then◌else◌, get_or, length}
use Rattle.std.specs.List.{list_all, range_with_len}
use Rattle.std.proofs.lemmas.Bool.{and_parts, cond_both, not-true}
use Rattle.std.proofs.lemmas.Bool.Decides.{nat_tests}
use Rattle.std.proofs.lemmas.List.Folds.{list_all_at}
use Rattle.std.proofs.lemmas.List.FromFn.{length-range_with_len, get_or-range_with_len}
use Rattle.screens.specs.declared.look.Height.{Height}
use Rattle.screens.specs.declared.look.Height.TheVariants.{Single, Upper, Lower}
use Rattle.screens.specs.Letters.{Letter, letter_drawn}
use Rattle.screens.specs.Outlines.{is_half_dot, half_row, half_outline, outline, UprightLine, upright_lines, is_outline, crosses, crossing, downs, ups, turns_around, is_inside}
use Rattle.screens.specs.Laws.{IsRounded}
use Rattle.screens.specs.Svg.{is_same}
use Rattle.screens.proofs.Drawn.{fits, row_drawn, rows_drawn, is_drawn, is_right}
use Rattle.screens.proofs.Safe.{is_inner}
use Rattle.screens.proofs.Letters.{all_right}

at_height : (h : Height) (l : Letter) → is_right l ≡ true → is_drawn h l ≡ true
at_height Single l e = (and_parts (is_drawn Single l) (is_drawn Upper l && is_drawn Lower l) e).0
at_height Upper l e = (and_parts (is_drawn Upper l) (is_drawn Lower l) (and_parts (is_drawn Single l) (is_drawn Upper l && is_drawn Lower l) e).1).0
at_height Lower l e = (and_parts (is_drawn Upper l) (is_drawn Lower l) (and_parts (is_drawn Single l) (is_drawn Upper l && is_drawn Lower l) e).1).1

-- what was computed of an outline
record Computed (h : Height) (l : Letter) : Type 0 where
  reads : is_outline (half_outline h l) ≡ true
  inner : list_all is_inner (half_outline h l) ≡ true
  fit : list_all fits (upright_lines (half_outline h l)) ≡ true
  rows : rows_drawn h l.dots (upright_lines (half_outline h l)) ≡ true

computed : (h : Height) (l : Letter) → is_drawn h l ≡ true → Computed h l
computed h l e =
    let bs = half_outline h l in
    let later = list_all is_inner bs && (list_all fits (upright_lines bs) && rows_drawn h l.dots (upright_lines bs)) in
    let first = and_parts (is_outline bs) later e in
    let second = and_parts (list_all is_inner bs) (list_all fits (upright_lines bs) && rows_drawn h l.dots (upright_lines bs)) first.1 in
    let third = and_parts (list_all fits (upright_lines bs)) (rows_drawn h l.dots (upright_lines bs)) second.1 in
    record { reads = first.0; inner = second.0; fit = third.0; rows = third.1 }

of_letter : (h : Height) (c : ℕ) → Computed h (letter_drawn c)
of_letter h c = computed h (letter_drawn c) (at_height h (letter_drawn c) (all_right c))

pub inner_outline : (h : Height) (c : ℕ) → list_all is_inner (outline h c) ≡ true
inner_outline h c = (of_letter h c).inner

unless_false : (b c : Bool) → (b ≡ false → c ≡ false) → c ≡ true → b ≡ true
unless_false true c f h = refl
unless_false false c f h = sym (f refl) ∙ h

-- what all numbers pass each passes
each_passes : (p : ℕ → Bool) (n i : ℕ) → list_all p (range_with_len 0 n) ≡ true → i < n → p i ≡ true
each_passes p n i h lt =
    let size : length (range_with_len 0 n) ≡ n = length-range_with_len 0 n in
    let plain : 0 + i ≡ i = omega arith in
    let same : get_or (range_with_len 0 n) i 0 ≡ i = get_or-range_with_len 0 n i 0 lt ∙ plain in
    subst (λ (k : ℕ). p k ≡ true) same (unless_false (p (get_or (range_with_len 0 n) i 0)) (list_all p (range_with_len 0 n)) (λ e. list_all_at p (range_with_len 0 n) i 0 (omega (arith, size)) e) h)

same_means : (a b : Bool) → is_same a b ≡ true → a ≡ b
same_means true true h = refl
same_means true false h = sym h
same_means false true h = h
same_means false false h = refl

row_at : (h : Height) (l : Letter) (y : ℕ) → Computed h l → y < 20 → row_drawn l.dots (crossing (upright_lines (half_outline h l)) y) (half_row h y) ≡ true
row_at h l y k lt = each_passes (λ y. row_drawn l.dots (crossing (upright_lines (half_outline h l)) y) (half_row h y)) 20 y k.rows lt

inside_at : (h : Height) (l : Letter) (x y : ℕ) → Computed h l → x < 12 → y < 20 → is_inside (half_outline h l) x y ≡ is_half_dot l.dots x (half_row h y)
inside_at h l x y k lt low =
    let ls = crossing (upright_lines (half_outline h l)) y in
    let units = (and_parts (list_all (λ x. is_same (turns_around ls x) (is_half_dot l.dots x (half_row h y))) (range_with_len 0 12)) (not (turns_around ls 12)) (row_at h l y k low)).0 in
    same_means (turns_around ls x) (is_half_dot l.dots x (half_row h y)) (each_passes (λ x. is_same (turns_around ls x) (is_half_dot l.dots x (half_row h y))) 12 x units lt)

-- beyond the last column all lines are to the left
far_at : (l : UprightLine) (x : ℕ) → fits l ≡ true → 12 ≤ x → nat_le l.at x ≡ true
far_at l x h le =
    let e : nat_le l.at 12 ≡ true = (and_parts (nat_le l.at 12) (nat_le l.from 20 && nat_le l.to 20) h).0 in
    grind (arith, nat_tests)

far_downs : (ls : List UprightLine) (y x : ℕ) → list_all fits ls ≡ true → 12 ≤ x → downs (crossing ls y) x ≡ downs (crossing ls y) 12
far_downs [] y x h le = refl
far_downs (l ∷ ls) y x h le =
    let parts = and_parts (fits l) (list_all fits ls) h in
    let here : nat_le l.at x ≡ true = far_at l x parts.0 le in
    let there : nat_le l.at 12 ≡ true = far_at l 12 parts.0 (omega arith) in
    let later = far_downs ls y x parts.1 le in
    cond_both (crosses l y) _ _ (λ (rs : List UprightLine). downs rs x ≡ downs rs 12)
    (λ e. rw (here, there) (ap (λ (n : ℕ). (if nat_lt l.from l.to then 1 else 0) + n) later))
    (λ e. later)

far_ups : (ls : List UprightLine) (y x : ℕ) → list_all fits ls ≡ true → 12 ≤ x → ups (crossing ls y) x ≡ ups (crossing ls y) 12
far_ups [] y x h le = refl
far_ups (l ∷ ls) y x h le =
    let parts = and_parts (fits l) (list_all fits ls) h in
    let here : nat_le l.at x ≡ true = far_at l x parts.0 le in
    let there : nat_le l.at 12 ≡ true = far_at l 12 parts.0 (omega arith) in
    let later = far_ups ls y x parts.1 le in
    cond_both (crosses l y) _ _ (λ (rs : List UprightLine). ups rs x ≡ ups rs 12)
    (λ e. rw (here, there) (ap (λ (n : ℕ). (if nat_lt l.to l.from then 1 else 0) + n) later))
    (λ e. later)

beside_at : (h : Height) (l : Letter) (x y : ℕ) → Computed h l → 12 ≤ x → y < 20 → is_inside (half_outline h l) x y ≡ false
beside_at h l x y k le low =
    let all = upright_lines (half_outline h l) in
    let ls = crossing all y in
    let last = (and_parts (list_all (λ x. is_same (turns_around ls x) (is_half_dot l.dots x (half_row h y))) (range_with_len 0 12)) (not (turns_around ls 12)) (row_at h l y k low)).1 in
    ap (λ (n : ℕ). not (n == ups ls x)) (far_downs all y x k.fit le) ∙ (ap (λ (n : ℕ). not (downs ls 12 == n)) (far_ups all y x k.fit le) ∙ not-true (turns_around ls 12) last)

neither : (a b : Bool) → (a && false || b && false) ≡ false
neither true true = refl
neither true false = refl
neither false true = refl
neither false false = refl

-- below the last row there is none
crosses_none : (l : UprightLine) (y : ℕ) → fits l ≡ true → 20 ≤ y → crosses l y ≡ false
crosses_none l y h le =
    let parts = and_parts (nat_le l.from 20) (nat_le l.to 20) (and_parts (nat_le l.at 12) (nat_le l.from 20 && nat_le l.to 20) h).1 in
    let e : nat_le l.from 20 ≡ true = parts.0 in
    let f : nat_le l.to 20 ≡ true = parts.1 in
    let a : nat_lt y l.to ≡ false = grind (arith, nat_tests) in
    let b : nat_lt y l.from ≡ false = grind (arith, nat_tests) in
    rw (a, b) (neither (nat_le l.from y) (nat_le l.to y))

none_below : (ls : List UprightLine) (y : ℕ) → list_all fits ls ≡ true → 20 ≤ y → crossing ls y ≡ []
none_below [] y h le = refl
none_below (l ∷ ls) y h le =
    let parts = and_parts (fits l) (list_all fits ls) h in
    rw (crosses_none l y parts.0 le) (none_below ls y parts.1 le)

below_at : (h : Height) (l : Letter) (x y : ℕ) → Computed h l → 20 ≤ y → is_inside (half_outline h l) x y ≡ false
below_at h l x y k le = ap (λ (ls : List UprightLine). turns_around ls x) (none_below (upright_lines (half_outline h l)) y k.fit le)

pub outlines_are_rounded : (h : Height) (c : ℕ) → IsRounded h c
outlines_are_rounded h c =
    let k = of_letter h c in
    record {
      reads = k.reads;
      inside = λ x y lt low. inside_at h (letter_drawn c) x y k lt low;
      beside = λ x y le low. beside_at h (letter_drawn c) x y k le low;
      below = λ x y le. below_at h (letter_drawn c) x y k le;
    }
