-- Lines are judged one by one, and counted from 1.
use Rattle.std.proofs.Common.{◌≡◌, ℕ, ◌+◌, ◌≤◌, true, false, ltb, eqb, cond, List, [], ◌∷◌, ◌++◌, length, map, Result, Ok, Err, refl, sym, ap, inl, inr, ◌∙◌, arith, length-append}
use Rattle.std.specs.Prelude.{codes}
use Rattle.std.specs.Int.{from_bool}
use Rattle.std.proofs.lemmas.Bool.{cases_lt}
use Rattle.std.proofs.lemmas.Bool.Decides.{nat_tests}
use Rattle.std.proofs.lemmas.List.{length-map}
use Rattle.std.proofs.lemmas.List.Elements.{recursion_from_All}
use Rattle.cert_text.specs.declared.fault.LineCause.TheVariants as causes
use Rattle.cert_text.specs.declared.stage.Stage.{Stage}
use Rattle.cert_text.specs.declared.stage.Stage.TheVariants.{Magic, Head, Groups, Rows, After}
use Rattle.cert_text.specs.declared.stage.NumberLine.TheVariants.{Entry, Ceiling, Keyings, Count}
use Rattle.cert_text.specs.Grammar.{has_groups, groups_lines, rows_line, row_line}
use Rattle.frame_records.specs.Steps.{◌>>=◌}
use Rattle.cert_text.specs.Reading.{Said, Reading, Fault, reading_start, due_number, judge, lengthen, is_over, take_byte, step, reading_after, run_on, ended, HasNoEnd, line_ends, line_judged}
use Rattle.cert_text.proofs.Spelled.{bind_ok}
use Rattle.page_ids.proofs.Truths.{needs, lacks, ok_is}
use Rattle.page_ids.proofs.KeyTexts.{chosen}
use Rattle.cert_text.proofs.Found.{head_of, lines_before, HaveCome, Holds, holds_step, holds_start, took_line, at_line_ok}
use Rattle.cert_text.proofs.GroupLines.{counted}
use Rattle.cert_text.proofs.Only.{NoEnds, longer, step_longer, run_line}

step_long : (s : Reading) (b : ℕ) → is_over s.stage ≡ false → eqb b 10 ≡ false → 128 ≤ length s.line
    → step s b ≡ Err (due_number s.stage s.said, causes.Word)
unfolding step
step_long s b going other full =
    let no : ltb (length s.line) 128 ≡ false = grind (arith, nat_tests) in
    rw (going, other, no) refl

whole_rec : (s : Reading) (line rest : List ℕ) → is_over s.stage ≡ false → NoEnds line
    → length s.line + length line ≤ 128 → reading_after s (line ++ (10 ∷ rest)) ≡ run_on (line_judged s (s.line ++ line)) rest
whole_rec s line rest going none fits = run_line s line rest going none fits

pub whole : (s : Reading) (line rest : List ℕ) → is_over s.stage ≡ false → HasNoEnd line
    → length s.line + length line ≤ 128 → reading_after s (line ++ (10 ∷ rest)) ≡ run_on (line_judged s (s.line ++ line)) rest
whole s line rest going none fits =
    whole_rec s line rest going (recursion_from_All (λ b. eqb b 10 ≡ false) line none) fits

long_rec : (s : Reading) (line rest : List ℕ) → is_over s.stage ≡ false → NoEnds line → length s.line ≤ 128
    → length s.line + length line ≡ 129 → reading_after s (line ++ rest) ≡ Err (due_number s.stage s.said, causes.Word)
long_rec s [] rest going none le len = absurd (omega arith)
long_rec s (b ∷ line) rest going none le len =
    elim (cases_lt (length s.line) 128) [
      | inl room ↦
          let one : length (s.line ++ (b ∷ [])) ≡ length s.line + 1 = length-append s.line (b ∷ []) in
          ap (λ (r : Result Reading Fault). r >>= λ t. reading_after t (line ++ rest)) (step_longer s b going none.0 room)
          ∙ long_rec (longer s b) line rest going none.1 (omega (arith, one)) (omega (arith, one))
      | inr full ↦ ap (λ (r : Result Reading Fault). r >>= λ t. reading_after t (line ++ rest)) (step_long s b going none.0 full)
    ]

pub long : (s : Reading) (line rest : List ℕ) → is_over s.stage ≡ false → HasNoEnd line → length s.line ≤ 128
    → length s.line + length line ≡ 129 → reading_after s (line ++ rest) ≡ Err (due_number s.stage s.said, causes.Word)
long s line rest going none le len =
    long_rec s line rest going (recursion_from_All (λ b. eqb b 10 ≡ false) line none) le len

cut_rec : (s : Reading) (line : List ℕ) → is_over s.stage ≡ false → NoEnds line → length s.line + length line ≤ 128
    → (reading_after s line >>= ended) ≡ Err (due_number s.stage s.said, causes.Truncated)
cut_rec s [] going none fits = rw going refl
cut_rec s (b ∷ line) going none fits =
    let one : length (s.line ++ (b ∷ [])) ≡ length s.line + 1 = length-append s.line (b ∷ []) in
    ap (λ (r : Result Reading Fault). (r >>= λ t. reading_after t line) >>= ended) (step_longer s b going none.0 (omega arith))
    ∙ cut_rec (longer s b) line going none.1 (omega (arith, one))

pub cut : (s : Reading) (line : List ℕ) → is_over s.stage ≡ false → HasNoEnd line → length s.line + length line ≤ 128
    → (reading_after s line >>= ended) ≡ Err (due_number s.stage s.said, causes.Truncated)
cut s line going none fits = cut_rec s line going (recursion_from_All (λ b. eqb b 10 ≡ false) line none) fits

step_after : (s : Reading) (b : ℕ) → is_over s.stage ≡ true → step s b ≡ Err (due_number s.stage s.said, causes.Tail)
unfolding step
step_after s b over = rw over refl

pub tail : (s : Reading) (b : ℕ) (rest : List ℕ) → is_over s.stage ≡ true
    → reading_after s (b ∷ rest) ≡ Err (due_number s.stage s.said, causes.Tail)
tail s b rest over = ap (λ (r : Result Reading Fault). r >>= λ t. reading_after t rest) (step_after s b over)

-- ---- the numbers of lines

groups_counted : (s : Said) → s.grouped ≡ has_groups s.groups → from_bool s.grouped ≡ length (groups_lines s.groups)
groups_counted s said = ap from_bool said ∙ counted s.groups

head_counted : (s : Said) → s.grouped ≡ has_groups s.groups → length (head_of s) ≡ from_bool s.grouped + 5
head_counted s said =
    omega (arith, groups_counted s said, length-append (groups_lines s.groups) (rows_line s.count ∷ []))

number_is : (g : Stage) (s : Said) → HaveCome g s → due_number g s ≡ length (lines_before g s) + 1
number_is Magic s come = refl
number_is (Head Entry) s come = refl
number_is (Head Ceiling) s come = refl
number_is (Head Keyings) s come = refl
number_is Groups s come = refl
number_is (Head Count) s come = omega (arith, groups_counted s come.0)
number_is Rows s come =
    omega (arith, head_counted s come.0, length-append (head_of s) (map row_line s.rows), length-map s.rows row_line)
number_is After s come =
    let rows = map row_line s.rows in
    let end = codes "end" ∷ [] in
    let head = length-append (head_of s) (rows ++ end) in
    omega (arith, head_counted s come.0, head, length-append rows end, length-map s.rows row_line)

abbrev number : Reading → ℕ
number s = due_number s.stage s.said

number_judge : (bytes : List ℕ) (s t : Reading) → Holds bytes s → judge s ≡ Ok t → number t ≡ number s + 1
number_judge bytes s t h e =
    let k = took_line bytes s t h e in
    let a = number_is s.stage s.said h.come in
    let b = number_is t.stage t.said k.come in
    let len : length (lines_before t.stage t.said) ≡ length (lines_before s.stage s.said) + 1 =
    ap length k.lines ∙ length-append (lines_before s.stage s.said) (s.line ∷ []) in
    omega (arith, a, b, len)

number_longer : (s t : Reading) (b : ℕ) → lengthen s b ≡ Ok t → number t ≡ number s
number_longer s t b e =
    let a = needs (ltb (length s.line) 128) causes.Word (Ok (longer s b)) t e in
    sym (ap number (ok_is (longer s b) t a.1))

abbrev ends_of : ℕ → ℕ → ℕ
ends_of b n = cond (eqb b 10) (n + 1) n

number_step : (bytes : List ℕ) (s t : Reading) (b : ℕ) → Holds bytes s → step s b ≡ Ok t
    → number t ≡ ends_of b (number s)
unfolding step
number_step bytes s t b h e =
    let r = at_line_ok (due_number s.stage s.said) (take_byte s b) t e in
    let a = lacks (is_over s.stage) causes.Tail (cond (eqb b 10) (judge s) (lengthen s b)) t r in
    elim (chosen (eqb b 10) (judge s) (lengthen s b) (Ok t) a.1) [
      | inl j ↦ rw j.0 (number_judge bytes s t h j.1)
      | inr j ↦ rw j.0 (number_longer s t b j.1)
    ]

ends_more : (b m n : ℕ) → ends_of b m + n ≡ m + ends_of b n
ends_more b m n = by_test (eqb b 10) m n where
  by_test : (q : _) (m n : ℕ) → cond q (m + 1) m + n ≡ m + cond q (n + 1) n
  by_test true m n = omega arith
  by_test false m n = refl

number_run : (bytes more : List ℕ) (s t : Reading) → Holds bytes s → reading_after s more ≡ Ok t
    → number t ≡ number s + line_ends more
number_run bytes [] s t h e = same s t e where
  same : (s t : Reading) → reading_after s [] ≡ Ok t → number t ≡ number s + 0
  same s t e = let is : s ≡ t = inner s t e in sym (ap number is) ∙ zero_more (number s) where
    inner : (s t : Reading) → reading_after s [] ≡ Ok t → s ≡ t
    inner s t e = cc

    zero_more : (n : ℕ) → n ≡ n + 0
    zero_more n = omega arith
number_run bytes (b ∷ more) s t h e =
    let a = bind_ok (step s b) (λ u. reading_after u more) t e in
    let one = number_step bytes s a.0 b h a.1 in
    let rest = number_run (bytes ++ (b ∷ [])) more a.0 t (holds_step bytes s a.0 b h a.1) a.2 in
    rest ∙ ap (λ (n : ℕ). n + line_ends more) one ∙ ends_more b (number s) (line_ends more)

pub numbered : (bytes : List ℕ) (s : Reading) → reading_after reading_start bytes ≡ Ok s → due_number s.stage s.said ≡ line_ends bytes + 1
numbered bytes s e = let n = number_run [] bytes reading_start s holds_start e in omega (arith, n)
