-- How long a text can be before it has a fault or an end.
use Rattle.std.proofs.Common.{◌≡◌, ℕ, ◌+◌, ◌*◌, ◌<◌, ◌≤◌, Bool, true, false, ltb, eqb, cond, List, [], ◌∷◌, ◌++◌, length, Result, Ok, Err, refl, sym, ap, subst, inl, inr, ◌∙◌, arith, length-append}
use Rattle.std.specs.Int.{from_bool}
use Rattle.std.proofs.lemmas.Bool.Decides.{nat_tests}
use Rattle.cert_text.specs.declared.fault.LineCause.TheVariants as causes
use Rattle.cert_text.specs.declared.stage.Stage.{Stage}
use Rattle.cert_text.specs.declared.stage.Stage.TheVariants.{Magic, Head, Groups, Rows, After}
use Rattle.cert_text.specs.declared.stage.NumberLine.TheVariants.{Entry, Ceiling, Keyings, Count}
use Rattle.frame_records.specs.Steps.{◌>>=◌}
use Rattle.cert_text.specs.Reading.{Said, Reading, Fault, reading_start, due_number, judge, lengthen, is_over, take_byte, step, reading_after, ended, reading, line_ends}
use Rattle.cert_text.proofs.Spelled.{bind_ok}
use Rattle.page_ids.proofs.Truths.{needs, lacks, ok_is}
use Rattle.page_ids.proofs.KeyTexts.{chosen}
use Rattle.cert_text.proofs.Found.{Holds, holds_step, holds_start, holds_run, took_line, at_line_ok}
use Rattle.cert_text.proofs.Only.{longer, run_append}
use Rattle.cert_text.proofs.Numbered.{numbered}

-- a line grows by a byte, or at most 129 bytes are one line with its end
record Grows (s t : Reading) (b : ℕ) : Type 0 where
  pub short : length t.line ≤ 128
  pub more : length s.line + 1 ≤ cond (eqb b 10) 129 0 + length t.line

grows_judge : (bytes : List ℕ) (s t : Reading) (b : ℕ) → Holds bytes s → length s.line ≤ 128 → eqb b 10 ≡ true
    → judge s ≡ Ok t → Grows s t b
grows_judge bytes s t b h short is e =
    let none : length t.line ≡ 0 = ap length (took_line bytes s t h e).rest in
    record { short = omega (arith, none); more = rw is (omega (arith, none)) }

grows_longer : (s t : Reading) (b : ℕ) → eqb b 10 ≡ false → lengthen s b ≡ Ok t → Grows s t b
grows_longer s t b other e =
    let a = needs (ltb (length s.line) 128) causes.Word (Ok (longer s b)) t e in
    let room : length s.line < 128 = grind (arith, nat_tests, a.0) in
    let one : length (s.line ++ (b ∷ [])) ≡ length s.line + 1 = length-append s.line (b ∷ []) in
    subst (λ (u : Reading). Grows s u b) (ok_is (longer s b) t a.1)
    (record { short = omega (arith, one); more = rw other (omega (arith, one)) })

grows : (bytes : List ℕ) (s t : Reading) (b : ℕ) → Holds bytes s → length s.line ≤ 128 → step s b ≡ Ok t → Grows s t b
unfolding step
grows bytes s t b h short e =
    let r = at_line_ok (due_number s.stage s.said) (take_byte s b) t e in
    let a = lacks (is_over s.stage) causes.Tail (cond (eqb b 10) (judge s) (lengthen s b)) t r in
    elim (chosen (eqb b 10) (judge s) (lengthen s b) (Ok t) a.1) [
      | inl j ↦ grows_judge bytes s t b h short j.0 j.1
      | inr j ↦ grows_longer s t b j.0 j.1
    ]

ends_more : (q : Bool) (n : ℕ) → cond q 129 0 + 129 * n ≡ 129 * cond q (n + 1) n
ends_more true n = omega arith
ends_more false n = omega arith

record Fits (s t : Reading) (more : List ℕ) : Type 0 where
  pub short : length t.line ≤ 128
  pub all : length more + length s.line ≤ 129 * line_ends more + length t.line

fits : (bytes more : List ℕ) (s t : Reading) → Holds bytes s → length s.line ≤ 128 → reading_after s more ≡ Ok t → Fits s t more
fits bytes [] s t h short e =
    subst (λ (u : Reading). Fits s u []) (inner s t e) (record { short = short; all = omega arith }) where
      inner : (s t : Reading) → reading_after s [] ≡ Ok t → s ≡ t
      inner s t e = cc
fits bytes (b ∷ more) s t h short e =
    let a = bind_ok (step s b) (λ u. reading_after u more) t e in
    let g = grows bytes s a.0 b h short a.1 in
    let k = fits (bytes ++ (b ∷ [])) more a.0 t (holds_step bytes s a.0 b h a.1) g.short a.2 in
    let sum = ends_more (eqb b 10) (line_ends more) in
    let grown = g.more in
    let all = k.all in
    record { short = k.short; all = omega (arith, sum, grown, all) }

at_most_one : (q : Bool) → from_bool q ≤ 1
at_most_one false = omega arith
at_most_one true = omega arith

-- the greatest number of a line that is due, and one more after `end`
number_most : (g : Stage) (s : Said) → length s.rows ≤ 65535 → due_number g s ≤ 65542 + cond (is_over g) 1 0
number_most Magic s few = omega arith
number_most (Head Entry) s few = omega arith
number_most (Head Ceiling) s few = omega arith
number_most (Head Keyings) s few = omega arith
number_most Groups s few = omega arith
number_most (Head Count) s few = omega (arith, at_most_one s.grouped)
number_most Rows s few = omega (arith, at_most_one s.grouped)
number_most After s few = omega (arith, at_most_one s.grouped)

bounded_of : (q : Bool) (n len line : ℕ) → len ≤ 129 * n + line → n + 1 ≤ 65542 + cond q 1 0 → line ≤ 128
    → (q ≡ true → line ≡ 0) → len ≤ 65542 * 129
bounded_of true n len line fits most short over = let none = over refl in omega (arith, none)
bounded_of false n len line fits most short over = omega arith

pub bounded : (bytes : List ℕ) (s : Reading) → reading_after reading_start bytes ≡ Ok s → length bytes ≤ 65542 * 129
bounded bytes s e =
    let h = holds_run [] bytes reading_start s holds_start e in
    let f = fits [] bytes reading_start s holds_start (omega arith) e in
    let most = number_most s.stage s.said h.sound.rows.few in
    bounded_of (is_over s.stage) (line_ends bytes) (length bytes) (length s.line) (omega (arith, f.all))
    (omega (arith, most, numbered bytes s e)) f.short
    (λ over. ap length (h.over over))

decided_of : (bytes more : List ℕ) (r : Result Reading Fault) → reading_after reading_start bytes ≡ r → 65542 * 129 < length bytes
    → reading (bytes ++ more) ≡ reading bytes
decided_of bytes more (Ok s) e lt = absurd (omega (arith, bounded bytes s e))
decided_of bytes more (Err f) e lt =
    ap (λ (r : Result Reading Fault). r >>= ended)
    (run_append reading_start bytes more ∙ ap (λ (r : Result Reading Fault). r >>= λ t. reading_after t more) e)
    ∙ sym (ap (λ (r : Result Reading Fault). r >>= ended) e)

pub decided : (bytes more : List ℕ) → 65542 * 129 < length bytes → reading (bytes ++ more) ≡ reading bytes
decided bytes more lt = decided_of bytes more (reading_after reading_start bytes) refl lt
