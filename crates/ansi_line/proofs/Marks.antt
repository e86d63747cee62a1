-- What is written for a look: the character of what a terminal shows of it.
use Rattle.std.proofs.Common.{◌≡◌, ℕ, ◌+◌, ◌-◌, ◌≤◌, ◌<◌, arith, refl, sym, ap, ◌∙◌, subst, Bool, true, false, ◌&&◌, ◌||◌, ◌==◌, nat_le, nat_lt, if◌then◌else◌, Option, Some, None}
use Rattle.std.specs.Char.{is_control, IsScalar}
use Rattle.std.proofs.lemmas.Bool.{cond_both}
use Rattle.std.proofs.lemmas.Bool.Decides.{nat_tests}
use Rattle.screens.specs.declared.look.Glyph.{Glyph}
use Rattle.screens.specs.declared.look.Glyph.TheVariants.{Char, Block}
use Rattle.screens.specs.declared.look.Height.{Height}
use Rattle.screens.specs.declared.look.Height.TheVariants.{Single, Upper, Lower}
use Rattle.screens.specs.declared.look.Look.{Look}
use Rattle.screens.specs.declared.look.Shown.{Shown}
use Rattle.screens.specs.declared.look.Shown.TheVariants.{Ground, All}
use Rattle.screens.specs.Table.{character, six, sextants_char}
use Rattle.screens.specs.Looks.{is_space, shown}
use Rattle.screens.specs.Text.{glyph_char, half_char, shown_char, seen_char}
use Rattle.screens.specs.Laws.{IsOfTables}
use Rattle.ansi_line.specs.AnsiReading.{Mark, Letter, Blocks, char_mark}
use Rattle.ansi_line.specs.Laws.{glyph_mark, half_mark, shown_mark}

-- Characters.

-- the character of a mark
abbrev pub mark_char : Mark → ℕ
mark_char (Letter c) = c
mark_char (Blocks six) = sextants_char six

-- a character of this mark alone: one that a terminal draws, in a cell of its own
pub record IsDrawn (m : Mark) (c : ℕ) : Type 0 where
  pub space : (c == 0x20) ≡ false
  pub escape : (c == 0x1B) ≡ false
  pub line_end : (c == 10) ≡ false
  pub control : is_control c ≡ false
  pub scalar : IsScalar c
  pub mark : char_mark c ≡ Some m
  pub char : mark_char m ≡ c

-- without a mark it is a space
abbrev pub Draws : Option Mark → ℕ → Type 0
Draws None c = c ≡ 0x20
Draws (Some m) c = IsDrawn m c

-- a letter of the table, unless it is a space
abbrev IsLetter : ℕ → Type 0
IsLetter c = (c == 0x20) ≡ false → IsDrawn (Letter c) c

low_letter : (c : ℕ) → (nat_le 0x20 c && nat_lt c 0x7B) ≡ true → IsLetter c
low_letter c h space =
    let lo : 0x20 ≤ c = grind (arith, nat_tests) in
    let hi : c < 0x7B = grind (arith, nat_tests) in
    let h1 : (c == 0x258C) ≡ false = grind (arith, nat_tests) in
    let h2 : (c == 0x2590) ≡ false = grind (arith, nat_tests) in
    let h3 : (c == 0x2588) ≡ false = grind (arith, nat_tests) in
    let h4 : nat_le 0x1FB00 c ≡ false = grind (arith, nat_tests) in
    let h5 : nat_le 0x1FB14 c ≡ false = grind (arith, nat_tests) in
    let h6 : nat_le 0x1FB28 c ≡ false = grind (arith, nat_tests) in
    record {
      space = space;
      escape = grind (arith, nat_tests);
      line_end = grind (arith, nat_tests);
      control = grind (arith, nat_tests);
      scalar = grind (arith, nat_tests);
      mark = rw (space, h1, h2, h3, h4, h5, h6) refl;
      char = refl;
    }

-- one written out
known : (c : ℕ) → (c == 0x1B) ≡ false → (c == 10) ≡ false → is_control c ≡ false → IsScalar c → char_mark c ≡ Some (Letter c) → IsLetter c
known c e l n s m space = record { space = space; escape = e; line_end = l; control = n; scalar = s; mark = m; char = refl }

-- a space is none
no_letter : IsLetter 0x20
no_letter space = let none : ⊥ = cc in absurd none

is_letter : (c : ℕ) → IsLetter (character c)
is_letter c =
    cond_both (c == 0x23) _ _ IsLetter (λ e. known 0xA3 refl refl refl refl refl)
    (λ e. cond_both (c == 0x5B) _ _ IsLetter (λ e. known 0x2190 refl refl refl refl refl)
    (λ e. cond_both (c == 0x5C) _ _ IsLetter (λ e. known 0xBD refl refl refl refl refl)
    (λ e. cond_both (c == 0x5D) _ _ IsLetter (λ e. known 0x2192 refl refl refl refl refl)
    (λ e. cond_both (c == 0x5E) _ _ IsLetter (λ e. known 0x2191 refl refl refl refl refl)
    (λ e. cond_both (c == 0x5F) _ _ IsLetter (λ e. known 0x23 refl refl refl refl refl)
    (λ e. cond_both (c == 0x60) _ _ IsLetter (λ e. known 0x2014 refl refl refl refl refl)
    (λ e. cond_both (c == 0x7B) _ _ IsLetter (λ e. known 0xBC refl refl refl refl refl)
    (λ e. cond_both (c == 0x7C) _ _ IsLetter (λ e. known 0x2016 refl refl refl refl refl)
    (λ e. cond_both (c == 0x7D) _ _ IsLetter (λ e. known 0xBE refl refl refl refl refl)
    (λ e. cond_both (c == 0x7E) _ _ IsLetter (λ e. known 0xF7 refl refl refl refl refl)
    (λ e. cond_both (c == 0x7F) _ _ IsLetter (λ e. known 0x25A0 refl refl refl refl refl)
    (λ e. cond_both (nat_le 0x20 c && nat_lt c 0x7B) c 0x20 IsLetter (low_letter c) (λ e. no_letter)))))))))))))

-- Mosaics.

abbrev IsMosaic : ℕ → ℕ → Type 0
IsMosaic n c = sextants_char n ≡ c → IsDrawn (Blocks n) c

-- a sextant, by the place of its number among those that aren't halves
sextant : (n c : ℕ) → 0x1FB00 ≤ c → c < 0x1FB3C → char_mark c ≡ Some (Blocks n) → IsMosaic n c
sextant n c lo hi m e = record {
  space = grind (arith, nat_tests);
  escape = grind (arith, nat_tests);
  line_end = grind (arith, nat_tests);
  control = grind (arith, nat_tests);
  scalar = grind (arith, nat_tests);
  mark = m;
  char = e;
}

-- from U+1FB00 on no character is a space or a block
high : (c : ℕ) → 0x1FB00 ≤ c → (m : Option Mark) → (if nat_le 0x1FB00 c && nat_le c 0x1FB13 then Some (Blocks (c - 0x1FB00 + 1)) else if nat_le 0x1FB14 c && nat_le c 0x1FB27 then Some (Blocks (c - 0x1FB14 + 22)) else if nat_le 0x1FB28 c && nat_le c 0x1FB3B then Some (Blocks (c - 0x1FB28 + 43)) else Some (Letter c)) ≡ m → char_mark c ≡ m
high c lo m h =
    let h0 : (c == 0x20) ≡ false = grind (arith, nat_tests) in
    let h1 : (c == 0x258C) ≡ false = grind (arith, nat_tests) in
    let h2 : (c == 0x2590) ≡ false = grind (arith, nat_tests) in
    let h3 : (c == 0x2588) ≡ false = grind (arith, nat_tests) in
    rw (h0, h1, h2, h3) h

first_mark : (n c : ℕ) → 0 < n → n < 21 → c ≡ 0x1FB00 + n - 1 → char_mark c ≡ Some (Blocks n)
first_mark n c lo hi e =
    let a : nat_le 0x1FB00 c ≡ true = grind (arith, nat_tests) in
    let b : nat_le c 0x1FB13 ≡ true = grind (arith, nat_tests) in
    let f : c - 0x1FB00 + 1 ≡ n = omega arith in
    high c (omega arith) (Some (Blocks n)) (rw (a, b) (ap (λ (k : ℕ). Some (Blocks k)) f))

second_mark : (n c : ℕ) → 21 < n → n < 42 → c ≡ 0x1FB00 + n - 1 - 1 → char_mark c ≡ Some (Blocks n)
second_mark n c lo hi e =
    let a : nat_le 0x1FB00 c ≡ true = grind (arith, nat_tests) in
    let b : nat_le c 0x1FB13 ≡ false = grind (arith, nat_tests) in
    let d : nat_le 0x1FB14 c ≡ true = grind (arith, nat_tests) in
    let g : nat_le c 0x1FB27 ≡ true = grind (arith, nat_tests) in
    let f : c - 0x1FB14 + 22 ≡ n = omega arith in
    high c (omega arith) (Some (Blocks n)) (rw (a, b, d, g) (ap (λ (k : ℕ). Some (Blocks k)) f))

third_mark : (n c : ℕ) → 42 < n → n < 63 → c ≡ 0x1FB00 + n - 1 - 1 - 1 → char_mark c ≡ Some (Blocks n)
third_mark n c lo hi e =
    let a : nat_le 0x1FB00 c ≡ true = grind (arith, nat_tests) in
    let b : nat_le c 0x1FB13 ≡ false = grind (arith, nat_tests) in
    let d : nat_le 0x1FB14 c ≡ true = grind (arith, nat_tests) in
    let g : nat_le c 0x1FB27 ≡ false = grind (arith, nat_tests) in
    let i : nat_le 0x1FB28 c ≡ true = grind (arith, nat_tests) in
    let j : nat_le c 0x1FB3B ≡ true = grind (arith, nat_tests) in
    let f : c - 0x1FB28 + 43 ≡ n = omega arith in
    high c (omega arith) (Some (Blocks n)) (rw (a, b, d, g, i, j) (ap (λ (k : ℕ). Some (Blocks k)) f))

-- a half or full block
half : (n k c : ℕ) → (n == k) ≡ true → (c == 0x20) ≡ false → (c == 0x1B) ≡ false → (c == 10) ≡ false → is_control c ≡ false → IsScalar c → char_mark c ≡ Some (Blocks k) → IsMosaic n c
half n k c same space escape line_end control scalar m e =
    let f : k ≡ n = grind (arith, nat_tests) in
    record {
      space = space;
      escape = escape;
      line_end = line_end;
      control = control;
      scalar = scalar;
      mark = m ∙ ap (λ (j : ℕ). Some (Blocks j)) f;
      char = e;
    }

-- a sextant, after how many halves its number comes
after_halves : (n : ℕ) (a b : Bool) → 0 < n → n < 64 → (n == 21) ≡ false → (n == 42) ≡ false → (n == 63) ≡ false → nat_lt 21 n ≡ a → nat_lt 42 n ≡ b → IsMosaic n (0x1FB00 + n - 1 - (if a then 1 else 0) - (if b then 1 else 0))
after_halves n false false lo hi h1 h2 h3 ha hb =
    let below : n < 21 = grind (arith, nat_tests) in
    sextant n (0x1FB00 + n - 1 - 0 - 0) (omega arith) (omega arith) (first_mark n (0x1FB00 + n - 1 - 0 - 0) lo below (omega arith))
after_halves n true false lo hi h1 h2 h3 ha hb =
    let above : 21 < n = grind (arith, nat_tests) in
    let below : n < 42 = grind (arith, nat_tests) in
    sextant n (0x1FB00 + n - 1 - 1 - 0) (omega arith) (omega arith) (second_mark n (0x1FB00 + n - 1 - 1 - 0) above below (omega arith))
after_halves n true true lo hi h1 h2 h3 ha hb =
    let above : 42 < n = grind (arith, nat_tests) in
    let below : n < 63 = grind (arith, nat_tests) in
    sextant n (0x1FB00 + n - 1 - 1 - 1) (omega arith) (omega arith) (third_mark n (0x1FB00 + n - 1 - 1 - 1) above below (omega arith))
after_halves n false true lo hi h1 h2 h3 ha hb = let none : ⊥ = grind (arith, nat_tests) in absurd none

is_mosaic : (n : ℕ) → 0 < n → n < 64 → IsDrawn (Blocks n) (sextants_char n)
is_mosaic n lo hi =
    let all : IsMosaic n (sextants_char n) =
    cond_both (n == 21) _ _ (IsMosaic n) (λ e. half n 21 0x258C e refl refl refl refl refl refl)
    (λ h1. cond_both (n == 42) _ _ (IsMosaic n) (λ e. half n 42 0x2590 e refl refl refl refl refl refl)
    (λ h2. cond_both (n == 63) _ _ (IsMosaic n) (λ e. half n 63 0x2588 e refl refl refl refl refl refl)
    (λ h3. after_halves n (nat_lt 21 n) (nat_lt 42 n) lo hi h1 h2 h3 refl refl)))
    in all refl

-- Looks.

abbrev pub OfTables : Look → Type 0
OfTables a = IsOfTables a.glyph

draws_glyph : (g : Glyph) → IsOfTables g → is_space g ≡ false → IsDrawn (glyph_mark g) (glyph_char g)
draws_glyph (Char k) h space = subst IsLetter (sym h.1) (is_letter h.0) space
draws_glyph (Block m) h space = is_mosaic (six m.sextants) h.0 h.1

draws_half : (h : Height) (g : Glyph) → IsDrawn (glyph_mark g) (glyph_char g) → Draws (half_mark h g) (half_char h g)
draws_half Lower g d = refl
draws_half Single g d = d
draws_half Upper g d = d

or_false : (a b : Bool) → (a || b) ≡ false → b ≡ false
or_false false b h = h
or_false true b h = let none : ⊥ = cc in absurd none

abbrev DrawsShown : Shown → Type 0
DrawsShown s = Draws (shown_mark s) (shown_char s)

-- what is written for a look is the character of what a terminal is to show of it
pub draws : (a : Look) → OfTables a → Draws (shown_mark (shown a)) (seen_char a)
draws a h =
    cond_both (a.concealed || is_space a.glyph) (Ground a.background) (All a) DrawsShown (λ e. refl) (λ e. draws_half a.height a.glyph (draws_glyph a.glyph h (or_false a.concealed (is_space a.glyph) e)))
