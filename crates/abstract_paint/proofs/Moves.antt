-- What a control code makes of the positions that a place stands for.
use Rattle.std.proofs.Common.{◌≡◌, ℕ, ◌+◌, ◌%◌, ◌<◌, ◌==◌, inl, inr, arith, refl, ap, sym, subst, false}
use Rattle.std.proofs.lemmas.Bool.{cases_eq, ne_eqb}
use Rattle.terminal_codes.specs.Screen.{moved}
use Rattle.abstract_paint.specs.declared.cursor.Place.{Place}
use Rattle.abstract_paint.specs.declared.cursor.Place.TheVariants.{Any, Col, Spot}
use Rattle.abstract_paint.specs.Paint.{PlaceStands, OnScreen, any_moved, col_moved, place_moved}
use Rattle.abstract_paint.proofs.Valid.{MovesTo}

-- none of the codes that move
pub record IsStill (b : ℕ) : Type 0 where
  pub not_8 : (b == 8) ≡ false
  pub not_9 : (b == 9) ≡ false
  pub not_10 : (b == 10) ≡ false
  pub not_11 : (b == 11) ≡ false
  pub not_13 : (b == 13) ≡ false
  pub not_30 : (b == 30) ≡ false

-- by the codes that move, one at a time
by_move : (P : ℕ → Type 0) → P 8 → P 9 → P 10 → P 11 → P 13 → P 30 → ((b : ℕ) → IsStill b → P b) → (b : ℕ) → P b
by_move P p8 p9 p10 p11 p13 p30 other b =
    elim (cases_eq b 8) [
      | inl e ↦ subst P (sym e) p8
      | inr n8 ↦
          elim (cases_eq b 9) [
            | inl e ↦ subst P (sym e) p9
            | inr n9 ↦
                elim (cases_eq b 10) [
                  | inl e ↦ subst P (sym e) p10
                  | inr n10 ↦
                      elim (cases_eq b 11) [
                        | inl e ↦ subst P (sym e) p11
                        | inr n11 ↦
                            elim (cases_eq b 13) [
                              | inl e ↦ subst P (sym e) p13
                              | inr n13 ↦
                                  elim (cases_eq b 30) [
                                    | inl e ↦ subst P (sym e) p30
                                    | inr n30 ↦ other b (record { not_8 = ne_eqb b 8 n8; not_9 = ne_eqb b 9 n9; not_10 = ne_eqb b 10 n10; not_11 = ne_eqb b 11 n11; not_13 = ne_eqb b 13 n13; not_30 = ne_eqb b 30 n30 })
                                  ]
                            ]
                      ]
                ]
          ]
    ]

-- each place on the screen stands for some position
pub stands_somewhere : (place : Place) → OnScreen place → (p : ℕ) × (p < 960) × PlaceStands place p
stands_somewhere Any h = (0, omega arith, tt)
stands_somewhere (Col c) h = (c, omega arith, omega arith)
stands_somewhere (Spot q) h = (q, h, refl)

abbrev Moves : Place → ℕ → Type 0
Moves place b = MovesTo (λ p. moved p b) place (place_moved place b)

still : (b : ℕ) → IsStill b → (p : ℕ) → moved p b ≡ p
still b s p =
    let n8 = s.not_8 in
    let n9 = s.not_9 in
    let n10 = s.not_10 in
    let n11 = s.not_11 in
    let n13 = s.not_13 in
    let n30 = s.not_30 in
    rw (n8, n9, n10, n11, n13, n30) refl

any_still : (b : ℕ) → IsStill b → any_moved b ≡ Any
any_still b s =
    let n13 = s.not_13 in
    let n30 = s.not_30 in
    rw (n13, n30) refl

col_still : (b c : ℕ) → IsStill b → col_moved c b ≡ Col c
col_still b c s =
    let n8 = s.not_8 in
    let n9 = s.not_9 in
    let n13 = s.not_13 in
    let n30 = s.not_30 in
    rw (n8, n9, n13, n30) refl

pub stays : (place : Place) (f : ℕ → ℕ) (to : Place) → OnScreen place → ((p : ℕ) → f p ≡ p) → to ≡ place → MovesTo f place to
stays place f to h e is = record {
  into = λ p lt s. rw (e p, is) s;
  back = λ q lt s. let there : PlaceStands place q = rw is at s in (q, lt, there, e q);
  screen = rw is h;
}

any_moves : (b : ℕ) → Moves Any b
any_moves = by_move (Moves Any)
    (record { into = λ p lt s. tt; back = λ q lt s. ((q + 1) % 960, omega arith, tt, omega arith); screen = tt })
    (record { into = λ p lt s. tt; back = λ q lt s. ((q + 959) % 960, omega arith, tt, omega arith); screen = tt })
    (record { into = λ p lt s. tt; back = λ q lt s. ((q + 920) % 960, omega arith, tt, omega arith); screen = tt })
    (record { into = λ p lt s. tt; back = λ q lt s. ((q + 40) % 960, omega arith, tt, omega arith); screen = tt })
    (record { into = λ p lt s. omega arith; back = λ q lt s. (q, lt, tt, omega arith); screen = omega arith })
    (record { into = λ p lt s. refl; back = λ q lt s. (0, omega arith, tt, sym s); screen = omega arith })
    (λ b s. stays Any (λ p. moved p b) (any_moved b) tt (still b s) (any_still b s))

col_moves : (c : ℕ) → c < 40 → (b : ℕ) → Moves (Col c) b
col_moves c h = by_move (Moves (Col c))
    (record { into = λ p lt s. omega arith; back = λ q lt s. ((q + 1) % 960, omega arith, omega arith, omega arith); screen = omega arith })
    (record { into = λ p lt s. omega arith; back = λ q lt s. ((q + 959) % 960, omega arith, omega arith, omega arith); screen = omega arith })
    (record { into = λ p lt s. omega arith; back = λ q lt s. ((q + 920) % 960, omega arith, omega arith, omega arith); screen = h })
    (record { into = λ p lt s. omega arith; back = λ q lt s. ((q + 40) % 960, omega arith, omega arith, omega arith); screen = h })
    (record { into = λ p lt s. omega arith; back = λ q lt s. (q + c, omega arith, omega arith, omega arith); screen = omega arith })
    (record { into = λ p lt s. refl; back = λ q lt s. (c, omega arith, omega arith, sym s); screen = omega arith })
    (λ b s. stays (Col c) (λ p. moved p b) (col_moved c b) h (still b s) (col_still b c s))

pub moved_small : (p : ℕ) → p < 960 → (b : ℕ) → moved p b < 960
moved_small p lt = by_move (λ b. moved p b < 960) (omega arith) (omega arith) (omega arith) (omega arith) (omega arith) (omega arith) (λ b s. rw (still b s p) lt)

spot_moves : (r : ℕ) → r < 960 → (b : ℕ) → Moves (Spot r) b
spot_moves r h b = record {
  into = λ p lt s. ap (λ (k : ℕ). moved k b) s;
  back = λ q lt s. (r, h, refl, sym s);
  screen = moved_small r h b;
}

pub place_moves : (place : Place) → OnScreen place → (b : ℕ) → Moves place b
place_moves Any h b = any_moves b
place_moves (Col c) h b = col_moves c h b
place_moves (Spot r) h b = spot_moves r h b
