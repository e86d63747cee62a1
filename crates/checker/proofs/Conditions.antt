-- The first cause of conditions in order is that of the first that fails, in the subject's words.
use Rattle.std.proofs.Common.{◌≡◌, ℕ, zero, suc, ◌<◌, inl, inr, Bool, true, false, not, List, [], ◌∷◌, ◌++◌, get_or, length, Option, Some, None, refl, sym, ap, subst, arith}
use Rattle.std.specs.Prelude.{◌↔◌}
use Rattle.std.specs.Bool.{Decides}
use Rattle.std.specs.List.{AllByRecursion}
use Rattle.std.proofs.lemmas.Bool.Decides.{nat_tests}
use Rattle.checker.specs.declared.verdict.Cause.{Cause}
use Rattle.checker.specs.Conditions.{Condition, decided, must, must_pass, must_if, at_most, ◌then◌, IsFirstAmong, each}

-- the tests say what the words do
pub record Agrees (k : Condition) : Type 0 where
  pub none : (k.first_cause ≡ None) ↔ k.Holds
  pub some : (c : Cause) → (k.first_cause ≡ Some c) ↔ k.FailsFor c

by_both : {Holds Fails : Type 0} (test : Bool) (cause : Cause) → Decides test Holds → Decides (not test) Fails → Agrees (decided test Holds Fails cause)
by_both true cause d e = record {
  none = (λ _. d.0 refl, λ _. refl);
  some = λ c. (λ h. cc, λ h. let no = e.1 h.1 in cc);
}
by_both false cause d e = record {
  none = (λ h. cc, λ h. let no = d.1 h in cc);
  some = λ c. (λ h. (cc, e.0 refl), λ h. ap Some (sym h.0));
}

refuted : {Holds : Type 0} (test : Bool) → Decides test Holds → Decides (not test) (Holds → ⊥)
refuted true d = (λ h. cc, λ h. absurd (h (d.0 refl)))
refuted false d = (λ _ h. let no = d.1 h in cc, λ _. refl)

pub by_words : {Holds Fails : Type 0} (test : Bool) (cause : Cause) → Decides test Holds → (Fails ↔ (Holds → ⊥)) → Agrees (decided test Holds Fails cause)
by_words test cause d same = let e = refuted test d in by_both test cause d (λ h. same.1 (e.0 h), λ h. e.1 (same.0 h))

pub by_test : {Holds : Type 0} (test : Bool) (cause : Cause) → Decides test Holds → Agrees (must test Holds cause)
by_test test cause d = by_both test cause d (refuted test d)

pub by_pass : (test : Bool) (cause : Cause) → Agrees (must_pass test cause)
by_pass true cause = by_both true cause (λ h. h, λ h. h) (λ h. cc, λ h. cc)
by_pass false cause = by_both false cause (λ h. h, λ h. h) (λ _. refl, λ _. refl)

pub by_limit : (n limit : ℕ) (cause : Cause) → Agrees (at_most n limit cause)
by_limit n limit cause = by_both _ cause (λ h. grind (arith, nat_tests), λ h. grind (arith, nat_tests)) (λ h. grind (arith, nat_tests), λ h. grind (arith, nat_tests))

pub by_both_tests : {If Holds : Type 0} (first test : Bool) (cause : Cause) → Decides first If → Decides test Holds → Agrees (must_if first If test Holds cause)
by_both_tests true test cause d e =
    let f = refuted test e in
    by_both test cause (λ h _. e.0 h, λ h. e.1 (h (d.0 refl))) (λ h. (d.0 refl, f.0 h), λ h. f.1 h.1)
by_both_tests false test cause d e = by_both true cause (λ _ h. let no = d.1 h in cc, λ _. refl) (λ h. cc, λ h. let no = d.1 h.0 in cc)

abbrev with_parts : Option Cause → Type 0 → (Cause → Type 0) → Condition
with_parts first_cause Holds FailsFor = record { first_cause = first_cause; Holds = Holds; FailsFor = FailsFor }

then_by : (o p : Option Cause) (A B : Type 0) (F G : Cause → Type 0) → Agrees (with_parts o A F) → (A → Agrees (with_parts p B G)) → Agrees (with_parts o A F then with_parts p B G)
then_by None p A B F G first other =
    let holds = first.none.0 refl in
    let rest = other holds in
    record {
      none = (λ h. (holds, rest.none.0 h), λ h. rest.none.1 h.1);
      some = λ c. (λ h. inr (holds, (rest.some c).0 h), λ h. elim h [ inl f ↦ (let e = (first.some c).1 f in cc) | inr f ↦ (rest.some c).1 f.1 ]);
    }
then_by (Some k) p A B F G first other = record {
  none = (λ h. cc, λ h. let e = first.none.1 h.0 in cc);
  some = λ c. (λ h. inl ((first.some c).0 h), λ h. elim h [ inl f ↦ (first.some c).1 f | inr f ↦ (let e = first.none.1 f.0 in cc) ]);
}

-- the other one's test has to be right only if the first holds
pub in_turn : {a b : Condition} → Agrees a → (a.Holds → Agrees b) → Agrees (a then b)
in_turn {a = a} {b = b} first other = then_by a.first_cause b.first_cause a.Holds b.Holds a.FailsFor b.FailsFor first other

module _ {A : Type 0} (f : A → Condition) where
  -- the first that fails is the head, or the head's condition holds and it is in the tail
  splits : (x : A) (xs : List A) (c : Cause) → (f x then each f xs).FailsFor c ↔ IsFirstAmong f (x ∷ xs) c
  splits x xs c = (λ h. elim h [ inl k ↦ record { before = []; element = x; after = xs; all = refl; hold = tt; fails = k } | inr k ↦ record { before = x ∷ k.1.before; element = k.1.element; after = k.1.after; all = ap (λ (ys : List A). x ∷ ys) k.1.all; hold = (k.0, k.1.hold); fails = k.1.fails } ], λ k. by k.before k.element k.after k.all k.hold k.fails) where
    by : (before : List A) (y : A) (after : List A) → x ∷ xs ≡ before ++ y ∷ after → AllByRecursion (λ z. (f z).Holds) before → (f y).FailsFor c → (f x then each f xs).FailsFor c
    by [] y after all hold fails = let same : y ≡ x = cc in inl (subst (λ (z : A). (f z).FailsFor c) same fails)
    by (z ∷ before) y after all hold fails =
        let same : z ≡ x = cc in
        inr (subst (λ (w : A). (f w).Holds) same hold.0, record { before = before; element = y; after = after; all = cc; hold = hold.1; fails = fails })

  none_in : (c : Cause) → IsFirstAmong f [] c → ⊥
  none_in c k = by k.before k.element k.after k.all where
    by : (before : List A) (y : A) (after : List A) → [] ≡ before ++ y ∷ after → ⊥
    by [] y after e = cc
    by (z ∷ before) y after e = cc

  pub for_each : ((x : A) → Agrees (f x)) → (xs : List A) → Agrees (each f xs)
  for_each are [] = record { none = (λ _. tt, λ _. refl); some = λ c. (λ h. cc, λ k. absurd (none_in c k)) }
  for_each are (x ∷ xs) =
      let k = in_turn (are x) (λ _. for_each are xs) in
      record { none = k.none; some = λ c. (λ h. (splits x xs c).0 ((k.some c).0 h), λ h. (k.some c).1 ((splits x xs c).1 h)) }

  pub each_all : (P : A → Type 0) → ((x : A) → (f x).Holds ↔ P x) → (xs : List A) → (each f xs).Holds ↔ AllByRecursion P xs
  each_all P is [] = (λ _. tt, λ _. tt)
  each_all P is (x ∷ xs) = let rest = each_all P is xs in (λ h. ((is x).0 h.0, rest.0 h.1), λ h. ((is x).1 h.0, rest.1 h.1))

  pub each_at : (xs : List A) → (each f xs).Holds → (k : ℕ) (d : A) → k < length xs → (f (get_or xs k d)).Holds
  each_at [] h k d lt = absurd (omega arith)
  each_at (x ∷ xs) h zero d lt = h.0
  each_at (x ∷ xs) h (suc k) d lt = each_at xs h.1 k d (omega arith)

  pub each_of : ((x : A) → (f x).Holds) → (xs : List A) → (each f xs).Holds
  each_of all [] = tt
  each_of all (x ∷ xs) = (all x, each_of all xs)
