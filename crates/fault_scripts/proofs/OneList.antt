-- Two lists of the faults of one base are the same list.
use Rattle.std.proofs.Common.{◌≡◌, ◌<◌, ◌⊎◌, inl, inr, ℕ, zero, suc, List, [], ◌∷◌, length, get_or, refl, sym, ◌∙◌, subst, arith}
use Rattle.std.specs.Prelude.{◌↔◌, Contains, AllPairs}
use Rattle.frame_records.specs.declared.base.Sought.TheVariants as sought
use Rattle.frame_records.specs.declared.base.Sought.{Sought}
use Rattle.frame_records.specs.Bases.{BaseView}
use Rattle.frame_records.specs.Seek.{seek_entry}
use Rattle.checker.specs.declared.policy.Policy.{Policy}
use Rattle.finder.specs.declared.found.Discovered.{Discovered}
use Rattle.finder.specs.Finds.{IsFinding}
use Rattle.finder.proofs.OneFound.{one_found}
use Rattle.base_faults.specs.declared.fault.Fault.{Fault}
use Rattle.fault_scripts.specs.Faults.{IsDue, ComesBefore, AreDue, AreFaultsAlong, AreFaultsBy}
use Rattle.fault_scripts.specs.FaultLaws.{FaultsAreOne}
use Rattle.fault_scripts.proofs.Lists.{none_in}
use Rattle.fault_scripts.proofs.Reported.{own_place}

-- lists in one order with the same elements are the same list
module _ {X : Type 0} (R : X → X → Type 0) where
  first_in : (x : X) (xs : List X) → Contains (x ∷ xs) x
  first_in x xs = (0, omega arith, refl)

  later_in : (x : X) (xs : List X) (z : X) → Contains xs z → Contains (x ∷ xs) z
  later_in x xs z h = (suc h.0, omega (arith, h.1), h.2)

  first_or_later : (x : X) (xs : List X) (z : X) → Contains (x ∷ xs) z → (x ≡ z) ⊎ Contains xs z
  first_or_later x xs z h = by h.0 h.1 h.2 where
    by : (i : ℕ) → i < length (x ∷ xs) → get_or (x ∷ xs) i z ≡ z → (x ≡ z) ⊎ Contains xs z
    by zero lt e = inl e
    by (suc i) lt e = inr (i, omega (arith, lt), e)

  before_later : (x : X) (xs : List X) (z : X) → AllPairs R (x ∷ xs) → Contains xs z → R x z
  before_later x xs z pairs h = subst (R x) h.2 (pairs 0 (suc h.0) z (omega arith) (omega (arith, h.1)))

  later_pairs : (x : X) (xs : List X) → AllPairs R (x ∷ xs) → AllPairs R xs
  later_pairs x xs pairs i j d lt few = pairs (suc i) (suc j) d (omega (arith, lt)) (omega (arith, few))

  -- what is after the first of one list is after the equal first of the other
  after_same : (x y : X) (xs ys : List X) (z : X) → x ≡ y → AllPairs R (x ∷ xs) → (R x x → ⊥) → Contains (y ∷ ys) z → Contains xs z → Contains ys z
  after_same x y xs ys z same pairs not there here = by (first_or_later y ys z there) where
    by : (y ≡ z) ⊎ Contains ys z → Contains ys z
    by (inl e) = absurd (not (subst (R x) (sym (same ∙ e)) (before_later x xs z pairs here)))
    by (inr later) = later

  abbrev HasSame : List X → List X → Type 0
  HasSame xs ys = (z : X) → Contains xs z ↔ Contains ys z

  abbrev NeverBoth : List X → Type 0
  NeverBoth xs = (x y : X) → Contains xs x → Contains xs y → R x y → R y x → ⊥

  module _ (x y : X) (xs ys : List X) (px : AllPairs R (x ∷ xs)) (py : AllPairs R (y ∷ ys)) (same : HasSame (x ∷ xs) (y ∷ ys)) (never : NeverBoth (x ∷ xs)) where
    first_is : x ≡ y
    first_is = by (first_or_later y ys x ((same x).0 (first_in x xs))) (first_or_later x xs y ((same y).1 (first_in y ys))) where
      by : (y ≡ x) ⊎ Contains ys x → (x ≡ y) ⊎ Contains xs y → x ≡ y
      by (inl e) other = sym e
      by (inr later) (inl e) = e
      by (inr later) (inr after) = absurd (never x y (first_in x xs) (later_in x xs y after) (before_later x xs y px after) (before_later y ys x py later))

    not_x : R x x → ⊥
    not_x h = never x x (first_in x xs) (first_in x xs) h h

    not_y : R y y → ⊥
    not_y h = not_x (subst (λ (z : X). R z z) (sym first_is) h)

    later_same : HasSame xs ys
    later_same z = (
      (λ h. after_same x y xs ys z first_is px not_x ((same z).0 (later_in x xs z h)) h),
      (λ h. after_same y x ys xs z (sym first_is) py not_y ((same z).1 (later_in y ys z h)) h),
    )

    later_never : NeverBoth xs
    later_never a b ha hb = never a b (later_in x xs a ha) (later_in x xs b hb)

  one_order : (xs ys : List X) → AllPairs R xs → AllPairs R ys → HasSame xs ys → NeverBoth xs → xs ≡ ys
  one_order [] [] px py same never = refl
  one_order [] (y ∷ ys) px py same never = absurd (none_in y ((same y).1 (first_in y ys)))
  one_order (x ∷ xs) [] px py same never = absurd (none_in x ((same x).0 (first_in x xs)))
  one_order (x ∷ xs) (y ∷ ys) px py same never =
      let first = first_is x y xs ys px py same never in
      let rest = one_order xs ys (later_pairs x xs px) (later_pairs y ys py) (later_same x y xs ys px py same never) (later_never x y xs ys px py same never) in
      cc

module _ (base : BaseView) (policy : Policy) where
  -- if two faults are due, only one is before the other
  one_before : (found : List Discovered) (finding : IsFinding policy.groups base found) (x y : Fault) → IsDue base policy found x → IsDue base policy found y → ComesBefore found x y → ComesBefore found y x → ⊥
  one_before found finding x y dx dy xy yx =
      let px = own_place base policy found finding x dx in
      let py = own_place base policy found finding y dy in
      absurd (omega (arith, xy dx.index dy.index px py, yx dy.index dx.index py px))

  one_along : (a b : List Fault) → AreFaultsAlong base policy a → AreFaultsAlong base policy b → a ≡ b
  one_along a b along other =
      let same : along.found ≡ other.found = one_found policy.groups base along.found other.found along.finding.reached along.finding.ranks other.finding.reached other.finding.ranks in
      let due = subst (λ (found : List Discovered). AreDue base policy found b) (sym same) other.due in
      one_order (ComesBefore along.found) a b along.due.in_order due.in_order (λ z. (λ h. (due.just z).1 ((along.due.just z).0 h), λ h. (along.due.just z).1 ((due.just z).0 h))) (λ x y hx hy. one_before along.found along.finding x y ((along.due.just x).0 hx) ((along.due.just y).0 hy))

  by_entry : (s : Sought) (a b : List Fault) → AreFaultsBy s base policy a → AreFaultsBy s base policy b → a ≡ b
  by_entry (sought.Found price) a b fa fb = one_along a b fa fb
  by_entry sought.Closed a b fa fb = fa ∙ sym fb
  by_entry sought.Missing a b fa fb = fa ∙ sym fb

pub faults_one : FaultsAreOne
faults_one base policy a b fa fb = by_entry base policy (seek_entry policy.groups base) a b fa fb
