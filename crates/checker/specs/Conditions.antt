-- Conditions in order: the first that fails, by tests and in the subject's words.
use Rattle.std.specs.Prelude.{◌≡◌, ◌<◌, ◌≤◌, ◌⊎◌, ◌++◌, ℕ, Bool, true, false, not, ◌||◌, List, [], ◌∷◌, Option, Some, None, nat_lt, if◌then◌else◌}
use Rattle.std.specs.List.{AllByRecursion}
use Rattle.checker.specs.declared.verdict.Cause.{Cause}

-- one condition, or several in order: by tests, the cause of the first that fails; in the subject's words, that all hold, and
-- that the first that fails has this cause
pub record Condition : Type 1 where
  pub first_cause : Option Cause
  pub Holds : Type 0
  pub FailsFor : Cause → Type 0

-- by a test, with the words for that it holds and for that it fails
abbrev pub decided : Bool → Type 0 → Type 0 → Cause → Condition
decided test Holds Fails cause = record { first_cause = if test then None else Some cause; Holds = Holds; FailsFor = λ c. (c ≡ cause) × Fails }

abbrev pub must : Bool → Type 0 → Cause → Condition
must test Holds cause = decided test Holds (Holds → ⊥) cause

abbrev pub must_pass : Bool → Cause → Condition
must_pass test cause = decided test (test ≡ true) (test ≡ false) cause

abbrev pub at_most : ℕ → ℕ → Cause → Condition
at_most n limit cause = decided (not (nat_lt limit n)) (n ≤ limit) (limit < n) cause

-- if the first holds, the second must too
abbrev pub must_if : Bool → Type 0 → Bool → Type 0 → Cause → Condition
must_if first If test Holds cause = decided (not first || test) (If → Holds) (If × (Holds → ⊥)) cause

-- the first of two causes
infixr 20 ◌otherwise◌
abbrev pub ◌otherwise◌ : Option Cause → Option Cause → Option Cause
None otherwise later = later
(Some c) otherwise later = Some c

-- one after the other: the first fails, or it holds and the other fails
infixr 15 ◌then◌
abbrev pub ◌then◌ : Condition → Condition → Condition
first then other = record {
  first_cause = first.first_cause otherwise other.first_cause;
  Holds = first.Holds × other.Holds;
  FailsFor = λ c. first.FailsFor c ⊎ (first.Holds × other.FailsFor c);
}

abbrev pub first_among : {A : Type 0} → (A → Condition) → List A → Option Cause
first_among f [] = None
first_among f (x ∷ xs) = (f x).first_cause otherwise first_among f xs

-- the first element whose condition fails: those of all before it hold
pub record IsFirstAmong {A : Type 0} (f : A → Condition) (xs : List A) (c : Cause) : Type 0 where
  pub before : List A
  pub element : A
  pub after : List A
  pub all : xs ≡ before ++ element ∷ after
  pub hold : AllByRecursion (λ x. (f x).Holds) before
  pub fails : (f element).FailsFor c

-- one for each element, in order
abbrev pub each : {A : Type 0} → (A → Condition) → List A → Condition
each f xs = record { first_cause = first_among f xs; Holds = AllByRecursion (λ x. (f x).Holds) xs; FailsFor = IsFirstAmong f xs }
