-- A value after a step, taken apart.
use Rattle.std.proofs.Common.{◌≡◌, Option, Some, None, option_map, option_and_then, ◌⊎◌, refl, inl, inr}
use Rattle.std.proofs.lemmas.Option.{none-some, same_Some}

-- what a step read before what comes after it
pub record Stepped {A B : Type 0} (o : Option A) (f : A → Option B) (b : B) : Type 0 where
  pub value : A
  pub is : o ≡ Some value
  pub then : f value ≡ Some b

pub stepped : {A B : Type 0} (o : Option A) (f : A → Option B) (b : B) → option_and_then f o ≡ Some b → Stepped o f b
stepped None f b h = absurd (none-some b h)
stepped (Some a) f b h = record { value = a; is = refl; then = h }

pub record Mapped {A B : Type 0} (o : Option A) (f : A → B) (b : B) : Type 0 where
  pub value : A
  pub is : o ≡ Some value
  pub same : f value ≡ b

pub mapped : {A B : Type 0} (o : Option A) (f : A → B) (b : B) → option_map f o ≡ Some b → Mapped o f b
mapped None f b h = absurd (none-some b h)
mapped (Some a) f b h = record { value = a; is = refl; same = same_Some (f a) b h }

pub cases_option : {A : Type 0} (o : Option A) → (o ≡ None) ⊎ ((a : A) × (o ≡ Some a))
cases_option None = inl refl
cases_option (Some a) = inr (a, refl)
