-- Truth values, what a comparison says, and what holds of an answer.
use Rattle.std.proofs.Common.{◌≡◌, Bool, true, false, not, cond, Result, Ok, Err, IfOk, refl}
use Rattle.std.specs.Ordering.{is_lt}
use Rattle.std.specs.declared.cmp.Ordering.{Ordering}
use Rattle.std.specs.declared.cmp.Ordering.TheVariants.{Less, Equal, Greater}

pub clash : (b : Bool) → b ≡ true → b ≡ false → ⊥
clash b is not = absurd cc

pub not_true : (b : Bool) → not b ≡ true → b ≡ true → ⊥
not_true true e h = absurd cc
not_true false e h = absurd cc

pub not_so : (b : Bool) → (b ≡ true → ⊥) → not b ≡ true
not_so true h = absurd (h refl)
not_so false h = refl

pub less_is : (o : Ordering) → is_lt o ≡ true → o ≡ Less
less_is Less e = refl
less_is Equal e = absurd cc
less_is Greater e = absurd cc

pub weaken : {A E : Type 0} {P Q : A → Type 0} (r : Result A E) → ((a : A) → P a → Q a) → IfOk r P → IfOk r Q
weaken (Ok a) f p = f a p
weaken (Err e) f p = tt

pub ok_is : {A E : Type 0} (x y : A) → ◌≡◌ {A = Result A E} (Ok x) (Ok y) → x ≡ y
ok_is x y h = cc

-- a test that didn't fail
pub needs : {A E : Type 0} (b : Bool) (e : E) (r : Result A E) (y : A) → cond b r (Err e) ≡ Ok y → (b ≡ true) × (r ≡ Ok y)
needs true e r y h = (refl, h)
needs false e r y h = absurd cc

pub lacks : {A E : Type 0} (b : Bool) (e : E) (r : Result A E) (y : A) → cond b (Err e) r ≡ Ok y → (b ≡ false) × (r ≡ Ok y)
lacks true e r y h = absurd cc
lacks false e r y h = (refl, h)
