-- What a sort, a search or a test by a key says, if the closure computes the key n.
use Rattle.std.proofs.Common.{◌≡◌}
use Rattle.std.specs.Fn.{Called, ComputesKey}
use Rattle.std.proofs.lemmas.Fn.{always_returns_same}
use denote.Param.Members.{Mut}
use denote.Ref.{Bor}

pub by_key : {X K : Type 0} (n : X → K) (P : (X → K) → Type 0) → {F : Type 0} {g : Mut F (Bor X × Unit {0}) K} {f : F} → ((key : X → K) → ComputesKey g key f → P key) → ((a : Bor X × Unit {0}) (r : K) (f' : F) → Called g f a r f' → (r ≡ n a.0.now) × (f' ≡ f)) → P n
by_key n P {g = g} {f = f} up h = up n (always_returns_same g (λ a r. r ≡ n a.0.now) f h)
