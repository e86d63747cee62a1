-- Numbers of ids, one pair at a time.
use Rattle.std.proofs.Common.{◌≡◌, sym, cond, Bool, true, false, Option, None, Some, refl}
use Rattle.std.specs.Option.{option_or}

-- one more number in a map: what comes later wins over it, and it wins over the map
pub one_more : {X : Type 0} (later new : Option X) (b : Bool) (x : X) (old : Option X) → new ≡ cond b (Some x) old
    → option_or (option_or later (cond b (Some x) None)) old ≡ option_or later new
one_more (Some y) new b x old h = refl
one_more None new true x old h = sym h
one_more None new false x old h = sym h
