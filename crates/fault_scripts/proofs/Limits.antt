-- A base has at most 65,535 frames.
use Rattle.std.proofs.Common.{◌≡◌, ◌≤◌, ◌||◌, nat_lt, Bool, true, false, length, refl, arith}
use Rattle.std.proofs.lemmas.Bool.Decides.{nat_tests}
use Rattle.frame_records.specs.Bases.{BaseView, IsBase}

pub frames_few : (base : BaseView) → IsBase base → length base.frames ≤ 65535
frames_few base is = by (nat_lt 65535 (length base.frames)) (nat_lt 65535 (length base.outside)) refl is.few where
  by : (b c : Bool) → nat_lt 65535 (length base.frames) ≡ b → (b || c) ≡ false → length base.frames ≤ 65535
  by true c is e = absurd cc
  by false c is e = grind (arith, nat_tests)
