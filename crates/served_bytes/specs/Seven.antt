-- Bytes for a line of seven bits.
use Rattle.std.specs.Prelude.{◌≡◌, ℕ, ◌<◌, ◌-◌, List, [], ◌∷◌, ◌++◌, nat_lt, if◌then◌else◌}
use Rattle.std.specs.List.{AllByRecursion}
use Rattle.terminal_codes.specs.Screen.{Screen, run}

-- an attribute, 80 to 9F, as an escape (1B) and 40 to 5F; a byte from A0 on less its top bit, after a 00, which ends a pending
-- escape; others, and what is no byte, as they are
abbrev pub seven : ℕ → List ℕ
seven b =
    if nat_lt b 128 then b ∷ []
    else if nat_lt b 160 then 27 ∷ (b - 64) ∷ []
    else if nat_lt b 256 then 0 ∷ (b - 128) ∷ []
    else b ∷ []

abbrev pub in_seven : List ℕ → List ℕ
in_seven [] = []
in_seven (b ∷ bs) = seven b ++ in_seven bs

-- every terminal does the same with them, and none of bytes has the top bit
pub record IsSeven (bytes : List ℕ) : Type 0 where
  pub same : (t : Screen) → run t (in_seven bytes) ≡ run t bytes
  pub low : AllByRecursion (λ b. b < 256) bytes → AllByRecursion (λ b. b < 128) (in_seven bytes)

abbrev pub SevenBitsDo : Type 0
SevenBitsDo = (bytes : List ℕ) → IsSeven bytes
