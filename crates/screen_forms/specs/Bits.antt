-- Eight codes of seven bits as seven bytes, the most significant bit first.
use Rattle.std.specs.Prelude.{ℕ, List, [], ◌∷◌, ◌++◌, ◌+◌, ◌-◌, ◌*◌, ◌/◌, ◌%◌, nat_lt, if◌then◌else◌}

-- the low seven bits of eight codes
abbrev pub group_bytes : List ℕ → List ℕ
group_bytes (a ∷ b ∷ c ∷ d ∷ e ∷ f ∷ g ∷ h ∷ _) =
    (a % 128 * 2 + b % 128 / 64) ∷ (b % 64 * 4 + c % 128 / 32) ∷ (c % 32 * 8 + d % 128 / 16) ∷ (d % 16 * 16 + e % 128 / 8)
    ∷ (e % 8 * 32 + f % 128 / 4) ∷ (f % 4 * 64 + g % 128 / 2) ∷ (g % 2 * 128 + h % 128) ∷ []
group_bytes _ = []

-- what is left after the last eight is dropped
unfoldable pub packed : List ℕ → List ℕ
packed (a ∷ b ∷ c ∷ d ∷ e ∷ f ∷ g ∷ h ∷ rest) = group_bytes (a ∷ b ∷ c ∷ d ∷ e ∷ f ∷ g ∷ h ∷ []) ++ packed rest
packed _ = []

-- the bits of seven bytes
abbrev pub group_cells : List ℕ → List ℕ
group_cells (p ∷ q ∷ r ∷ s ∷ t ∷ u ∷ v ∷ _) =
    (p % 256 / 2) ∷ (p % 2 * 64 + q % 256 / 4) ∷ (q % 4 * 32 + r % 256 / 8) ∷ (r % 8 * 16 + s % 256 / 16)
    ∷ (s % 16 * 8 + t % 256 / 32) ∷ (t % 32 * 4 + u % 256 / 64) ∷ (u % 64 * 2 + v % 256 / 128) ∷ (v % 128) ∷ []
group_cells _ = []

unfoldable pub unpacked : List ℕ → List ℕ
unpacked (p ∷ q ∷ r ∷ s ∷ t ∷ u ∷ v ∷ rest) = group_cells (p ∷ q ∷ r ∷ s ∷ t ∷ u ∷ v ∷ []) ++ unpacked rest
unpacked _ = []

-- The bytes of files.

-- without the top bit
abbrev pub low_bits : ℕ → ℕ
low_bits c = c % 128

-- 00 to 1F are the attributes 80 to 9F as teletext stores them, A0 to FF the codes 20 to 7F
abbrev pub stored_code : ℕ → ℕ
stored_code b =
    if nat_lt b 0x20 then b + 0x80
    else if nat_lt b 0xA0 then b
    else b - 0x80
