-- Eight codes are seven bytes, and back.
use Rattle.std.proofs.Common.{◌≡◌, ◌<◌, ◌≤◌, ◌+◌, ◌*◌, ◌/◌, ◌%◌, ℕ, zero, suc, List, [], ◌∷◌, ◌++◌, refl, sym, subst, drop, length, map, take, arith}
use Rattle.std.proofs.lemmas.List.{nil_from_length}
use Rattle.std.proofs.lemmas.List.Elements.{All-append, All-from_recursion, All-nil}
use Rattle.std.specs.List.{All}
use Rattle.screen_forms.specs.Loops.{bytes_of_eight, cells_of_seven}
use Rattle.screen_forms.specs.Bits.{group_bytes, group_cells, low_bits, packed, unpacked}

-- the first eight of a list
record StartsWithEight (codes : List ℕ) : Type 0 where
  a : ℕ
  b : ℕ
  c : ℕ
  d : ℕ
  e : ℕ
  f : ℕ
  g : ℕ
  h : ℕ
  rest : List ℕ
  is : codes ≡ a ∷ b ∷ c ∷ d ∷ e ∷ f ∷ g ∷ h ∷ rest

first_eight : (codes : List ℕ) → 8 ≤ length codes → StartsWithEight codes
first_eight (a ∷ b ∷ c ∷ d ∷ e ∷ f ∷ g ∷ h ∷ rest) le =
    record { a = a; b = b; c = c; d = d; e = e; f = f; g = g; h = h; rest = rest; is = refl }
first_eight [] le = absurd (omega arith)
first_eight (a ∷ []) le = absurd (omega arith)
first_eight (a ∷ b ∷ []) le = absurd (omega arith)
first_eight (a ∷ b ∷ c ∷ []) le = absurd (omega arith)
first_eight (a ∷ b ∷ c ∷ d ∷ []) le = absurd (omega arith)
first_eight (a ∷ b ∷ c ∷ d ∷ e ∷ []) le = absurd (omega arith)
first_eight (a ∷ b ∷ c ∷ d ∷ e ∷ f ∷ []) le = absurd (omega arith)
first_eight (a ∷ b ∷ c ∷ d ∷ e ∷ f ∷ g ∷ []) le = absurd (omega arith)

-- one group after the other
more_by : (a b c d e f g h : ℕ) (rest : List ℕ)
    → packed (a ∷ b ∷ c ∷ d ∷ e ∷ f ∷ g ∷ h ∷ rest) ≡ group_bytes (a ∷ b ∷ c ∷ d ∷ e ∷ f ∷ g ∷ h ∷ []) ++ packed rest
unfolding packed
more_by a b c d e f g h rest = refl

pub packed_more : (codes : List ℕ) → 8 ≤ length codes
    → packed codes ≡ bytes_of_eight (take 8 codes) ++ packed (drop 8 codes)
packed_more codes le =
    let s = first_eight codes le in
    rw s.is (more_by s.a s.b s.c s.d s.e s.f s.g s.h s.rest)

pub packed_none : (codes : List ℕ) → length codes < 8 → packed codes ≡ []
unfolding packed
packed_none (a ∷ b ∷ c ∷ d ∷ e ∷ f ∷ g ∷ h ∷ rest) lt = absurd (omega arith)
packed_none [] lt = refl
packed_none (a ∷ []) lt = refl
packed_none (a ∷ b ∷ []) lt = refl
packed_none (a ∷ b ∷ c ∷ []) lt = refl
packed_none (a ∷ b ∷ c ∷ d ∷ []) lt = refl
packed_none (a ∷ b ∷ c ∷ d ∷ e ∷ []) lt = refl
packed_none (a ∷ b ∷ c ∷ d ∷ e ∷ f ∷ []) lt = refl
packed_none (a ∷ b ∷ c ∷ d ∷ e ∷ f ∷ g ∷ []) lt = refl

pub unpacked_more : (bytes : List ℕ) → 7 ≤ length bytes
    → unpacked bytes ≡ cells_of_seven (take 7 bytes) ++ unpacked (drop 7 bytes)
unfolding unpacked
unpacked_more (p ∷ q ∷ r ∷ s ∷ t ∷ u ∷ v ∷ rest) le = refl
unpacked_more [] le = absurd (omega arith)
unpacked_more (p ∷ []) le = absurd (omega arith)
unpacked_more (p ∷ q ∷ []) le = absurd (omega arith)
unpacked_more (p ∷ q ∷ r ∷ []) le = absurd (omega arith)
unpacked_more (p ∷ q ∷ r ∷ s ∷ []) le = absurd (omega arith)
unpacked_more (p ∷ q ∷ r ∷ s ∷ t ∷ []) le = absurd (omega arith)
unpacked_more (p ∷ q ∷ r ∷ s ∷ t ∷ u ∷ []) le = absurd (omega arith)

pub unpacked_none : (bytes : List ℕ) → length bytes < 7 → unpacked bytes ≡ []
unfolding unpacked
unpacked_none (p ∷ q ∷ r ∷ s ∷ t ∷ u ∷ v ∷ rest) lt = absurd (omega arith)
unpacked_none [] lt = refl
unpacked_none (p ∷ []) lt = refl
unpacked_none (p ∷ q ∷ []) lt = refl
unpacked_none (p ∷ q ∷ r ∷ []) lt = refl
unpacked_none (p ∷ q ∷ r ∷ s ∷ []) lt = refl
unpacked_none (p ∷ q ∷ r ∷ s ∷ t ∷ []) lt = refl
unpacked_none (p ∷ q ∷ r ∷ s ∷ t ∷ u ∷ []) lt = refl

-- n groups of codes are n groups of bytes, which are read as the codes' low bits
pub record ArePacked (n : ℕ) (codes : List ℕ) : Type 0 where
  pub sized : length (packed codes) ≡ 7 * n
  pub bytes : All (λ b. b < 256) (packed codes)
  pub back : unpacked (packed codes) ≡ map low_bits codes

none_packed : ArePacked 0 []
unfolding packed unpacked
none_packed = record { sized = refl; bytes = All-nil (λ b. b < 256); back = refl }

group_sized : (n a b c d e f g h : ℕ) (rest : List ℕ) → ArePacked n rest → length (packed (a ∷ b ∷ c ∷ d ∷ e ∷ f ∷ g ∷ h ∷ rest)) ≡ 7 * suc n
unfolding packed
group_sized n a b c d e f g h rest are = omega (arith, are.sized)

abbrev IsByte : ℕ → Type 0
IsByte b = b < 256

group_all : (a b c d e f g h : ℕ) (rest : List ℕ) → All IsByte rest → All IsByte (group_bytes (a ∷ b ∷ c ∷ d ∷ e ∷ f ∷ g ∷ h ∷ []) ++ rest)
group_all a b c d e f g h rest all =
    let bytes = group_bytes (a ∷ b ∷ c ∷ d ∷ e ∷ f ∷ g ∷ h ∷ []) in
    All-append IsByte bytes rest (All-from_recursion IsByte bytes (omega arith, (omega arith, (omega arith, (omega arith, (omega arith, (omega arith, (omega arith, tt)))))))) all

group_are_bytes : (n a b c d e f g h : ℕ) (rest : List ℕ) → ArePacked n rest → All IsByte (packed (a ∷ b ∷ c ∷ d ∷ e ∷ f ∷ g ∷ h ∷ rest))
unfolding packed
group_are_bytes n a b c d e f g h rest are = group_all a b c d e f g h (packed rest) are.bytes

group_back : (n a b c d e f g h : ℕ) (rest : List ℕ) → ArePacked n rest
    → unpacked (packed (a ∷ b ∷ c ∷ d ∷ e ∷ f ∷ g ∷ h ∷ rest)) ≡ map low_bits (a ∷ b ∷ c ∷ d ∷ e ∷ f ∷ g ∷ h ∷ rest)
unfolding packed unpacked
group_back n a b c d e f g h rest are =
    let e0 : (a % 128 * 2 + b % 128 / 64) % 256 / 2 ≡ a % 128 = omega arith in
    let e1 : (a % 128 * 2 + b % 128 / 64) % 2 * 64 + (b % 64 * 4 + c % 128 / 32) % 256 / 4 ≡ b % 128 = omega arith in
    let e2 : (b % 64 * 4 + c % 128 / 32) % 4 * 32 + (c % 32 * 8 + d % 128 / 16) % 256 / 8 ≡ c % 128 = omega arith in
    let e3 : (c % 32 * 8 + d % 128 / 16) % 8 * 16 + (d % 16 * 16 + e % 128 / 8) % 256 / 16 ≡ d % 128 = omega arith in
    let e4 : (d % 16 * 16 + e % 128 / 8) % 16 * 8 + (e % 8 * 32 + f % 128 / 4) % 256 / 32 ≡ e % 128 = omega arith in
    let e5 : (e % 8 * 32 + f % 128 / 4) % 32 * 4 + (f % 4 * 64 + g % 128 / 2) % 256 / 64 ≡ f % 128 = omega arith in
    let e6 : (f % 4 * 64 + g % 128 / 2) % 64 * 2 + (g % 2 * 128 + h % 128) % 256 / 128 ≡ g % 128 = omega arith in
    let e7 : (g % 2 * 128 + h % 128) % 128 ≡ h % 128 = omega arith in
    rw (e0, e1, e2, e3, e4, e5, e6, e7, are.back) refl

group_packed : (n a b c d e f g h : ℕ) (rest : List ℕ) → ArePacked n rest → ArePacked (suc n) (a ∷ b ∷ c ∷ d ∷ e ∷ f ∷ g ∷ h ∷ rest)
group_packed n a b c d e f g h rest are = record {
  sized = group_sized n a b c d e f g h rest are;
  bytes = group_are_bytes n a b c d e f g h rest are;
  back = group_back n a b c d e f g h rest are;
}

pub are_packed : (n : ℕ) (codes : List ℕ) → length codes ≡ 8 * n → ArePacked n codes
are_packed zero codes e = let none : codes ≡ [] = nil_from_length codes (omega (arith, e)) in subst (ArePacked 0) (sym none) none_packed
are_packed (suc n) codes e =
    let s = first_eight codes (omega (arith, e)) in
    let whole : length (s.a ∷ s.b ∷ s.c ∷ s.d ∷ s.e ∷ s.f ∷ s.g ∷ s.h ∷ s.rest) ≡ 8 * suc n = subst (λ cs. length cs ≡ 8 * suc n) s.is e in
    subst (ArePacked (suc n)) (sym s.is) (group_packed n s.a s.b s.c s.d s.e s.f s.g s.h s.rest (are_packed n s.rest (omega (arith, whole))))

-- What is read has seven bits.

abbrev IsCell : ℕ → Type 0
IsCell c = c < 128

cells_before : (p q r s t u v : ℕ) (more : List ℕ) → All IsCell more → All IsCell (group_cells (p ∷ q ∷ r ∷ s ∷ t ∷ u ∷ v ∷ []) ++ more)
cells_before p q r s t u v more all =
    let cells = group_cells (p ∷ q ∷ r ∷ s ∷ t ∷ u ∷ v ∷ []) in
    All-append IsCell cells more (All-from_recursion IsCell cells (omega arith, (omega arith, (omega arith, (omega arith, (omega arith, (omega arith, (omega arith, (omega arith, tt))))))))) all

pub cells_are_small : (bytes : List ℕ) → All (λ c. c < 128) (unpacked bytes)
unfolding unpacked
cells_are_small (p ∷ q ∷ r ∷ s ∷ t ∷ u ∷ v ∷ rest) = cells_before p q r s t u v (unpacked rest) (cells_are_small rest)
cells_are_small [] = All-nil IsCell
cells_are_small (p ∷ []) = All-nil IsCell
cells_are_small (p ∷ q ∷ []) = All-nil IsCell
cells_are_small (p ∷ q ∷ r ∷ []) = All-nil IsCell
cells_are_small (p ∷ q ∷ r ∷ s ∷ []) = All-nil IsCell
cells_are_small (p ∷ q ∷ r ∷ s ∷ t ∷ []) = All-nil IsCell
cells_are_small (p ∷ q ∷ r ∷ s ∷ t ∷ u ∷ []) = All-nil IsCell
