-- Lines made of lines.
use Rattle.std.proofs.Common.{◌≡◌, ℕ, Bool, true, not, ◌&&◌, nat_le, List, [], ◌∷◌, ◌++◌, arith, refl, subst, chars}
use Rattle.std.proofs.lemmas.Bool.{and_from, and_parts}
use Rattle.std.proofs.Math.Utf8.{encode, encodes, scalar, scalars}
use Rattle.std.proofs.lemmas.Bool.Decides.{nat_tests}
use Rattle.std.proofs.lemmas.List.Folds.{list_all-append}
use Rattle.std.proofs.lemmas.Str.{IsUtf8-append, chars-append, chars-encodes}
use Rattle.std.specs.Char.{is_control}
use Rattle.std.specs.List.{list_all}
use Rattle.lint_words.specs.Lines.{IsLine}

abbrev pub are_printable : List ℕ → Bool
are_printable cs = list_all (λ c. not (is_control c)) cs

pub IsLine-encodes : (cs : List ℕ) → scalars cs ≡ true → are_printable cs ≡ true → IsLine (encodes cs)
IsLine-encodes cs are p = record { utf8 = (cs, (are, refl)); printable = rw (chars-encodes cs are) p }

pub IsLine-append : (xs ys : List ℕ) → IsLine xs → IsLine ys → IsLine (xs ++ ys)
IsLine-append xs ys p q = record {
  utf8 = IsUtf8-append xs ys p.utf8 q.utf8;
  printable = rw (chars-append xs ys p.utf8, list_all-append (λ c. not (is_control c)) (chars xs) (chars ys)) (and_from _ _ p.printable q.printable);
}

-- bytes of ASCII that aren't controls: from the space to the tilde
abbrev pub is_plain : ℕ → Bool
is_plain b = nat_le 0x20 b && nat_le b 0x7E

plain_encode : (b : ℕ) → is_plain b ≡ true → encode b ≡ b ∷ []
unfolding encode
plain_encode b p = grind (arith, nat_tests)

plain_scalar : (b : ℕ) → is_plain b ≡ true → scalar b ≡ true
plain_scalar b p = grind (arith, nat_tests)

plain_printable : (b : ℕ) → is_plain b ≡ true → not (is_control b) ≡ true
plain_printable b p = grind (arith, nat_tests)

plain_encodes : (bs : List ℕ) → list_all is_plain bs ≡ true → encodes bs ≡ bs
plain_encodes [] p = refl
plain_encodes (b ∷ bs) p =
    rw (plain_encode b (and_parts _ _ p).0, plain_encodes bs (and_parts (is_plain b) _ p).1) refl

pub plain_scalars : (bs : List ℕ) → list_all is_plain bs ≡ true → scalars bs ≡ true
plain_scalars [] p = refl
plain_scalars (b ∷ bs) p = and_from _ _ (plain_scalar b (and_parts _ _ p).0) (plain_scalars bs (and_parts (is_plain b) _ p).1)

pub plain_printables : (bs : List ℕ) → list_all is_plain bs ≡ true → are_printable bs ≡ true
plain_printables [] p = refl
plain_printables (b ∷ bs) p =
    and_from _ _ (plain_printable b (and_parts _ _ p).0) (plain_printables bs (and_parts (is_plain b) _ p).1)

pub IsLine-plain : (bs : List ℕ) → list_all is_plain bs ≡ true → IsLine bs
IsLine-plain bs p =
    subst IsLine (plain_encodes bs p) (IsLine-encodes bs (plain_scalars bs p) (plain_printables bs p))
