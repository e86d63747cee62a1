-- What the writer has written.
use Rattle.std.proofs.Common.{◌≡◌, ℕ, zero, suc, ◌+◌, ◌<◌, ltb, List, [], ◌∷◌, ◌++◌, length, map, take, get_or, All, subst, refl, sym, ap, ◌∙◌, append_assoc, arith, Some}
use Rattle.std.specs.Prelude.{codes, slice_get}
use Rattle.std.specs.Fmt.{decimal}
use Rattle.std.proofs.lemmas.Bool.Decides.{nat_tests}
use Rattle.std.proofs.lemmas.List.{append-nil, map_push}
use Rattle.std.proofs.lemmas.List.Elements.{All-more}
use Rattle.cert_table.specs.declared.row.Row.{Row}
use Rattle.cert_table.specs.Table.{CertView}
use Rattle.cert_text.specs.Grammar.{has_groups, first_line, spaced_groups, groups_lines, entry_line, ceiling_line, keyings_line, rows_line, text_of, head_lines, row_line, certificate_text}

pub text_append : (xs ys : List (List ℕ)) → text_of (xs ++ ys) ≡ text_of xs ++ text_of ys
text_append [] ys = refl
text_append (x ∷ xs) ys =
    ap (λ (t : List ℕ). x ++ (10 ∷ t)) (text_append xs ys) ∙ sym (append_assoc x (10 ∷ text_of xs) (text_of ys))

-- whether there are groups, by their number
pub some_by_length : (groups : List ℕ) → ltb 0 (length groups) ≡ has_groups groups
some_by_length [] = refl
some_by_length (g ∷ gs) = grind (arith, nat_tests)

-- six lines, one after the other, and the fifth may be none
six : (a b c d e f : List ℕ)
    → (((((a ++ (10 ∷ [])) ++ (b ++ (10 ∷ []))) ++ (c ++ (10 ∷ []))) ++ (d ++ (10 ∷ []))) ++ e) ++ (f ++ (10 ∷ []))
    ≡ a ++ (10 ∷ (b ++ (10 ∷ (c ++ (10 ∷ (d ++ (10 ∷ (e ++ (f ++ (10 ∷ []))))))))))
six a b c d e f = simp append_assoc refl

pub head_joined : (entry ceiling keyings : ℕ) (groups : List ℕ) (count : ℕ)
    → (((((first_line (has_groups groups) ++ (10 ∷ [])) ++ (entry_line entry ++ (10 ∷ []))) ++
    (ceiling_line ceiling ++ (10 ∷ []))) ++ (keyings_line keyings ++ (10 ∷ [])))
    ++ text_of (groups_lines groups)) ++ (rows_line count ++ (10 ∷ []))
    ≡ text_of (head_lines entry ceiling keyings groups count)
head_joined entry ceiling keyings groups count =
    let first = first_line (has_groups groups) in
    six first (entry_line entry) (ceiling_line ceiling) (keyings_line keyings) (text_of (groups_lines groups))
    (rows_line count)
    ∙ ap (λ (t : List ℕ). first ++
    (10 ∷ (entry_line entry ++ (10 ∷ (ceiling_line ceiling ++ (10 ∷ (keyings_line keyings ++ (10 ∷ t))))))))
    (sym (text_append (groups_lines groups) (rows_line count ∷ [])))

-- a certificate's text in its three parts
pub certificate_joined : (c : CertView)
    → (text_of (head_lines c.entry c.ceiling c.keyings c.groups (length c.rows)) ++ text_of
    (map row_line c.rows)) ++ codes "end\n" ≡ certificate_text c
certificate_joined c =
    append_assoc (text_of (head_lines c.entry c.ceiling c.keyings c.groups (length c.rows)))
    (text_of (map row_line c.rows)) (codes "end\n")
    ∙ ap (λ (t : List ℕ). text_of (head_lines c.entry c.ceiling c.keyings c.groups (length c.rows)) ++ t)
    (sym (text_append (map row_line c.rows) (codes "end" ∷ [])))
    ∙ sym (text_append (head_lines c.entry c.ceiling c.keyings c.groups (length c.rows))
    (map row_line c.rows ++ (codes "end" ∷ [])))

pub is_certificate : (c : CertView) (a b d : List ℕ)
    → a ≡ text_of (head_lines c.entry c.ceiling c.keyings c.groups (length c.rows))
    → b ≡ a ++ text_of (map row_line c.rows) → d ≡ b ++ codes "end\n" → d ≡ certificate_text c
is_certificate c a b d p q r =
    r ∙ ap (λ (t : List ℕ). t ++ codes "end\n") (q ∙ ap (λ (t : List ℕ). t ++ text_of (map row_line c.rows)) p)
    ∙ certificate_joined c

first_is : {X : Type 0} (x y : X) → slice_get (x ∷ []) 0 ≡ Some y → x ≡ y
first_is x y e = cc

-- what is at a place
got : {X : Type 0} (xs : List X) (i : ℕ) (r : X) → slice_get xs i ≡ Some r → (i < length xs) × (get_or xs i r ≡ r)
got [] i r e = absurd cc
got (x ∷ xs) zero r e = (omega arith, first_is x r e)
got (x ∷ xs) (suc i) r e = let t = got xs i r e in (omega (arith, t.0), t.1)

pub each_more : (P : Row → Type 0) (xs : List Row) (i : ℕ) (r : Row) → All P (take i xs) → slice_get xs i ≡ Some r
    → P r → All P (take (i + 1) xs)
each_more P xs i r all e p = let g = got xs i r e in All-more P xs i r g.0 all (subst P (sym g.1) p)

take_more : {X : Type 0} (xs : List X) (i : ℕ) (x : X) → slice_get xs i ≡ Some x
    → take (i + 1) xs ≡ take i xs ++ (x ∷ [])
take_more xs i x e = ap (λ (k : ℕ). take k xs) (one_more i) ∙ by_suc xs i x e where
  one_more : (i : ℕ) → i + 1 ≡ suc i
  one_more i = omega arith

  by_suc : {X : Type 0} (xs : List X) (i : ℕ) (x : X) → slice_get xs i ≡ Some x
      → take (suc i) xs ≡ take i xs ++ (x ∷ [])
  by_suc [] i x e = absurd cc
  by_suc (y ∷ xs) zero x e = ap (λ z. z ∷ []) (first_is y x e)
  by_suc (y ∷ xs) (suc i) x e = ap (λ t. y ∷ t) (by_suc xs i x e)

pub rows_more : (old now new : List ℕ) (xs : List Row) (i : ℕ) (r : Row) → slice_get xs i ≡ Some r
    → now ≡ old ++ text_of (map row_line (take i xs)) → new ≡ now ++ (row_line r ++ (10 ∷ []))
    → new ≡ old ++ text_of (map row_line (take (i + 1) xs))
rows_more old now new xs i r e so_far push =
    let text : text_of (map row_line (take (i + 1) xs))
    ≡ text_of (map row_line (take i xs)) ++ (row_line r ++ (10 ∷ [])) = ap
    (λ (t : List Row). text_of (map row_line t)) (take_more xs i r e) ∙ ap text_of (map_push row_line (take i xs) r)
    ∙ text_append (map row_line (take i xs)) (row_line r ∷ []) in
    push ∙ ap (λ (t : List ℕ). t ++ (row_line r ++ (10 ∷ []))) so_far
    ∙ append_assoc old (text_of (map row_line (take i xs))) (row_line r ++ (10 ∷ []))
    ∙ ap (λ (t : List ℕ). old ++ t) (sym text)

spaced_append : (xs ys : List ℕ) → spaced_groups (xs ++ ys) ≡ spaced_groups xs ++ spaced_groups ys
spaced_append [] ys = refl
spaced_append (x ∷ xs) ys =
    ap (λ (t : List ℕ). 32 ∷ (decimal x ++ t)) (spaced_append xs ys)
    ∙ ap (λ (t : List ℕ). 32 ∷ t) (sym (append_assoc (decimal x) (spaced_groups xs) (spaced_groups ys)))

pub numbers_more : (old now : List ℕ) (xs : List ℕ) (i x : ℕ) → slice_get xs i ≡ Some x
    → now ≡ old ++ spaced_groups (take i xs)
    → (now ++ (32 ∷ [])) ++ decimal x ≡ old ++ spaced_groups (take (i + 1) xs)
numbers_more old now xs i x e so_far =
    let before = spaced_groups (take i xs) in
    let more : spaced_groups (take (i + 1) xs) ≡ before ++ (32 ∷ decimal x) =
    ap spaced_groups (take_more xs i x e) ∙ spaced_append (take i xs) (x ∷ [])
    ∙ ap (λ (t : List ℕ). before ++ (32 ∷ t)) (append-nil (decimal x)) in
    ap (λ (t : List ℕ). (t ++ (32 ∷ [])) ++ decimal x) so_far ∙ append_assoc (old ++ before) (32 ∷ []) (decimal x)
    ∙ append_assoc old before (32 ∷ decimal x)
    ∙ ap (λ (t : List ℕ). old ++ t) (sym more)
