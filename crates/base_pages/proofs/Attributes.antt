-- A tag, read: its name and its attributes.
use Rattle.std.proofs.Common.{◌≡◌, ℕ, refl, ap, ◌∙◌, Bool, true, false, not, ◌||◌, arith, List, [], ◌∷◌, ◌++◌, ◌==◌, codes, append_assoc, append-nil, map}
use Rattle.std.specs.List.{list_all, flat_map, slice_split, onto_first}
use Rattle.std.proofs.lemmas.Bool.{and_parts}
use Rattle.std.proofs.lemmas.Bool.Decides.{nat_tests}
use Rattle.screens.specs.declared.writing.Writing.TheVariants.{Plain, Markup}
use Rattle.screens.specs.Writing.{written}
use Rattle.screens.specs.Svg.{piece}
use Rattle.screens.specs.Laws.{decoded, is_harmless, raw}
use Rattle.screens.proofs.Safe.{is_inner, all_append, harmless, characters_are_safe}
use Rattle.screens.proofs.Tags.{Inner, Outer}
use Rattle.base_pages.specs.Elements.{attribute_bytes, tag}
use Rattle.base_pages.specs.Reading.{until_byte, from, name_of, pairs_of, attributes_of, Element, read}
use Rattle.base_pages.specs.Said.{said_as}

-- a byte of a name: not ` `, `=`, `"`, `<` or `>`
abbrev pub is_word : ℕ → Bool
is_word b = not (b == 0x20 || (b == 0x3D || (b == 0x22 || (b == 0x3C || b == 0x3E))))

abbrev pub Word : List ℕ → Type 0
Word bs = list_all is_word bs ≡ true

abbrev pub Words : List (List ℕ × List ℕ) → Type 0
Words attributes = list_all (λ a. list_all is_word a.0) attributes ≡ true

abbrev Lacks : ℕ → List ℕ → Type 0
Lacks c bs = list_all (λ b. not (b == c)) bs ≡ true

each : (p q : ℕ → Bool) → ((b : ℕ) → p b ≡ true → q b ≡ true) → (bs : List ℕ) → list_all p bs ≡ true → list_all q bs ≡ true
each p q by [] h = refl
each p q by (b ∷ bs) h =
    let parts = and_parts (p b) (list_all p bs) h in
    rw (by b parts.0, each p q by bs parts.1) refl

word_inner : (bs : List ℕ) → Word bs → Inner bs
word_inner = each is_word is_inner (λ b h. grind (arith, nat_tests))

pub outer_inner : (bs : List ℕ) → Outer bs → Inner bs
outer_inner = each is_harmless is_inner (λ b h. grind (arith, nat_tests))

unquoted : (bs : List ℕ) → Outer bs → Lacks 0x22 bs
unquoted = each is_harmless (λ b. not (b == 0x22)) (λ b h. grind (arith, nat_tests))

-- Tags have no `<` and no `>` if names have none, whatever values are.

inner_attributes : (attributes : List (List ℕ × List ℕ)) → Words attributes → Inner (flat_map attribute_bytes attributes)
unfolding attribute_bytes
inner_attributes [] h = refl
inner_attributes (a ∷ later) h =
    let parts = and_parts (list_all is_word a.0) (list_all (λ b. list_all is_word b.0) later) h in
    let named = all_append is_inner (codes " " ++ a.0) (codes "=\"") (word_inner a.0 parts.0) refl in
    let valued = all_append is_inner (codes " " ++ a.0 ++ codes "=\"") (written Markup a.1) named (outer_inner (written Markup a.1) (harmless a.1)) in
    all_append is_inner (attribute_bytes a) (flat_map attribute_bytes later)
    (all_append is_inner (codes " " ++ a.0 ++ codes "=\"" ++ written Markup a.1) (codes "\"") valued refl) (inner_attributes later parts.1)

pub inner_tag : (name : List ℕ) (attributes : List (List ℕ × List ℕ)) → Word name → Words attributes → Inner (tag name attributes)
unfolding tag
inner_tag name attributes h k = all_append is_inner name (flat_map attribute_bytes attributes) (word_inner name h) (inner_attributes attributes k)

-- The name, and what comes after it.

no : (b c : ℕ) → not (b == c) ≡ true → (b == c) ≡ false
no b c h = grind (arith, nat_tests)

before_at : (c : ℕ) (front rest : List ℕ) → Lacks c front → until_byte c (front ++ rest) ≡ front ++ until_byte c rest
before_at c [] rest h = refl
before_at c (b ∷ bs) rest h =
    let parts = and_parts (not (b == c)) (list_all (λ d. not (d == c)) bs) h in
    rw (no b c parts.0) (ap (λ (xs : List ℕ). b ∷ xs) (before_at c bs rest parts.1))

from_at : (c : ℕ) (front rest : List ℕ) → Lacks c front → from c (front ++ rest) ≡ from c rest
from_at c [] rest h = refl
from_at c (b ∷ bs) rest h =
    let parts = and_parts (not (b == c)) (list_all (λ d. not (d == c)) bs) h in
    rw (no b c parts.0) (from_at c bs rest parts.1)

spaceless : (bs : List ℕ) → Word bs → Lacks 0x20 bs
spaceless = each is_word (λ b. not (b == 0x20)) (λ b h. grind (arith, nat_tests))

pub name_is : (name : List ℕ) (attributes : List (List ℕ × List ℕ)) → Word name → name_of (tag name attributes) ≡ name
unfolding tag attribute_bytes
name_is name [] h = before_at 0x20 name [] (spaceless name h) ∙ append-nil name
name_is name (a ∷ later) h = before_at 0x20 name (flat_map attribute_bytes (a ∷ later)) (spaceless name h) ∙ append-nil name

-- Attributes.

split_at : (front rest : List ℕ) → Lacks 0x22 front → slice_split (λ b. b == 0x22) (front ++ 0x22 ∷ rest) ≡ front ∷ slice_split (λ b. b == 0x22) rest
split_at [] rest h = refl
split_at (b ∷ bs) rest h =
    let parts = and_parts (not (b == 0x22)) (list_all (λ d. not (d == 0x22)) bs) h in
    rw (no b 0x22 parts.0) (ap (onto_first b) (split_at bs rest parts.1))

regroup : (s n e q w r : List ℕ) → (s ++ n ++ (e ++ q) ++ w ++ q) ++ r ≡ (s ++ n ++ e) ++ (q ++ (w ++ (q ++ r)))
regroup s n e q w r = simp append_assoc

pairs_are : (attributes : List (List ℕ × List ℕ)) → Words attributes → pairs_of (slice_split (λ b. b == 0x22) (flat_map attribute_bytes attributes)) ≡ map (λ a. (a.0, written Plain a.1)) attributes
unfolding attribute_bytes
pairs_are [] h = refl
pairs_are (a ∷ later) h =
    let parts = and_parts (list_all is_word a.0) (list_all (λ b. list_all is_word b.0) later) h in
    let rest = flat_map attribute_bytes later in
    let value = written Markup a.1 in
    let front = codes " " ++ a.0 ++ codes "=" in
    let word : Lacks 0x22 a.0 = each is_word (λ b. not (b == 0x22)) (λ b k. grind (arith, nat_tests)) a.0 parts.0 in
    let named : Lacks 0x22 front = all_append (λ b. not (b == 0x22)) (codes " " ++ a.0) (codes "=") word refl in
    let name : until_byte 0x3D (a.0 ++ codes "=") ≡ a.0 = before_at 0x3D a.0 (codes "=") (each is_word (λ b. not (b == 0x3D)) (λ b k. grind (arith, nat_tests)) a.0 parts.0) ∙ append-nil a.0 in
    ap (λ (bs : List ℕ). pairs_of (slice_split (λ b. b == 0x22) bs)) (regroup (codes " ") a.0 (codes "=") (codes "\"") value rest)
    ∙ ap pairs_of (split_at front (value ++ (0x22 ∷ rest)) named ∙ ap (λ (ps : List (List ℕ)). front ∷ ps) (split_at value rest (unquoted value (harmless a.1))))
    ∙ ap (λ (n : List ℕ). (n, decoded value) ∷ pairs_of (slice_split (λ b. b == 0x22) rest)) name
    ∙ ap (λ (v : List ℕ). (a.0, v) ∷ pairs_of (slice_split (λ b. b == 0x22) rest)) (characters_are_safe a.1).decodes
    ∙ ap (λ (ps : List (List ℕ × List ℕ)). (a.0, written Plain a.1) ∷ ps) (pairs_are later parts.1)

from_attributes : (attributes : List (List ℕ × List ℕ)) → from 0x20 (flat_map attribute_bytes attributes) ≡ flat_map attribute_bytes attributes
unfolding attribute_bytes
from_attributes [] = refl
from_attributes (a ∷ later) = refl

attributes_are : (name : List ℕ) (attributes : List (List ℕ × List ℕ)) → Word name → Words attributes → attributes_of (tag name attributes) ≡ map (λ a. (a.0, written Plain a.1)) attributes
unfolding tag
attributes_are name attributes h k =
    ap (λ (bs : List ℕ). pairs_of (slice_split (λ b. b == 0x22) bs)) (from_at 0x20 name (flat_map attribute_bytes attributes) (spaceless name h) ∙ from_attributes attributes)
    ∙ pairs_are attributes k

three : (name other : List ℕ) (attributes others : List (List ℕ × List ℕ)) (chars bytes : List ℕ) → name ≡ other → attributes ≡ others → chars ≡ bytes
    → ◌≡◌ {A = Element} (record { name = name; attributes = attributes; chars = chars }) (record { name = other; attributes = others; chars = bytes })
three name other attributes others chars bytes e f g = cc

-- an element is read as its name, its attributes and its characters
pub read_is : (name : List ℕ) (attributes : List (List ℕ × List ℕ)) (chars : List ℕ) → Word name → Words attributes → read (raw (piece (tag name attributes) chars)) ≡ said_as name attributes chars
read_is name attributes chars h k =
    three (name_of (tag name attributes)) name (attributes_of (tag name attributes)) (map (λ a. (a.0, written Plain a.1)) attributes) (decoded (written Markup chars)) (written Plain chars)
    (name_is name attributes h) (attributes_are name attributes h k) (characters_are_safe chars).decodes
