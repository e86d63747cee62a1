-- Groups are read from just their own texts.
use Rattle.std.proofs.Common.{◌≡◌, ◌≢◌, ℕ, ◌<◌, ◌≤◌, Bool, true, false, true≢false, ◌&&◌, ltb, eqb, List, [], ◌∷◌, ◌++◌, length, get_or, map, All, Result, Ok, Err, refl, sym, ap, subst, ◌∙◌, length-append, arith}
use Rattle.std.specs.List.{join_with_byte}
use Rattle.std.specs.Fmt.{decimal}
use Rattle.std.specs.Char.{is_ascii_digit}
use Rattle.std.proofs.lemmas.Bool.Decides.{nat_tests}
use Rattle.std.proofs.lemmas.Bool.{and_parts, eq-eqb, eqb-true}
use Rattle.std.proofs.lemmas.List.{append_assoc, append-nil, get_or_append_left, length-map}
use Rattle.std.proofs.lemmas.List.Elements.{All-append, All-cons, All-nil, All-head, All-tail}
use Rattle.std.proofs.lemmas.List.Quantifiers.{all_pairs_push}
use Rattle.std.proofs.lemmas.List.Sums.{AllPass-from_list_all, list_all-from_AllPass}
use Rattle.std.proofs.lemmas.List.Splits.{join_with_byte-slice_split, slice_split_at, slice_split_none, length-slice_split}
use Rattle.std.proofs.Math.Seq.{get_or-append_seam}
use Rattle.page_ids.specs.declared.number.NumberFault.{NumberFault}
use Rattle.page_ids.specs.declared.number.NumberFault.TheVariants.{NotNumeral, AboveLimit}
use Rattle.page_ids.specs.Texts.{number_in}
use Rattle.page_ids.proofs.Truths.{needs, ok_is}
use Rattle.page_ids.proofs.Numbers.{number_found, number_again, decimal_digits}
use Rattle.frame_records.specs.declared.groups.GroupFault.{GroupFault}
use Rattle.frame_records.specs.declared.groups.GroupFault.TheVariants.{Range, Order}
use Rattle.frame_records.specs.Bases.{IsGroup}
use Rattle.frame_records.specs.Steps.{◌>>=◌}
use Rattle.page_ids.specs.Parts.{parts_of}
use Rattle.frame_records.specs.Groups.{AreGroups, are_below, numbered, group_of, group_in, words_in, groups_in, groups_text, IsGroupsText}

-- room for one more, which is greater than all
record Fits (groups : List ℕ) (n : ℕ) : Type 0 where
  group : IsGroup n
  room : length groups < 16
  below : are_below groups n ≡ true

numbered_found : (groups : List ℕ) (m n : ℕ) → m ≤ 65535 → numbered groups m ≡ Ok n → (m ≡ n) × Fits groups n
numbered_found groups m n small e =
    let a = needs (ltb 0 m && ltb (length groups) 16) Range _ n e in
    let b = needs (are_below groups m) Order (Ok m) n a.1 in
    let same = ok_is m n b.1 in
    let both = and_parts (ltb 0 m) (ltb (length groups) 16) a.0 in
    let some : 1 ≤ m = grind (arith, nat_tests, both.0) in
    let room : length groups < 16 = grind (arith, nat_tests, both.1) in
    (same, subst (Fits groups) same (record { group = (some, small); room = room; below = b.0 }))

group_found : (groups word : List ℕ) (r : Result ℕ NumberFault) (n : ℕ) → number_in 65535 word ≡ r → group_of groups r ≡ Ok n → (word ≡ decimal n) × Fits groups n
group_found groups word (Ok m) n number e =
    let is = number_found 65535 word m (omega arith) number in
    let found = numbered_found groups m n is.0 e in
    (is.1 ∙ ap decimal found.0, found.1)
group_found groups word (Err NotNumeral) n number e = cc
group_found groups word (Err AboveLimit) n number e = cc

put : (groups : List ℕ) (n : ℕ) → AreGroups groups → Fits groups n → AreGroups (groups ++ n ∷ [])
put groups n are fits = record {
  few = omega (arith, length-append groups (n ∷ []), fits.room);
  ascending = all_pairs_push (λ a b. a < b) groups n are.ascending (λ k d lt. let t = AllPass-from_list_all (λ h. ltb h n) groups fits.below k d lt in grind (arith, nat_tests, t));
  each = All-append IsGroup groups (n ∷ []) are.each (All-cons IsGroup n [] fits.group (All-nil IsGroup));
}

-- what the words after some groups add to them
record Adds (groups : List ℕ) (words : List (List ℕ)) (all : List ℕ) : Type 0 where
  more : List ℕ
  valid : AreGroups all
  whole : all ≡ groups ++ more
  spelled : words ≡ map decimal more

bound : (groups : List ℕ) (r : Result ℕ GroupFault) (words : List (List ℕ)) (all : List ℕ) → (r >>= (λ g. Ok (groups ++ g ∷ [])) >>= λ more. words_in more words) ≡ Ok all
    → (n : ℕ) × (r ≡ Ok n) × (words_in (groups ++ n ∷ []) words ≡ Ok all)
bound groups (Ok n) words all e = (n, refl, e)
bound groups (Err fault) words all e = cc

words_found : (groups : List ℕ) (words : List (List ℕ)) (all : List ℕ) → AreGroups groups → words_in groups words ≡ Ok all → Adds groups words all
words_found groups [] all are e =
    let same : groups ≡ all = cc in
    record { more = []; valid = subst AreGroups same are; whole = sym same ∙ sym (append-nil groups); spelled = refl }
words_found groups (word ∷ words) all are e =
    let a = bound groups (group_in groups word) words all e in
    let is = group_found groups word (number_in 65535 word) a.0 refl a.1 in
    let rest = words_found (groups ++ a.0 ∷ []) words all (put groups a.0 are is.1) a.2 in
    record {
      more = a.0 ∷ rest.more;
      valid = rest.valid;
      whole = rest.whole ∙ append_assoc groups (a.0 ∷ []) rest.more;
      spelled = ap (λ (w : List ℕ). w ∷ words) is.0 ∙ ap (λ (ws : List (List ℕ)). decimal a.0 ∷ ws) rest.spelled;
    }

-- the other way round: the next of a list of groups fits after those before it
next_fits : (groups : List ℕ) (n : ℕ) (more : List ℕ) → AreGroups (groups ++ n ∷ more) → Fits groups n
next_fits groups n more are =
    let long = length-append groups (n ∷ more) in
    let is : get_or (groups ++ n ∷ more) (length groups) 0 ≡ n = get_or-append_seam groups n more 0 in
    record {
      group = subst IsGroup is (are.each (length groups) 0 (omega arith));
      room = omega (arith, are.few, long);
      below = list_all-from_AllPass (λ h. ltb h n) groups (λ k d lt.
          let low : get_or groups k d < n = omega (arith, are.ascending k (length groups) d lt (omega arith), get_or_append_left groups (n ∷ more) d k lt, get_or-append_seam groups n more d) in
          grind (arith, nat_tests, low));
    }

group_again : (groups : List ℕ) (n : ℕ) → Fits groups n → group_in groups (decimal n) ≡ Ok n
group_again groups n fits =
    let read : number_in 65535 (decimal n) ≡ Ok n = number_again 65535 n (omega arith) fits.group.1 in
    let some : ltb 0 n ≡ true = grind (arith, nat_tests, fits.group.0) in
    let room : ltb (length groups) 16 ≡ true = grind (arith, nat_tests, fits.room) in
    rw (read, some, room, fits.below) refl

words_again : (groups more : List ℕ) → AreGroups (groups ++ more) → words_in groups (map decimal more) ≡ Ok (groups ++ more)
words_again groups [] are = ap Ok (sym (append-nil groups))
words_again groups (n ∷ more) are =
    let joined : groups ++ n ∷ [] ++ more ≡ groups ++ n ∷ more = append_assoc groups (n ∷ []) more in
    let rest = words_again (groups ++ n ∷ []) more (subst AreGroups (sym joined) are) in
    rw (group_again groups n (next_fits groups n more are)) (rest ∙ ap Ok joined)

-- no part has a separator
abbrev HasNone : ℕ → List ℕ → Type 0
HasNone c word = All (λ b. eqb b c ≡ false) word

parts_again : (c : ℕ) (word : List ℕ) (words : List (List ℕ)) → HasNone c word → All (HasNone c) words → parts_of c (join_with_byte c (word ∷ words)) ≡ word ∷ words
parts_again c word [] none each = slice_split_none (λ b. eqb b c) word none
parts_again c word (next ∷ words) none each =
    slice_split_at (λ b. eqb b c) word c (join_with_byte c (next ∷ words)) none (eq-eqb c c refl) ∙ ap (λ (ws : List (List ℕ)). word ∷ ws) (parts_again c next words (All-head (HasNone c) next words each) (All-tail (HasNone c) next words each))

other_byte : (b c : ℕ) (t : Bool) → eqb b c ≡ t → is_ascii_digit b ≡ true → is_ascii_digit c ≡ false → t ≡ false
other_byte b c true e digit other = absurd (true≢false (sym digit ∙ ap is_ascii_digit (eqb-true b c e) ∙ other))
other_byte b c false e digit other = refl

digits_alone : (c n : ℕ) → is_ascii_digit c ≡ false → n ≤ 65535 → HasNone c (decimal n)
digits_alone c n other small = λ k d lt.
    let b = get_or (decimal n) k d in
    other_byte b c (eqb b c) refl (AllPass-from_list_all is_ascii_digit (decimal n) (decimal_digits n) k d lt) other

none_has : (c : ℕ) (groups : List ℕ) → is_ascii_digit c ≡ false → All IsGroup groups → All (HasNone c) (map decimal groups)
none_has c [] other each = All-nil (HasNone c)
none_has c (n ∷ groups) other each = All-cons (HasNone c) (decimal n) (map decimal groups) (digits_alone c n other (All-head IsGroup n groups each).1) (none_has c groups other (All-tail IsGroup n groups each))

pub no_groups : AreGroups []
no_groups = record { few = omega arith; ascending = λ i j d lt within. absurd (omega arith); each = All-nil IsGroup }

some_parts : (c : ℕ) (text groups : List ℕ) → Adds [] (parts_of c text) groups → groups ≢ []
some_parts c text groups adds e = omega (arith, length-slice_split (λ b. eqb b c) text, ap length adds.spelled, length-map adds.more decimal, ap length (sym adds.whole ∙ e))

pub texts_found : (c : ℕ) (text groups : List ℕ) → groups_in c text ≡ Ok groups → IsGroupsText c text groups
texts_found c text groups e =
    let adds = words_found [] (parts_of c text) groups no_groups e in
    record {
      valid = adds.valid;
      some = some_parts c text groups adds;
      spelled = sym (join_with_byte-slice_split c text) ∙ ap (join_with_byte c) (adds.spelled ∙ ap (map decimal) (sym adds.whole));
    }

again : (c : ℕ) (groups : List ℕ) → is_ascii_digit c ≡ false → AreGroups groups → groups ≢ [] → groups_in c (groups_text c groups) ≡ Ok groups
again c [] other are some = absurd (some refl)
again c (n ∷ groups) other are some =
    let each = none_has c (n ∷ groups) other are.each in
    ap (words_in []) (parts_again c (decimal n) (map decimal groups) (All-head (HasNone c) (decimal n) (map decimal groups) each) (All-tail (HasNone c) (decimal n) (map decimal groups) each)) ∙ words_again [] (n ∷ groups) are

pub texts_only : (c : ℕ) (text groups : List ℕ) → is_ascii_digit c ≡ false → IsGroupsText c text groups → groups_in c text ≡ Ok groups
texts_only c text groups other is = ap (groups_in c) is.spelled ∙ again c groups other is.valid is.some
