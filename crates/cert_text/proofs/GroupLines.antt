use Rattle.page_ids.proofs.Truths.{needs, ok_is}
-- The line of the groups.
use Rattle.std.proofs.Common.{◌≡◌, ◌≢◌, ℕ, ◌*◌, ◌≤◌, true, List, [], ◌∷◌, ◌++◌, length, take, drop, Result, Ok, Err, refl, sym, ap, ◌∙◌, arith, length-append}
use Rattle.std.specs.Prelude.{codes}
use Rattle.std.specs.Int.{from_bool}
use Rattle.std.specs.Fmt.{decimal}
use Rattle.std.specs.Str.{bytes_eq}
use Rattle.std.specs.List.{AllByRecursion}
use Rattle.std.proofs.lemmas.Slice.Eq.{bytes_eq-Decides}
use Rattle.std.proofs.lemmas.Fmt.{length-decimal-le}
use Rattle.std.proofs.lemmas.List.{append-nil, take-append-drop}
use Rattle.std.proofs.lemmas.List.Elements.{recursion_from_All}
use Rattle.std.proofs.Math.Seq.{take-append_seam, drop-append_seam}
use Rattle.frame_records.specs.declared.groups.GroupFault.{GroupFault}
use Rattle.frame_records.specs.Bases.{IsGroup}
use Rattle.frame_records.specs.Groups.{AreGroups, IsGroupsText, groups_in, groups_text}
use Rattle.frame_records.proofs.GroupTexts.{texts_found, texts_only}
use Rattle.cert_text.specs.declared.fault.LineCause.TheVariants.{Word}
use Rattle.cert_text.specs.Grammar.{has_groups, spaced_groups, groups_line, groups_lines}
use Rattle.cert_text.specs.Lines.{groups_or_cause, groups_after}
use Rattle.cert_text.proofs.Again.{AllAbove, IsLine, above_all, above_append, above_less, above_decimal, bytes_same}

-- ---- what it says

spaced_text : (g : ℕ) (gs : List ℕ) → spaced_groups (g ∷ gs) ≡ 32 ∷ groups_text 32 (g ∷ gs)
spaced_text g [] = ap (λ (t : List ℕ). 32 ∷ t) (append-nil (decimal g))
spaced_text g (h ∷ gs) = ap (λ (t : List ℕ). 32 ∷ (decimal g ++ t)) (spaced_text h gs)

line_is : (groups : List ℕ) → groups ≢ [] → codes "groups " ++ groups_text 32 groups ≡ groups_line groups
line_is [] some = absurd (some refl)
line_is (g ∷ gs) some = ap (λ (t : List ℕ). codes "groups" ++ t) (sym (spaced_text g gs))

pub one_line : (groups : List ℕ) → groups ≢ [] → groups_lines groups ≡ groups_line groups ∷ []
one_line [] some = absurd (some refl)
one_line (g ∷ gs) some = refl

pub has_some : (groups : List ℕ) → groups ≢ [] → has_groups groups ≡ true
has_some [] some = absurd (some refl)
has_some (g ∷ gs) some = refl

-- the line counts as one if there are groups
pub counted : (groups : List ℕ) → from_bool (has_groups groups) ≡ length (groups_lines groups)
counted [] = refl
counted (g ∷ gs) = refl

-- ---- it is read from just its own text

groups_ok : (r : Result (List ℕ) GroupFault) (groups : List ℕ) → groups_or_cause r ≡ Ok groups → r ≡ Ok groups
groups_ok (Ok gs) groups e = let same : gs ≡ groups = ok_is gs groups e in ap Ok same
groups_ok (Err fault) groups e = absurd cc

pub record IsGroupsLine (line groups : List ℕ) : Type 0 where
  pub valid : AreGroups groups
  pub some : groups ≢ []
  pub spelled : line ≡ groups_line groups

pub groups_found : (line groups : List ℕ) → groups_after (codes "groups ") line ≡ Ok groups → IsGroupsLine line groups
groups_found line groups e =
    let word = codes "groups " in
    let text = drop (length word) line in
    let a = needs (bytes_eq (take (length word) line) word) Word (groups_or_cause (groups_in 32 text)) groups e in
    let same : take (length word) line ≡ word = grind (arith, bytes_eq-Decides (take (length word) line) word, a.0) in
    let is : IsGroupsText 32 text groups = texts_found 32 text groups (groups_ok (groups_in 32 text) groups a.1) in
    let cut : line ≡ word ++ text = sym (take-append-drop (length word) line) ∙ ap (λ (w : List ℕ). w ++ text) same in
    record {
      valid = is.valid;
      some = is.some;
      spelled = cut ∙ ap (λ (t : List ℕ). word ++ t) is.spelled ∙ line_is groups is.some;
    }

some_first : (g : ℕ) (gs : List ℕ) → (g ∷ gs) ≢ []
some_first g gs e = cc

after_again : (word text groups : List ℕ) → groups_in 32 text ≡ Ok groups → groups_after word (word ++ text) ≡ Ok groups
after_again word text groups read =
    rw (take-append_seam word text, drop-append_seam word text, bytes_same word) (ap groups_or_cause read)

pub groups_again : (g : ℕ) (gs : List ℕ) → AreGroups (g ∷ gs)
    → groups_after (codes "groups ") (groups_line (g ∷ gs)) ≡ Ok (g ∷ gs)
groups_again g gs valid =
    let groups = g ∷ gs in
    let word = codes "groups " in
    let text = groups_text 32 groups in
    let some = some_first g gs in
    let read = texts_only 32 text groups refl (record { valid = valid; some = some; spelled = refl }) in
    ap (groups_after word) (sym (line_is groups some)) ∙ after_again word text groups read

-- ---- it is short enough

spaced_above : (groups : List ℕ) → AllByRecursion IsGroup groups → AllAbove 11 (spaced_groups groups)
spaced_above [] each = tt
spaced_above (g ∷ gs) each =
    let number = above_less 33 11 (decimal g) (omega arith) (above_decimal g) in
    (omega arith, above_append 11 (decimal g) (spaced_groups gs) number (spaced_above gs each.1))

spaced_short : (groups : List ℕ) → AllByRecursion IsGroup groups → length (spaced_groups groups) ≤ 6 * length groups
spaced_short [] each = omega arith
spaced_short (g ∷ gs) each =
    let number : length (decimal g) ≤ 5 =
    length-decimal-le 5 g (omega arith) (omega (arith, each.0)) (omega (arith, each.0)) in
    let rest = spaced_short gs each.1 in
    omega (arith, number, rest, length-append (decimal g) (spaced_groups gs))

pub groups_is_line : (groups : List ℕ) → AreGroups groups → IsLine (groups_line groups)
groups_is_line groups valid =
    let each = recursion_from_All IsGroup groups valid.each in
    let short = spaced_short groups each in
    let word = codes "groups" in
    record {
      above = above_append 11 word (spaced_groups groups) (above_all 11 word refl) (spaced_above groups each);
      short = omega (arith, short, valid.few, length-append word (spaced_groups groups));
    }
