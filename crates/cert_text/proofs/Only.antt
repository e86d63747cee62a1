-- The text of a certificate is read.
use Rattle.std.proofs.Common.{◌≡◌, ℕ, ◌+◌, ◌-◌, ◌<◌, ◌≤◌, Bool, true, false, ltb, eqb, List, [], ◌∷◌, ◌++◌, length, get_or, map, Option, Some, Result, Ok, Err, refl, sym, ap, subst, ◌∙◌, arith, append_assoc, length-append}
use Rattle.std.specs.Prelude.{codes, slice_get}
use Rattle.std.specs.Fmt.{decimal}
use Rattle.std.specs.Char.{is_ascii_digit}
use Rattle.std.specs.Str.{bytes_eq}
use Rattle.std.specs.List.{list_all, AllByRecursion, AllAdjacentBelow}
use Rattle.std.specs.Ordering.{is_lt}
use Rattle.std.specs.declared.cmp.Ordering.TheVariants.{Less}
use Rattle.std.proofs.Math.ListN.{get_or-append}
use Rattle.std.proofs.Math.Seq.{get_or-append_seam}
use Rattle.std.proofs.lemmas.Bool.Decides.{nat_tests}
use Rattle.std.proofs.lemmas.Fmt.{decimal_nonempty, length-decimal-le}
use Rattle.std.proofs.lemmas.List.{append-nil}
use Rattle.page_ids.specs.Ids.{id_cmp, frame_text}
use Rattle.frame_records.specs.Groups.{AreGroups}
use Rattle.cert_table.specs.declared.row.Row.{Row}
use Rattle.abstract_paint.specs.declared.cursor.Place.{Place}
use Rattle.abstract_paint.specs.declared.cursor.Place.TheVariants.{Any, Col, Spot}
use Rattle.abstract_paint.specs.declared.cursor.Pend.{Pend}
use Rattle.abstract_paint.specs.declared.cursor.Pend.TheVariants.{No, Yes, Maybe}
use Rattle.abstract_paint.specs.Paint.{OnScreen}
use Rattle.cert_table.specs.Table.{CertView, comes_after}
use Rattle.cert_text.specs.declared.fault.LineCause.TheVariants as causes
use Rattle.cert_text.specs.declared.fault.LineCause.{LineCause}
use Rattle.cert_text.specs.declared.stage.Stage.{Stage}
use Rattle.cert_text.specs.declared.stage.Stage.TheVariants.{Magic, Head, Groups, Rows, After}
use Rattle.cert_text.specs.declared.stage.NumberLine.{NumberLine}
use Rattle.cert_text.specs.declared.stage.NumberLine.TheVariants.{Entry, Ceiling, Keyings, Count}
use Rattle.cert_text.specs.Grammar.{has_groups, first_line, groups_line, groups_lines, entry_line, ceiling_line, keyings_line, rows_line, row_line, place_text, pend_text, cursor_text, text_of, certificate_text, IsRow, IsCertificate, IsCertificateText}
use Rattle.frame_records.specs.Steps.{◌>>=◌}
use Rattle.cert_text.specs.Reading.{Said, Reading, Fault, nothing_said, line_begins, reading_start, due_number, word_of, most_number, put, stage_after, judge, judge_at, is_over, at_line, step, reading_after, ended, reading}
use Rattle.page_ids.proofs.Truths.{ok_is}
use Rattle.page_ids.proofs.Numbers.{decimal_digits}
use Rattle.std.proofs.lemmas.Bool.{and_parts}
use Rattle.std.proofs.lemmas.List.Elements.{recursion_from_All}
use Rattle.cert_text.proofs.Again.{IsLine, AllAbove, above_all, above_append, above_less, above_decimal, above_id, above_cursor, number_after_again, row_again}
use Rattle.cert_text.proofs.GroupLines.{groups_again, groups_is_line}
use Rattle.cert_text.proofs.Sound.{with_grouped, with_groups, get_is, most_small}

-- a run in two pieces
bind_assoc : {A B C E : Type 0} (r : Result A E) (f : A → Result B E) (g : B → Result C E)
    → ((r >>= f) >>= g) ≡ (r >>= λ x. f x >>= g)
bind_assoc (Ok x) f g = refl
bind_assoc (Err e) f g = refl

bind_same : {A B E : Type 0} (r : Result A E) (f g : A → Result B E) → ((x : A) → f x ≡ g x) → (r >>= f) ≡ (r >>= g)
bind_same (Ok x) f g h = h x
bind_same (Err e) f g h = refl

pub run_append : (s : Reading) (a b : List ℕ) → reading_after s (a ++ b) ≡ (reading_after s a >>= λ t. reading_after t b)
run_append s [] b = refl
run_append s (x ∷ a) b =
    bind_same (step s x) (λ t. reading_after t (a ++ b)) (λ t. reading_after t a >>= λ u. reading_after u b) (λ t. run_append t a b)
    ∙ sym (bind_assoc (step s x) (λ t. reading_after t a) (λ u. reading_after u b))

abbrev pub longer : Reading → ℕ → Reading
longer s b = record s { line = s.line ++ (b ∷ []) }

-- no byte is a line's end
abbrev pub NoEnds : List ℕ → Type 0
NoEnds bytes = AllByRecursion (λ b. eqb b 10 ≡ false) bytes

no_ends : (bytes : List ℕ) → AllAbove 11 bytes → NoEnds bytes
no_ends [] h = tt
no_ends (b ∷ bytes) h = (other b h.0, no_ends bytes h.1) where
  other : (b : ℕ) → 11 ≤ b → eqb b 10 ≡ false
  other b h = grind (arith, nat_tests)

pub step_longer : (s : Reading) (b : ℕ) → is_over s.stage ≡ false → eqb b 10 ≡ false → length s.line < 128
    → step s b ≡ Ok (longer s b)
unfolding step
step_longer s b going other room =
    let fits : ltb (length s.line) 128 ≡ true = grind (arith, nat_tests) in
    rw (going, other, fits) refl

pub step_end : (s : Reading) → is_over s.stage ≡ false → step s 10 ≡ at_line (due_number s.stage s.said) (judge s)
unfolding step
step_end s going = rw going refl

pub run_line : (s : Reading) (line rest : List ℕ) → is_over s.stage ≡ false → NoEnds line
    → length s.line + length line ≤ 128
    → reading_after s (line ++ (10 ∷ rest))
    ≡ (at_line (due_number s.stage s.said) (judge_at s.stage s.said (s.line ++ line)) >>= λ t. reading_after t rest)
run_line s [] rest going above room =
    ap (λ (r : Result Reading Fault). r >>= λ t. reading_after t rest) (step_end s going)
    ∙ ap (λ (l : List ℕ). at_line (due_number s.stage s.said) (judge_at s.stage s.said l) >>= λ t. reading_after t rest)
    (sym (append-nil s.line))
run_line s (b ∷ line) rest going above room =
    let one : length s.line < 128 = omega arith in
    let more : length (s.line ++ (b ∷ [])) + length line ≤ 128 = omega (arith, length-append s.line (b ∷ [])) in
    ap (λ (r : Result Reading Fault). r >>= λ t. reading_after t (line ++ (10 ∷ rest))) (step_longer s b going above.0 one)
    ∙ run_line (longer s b) line rest going above.1 more
    ∙ ap (λ (l : List ℕ). at_line (due_number s.stage s.said) (judge_at s.stage s.said l) >>= λ t. reading_after t rest)
    (append_assoc s.line (b ∷ []) line)

pub line_read : (g : Stage) (s : Said) (t : Reading) (line rest : List ℕ) → is_over g ≡ false → IsLine line
    → judge_at g s line ≡ Ok t
    → reading_after (line_begins g s) (line ++ (10 ∷ rest)) ≡ reading_after t rest
line_read g s t line rest going is ok =
    run_line (line_begins g s) line rest going (no_ends line is.above) (omega (arith, is.short))
    ∙ ap (λ (r : Result Reading LineCause). at_line (due_number g s) r >>= λ u. reading_after u rest) ok

above_word : (f : NumberLine) → AllAbove 11 (word_of f)
above_word Entry = above_all 11 (codes "entry ") refl
above_word Ceiling = above_all 11 (codes "ceiling ") refl
above_word Keyings = above_all 11 (codes "keyings ") refl
above_word Count = above_all 11 (codes "rows ") refl

short_word : (f : NumberLine) → length (word_of f) ≤ 10
short_word Entry = omega arith
short_word Ceiling = omega arith
short_word Keyings = omega arith
short_word Count = omega arith

word_number : (word : List ℕ) (n : ℕ) → AllAbove 11 word → length word ≤ 10 → n ≤ 999999999 → IsLine (word ++ decimal n)
word_number word n above short small =
    let len : length (decimal n) ≤ 9 = length-decimal-le 9 n (omega arith) (omega arith) (omega arith) in
    let digits = above_less 33 11 (decimal n) (omega arith) (above_decimal n) in
    record {
      above = above_append 11 word (decimal n) above digits;
      short = omega (arith, length-append word (decimal n), len);
    }

field_read : (f : NumberLine) (s : Said) (n : ℕ) (rest : List ℕ) → n ≤ most_number f
    → reading_after (line_begins (Head f) s) ((word_of f ++ decimal n) ++ (10 ∷ rest))
    ≡ reading_after (line_begins (stage_after f s.grouped) (put f n s)) rest
field_read f s n rest le =
    let small = most_small f in
    let line = word_number (word_of f) n (above_word f) (short_word f) (omega (arith, small, le)) in
    let number = number_after_again (word_of f) (most_number f) n (omega (arith, small)) le in
    line_read (Head f) s (line_begins (stage_after f s.grouped) (put f n s)) (word_of f ++ decimal n) rest refl line
    (rw number refl)

first_read : (q : Bool) (rest : List ℕ)
    → reading_after reading_start (first_line q ++ (10 ∷ rest)) ≡ reading_after (line_begins (Head Entry) (with_grouped nothing_said q)) rest
first_read false rest =
    let line : IsLine (codes "PBC1") = record { above = above_all 11 (codes "PBC1") refl; short = omega arith } in
    line_read Magic nothing_said (line_begins (Head Entry) (with_grouped nothing_said false)) (codes "PBC1") rest refl line refl
first_read true rest =
    let line : IsLine (codes "PBC2") = record { above = above_all 11 (codes "PBC2") refl; short = omega arith } in
    line_read Magic nothing_said (line_begins (Head Entry) (with_grouped nothing_said true)) (codes "PBC2") rest refl line refl

groups_read : (groups : List ℕ) (s : Said) (rest : List (List ℕ)) → AreGroups groups
    → reading_after (line_begins (stage_after Keyings (has_groups groups)) (with_groups s [])) (text_of (groups_lines groups ++ rest))
    ≡ reading_after (line_begins (Head Count) (with_groups s groups)) (text_of rest)
groups_read [] s rest valid = refl
groups_read (g ∷ gs) s rest valid =
    line_read Groups (with_groups s []) (line_begins (Head Count) (with_groups s (g ∷ gs))) (groups_line (g ∷ gs))
    (text_of rest) refl (groups_is_line (g ∷ gs) valid)
    (rw (groups_again g gs valid) refl)

place_short : (p : Place) → OnScreen p → length (place_text p) ≤ 10
place_short Any is = omega arith
place_short (Col c) is = omega (arith, length-decimal-le 9 c (omega arith) (omega (arith, is)) (omega (arith, is)))
place_short (Spot c) is = omega (arith, length-decimal-le 9 c (omega arith) (omega (arith, is)) (omega (arith, is)))

pend_short : (d : Pend) → length (pend_text d) ≤ 1
pend_short No = omega arith
pend_short Yes = omega arith
pend_short Maybe = omega arith

row_is_line : (r : Row) → IsRow r → IsLine (row_line r)
row_is_line r is =
    let a = above_less 33 11 (frame_text r.id) (omega arith) (above_id r.id is.id) in
    let b = above_less 33 11 (decimal r.rank) (omega arith) (above_decimal r.rank) in
    let c = above_less 33 11 (cursor_text r.cursor) (omega arith) (above_cursor r.cursor is.place) in
    let space : 11 ≤ 32 = omega arith in
    let la : length (decimal r.id.page) ≤ 9 =
    length-decimal-le 9 r.id.page (omega arith) (omega (arith, is.id.page)) (omega (arith, is.id.page)) in
    let lb : length (decimal r.rank) ≤ 9 =
    length-decimal-le 9 r.rank (omega arith) (omega (arith, is.rank)) (omega (arith, is.rank)) in
    let l1 = length-append (decimal r.id.page) (r.id.letter ∷ []) in
    let l2 = length-append (frame_text r.id) (32 ∷ (decimal r.rank ++ (32 ∷ cursor_text r.cursor))) in
    let l3 = length-append (decimal r.rank) (32 ∷ cursor_text r.cursor) in
    let l4 = length-append (place_text r.cursor.place) (pend_text r.cursor.pend) in
    let l5 = place_short r.cursor.place is.place in
    let l6 = pend_short r.cursor.pend in
    let rest = above_append 11 (decimal r.rank) (32 ∷ cursor_text r.cursor) b (space, c) in
    record {
      above = above_append 11 (frame_text r.id) (32 ∷ (decimal r.rank ++ (32 ∷ cursor_text r.cursor))) a (space, rest);
      short = omega (arith, la, lb, l1, l2, l3, l4, l5, l6);
    }

-- a row's line begins with a digit
not_end : (ds x y : List ℕ) → 0 < length ds → list_all is_ascii_digit ds ≡ true
    → bytes_eq ((ds ++ x) ++ y) (codes "end") ≡ false
not_end [] x y some all = absurd (omega arith)
not_end (d ∷ ds) x y some all =
    let first = and_parts (is_ascii_digit d) (list_all is_ascii_digit ds) all in
    let no : eqb d 101 ≡ false = digit_no d first.0 in
    rw no refl where
      digit_no : (d : ℕ) → is_ascii_digit d ≡ true → eqb d 101 ≡ false
      digit_no d h = grind (arith, nat_tests)

row_not_end : (r : Row) → IsRow r → bytes_eq (row_line r) (codes "end") ≡ false
row_not_end r is =
    not_end (decimal r.id.page) (r.id.letter ∷ []) (32 ∷ (decimal r.rank ++ (32 ∷ cursor_text r.cursor)))
    (decimal_nonempty r.id.page (omega (arith, is.id.page))) (decimal_digits r.id.page)

abbrev Ascend : List Row → Type 0
Ascend rows = AllAdjacentBelow (λ r t. id_cmp r.id t.id ≡ Less) rows (length rows)

follows : (acc : List Row) (r : Row) (rows : List Row) → Ascend (acc ++ (r ∷ rows))
    → comes_after (slice_get acc (length acc - 1)) r.id ≡ true
follows [] r rows asc = refl
follows (a ∷ acc) r rows asc =
    let k = length acc in
    let got : slice_get (a ∷ acc) k ≡ Some (get_or (a ∷ acc) k r) = get_is (a ∷ acc) k r (omega arith) in
    let less = asc k r (omega (arith, length-append (a ∷ acc) (r ∷ rows))) in
    let left : get_or ((a ∷ acc) ++ (r ∷ rows)) k r ≡ get_or (a ∷ acc) k r =
    get_or-append (a ∷ acc) (r ∷ rows) r k (omega arith) in
    let right : get_or ((a ∷ acc) ++ (r ∷ rows)) (k + 1) r ≡ r =
    ap (λ (i : ℕ). get_or ((a ∷ acc) ++ (r ∷ rows)) i r) (seam acc a) ∙ get_or-append_seam (a ∷ acc) r rows r in
    let less2 : id_cmp (get_or (a ∷ acc) k r).id r.id ≡ Less =
    sym (ap (λ (x : Row). id_cmp x.id (get_or ((a ∷ acc) ++ (r ∷ rows)) (k + 1) r).id) left
    ∙ ap (λ (x : Row). id_cmp (get_or (a ∷ acc) k r).id x.id) right) ∙ less in
    ap (λ (i : ℕ). comes_after (slice_get (a ∷ acc) i) r.id) (one_less acc a)
    ∙ ap (λ (o : Option Row). comes_after o r.id) got ∙ ap is_lt less2 where
      one_less : (acc : List Row) (a : Row) → length (a ∷ acc) - 1 ≡ length acc
      one_less acc a = omega arith

      seam : (acc : List Row) (a : Row) → length acc + 1 ≡ length (a ∷ acc)
      seam acc a = omega arith

abbrev with_rows : Said → List Row → Said
with_rows s rows = record s { rows = rows }

run_rows : (s : Said) (acc rows : List Row) → length acc + length rows ≡ s.count → Ascend (acc ++ rows)
    → AllByRecursion IsRow rows
    → reading_after (line_begins Rows (with_rows s acc)) (text_of (map row_line rows ++ (codes "end" ∷ [])))
    ≡ Ok (line_begins After (with_rows s (acc ++ rows)))
run_rows s acc [] len asc each =
    let no : ltb (length acc) s.count ≡ false = grind (arith, nat_tests) in
    let line : IsLine (codes "end") = record { above = above_all 11 (codes "end") refl; short = omega arith } in
    line_read Rows (with_rows s acc) (line_begins After (with_rows s acc)) (codes "end") [] refl line (rw no refl)
    ∙ ap (λ (rs : List Row). Ok (line_begins After (with_rows s rs))) (sym (append-nil acc))
run_rows s acc (r ∷ rows) len asc each =
    let yes : ltb (length acc) s.count ≡ true = grind (arith, nat_tests) in
    let read = row_again acc r each.0 (follows acc r rows asc) in
    let next = line_begins Rows (with_rows s (acc ++ (r ∷ []))) in
    let judged : judge_at Rows (with_rows s acc) (row_line r) ≡ Ok next = rw (yes, row_not_end r each.0, read) refl in
    let join : (acc ++ (r ∷ [])) ++ rows ≡ acc ++ (r ∷ rows) = append_assoc acc (r ∷ []) rows in
    line_read Rows (with_rows s acc) next (row_line r) (text_of (map row_line rows ++ (codes "end" ∷ []))) refl
    (row_is_line r each.0) judged
    ∙ run_rows s (acc ++ (r ∷ [])) rows (omega (arith, length-append acc (r ∷ []))) (subst Ascend (sym join) asc) each.1
    ∙ ap (λ (rs : List Row). Ok (line_begins After (with_rows s rs))) join

-- what the text of a certificate says
abbrev said_of : CertView → Said
said_of c = record {
  grouped = has_groups c.groups;
  entry = c.entry;
  ceiling = c.ceiling;
  keyings = c.keyings;
  groups = c.groups;
  count = length c.rows;
  rows = c.rows;
}

pub run_certificate : (c : CertView) → IsCertificate c → reading_after reading_start (certificate_text c) ≡ Ok (line_begins After (said_of c))
run_certificate c is =
    let n = length c.rows in
    let s0 = with_grouped nothing_said (has_groups c.groups) in
    let s1 = put Entry c.entry s0 in
    let s2 = put Ceiling c.ceiling s1 in
    let s3 = put Keyings c.keyings s2 in
    let s4 = with_groups s3 c.groups in
    let s5 = put Count n s4 in
    let rest = map row_line c.rows ++ (codes "end" ∷ []) in
    let after4 = rows_line n ∷ rest in
    let after3 = groups_lines c.groups ++ after4 in
    let after2 = keyings_line c.keyings ∷ after3 in
    let after1 = ceiling_line c.ceiling ∷ after2 in
    let first = first_line (has_groups c.groups) in
    ap (λ (ls : List (List ℕ)). reading_after reading_start
    (text_of (first ∷ entry_line c.entry ∷ ceiling_line c.ceiling ∷ keyings_line c.keyings ∷ ls)))
    (append_assoc (groups_lines c.groups) (rows_line n ∷ []) rest)
    ∙ first_read (has_groups c.groups) (text_of (entry_line c.entry ∷ after1))
    ∙ field_read Entry s0 c.entry (text_of after1) is.entry
    ∙ field_read Ceiling s1 c.ceiling (text_of after2) is.ceiling
    ∙ field_read Keyings s2 c.keyings (text_of after3) is.keyings
    ∙ groups_read c.groups s3 after4 is.groups
    ∙ field_read Count s4 n (text_of rest) is.rows.few
    ∙ run_rows s5 [] c.rows (omega arith) is.rows.ascending (recursion_from_All IsRow c.rows is.each)

-- the text of a certificate is read as it
pub only : (c : CertView) → IsCertificate c → reading (certificate_text c) ≡ Ok c
only c is = ap (λ (r : Result Reading Fault). r >>= ended) (run_certificate c is)

-- a text has one certificate
pub one_certificate : (bytes : List ℕ) (c d : CertView) → IsCertificateText bytes c → IsCertificateText bytes d → c ≡ d
one_certificate bytes c d p q =
    ok_is c d (sym (only c p.valid) ∙ ap reading (sym p.spelled ∙ q.spelled) ∙ only d q.valid)

-- after the last line each byte is too many
step_over : (s : Said) (b : ℕ) → step (line_begins After s) b ≡ Err (due_number After s, causes.Tail)
unfolding step
step_over s b = refl

abbrev failed : Fault → Result Reading Fault
failed f = Err f

-- no text begins another
pub no_prefix : (bytes : List ℕ) (b : ℕ) (more : List ℕ) (c d : CertView) → IsCertificateText bytes c
    → IsCertificateText (bytes ++ (b ∷ more)) d → ⊥
no_prefix bytes b more c d p q =
    let first : reading_after reading_start bytes ≡ Ok (line_begins After (said_of c)) =
    ap (reading_after reading_start) p.spelled ∙ run_certificate c p.valid in
    let second : reading_after reading_start (bytes ++ (b ∷ more)) ≡ Ok (line_begins After (said_of d)) =
    ap (reading_after reading_start) q.spelled ∙ run_certificate d q.valid in
    let refused : reading_after reading_start (bytes ++ (b ∷ more)) ≡ Err (due_number After (said_of c), causes.Tail) =
    run_append reading_start bytes (b ∷ more) ∙ ap (λ (r : Result Reading Fault). r >>= λ t. reading_after t (b ∷ more)) first
    ∙ ap (λ (r : Result Reading Fault). r >>= λ t. reading_after t more) (step_over (said_of c) b) in
    clash _ _ (sym refused ∙ second) where
      clash : (f : Fault) (t : Reading) → failed f ≡ Ok t → ⊥
      clash f t e = cc
