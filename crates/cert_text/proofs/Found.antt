-- What has been read is the text of what was read.
use Rattle.std.proofs.Common.{◌≡◌, ℕ, ◌+◌, ◌≤◌, Bool, true, false, cond, ltb, eqb, List, [], ◌∷◌, ◌++◌, length, map, Result, Ok, Err, refl, sym, ap, subst, inl, inr, ◌∙◌, arith, append_assoc, length-append}
use Rattle.std.specs.Prelude.{codes}
use Rattle.std.specs.Fmt.{decimal}
use Rattle.std.specs.Str.{bytes_eq}
use Rattle.std.proofs.lemmas.Bool.Decides.{nat_tests}
use Rattle.std.proofs.lemmas.Slice.Eq.{bytes_eq-Decides}
use Rattle.std.proofs.lemmas.List.{append-nil, map_push}
use Rattle.std.proofs.lemmas.List.Elements.{All-from_recursion}
use Rattle.cert_table.specs.declared.row.Row.{Row}
use Rattle.cert_table.specs.Table.{CertView}
use Rattle.cert_text.specs.declared.fault.LineCause.TheVariants as causes
use Rattle.cert_text.specs.declared.fault.LineCause.{LineCause}
use Rattle.cert_text.specs.declared.stage.Stage.{Stage}
use Rattle.cert_text.specs.declared.stage.Stage.TheVariants.{Magic, Head, Groups, Rows, After}
use Rattle.cert_text.specs.declared.stage.NumberLine.{NumberLine}
use Rattle.cert_text.specs.declared.stage.NumberLine.TheVariants.{Entry, Ceiling, Keyings, Count}
use Rattle.cert_text.specs.Grammar.{has_groups, first_line, groups_lines, entry_line, ceiling_line, keyings_line, rows_line, row_line, text_of, IsRow, IsCertificateText}
use Rattle.frame_records.specs.Steps.{◌>>=◌}
use Rattle.cert_text.specs.Lines.{number_after, groups_after, row_in}
use Rattle.cert_text.specs.Reading.{Said, Reading, IsSound, Fault, nothing_said, line_begins, reading_start, due_number, word_of, most_number, put, stage_after, judge, judge_at, judge_magic, judge_groups, judge_row, judge_end, lengthen, is_over, take_byte, at_line, step, reading_after, ended, certificate_of, reading}
use Rattle.cert_text.proofs.Spelled.{bind_ok, number_after_found, row_found}
use Rattle.page_ids.proofs.KeyTexts.{chosen}
use Rattle.cert_text.proofs.Sound.{with_grouped, with_groups, most_small, put_sound, grouped_sound, groups_sound, row_sound}
use Rattle.cert_text.proofs.GroupLines.{one_line, has_some, groups_found}
use Rattle.page_ids.proofs.Truths.{clash, ok_is, needs, lacks}
use Rattle.frame_records.proofs.GroupTexts.{no_groups}

-- the lines before the rows
abbrev pub head_of : Said → List (List ℕ)
head_of s =
    first_line s.grouped ∷ entry_line s.entry ∷ ceiling_line s.ceiling ∷ keyings_line s.keyings
    ∷ (groups_lines s.groups ++ (rows_line s.count ∷ []))

-- the lines that have been taken
abbrev pub lines_before : Stage → Said → List (List ℕ)
lines_before Magic s = []
lines_before (Head Entry) s = first_line s.grouped ∷ []
lines_before (Head Ceiling) s = first_line s.grouped ∷ entry_line s.entry ∷ []
lines_before (Head Keyings) s = first_line s.grouped ∷ entry_line s.entry ∷ ceiling_line s.ceiling ∷ []
lines_before Groups s = first_line s.grouped ∷ entry_line s.entry ∷ ceiling_line s.ceiling ∷ keyings_line s.keyings ∷ []
lines_before (Head Count) s =
    first_line s.grouped ∷ entry_line s.entry ∷ ceiling_line s.ceiling ∷ keyings_line s.keyings ∷ groups_lines s.groups
lines_before Rows s = head_of s ++ map row_line s.rows
lines_before After s = head_of s ++ (map row_line s.rows ++ (codes "end" ∷ []))

-- which groups and rows have come: none of them, and then groups if and only if line 1 announced them
abbrev AreNone : Said → Type 0
AreNone s = (s.groups ≡ []) × (s.rows ≡ [])

abbrev AreAnnounced : Said → Type 0
AreAnnounced s = s.grouped ≡ has_groups s.groups

abbrev pub HaveCome : Stage → Said → Type 0
HaveCome Magic s = AreNone s
HaveCome (Head Entry) s = AreNone s
HaveCome (Head Ceiling) s = AreNone s
HaveCome (Head Keyings) s = AreNone s
HaveCome Groups s = (s.grouped ≡ true) × AreNone s
HaveCome (Head Count) s = AreAnnounced s × (s.rows ≡ [])
HaveCome Rows s = AreAnnounced s × (length s.rows ≤ s.count)
HaveCome After s = AreAnnounced s × (length s.rows ≡ s.count)

-- a line was taken
pub record Took (stage : Stage) (s : Said) (line : List ℕ) (t : Reading) : Type 0 where
  pub lines : lines_before t.stage t.said ≡ lines_before stage s ++ (line ∷ [])
  pub come : HaveCome t.stage t.said
  pub sound : IsSound t.said
  pub rest : t.line ≡ []

same : (xs ys : List ℕ) → bytes_eq xs ys ≡ true → xs ≡ ys
same xs ys h = grind (arith, bytes_eq-Decides xs ys, h)

-- ---- a line of a word and a number

keyings_lines : (q : Bool) (s : Said) → s.groups ≡ []
    → lines_before (cond q Groups (Head Count)) s
    ≡ first_line s.grouped ∷ entry_line s.entry ∷ ceiling_line s.ceiling ∷ keyings_line s.keyings ∷ []
keyings_lines true s none = refl
keyings_lines false s none = ap (λ (gs : List ℕ). lines_before (Head Count) (record s { groups = gs })) none

put_lines : (f : NumberLine) (n : ℕ) (s : Said) → HaveCome (Head f) s
    → lines_before (stage_after f s.grouped) (put f n s) ≡ lines_before (Head f) s ++ ((word_of f ++ decimal n) ∷ [])
put_lines Entry n s come = refl
put_lines Ceiling n s come = refl
put_lines Keyings n s come = keyings_lines s.grouped (put Keyings n s) come.0
put_lines Count n s come =
    ap (λ (rows : List Row). head_of (put Count n s) ++ map row_line rows) come.1 ∙ append-nil (head_of (put Count n s))

keyings_come : (q : Bool) (s : Said) → s.grouped ≡ q → AreNone s → HaveCome (cond q Groups (Head Count)) s
keyings_come true s is none = (is, none)
keyings_come false s is none = (is ∙ sym (ap has_groups none.0), none.1)

put_come : (f : NumberLine) (n : ℕ) (s : Said) → HaveCome (Head f) s → HaveCome (stage_after f s.grouped) (put f n s)
put_come Entry n s come = come
put_come Ceiling n s come = come
put_come Keyings n s come = keyings_come s.grouped (put Keyings n s) refl come
put_come Count n s come = (come.0, omega (arith, ap length come.1))

took_number : (f : NumberLine) (s : Said) (line : List ℕ) (t : Reading) → HaveCome (Head f) s → IsSound s
    → judge_at (Head f) s line ≡ Ok t
    → Took (Head f) s line t
took_number f s line t come is e =
    let b =
    bind_ok (number_after (word_of f) (most_number f) line) (λ n. Ok (line_begins (stage_after f s.grouped) (put f n s))) t e in
    let k = number_after_found (word_of f) (most_number f) line b.0 (omega (arith, most_small f)) b.1 in
    subst (Took (Head f) s line) (ok_is (line_begins (stage_after f s.grouped) (put f b.0 s)) t b.2) (record {
      lines = put_lines f b.0 s come ∙ ap (λ (l : List ℕ). lines_before (Head f) s ++ (l ∷ [])) (sym k.1);
      come = put_come f b.0 s come;
      sound = put_sound f b.0 s is k.0;
      rest = refl;
    })

-- ---- line 1, and the line of the groups

took_first : (q : Bool) (s : Said) (line : List ℕ) (t : Reading) → AreNone s → IsSound s → line ≡ first_line q
    → line_begins (Head Entry) (with_grouped s q) ≡ t
    → Took Magic s line t
took_first q s line t come is spelled same_reading =
    subst (Took Magic s line) same_reading
    (record {
      lines = ap (λ (l : List ℕ). l ∷ []) (sym spelled);
      come = come;
      sound = grouped_sound q s is;
      rest = refl;
    })

took_magic : (s : Said) (line : List ℕ) (t : Reading) → AreNone s → IsSound s → judge_magic s line ≡ Ok t
    → Took Magic s line t
took_magic s line t come is e =
    let plain : Result Reading LineCause = Ok (line_begins (Head Entry) (with_grouped s false)) in
    let grouped : Result Reading LineCause = Ok (line_begins (Head Entry) (with_grouped s true)) in
    let second = bytes_eq line (codes "PBC2") in
    elim (chosen (bytes_eq line (codes "PBC1")) plain (cond second grouped (Err causes.Magic)) (Ok t) e) [
      | inl h ↦ took_first false s line t come is (same line (codes "PBC1") h.0) (ok_is _ t h.1)
      | inr h ↦
          let a = needs second causes.Magic grouped t h.1 in
          took_first true s line t come is (same line (codes "PBC2") a.0) (ok_is _ t a.1)
    ]

took_groups : (s : Said) (line : List ℕ) (t : Reading) → HaveCome Groups s → IsSound s → judge_groups s line ≡ Ok t
    → Took Groups s line t
took_groups s line t come is e =
    let b =
    bind_ok (groups_after (codes "groups ") line) (λ groups. Ok (line_begins (Head Count) (with_groups s groups))) t e in
    let f = groups_found line b.0 b.1 in
    let one : groups_lines b.0 ≡ line ∷ [] = one_line b.0 f.some ∙ ap (λ (l : List ℕ). l ∷ []) (sym f.spelled) in
    subst (Took Groups s line) (ok_is (line_begins (Head Count) (with_groups s b.0)) t b.2) (record {
      lines = ap (λ (ls : List (List ℕ)). lines_before Groups s ++ ls) one;
      come = (come.0 ∙ sym (has_some b.0 f.some), come.1.1);
      sound = groups_sound b.0 s is f.valid;
      rest = refl;
    })

-- ---- rows, and the last line

abbrev with_row : Said → Row → Said
with_row s r = record s { rows = s.rows ++ (r ∷ []) }

took_row : (s : Said) (line : List ℕ) (t : Reading) → AreAnnounced s → IsSound s → length s.rows + 1 ≤ s.count
    → judge_row s line ≡ Ok t
    → Took Rows s line t
took_row s line t said is room e =
    let a =
    lacks (bytes_eq line (codes "end")) causes.Count
    (row_in s.rows line >>= λ r. Ok (line_begins Rows (with_row s r))) t e in
    let b = bind_ok (row_in s.rows line) (λ r. Ok (line_begins Rows (with_row s r))) t a.1 in
    let f = row_found s.rows line b.0 b.1 in
    let more : map row_line (s.rows ++ (b.0 ∷ [])) ≡ map row_line s.rows ++ (line ∷ []) =
    map_push row_line s.rows b.0 ∙ ap (λ (l : List ℕ). map row_line s.rows ++ (l ∷ [])) (sym f.1) in
    subst (Took Rows s line) (ok_is (line_begins Rows (with_row s b.0)) t b.2) (record {
      lines = ap (λ (ls : List (List ℕ)). head_of s ++ ls) more
          ∙ sym (append_assoc (head_of s) (map row_line s.rows) (line ∷ []));
      come = (said, omega (arith, room, length-append s.rows (b.0 ∷ [])));
      sound = row_sound s line b.0 (s.rows ++ (b.0 ∷ [])) is room b.1 refl;
      rest = refl;
    })

took_end : (s : Said) (line : List ℕ) (t : Reading) → HaveCome After s → IsSound s → judge_end s line ≡ Ok t
    → Took Rows s line t
took_end s line t come is e =
    let a = needs (bytes_eq line (codes "end")) causes.Count (Ok (line_begins After s)) t e in
    let last = sym (same line (codes "end") a.0) in
    subst (Took Rows s line) (ok_is (line_begins After s) t a.1) (record {
      lines = ap (λ (l : List ℕ). head_of s ++ (map row_line s.rows ++ (l ∷ []))) last
          ∙ sym (append_assoc (head_of s) (map row_line s.rows) (line ∷ []));
      come = come;
      sound = is;
      rest = refl;
    })

pub took : (stage : Stage) (s : Said) (line : List ℕ) (t : Reading) → HaveCome stage s → IsSound s
    → judge_at stage s line ≡ Ok t
    → Took stage s line t
took Magic s line t come is e = took_magic s line t come is e
took (Head f) s line t come is e = took_number f s line t come is e
took Groups s line t come is e = took_groups s line t come is e
took Rows s line t come is e =
    elim (chosen (ltb (length s.rows) s.count) (judge_row s line) (judge_end s line) (Ok t) e) [
      | inl h ↦ took_row s line t come.0 is (grind (arith, nat_tests, h.0)) h.1
      | inr h ↦
          let all : s.count ≤ length s.rows = grind (arith, nat_tests, h.0) in
          took_end s line t (come.0, omega (arith, come.1)) is h.1
    ]
took After s line t come is e = absurd cc

-- ---- the bytes so far

-- they are those lines, and what has come of the next
pub record Holds (bytes : List ℕ) (s : Reading) : Type 0 where
  pub text : bytes ≡ text_of (lines_before s.stage s.said) ++ s.line
  pub come : HaveCome s.stage s.said
  pub sound : IsSound s.said
  pub over : is_over s.stage ≡ true → s.line ≡ []

pub took_line : (bytes : List ℕ) (s t : Reading) → Holds bytes s → judge s ≡ Ok t → Took s.stage s.said s.line t
took_line bytes s t h e = took s.stage s.said s.line t h.come h.sound e

text_push : (ls : List (List ℕ)) (line : List ℕ) → text_of (ls ++ (line ∷ [])) ≡ text_of ls ++ (line ++ (10 ∷ []))
text_push [] line = refl
text_push (l ∷ ls) line =
    ap (λ (x : List ℕ). l ++ (10 ∷ x)) (text_push ls line) ∙ sym (append_assoc l (10 ∷ text_of ls) (line ++ (10 ∷ [])))

holds_judge : (bytes : List ℕ) (s t : Reading) → Holds bytes s → judge s ≡ Ok t → Holds (bytes ++ (10 ∷ [])) t
holds_judge bytes s t h e =
    let k = took_line bytes s t h e in
    let before = text_of (lines_before s.stage s.said) in
    let after = text_of (lines_before t.stage t.said) in
    let now : after ++ t.line ≡ before ++ (s.line ++ (10 ∷ [])) =
    ap (λ (l : List ℕ). after ++ l) k.rest ∙ append-nil after ∙ ap text_of k.lines
    ∙ text_push (lines_before s.stage s.said) s.line in
    record {
      text = ap (λ (x : List ℕ). x ++ (10 ∷ [])) h.text ∙ append_assoc before s.line (10 ∷ []) ∙ sym now;
      come = k.come;
      sound = k.sound;
      over = λ _. k.rest;
    }

abbrev longer : Reading → ℕ → Reading
longer s b = record s { line = s.line ++ (b ∷ []) }

holds_longer : (bytes : List ℕ) (s t : Reading) (b : ℕ) → Holds bytes s → is_over s.stage ≡ false → lengthen s b ≡ Ok t
    → Holds (bytes ++ (b ∷ [])) t
holds_longer bytes s t b h going e =
    let a = needs (ltb (length s.line) 128) causes.Word (Ok (longer s b)) t e in
    subst (Holds (bytes ++ (b ∷ []))) (ok_is (longer s b) t a.1) (record {
      text = ap (λ (x : List ℕ). x ++ (b ∷ [])) h.text
          ∙ append_assoc (text_of (lines_before s.stage s.said)) s.line (b ∷ []);
      come = h.come;
      sound = h.sound;
      over = λ o. absurd (clash (is_over s.stage) o going);
    })

pub at_line_ok : (n : ℕ) (r : Result Reading LineCause) (t : Reading) → at_line n r ≡ Ok t → r ≡ Ok t
at_line_ok n (Ok s) t e = ap (λ (x : Reading). Ok x) (inner s t e) where
  inner : (s t : Reading) → at_line 0 (Ok s) ≡ Ok t → s ≡ t
  inner s t e = cc
at_line_ok n (Err c) t e = absurd cc

pub holds_step : (bytes : List ℕ) (s t : Reading) (b : ℕ) → Holds bytes s → step s b ≡ Ok t
    → Holds (bytes ++ (b ∷ [])) t
unfolding step
holds_step bytes s t b h e =
    let r = at_line_ok (due_number s.stage s.said) (take_byte s b) t e in
    let a = lacks (is_over s.stage) causes.Tail (cond (eqb b 10) (judge s) (lengthen s b)) t r in
    elim (chosen (eqb b 10) (judge s) (lengthen s b) (Ok t) a.1) [
      | inl k ↦
          let is : 10 ≡ b = grind (arith, nat_tests, k.0) in
          subst (λ (x : ℕ). Holds (bytes ++ (x ∷ [])) t) is (holds_judge bytes s t h k.1)
      | inr k ↦ holds_longer bytes s t b h a.0 k.1
    ]

pub holds_run : (bytes more : List ℕ) (s t : Reading) → Holds bytes s → reading_after s more ≡ Ok t → Holds (bytes ++ more) t
holds_run bytes [] s t h e = rw (append-nil bytes) (subst (Holds bytes) (inner s t e) h) where
  inner : (s t : Reading) → reading_after s [] ≡ Ok t → s ≡ t
  inner s t e = cc
holds_run bytes (b ∷ more) s t h e =
    let a = bind_ok (step s b) (λ u. reading_after u more) t e in
    subst (λ (x : List ℕ). Holds x t) (append_assoc bytes (b ∷ []) more)
    (holds_run (bytes ++ (b ∷ [])) more a.0 t (holds_step bytes s a.0 b h a.1) a.2)

pub nothing_sound : IsSound nothing_said
nothing_sound = record {
  entry = omega arith;
  ceiling = omega arith;
  keyings = omega arith;
  groups = no_groups;
  count = omega arith;
  rows = record { few = omega arith; ascending = λ k d lt. absurd (omega arith) };
  each = tt;
}

pub holds_start : Holds [] reading_start
holds_start = record { text = refl; come = (refl, refl); sound = nothing_sound; over = λ o. refl }

is_after_end : (g : Stage) → is_over g ≡ true → g ≡ After
is_after_end Magic h = absurd cc
is_after_end (Head f) h = absurd cc
is_after_end Groups h = absurd cc
is_after_end Rows h = absurd cc
is_after_end After h = refl

over_of : (b : Bool) (f : Fault) (x y : CertView) → cond b (Ok x) (Err f) ≡ Ok y → (b ≡ true) × (x ≡ y)
over_of true f x y e = (refl, cc)
over_of false f x y e = absurd cc

-- what has been said when `end` has come
said_whole : (bytes : List ℕ) (s : Said) → Holds bytes (line_begins After s) → IsCertificateText bytes (certificate_of s)
said_whole bytes s h =
    let is = h.sound in
    let count = ap (λ (n : ℕ). text_of (lines_before After (record s { count = n }))) (sym h.come.1) in
    let first =
    ap (λ (q : Bool). text_of (lines_before After (record s { grouped = q; count = length s.rows }))) h.come.0 in
    record {
      valid = record {
        entry = is.entry;
        ceiling = is.ceiling;
        keyings = is.keyings;
        groups = is.groups;
        rows = is.rows;
        each = All-from_recursion IsRow s.rows is.each;
      };
      spelled = h.text ∙ append-nil (text_of (lines_before After s)) ∙ count ∙ first;
    }

at_end : (s : Reading) → is_over s.stage ≡ true → s.line ≡ [] → s ≡ line_begins After s.said
at_end s over none =
    ap (λ (g : Stage). record s { stage = g }) (is_after_end s.stage over)
    ∙ ap (λ (l : List ℕ). record s { stage = After; line = l }) none

-- what is read is a text of it
pub found : (bytes : List ℕ) (c : CertView) → reading bytes ≡ Ok c → IsCertificateText bytes c
found bytes c e =
    let a = bind_ok (reading_after reading_start bytes) ended c e in
    let s = a.0 in
    let h = holds_run [] bytes reading_start s holds_start a.1 in
    let o = over_of (is_over s.stage) (due_number s.stage s.said, causes.Truncated) (certificate_of s.said) c a.2 in
    let whole = subst (Holds bytes) (at_end s o.0 (h.over o.0)) h in
    subst (IsCertificateText bytes) o.1 (said_whole bytes s.said whole)
