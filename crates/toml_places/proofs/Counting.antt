-- As many headers [[frame]] have come as the array at `frame` has elements.
use Rattle.std.proofs.Common.{nat_cmp, ◌≡◌, ◌≢◌, ℕ, zero, suc, ◌+◌, ◌<◌, Bool, true, false, cond, ◌&&◌, ◌==◌, nat_lt, List, [], ◌∷◌, ◌++◌, length, Option, Some, None, is_some, option_map, refl, sym, ap, ◌∙◌, subst, inl, inr, arith, zero-add, length-append, add-one, ne_eqb}
use Rattle.std.proofs.lemmas.Bool.{cases_Bool, false≢true}
use Rattle.std.proofs.lemmas.Option.{none-some, same_Some}
use Rattle.std.proofs.lemmas.List.Sums.{sum_by-append}
use Rattle.std.proofs.lemmas.Bool.Decides.{nat_tests}
use Rattle.std.proofs.lemmas.Slice.Eq.{bytes_eq-Decides}
use Rattle.toml.proofs.NodeLaws.{same_key-self}
use Rattle.std.specs.Str.{bytes_eq}
use Rattle.std.specs.Cmp.Lexicographic.{slice_cmp}
use Rattle.toml.specs.Parse.{lines, skip_bom, parse_document}
use Rattle.toml_parser.specs.Strings.{Key}
use Rattle.toml.specs.Data.{Data, same_key, Items, no_items, item, push_item, Members, array, table, get_member}
use Rattle.toml.specs.Tables.{implicit, dotted, header, Origin, Node, Nodes, no_nodes, value, open_table, open_array, get_node, Edit, header_node, along_header, key_value, std_table, array_table, redefine, at_key, put, Document, Expression, define, close, close_node, node}
use Rattle.toml_places.specs.Places.{Mark, Section, frame_key, parts, is_frame, section_at, frame_of, mark_in, mark_of, next_section, top, marks, HeadersAreFrames, opens_frame, header_count, item_count}
use Rattle.toml_places.proofs.Options.{mapped}
use Rattle.toml_places.proofs.LineSteps.{lines_keep}
use Rattle.toml_places.proofs.NodeSteps.{cases_ordering, key_is, Sets, first_of, header_passed, IsPlain, key_set, pair_set}

-- what is no array of tables, or nothing
abbrev IsPlainAt : Option Node → Type 0
IsPlainAt None = Unit {0}
IsPlainAt (Some x) = IsPlain x

-- what the key `frame` has after this many headers [[frame]]
abbrev pub FramesOf : ℕ → Option Node → Type 0
FramesOf zero o = IsPlainAt o
FramesOf (suc k) o = (done : Items) × (last : Nodes) × (o ≡ Some (open_array done last)) × (item_count done ≡ k)

pub record Counts (ms : List Mark) (s : Section) (doc : Document) : Type 0 where
  pub rooted : doc.1 ≡ [] → s.frames ≡ 0
  pub frames : FramesOf s.frames (get_node frame_key doc.0)
  pub counted : header_count ms ≡ s.frames

pub table_is_no_array : (o : Origin) (inner : Nodes) (done : Items) (last : Nodes) → Some (open_table o inner) ≡ Some (open_array done last) → ⊥
table_is_no_array o inner done last e = cc

from_none : (n : ℕ) (x : Node) → FramesOf n None → IsPlain x → FramesOf n (Some x)
from_none zero x h plain = plain
from_none (suc k) x h plain = let (done, last, same, count) = h in absurd (none-some (open_array done last) same)

pub none_so_far : (n : ℕ) → FramesOf n None → n ≡ 0
none_so_far zero h = refl
none_so_far (suc k) h = let (done, last, same, count) = h in absurd (none-some (open_array done last) same)

-- a header passes through the key `frame`
through_frame : (n : ℕ) (edit : Edit) (y x : Node) → FramesOf n (Some y) → header_node edit y ≡ Some x → FramesOf n (Some x)
through_frame n edit (value d) x h e = absurd (none-some x e)
through_frame zero edit (open_table o inner) x h e = let m = mapped (edit inner) (open_table o) x e in subst IsPlain m.same tt
through_frame zero edit (open_array done last) x h e = absurd h
through_frame (suc k) edit (open_table o inner) x h e = let (done, last, same, count) = h in absurd (table_is_no_array o inner done last same)
through_frame (suc k) edit (open_array done last) x h e =
    let (before, here, same, count) = h in
    let m = mapped (edit last) (open_array done) x e in
    let same_done : done ≡ before = cc in
    (done, m.value, ap (λ (y : Node). Some y) (sym m.same), ap item_count same_done ∙ count)

-- one key was set
set_keeps : (n : ℕ) (k : List ℕ) (x : Node) (ns new : Nodes) → Sets k x ns new
    → (same_key frame_key k ≡ true → FramesOf n (get_node frame_key ns) → FramesOf n (Some x))
    → FramesOf n (get_node frame_key ns) → FramesOf n (get_node frame_key new)
set_keeps n k x ns new s f h =
    elim (cases_Bool (same_key frame_key k)) [
      | inl same ↦
          let here : get_node frame_key new ≡ Some x = rw (key_is frame_key k same) s.here in
          subst (λ (o : Option Node). FramesOf n o) (sym here) (f same h)
      | inr other ↦ subst (λ (o : Option Node). FramesOf n o) (sym (s.others frame_key other)) h
    ]

-- at the key that is set
pub at_frame : (n : ℕ) (k : List ℕ) (ns : Nodes) (o : Option Node) → same_key frame_key k ≡ true → get_node k ns ≡ o → FramesOf n (get_node frame_key ns) → FramesOf n o
at_frame n k ns o same is h =
    let here : get_node frame_key ns ≡ o = rw (key_is frame_key k same) is in
    subst (λ (p : Option Node). FramesOf n p) here h

header_keeps : (n : ℕ) (k : List ℕ) (p : List (List ℕ)) (e : Edit) (ns new : Nodes) → along_header (k ∷ p) e ns ≡ Some new
    → FramesOf n (get_node frame_key ns) → FramesOf n (get_node frame_key new)
header_keeps n k p e ns new h =
    let r = header_passed k p e ns new h in
    set_keeps n k r.x ns new r.sets (λ same old. elim r.from [
      | inl made ↦
          let (inner, is) = made.1 in
          from_none n r.x (at_frame n k ns None same made.0 old) (subst IsPlain (sym is) tt)
      | inr there ↦
          let (y, some, step) = there in
          through_frame n (along_header p e) y r.x (at_frame n k ns (Some y) same some old) step
    ])

pair_keeps : (n : ℕ) (path : List (List ℕ)) (key : Key) (d : Data) (ns new : Nodes) → (path ≡ [] → n ≡ 0)
    → along_header path (put key d) ns ≡ Some new → FramesOf n (get_node frame_key ns) → FramesOf n (get_node frame_key new)
unfolding along_header
pair_keeps n [] key d ns new rooted h old =
    let r = pair_set key.0 key.1 d ns new h in
    let zero_frames : n ≡ 0 = rooted refl in
    set_keeps n (first_of key.0 key.1) r.x ns new r.sets (λ same before. rw zero_frames r.plain) old
pair_keeps n (k ∷ p) key d ns new rooted h old = header_keeps n k p (put key d) ns new h old

redefined_table : (n : ℕ) (y x : Node) → FramesOf n (Some y) → redefine std_table y ≡ Some x → (n ≡ 0) × IsPlain x
redefined_table n (value d) x h e = absurd (none-some x e)
redefined_table n (open_table header inner) x h e = absurd (none-some x e)
redefined_table n (open_table dotted inner) x h e = absurd (none-some x e)
redefined_table zero (open_table implicit inner) x h e = (refl, subst IsPlain (same_Some (open_table header inner) x e) tt)
redefined_table (suc k) (open_table implicit inner) x h e = let (done, last, same, count) = h in absurd (table_is_no_array implicit inner done last same)
redefined_table n (open_array done last) x h e = absurd (none-some x e)

pub item_count-push : (ds : Items) (d : Data) → item_count (push_item ds d) ≡ item_count ds + 1
item_count-push no_items d = refl
item_count-push (item e ds) d = ap (λ n. n + 1) (item_count-push ds d)

reopened : (n : ℕ) (y x : Node) → FramesOf n (Some y) → redefine array_table y ≡ Some x → FramesOf (suc n) (Some x)
reopened n (value d) x h e = absurd (none-some x e)
reopened n (open_table header inner) x h e = absurd (none-some x e)
reopened n (open_table dotted inner) x h e = absurd (none-some x e)
reopened n (open_table implicit inner) x h e = absurd (none-some x e)
reopened zero (open_array done last) x h e = absurd h
reopened (suc k) (open_array done last) x h e =
    let (before, here, same, count) = h in
    let same_done : done ≡ before = cc in
    let counted : item_count (push_item done (table (close last))) ≡ suc k = item_count-push done (table (close last)) ∙ ap (λ (ds : Items). item_count ds + 1) same_done ∙ ap (λ n. n + 1) count ∙ omega arith in
    (push_item done (table (close last)), no_nodes, sym e, counted)

pub same_as_frame : (k : List ℕ) → same_key frame_key k ≡ true → bytes_eq k frame_key ≡ true
same_as_frame k h = rw (← key_is frame_key k h) refl

pub section_frames : (n : ℕ) (ps : List (List ℕ)) → (section_at n ps).frames ≡ n
section_frames n [] = refl
section_frames n (p ∷ ps) = refl

-- a header in single brackets
table_keeps : (n : ℕ) (path : List (List ℕ)) (k : List ℕ) (ns new : Nodes) → along_header path (at_key k std_table) ns ≡ Some new
    → FramesOf n (get_node frame_key ns) → FramesOf n (get_node frame_key new)
unfolding along_header
table_keeps n [] k ns new h old =
    let r = key_set k std_table ns new h in
    set_keeps n k r.x ns new r.sets (λ same before. elim r.from [
      | inl made ↦ from_none n r.x (at_frame n k ns None same made.0 before) (subst IsPlain (sym made.1) tt)
      | inr there ↦
          let (y, some, step) = there in
          let (none, plain) = redefined_table n y r.x (at_frame n k ns (Some y) same some before) step in
          rw none plain
    ]) old
table_keeps n (j ∷ p) k ns new h old = header_keeps n j p (at_key k std_table) ns new h old

-- what a header in single brackets writes opens no frame
pub frame_once : (n : ℕ) (k : List ℕ) (ns new : Nodes) → at_key k std_table ns ≡ Some new → FramesOf n (get_node frame_key ns) → bytes_eq k frame_key ≡ true → n ≡ 0
frame_once n k ns new h old is =
    let r = key_set k std_table ns new h in
    let same : same_key frame_key k ≡ true = rw ((bytes_eq-Decides k frame_key).0 is) (same_key-self frame_key) in
    elim r.from [
      | inl made ↦ none_so_far n (at_frame n k ns None same made.0 old)
      | inr there ↦
          let (y, some, step) = there in
          (redefined_table n y r.x (at_frame n k ns (Some y) same some old) step).0
    ]

pub and-false : (b c : Bool) → c ≡ false → (b && c) ≡ false
and-false true c h = h
and-false false c h = refl

longer : (xs : List (List ℕ)) (x : List ℕ) → (length ((xs ++ x ∷ []) ++ []) == 0) ≡ false
longer [] x = refl
longer (y ∷ ys) x = ne_eqb (suc (length ((ys ++ x ∷ []) ++ []))) 0 (omega arith)

-- what a header in single brackets writes, or a longer one, opens no frame
long_opens_none : (n : ℕ) (at : ℕ × ℕ) (j : List ℕ) (p : List (List ℕ)) (k : List ℕ) → opens_frame (mark_in (section_at n (j ∷ (p ++ k ∷ []))) [] at) ≡ false
long_opens_none n at j p k =
    elim (cases_Bool (nat_lt 0 n && bytes_eq j frame_key)) [
      | inl inside ↦ rw (inside, longer p k) refl
      | inr outside ↦ rw outside refl
    ]

other_opens_none : (n : ℕ) (at : ℕ × ℕ) (k : List ℕ) → bytes_eq k frame_key ≡ false → opens_frame (mark_in (section_at n (k ∷ [])) [] at) ≡ false
other_opens_none n at k other =
    let outside : (nat_lt 0 n && bytes_eq k frame_key) ≡ false = and-false (nat_lt 0 n) (bytes_eq k frame_key) other in
    rw outside refl

table_opens_none : (n : ℕ) (at : ℕ × ℕ) (path : List (List ℕ)) (k : List ℕ) (ns new : Nodes) → along_header path (at_key k std_table) ns ≡ Some new
    → FramesOf n (get_node frame_key ns) → opens_frame (mark_in (section_at n (path ++ k ∷ [])) [] at) ≡ false
unfolding along_header
table_opens_none n at [] k ns new h old =
    elim (cases_Bool (bytes_eq k frame_key)) [
      | inl is ↦ rw (frame_once n k ns new h old is) refl
      | inr other ↦ other_opens_none n at k other
    ]
table_opens_none n at (j ∷ p) k ns new h old = long_opens_none n at j p k

pub not_frame : (j : List ℕ) (p : List (List ℕ)) (k : List ℕ) → is_frame (j ∷ (p ++ k ∷ [])) ≡ false
not_frame j [] k = refl
not_frame j (i ∷ p) k = refl

-- how many frames there are after a header in double brackets
abbrev pub more_frames : ℕ → List (List ℕ) → ℕ
more_frames n ps = cond (is_frame ps) (n + 1) n

opened : (n : ℕ) (k : List ℕ) (ns new : Nodes) → bytes_eq k frame_key ≡ true → at_key k array_table ns ≡ Some new
    → FramesOf n (get_node frame_key ns) → FramesOf (suc n) (get_node frame_key new)
opened n k ns new is h old =
    let r = key_set k array_table ns new h in
    let same_key_is : k ≡ frame_key = (bytes_eq-Decides k frame_key).0 is in
    let same : same_key frame_key k ≡ true = rw same_key_is (same_key-self frame_key) in
    let here : get_node frame_key new ≡ Some r.x = rw (← same_key_is) r.sets.here in
    let now : FramesOf (suc n) (Some r.x) = elim r.from [
      | inl made ↦
          let none = none_so_far n (at_frame n k ns None same made.0 old) in
          (no_items, no_nodes, ap (λ (x : Node). Some x) made.1, sym none)
      | inr there ↦
          let (y, some, step) = there in
          reopened n y r.x (at_frame n k ns (Some y) same some old) step
    ] in
    subst (λ (o : Option Node). FramesOf (suc n) o) (sym here) now

array_keeps : (n : ℕ) (path : List (List ℕ)) (k : List ℕ) (ns new : Nodes) → along_header path (at_key k array_table) ns ≡ Some new
    → FramesOf n (get_node frame_key ns) → FramesOf (more_frames n (path ++ k ∷ [])) (get_node frame_key new)
unfolding along_header
array_keeps n [] k ns new h old =
    elim (cases_Bool (bytes_eq k frame_key)) [
      | inl is ↦ rw (is, add-one) (opened n k ns new is h old)
      | inr other ↦
          let r = key_set k array_table ns new h in
          rw other (set_keeps n k r.x ns new r.sets (λ same before. absurd (false≢true (sym other ∙ same_as_frame k same))) old)
    ]
array_keeps n (j ∷ p) k ns new h old = rw (not_frame j p k) (header_keeps n j p (at_key k array_table) ns new h old)

array_opens : (n : ℕ) (at : ℕ × ℕ) (path : List (List ℕ)) (k : List ℕ)
    → opens_frame (mark_in (section_at (more_frames n (path ++ k ∷ [])) (path ++ k ∷ [])) [] at) ≡ is_frame (path ++ k ∷ [])
array_opens n at [] k =
    elim (cases_Bool (bytes_eq k frame_key)) [
      | inl is ↦
          let some : nat_lt 0 (n + 1) ≡ true = grind (arith, nat_tests) in
          rw (is, some) refl
      | inr other ↦ other_opens_none _ at k other ∙ sym other
    ]
array_opens n at (j ∷ p) k = long_opens_none _ at j p k ∙ sym (not_frame j p k)

pair_opens_none : (s : Section) (key : Key) (at : ℕ × ℕ) → opens_frame (mark_in s (parts key) at) ≡ false
pair_opens_none s key at =
    let some : length (s.path ++ parts key) ≢ 0 = simp length-append (omega arith) in
    and-false (is_some (frame_of s)) (length (s.path ++ parts key) == 0) (ne_eqb (length (s.path ++ parts key)) 0 some)

header_count-one : (ms : List Mark) (m : Mark) → header_count (ms ++ m ∷ []) ≡ header_count ms + cond (opens_frame m) 1 0
header_count-one ms m = sum_by-append (λ (x : Mark). cond (opens_frame x) 1 0) ms (m ∷ []) ∙ ap (λ n. header_count ms + n) (zero-add (cond (opens_frame m) 1 0))

pub not_empty : (path : List (List ℕ)) (k : List ℕ) → path ++ k ∷ [] ≡ [] → ⊥
not_empty [] k h = cc
not_empty (j ∷ p) k h = cc

counted_more : (ms : List Mark) (m : Mark) (n : ℕ) (b : Bool) → header_count ms ≡ n → opens_frame m ≡ b → header_count (ms ++ m ∷ []) ≡ cond b (n + 1) n
counted_more ms m n true so_far is = header_count-one ms m ∙ rw (is, so_far) refl
counted_more ms m n false so_far is = header_count-one ms m ∙ rw (is, so_far) (omega arith)

pub counts_keep : (ms : List Mark) (s : Section) (doc next : Document) (e : Expression) (at : ℕ) → Counts ms s doc → define doc e ≡ Some next
    → Counts (ms ++ mark_of s e at ∷ []) (next_section s e) next
unfolding define
counts_keep ms s doc next ((path, k), key_value d) at c h =
    let w : ℕ × ℕ = (at, length (parts (path, k))) in
    let m = mapped (along_header doc.1 (put (path, k) d) doc.0) (λ root. (root, doc.1)) next h in
    subst (λ (n : Document). Counts (ms ++ mark_in s (parts (path, k)) w ∷ []) s n) m.same
    (record {
      rooted = c.rooted;
      frames = pair_keeps s.frames doc.1 (path, k) d doc.0 m.value c.rooted m.is c.frames;
      counted = counted_more ms _ s.frames false c.counted (pair_opens_none s (path, k) w);
    })
counts_keep ms s doc next ((path, k), std_table) at c h =
    let ps = path ++ k ∷ [] in
    let w : ℕ × ℕ = (at, length ps) in
    let m = mapped (along_header path (at_key k std_table) doc.0) (λ root. (root, ps)) next h in
    subst (λ (n : Document). Counts (ms ++ mark_in (section_at s.frames ps) [] w ∷ []) (section_at s.frames ps) n) m.same
    (record {
      rooted = λ e. absurd (not_empty path k e);
      frames = rw (section_frames s.frames ps) (table_keeps s.frames path k doc.0 m.value m.is c.frames);
      counted = counted_more ms _ s.frames false c.counted (table_opens_none s.frames w path k doc.0 m.value m.is c.frames) ∙ sym (section_frames s.frames ps);
    })
counts_keep ms s doc next ((path, k), array_table) at c h =
    let ps = path ++ k ∷ [] in
    let w : ℕ × ℕ = (at, length ps) in
    let n : ℕ = more_frames s.frames ps in
    let m = mapped (along_header path (at_key k array_table) doc.0) (λ root. (root, ps)) next h in
    subst (λ (d : Document). Counts (ms ++ mark_in (section_at n ps) [] w ∷ []) (section_at n ps) d) m.same
    (record {
      rooted = λ e. absurd (not_empty path k e);
      frames = rw (section_frames n ps) (array_keeps s.frames path k doc.0 m.value m.is c.frames);
      counted = counted_more ms _ s.frames (is_frame ps) c.counted (array_opens s.frames w path k) ∙ sym (section_frames n ps);
    })

pub get_member-close : (k : List ℕ) (ns : Nodes) → get_member k (close ns) ≡ option_map close_node (get_node k ns)
get_member-close k no_nodes = refl
get_member-close k (node l x ns) =
    elim (cases_ordering (slice_cmp nat_cmp k l)) [
      | inl less ↦ rw less (get_member-close k ns)
      | inr more ↦ elim more [
        | inl tie ↦ rw tie refl
        | inr greater ↦ rw greater (get_member-close k ns)
      ]
    ]

closed_frames : (n : ℕ) (ns : Nodes) → FramesOf n (get_node frame_key ns) → 0 < n
    → (frames : Items) × (get_member frame_key (close ns) ≡ Some (array frames)) × (item_count frames ≡ n)
closed_frames zero ns h some = absurd (omega arith)
closed_frames (suc k) ns h some =
    let (done, last, same, count) = h in
    let frames = push_item done (table (close last)) in (
      frames,
      get_member-close frame_key ns ∙ ap (λ (o : Option Node). option_map close_node o) same,
      item_count-push done (table (close last)) ∙ ap (λ n. n + 1) count ∙ omega arith,
    )

pub headers_are_frames : HeadersAreFrames
unfolding HeadersAreFrames parse_document marks
headers_are_frames text ms h some =
    let m = mapped (lines (suc (length text)) (no_nodes, []) (skip_bom text)) (λ doc. close doc.0) ms h in
    let (t, c) = lines_keep Counts counts_keep (length text) (suc (length text)) (no_nodes, []) m.value top (skip_bom text) [] m.is
    (record { rooted = λ e. refl; frames = tt; counted = refl }) in
    let counted = c.counted in
    let (frames, is, count) = closed_frames t.frames m.value.0 c.frames (omega arith) in
    (frames, ap (λ (x : Members). get_member frame_key x) (sym m.same) ∙ is, count ∙ sym c.counted)
