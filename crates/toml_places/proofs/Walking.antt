-- The walk over a text that is TOML, an expression at a time.
use Rattle.std.proofs.Common.{◌≡◌, ℕ, zero, suc, ◌+◌, ◌-◌, ◌<◌, ◌≤◌, true, false, cond, ◌==◌, nat_lt, List, [], ◌∷◌, ◌++◌, length, Option, Some, None, Result, Ok, Err, IsSome, option_map, option_and_then, refl, sym, ◌∙◌, subst, arith, append_assoc, append-nil}
use Rattle.std.proofs.lemmas.Bool.{and_parts, false≢true}
use Rattle.std.proofs.lemmas.Option.{none-some, same_Some}
use Rattle.std.specs.Str.{bytes_eq}
use Rattle.std.specs.Result.{IsErrAnd}
use Rattle.toml_parser.specs.declared.error.ParseError.{ParseError}
use Rattle.toml_parser.specs.declared.error.ParseError.TheVariants.{OutOfMemory}
use Rattle.std.proofs.lemmas.Bool.Decides.{nat_tests}
use Rattle.toml_parser.specs.Lexical.{skip_blank}
use Rattle.toml_parser.specs.Strings.{Key}
use Rattle.toml.specs.Tables.{Document, Expression, no_nodes, define}
use Rattle.toml.specs.Parse.{line, lines, skip_bom, parse_document}
use Rattle.toml_places.specs.declared.lines.Sort.{Sort}
use Rattle.toml_places.specs.declared.lines.Sort.TheVariants.{Pair, Table, ArrayTable}
use Rattle.toml_places.specs.declared.places.Places.{Places}
use Rattle.toml_places.specs.Skips.{sort_of}
use Rattle.toml_places.proofs.Follows.{line_of, line_follows}
use Rattle.toml_places.specs.Loops.{whole_line, KeyLine, IsOpen, Walks}
use Rattle.toml_places.specs.Places.{Mark, Section, frame_key, top, parts, is_frame, section_at, section_after, own_parts, mark_in, mark_of, next_section, marks_from, marks, Keeps}

-- what is left of a text that is TOML: the marks so far, and those that the rest gives
pub record Walked (text : List ℕ) (places : Places) (s : Section) (rest : List ℕ) : Type 0 where
  pub done : List Mark
  pub fuel : ℕ
  pub doc : Document
  pub room : length rest < fuel
  pub reads : IsSome (lines fuel doc rest)
  pub all : marks text ≡ done ++ marks_from (length text) fuel s rest
  pub keeps : Keeps places done

-- a line of a text that is TOML
record Read (fuel : ℕ) (doc : Document) (text : List ℕ) : Type 0 where
  e : Expression
  after : List ℕ
  next : Document
  is : line (skip_blank text) ≡ Some (e, after)
  reads : IsSome (lines (fuel - 1) next after)

some_of : {A B : Type 0} (o : Option A) (f : A → Option B) → IsSome (option_and_then f o) → (a : A) × (o ≡ Some a) × IsSome (f a)
some_of None f h = absurd (false≢true h)
some_of (Some a) f h = (a, refl, h)

line_read : (fuel : ℕ) (doc : Document) (text : List ℕ) → 0 < fuel → (length (skip_blank text) == 0) ≡ false → IsSome (lines fuel doc text) → Read fuel doc text
unfolding lines
line_read zero doc text some other h = absurd (omega arith)
line_read (suc n) doc text some other h =
    let (one, is, then_one) = some_of (line (skip_blank text)) (λ e. option_and_then (λ next. lines n next e.1) (define doc e.0)) (rw other at h) in
    let (next, defined, reads) = some_of (define doc one.0) (λ next. lines n next one.1) then_one in
    let less : suc n - 1 ≡ n = omega arith in
    record { e = one.0; after = one.1; next = next; is = is; reads = rw less reads }

marks_end : (size fuel : ℕ) (s : Section) (text : List ℕ) → (length (skip_blank text) == 0) ≡ true → marks_from size fuel s text ≡ []
unfolding marks_from
marks_end size zero s text none = refl
marks_end size (suc n) s text none = rw none refl

marks_more : (size fuel : ℕ) (s : Section) (text : List ℕ) (e : Expression) (after : List ℕ) → 0 < fuel → (length (skip_blank text) == 0) ≡ false → line (skip_blank text) ≡ Some (e, after)
    → marks_from size fuel s text ≡ mark_of s e (size - length (skip_blank text)) ∷ marks_from size (fuel - 1) (next_section s e) after
unfolding marks_from
marks_more size zero s text e after some other is = absurd (omega arith)
marks_more size (suc n) s text e after some other is =
    let less : suc n - 1 ≡ n = omega arith in
    rw (other, is, less) refl

section_at_open : (n : ℕ) (ps : List (List ℕ)) → IsOpen (section_at n ps)
section_at_open n [] h = absurd (false≢true h)
section_at_open n (p ∷ ps) h =
    let some : nat_lt 0 n ≡ true = (and_parts (nat_lt 0 n) (bytes_eq p frame_key) h).0 in
    grind (arith, nat_tests)

-- a section in a frame has a frame
pub section_open : (s : Section) (key : Key) (sort : Sort) → IsOpen s → IsOpen (section_after s key sort)
section_open s key Pair h = h
section_open s key Table h = section_at_open s.frames (parts key)
section_open s key ArrayTable h = section_at_open (cond (is_frame (parts key)) (s.frames + 1) s.frames) (parts key)

mapped_some : {A B : Type 0} (f : A → B) (o : Option A) → IsSome (option_map f o) → IsSome o
mapped_some f None h = absurd (false≢true h)
mapped_some f (Some a) h = refl

-- before the first line
pub walk_begins : (text : List ℕ) (p : Places) → IsSome (parse_document text) → length (skip_bom text) ≤ length text → Keeps p [] → Walked text p top (skip_bom text)
unfolding parse_document marks
walk_begins text p h within keeps = record {
  done = [];
  fuel = suc (length text);
  doc = (no_nodes, []);
  room = omega arith;
  reads = mapped_some _ (lines (suc (length text)) (no_nodes, []) (skip_bom text)) h;
  all = refl;
  keeps = keeps;
}

-- after the last
pub walk_ends : (text : List ℕ) (p : Places) (s : Section) (rest : List ℕ) → Walked text p s rest → (length (skip_blank rest) == 0) ≡ true → Keeps p (marks text)
walk_ends text p s rest w none =
    let all : marks text ≡ w.done = w.all ∙ rw (marks_end (length text) w.fuel s rest none) (append-nil w.done) in
    rw all w.keeps

-- there is no line that isn't read
pub walk_stops : (text : List ℕ) (p : Places) (s : Section) (rest : List ℕ) → Walked text p s rest → (length (skip_blank rest) == 0) ≡ false → whole_line (skip_blank rest) ≡ None → ⊥
walk_stops text p s rest w other none =
    let some : 0 < w.fuel = omega (arith, w.room) in
    let r = line_read w.fuel w.doc rest some other w.reads in
    none-some _ (sym none ∙ line_follows (skip_blank rest) r.e r.after r.is)

-- what a line of the walk did
pub record Wrote (text rest : List ℕ) (old new : Places) (s t : Section) (e : KeyLine) (after : List ℕ) : Type 0 where
  pub shorter : length after < length rest
  pub section : t ≡ section_after s e.0 e.1
  pub keeps : (ms : List Mark) → Keeps old ms → Keeps new (ms ++ mark_in t (own_parts e.0 e.1) (length text - length (skip_blank rest), length (parts e.0)) ∷ [])

walk_on : (text : List ℕ) (old new : Places) (s t : Section) (rest : List ℕ) (w : Walked text old s rest) (r : Read w.fuel w.doc rest) → (length (skip_blank rest) == 0) ≡ false
    → Wrote text rest old new s t (line_of r.e) r.after → Walked text new t r.after
walk_on text old new s t rest w r other wrote =
    let some : 0 < w.fuel = omega (arith, w.room) in
    let at : ℕ = length text - length (skip_blank rest) in
    let mark : Mark = mark_in t (own_parts r.e.0 (sort_of r.e.1)) (at, length (parts r.e.0)) in
    let more = marks_more (length text) w.fuel s rest r.e r.after some other r.is in
    let shorter = wrote.shorter in
    record {
      done = w.done ++ mark ∷ [];
      fuel = w.fuel - 1;
      doc = r.next;
      room = omega (arith, w.room);
      reads = r.reads;
      all = w.all ∙ rw (more, ← wrote.section) (sym (append_assoc w.done (mark ∷ []) _));
      keeps = wrote.keeps w.done w.keeps;
    }

pub walk_goes_on : (text : List ℕ) (old new : Places) (s t : Section) (rest : List ℕ) (e : KeyLine) (after : List ℕ) → Walked text old s rest → (length (skip_blank rest) == 0) ≡ false
    → whole_line (skip_blank rest) ≡ Some (e, after) → Wrote text rest old new s t e after → Walked text new t after
walk_goes_on text old new s t rest e after w other is wrote =
    let some : 0 < w.fuel = omega (arith, w.room) in
    let r = line_read w.fuel w.doc rest some other w.reads in
    let same : (e, after) ≡ (line_of r.e, r.after) = same_Some (e, after) (line_of r.e, r.after) (sym is ∙ line_follows (skip_blank rest) r.e r.after r.is) in
    let P : KeyLine × List ℕ → Type 0 = λ q. Wrote text rest old new s t q.0 q.1 → Walked text new t q.1 in
    subst P (sym same) (walk_on text old new s t rest w r other) wrote

none_of : {A : Type 0} (o : Option A) → (IsSome o → ⊥) → o ≡ None
none_of None h = refl
none_of (Some a) h = absurd (h refl)

-- a text with a line that isn't read isn't TOML
pub walk_refused : (text : List ℕ) (p : Places) (s : Section) (rest : List ℕ) → (IsSome (parse_document text) → Walked text p s rest) → (length (skip_blank rest) == 0) ≡ false
    → whole_line (skip_blank rest) ≡ None → parse_document text ≡ None
walk_refused text p s rest w other none = none_of (parse_document text) (λ is_toml. walk_stops text p s rest (w is_toml) other none)

-- an error that a `?` passes on
pub walks_err : (r : Result (Unit {0}) ParseError) (text : List ℕ) (places : Places) (e : ParseError) (Q : ParseError → Type 0)
    → IsErrAnd r Q → ((y : ParseError) → Q y → y ≡ e) → ((e ≡ OutOfMemory → ⊥) → parse_document text ≡ None) → Walks r text places
walks_err (Ok u) text places e Q h same refused = absurd h
walks_err (Err y) text places e Q h same refused = λ other. refused (λ m. other (same y h ∙ m))
