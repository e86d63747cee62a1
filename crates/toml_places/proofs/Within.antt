-- No place is past the end of the text.
use Rattle.std.proofs.Common.{ℕ, zero, suc, ◌-◌, ◌≤◌, ◌==◌, List, [], ◌∷◌, length, Option, Some, None, unwrap_or, inl, inr, arith}
use Rattle.std.proofs.lemmas.Bool.{cases_Bool}
use Rattle.std.specs.Option.{option_or}
use Rattle.toml_parser.specs.Lexical.{skip_blank}
use Rattle.toml.specs.Parse.{line, skip_bom}
use Rattle.toml_places.specs.Places.{Section, top, frame_key, mark_of, next_section, marks_from, marks, is_under, first_at, routes_key, PlacesAreWithin}
use Rattle.toml_places.proofs.Options.{cases_option}

abbrev AtMost : Option ℕ → ℕ → Type 0
AtMost None n = Unit {0}
AtMost (Some at) n = at ≤ n

first_within : (size n : ℕ) (s : Section) (text : List ℕ) (frame : Option ℕ) (keys : List (List ℕ)) → AtMost (first_at (marks_from size n s text) frame keys) size
unfolding marks_from
first_within size zero s text frame keys = tt
first_within size (suc n) s text frame keys =
    let start = skip_blank text in
    elim (cases_Bool (length start == 0)) [
      | inl none ↦ rw none tt
      | inr other ↦ elim (cases_option (line start)) [
        | inl bad ↦ rw (other, bad) tt
        | inr read ↦
            let (e, is) = read in
            rw (other, is) (elim (cases_Bool (is_under frame keys (mark_of s e.0 (size - length start)))) [
              | inl here ↦ rw here (omega arith)
              | inr away ↦ rw away (first_within size n (next_section s e.0) e.1 frame keys)
            ])
      ]
    ]

or_within : (a b : Option ℕ) (n : ℕ) → AtMost a n → AtMost b n → AtMost (option_or a b) n
or_within None b n h g = g
or_within (Some x) b n h g = h

unwrapped : (o : Option ℕ) (d n : ℕ) → AtMost o n → d ≤ n → unwrap_or o d ≤ n
unwrapped None d n h le = le
unwrapped (Some x) d n h le = h

pub places_are_within : PlacesAreWithin
unfolding PlacesAreWithin marks
places_are_within text frame key =
    let size = length text in
    let first = λ (f : Option ℕ) (keys : List (List ℕ)). first_within size (suc size) top (skip_bom text) f keys in
    let header = unwrapped _ 0 size (or_within _ _ size (first (Some frame) []) (first None (frame_key ∷ []))) (omega arith) in
    let of_key = λ (k : List ℕ). unwrapped _ _ size (first (Some frame) (k ∷ [])) header in (
      header,
      unwrapped _ 0 size (first None (key ∷ [])) (omega arith),
      of_key key,
      unwrapped _ _ size (first (Some frame) (routes_key ∷ key ∷ [])) (of_key routes_key),
    )
