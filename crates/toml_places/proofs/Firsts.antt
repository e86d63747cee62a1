-- One more mark, and the places that keep it.
use Rattle.std.proofs.Common.{◌≡◌, ◌≢◌, ℕ, zero, suc, ◌+◌, String, Global, length-append, ◌<◌, Bool, true, false, ◌&&◌, List, [], ◌∷◌, ◌++◌, length, set, slice_get, Option, Some, None, option_map, Result, Ok, Err, OnOk, refl, sym, ap, ◌∙◌, inl, inr, arith}
use Rattle.std.proofs.lemmas.Bool.{cases_Bool}
use Rattle.std.proofs.lemmas.Bool.Decides.{eqb_tells}
use Rattle.std.proofs.lemmas.Option.{slice_get_within}
use Rattle.std.proofs.lemmas.List.{length-map}
use Rattle.std.specs.Option.{option_or}
use Rattle.toml_parser.specs.Reading.{path_view}
use Rattle.std.specs.Str.{bytes_eq}
use Rattle.std.specs.BTreeMap.{get_by_text}
use Rattle.toml_places.specs.declared.places.Places.{Places}
use Rattle.toml_places.specs.declared.tables.TablePlaces.{TablePlaces}
use Rattle.toml_places.specs.Places.{Mark, same_frame, path_begins, is_under, first_by, first_at, first_spot, spot_of, routes_key, at_if, is_key_part, NotesTable, header_in, key_in, route_in, Keeps, TableKeeps}
use Rattle.toml_places.specs.declared.spans.KeyPlace.{KeyPlace}

pub option_or-none : {A : Type 0} (o : Option A) → option_or o None ≡ o
option_or-none None = refl
option_or-none (Some a) = refl

and-true : (b : Bool) → (b && true) ≡ b
and-true true = refl
and-true false = refl

pub first_by-one : {X : Type 0} (see : Mark → X) (ms : List Mark) (m : Mark) (frame : Option ℕ) (keys : List (List ℕ))
    → first_by see (ms ++ m ∷ []) frame keys ≡ option_or (first_by see ms frame keys) (at_if (is_under frame keys m) (see m))
first_by-one see [] m frame keys = refl
first_by-one see (n ∷ ms) m frame keys =
    elim (cases_Bool (is_under frame keys n)) [
      | inl here ↦ rw here refl
      | inr other ↦ rw other (first_by-one see ms m frame keys)
    ]

-- the first spot is at the first offset
pub spots_at : (ms : List Mark) (frame : Option ℕ) (keys : List (List ℕ)) → option_map (λ (s : KeyPlace). s.at) (first_spot ms frame keys) ≡ first_at ms frame keys
spots_at [] frame keys = refl
spots_at (n ∷ ms) frame keys =
    elim (cases_Bool (is_under frame keys n)) [
      | inl here ↦ rw here refl
      | inr other ↦ rw other (spots_at ms frame keys)
    ]

pub begins-one : (q : List ℕ) (path : List (List ℕ)) → path_begins (q ∷ []) path ≡ is_key_part (slice_get path 0) q
begins-one q [] = refl
begins-one q (part ∷ path) = and-true (bytes_eq q part)

begins-two : (r q : List ℕ) (path : List (List ℕ)) → path_begins (r ∷ q ∷ []) path ≡ (is_key_part (slice_get path 0) r && is_key_part (slice_get path 1) q)
begins-two r q [] = refl
begins-two r q (part ∷ path) = ap (λ b. bytes_eq r part && b) (begins-one q path)

-- a mark elsewhere changes nothing here
pub elsewhere : {X : Type 0} (see : Mark → X) (ms : List Mark) (m : Mark) (frame : Option ℕ) (keys : List (List ℕ)) → same_frame frame m.frame ≡ false
    → first_by see (ms ++ m ∷ []) frame keys ≡ first_by see ms frame keys
elsewhere see ms m frame keys other = first_by-one see ms m frame keys ∙ rw other (option_or-none (first_by see ms frame keys))

-- a mark in this frame, or the top
pub inside : {X : Type 0} (see : Mark → X) (ms : List Mark) (m : Mark) (frame : Option ℕ) (keys : List (List ℕ)) → same_frame frame m.frame ≡ true
    → first_by see (ms ++ m ∷ []) frame keys ≡ option_or (first_by see ms frame keys) (at_if (path_begins keys m.path) (see m))
inside see ms m frame keys same = first_by-one see ms m frame keys ∙ rw same refl

slice_get-set_same : {A : Type 0} (xs : List A) (i : ℕ) (x : A) → i < length xs → slice_get (set xs i x) i ≡ Some x
slice_get-set_same [] i x h = absurd (omega arith)
slice_get-set_same (y ∷ ys) zero x h = refl
slice_get-set_same (y ∷ ys) (suc i) x h = slice_get-set_same ys i x (omega arith)

slice_get-set_other : {A : Type 0} (xs : List A) (i k : ℕ) (x : A) → k ≢ i → slice_get (set xs i x) k ≡ slice_get xs k
slice_get-set_other [] i k x h = refl
slice_get-set_other (y ∷ ys) zero zero x h = absurd (h refl)
slice_get-set_other (y ∷ ys) zero (suc k) x h = refl
slice_get-set_other (y ∷ ys) (suc i) zero x h = refl
slice_get-set_other (y ∷ ys) (suc i) (suc k) x h = slice_get-set_other ys i k x (λ e. h (ap suc e))

pub keeps_top : (old new : Places) (ms : List Mark) (m : Mark) → Keeps old ms → m.frame ≡ None → new.frames.items ≡ old.frames.items
    → ((q : List ℕ) → get_by_text new.top q ≡ option_or (get_by_text old.top q) (at_if (is_key_part (slice_get m.path 0) q) (spot_of 0 m))) → Keeps new (ms ++ m ∷ [])
keeps_top old new ms m h at_top same noted =
    let here : same_frame None m.frame ≡ true = rw at_top refl in
    let away : (k : ℕ) → same_frame (Some k) m.frame ≡ false = λ k. rw at_top refl in
    record {
      tops = λ q. noted q ∙ rw (h.tops q, ← begins-one q m.path) (sym (inside (spot_of 0) ms m None (q ∷ []) here));
      headers = λ k. rw same (h.headers k ∙ sym (elsewhere (λ (x : Mark). x.at) ms m (Some k) [] (away k)));
      keys = λ k q. rw same (h.keys k q ∙ sym (elsewhere (spot_of 0) ms m (Some k) (q ∷ []) (away k)));
      routes = λ k q. rw same (h.routes k q ∙ sym (elsewhere (spot_of 1) ms m (Some k) (routes_key ∷ q ∷ []) (away k)));
    }

-- what is seen of the frame at each index, after a mark in the frame at n
frame_after : {X : Type 0} (see : Option TablePlaces → Option X) (of : Mark → X) (keys : List (List ℕ)) (ms : List Mark) (m : Mark) (n : ℕ) (old new : List TablePlaces) (f g : TablePlaces)
    → m.frame ≡ Some n → slice_get old n ≡ Some f → n < length old → new ≡ set old n g
    → see (Some g) ≡ option_or (see (Some f)) (at_if (path_begins keys m.path) (of m))
    → ((k : ℕ) → see (slice_get old k) ≡ first_by of ms (Some k) keys) → (k : ℕ) → see (slice_get new k) ≡ first_by of (ms ++ m ∷ []) (Some k) keys
frame_after see of keys ms m n old new f g at_frame found room written noted h k =
    elim (eqb_tells k n) [
      | inl same ↦
          let here : same_frame (Some k) m.frame ≡ true = rw at_frame same.0 in
          let was : see (Some f) ≡ first_by of ms (Some k) keys = ap see (sym found) ∙ rw (← same.1) (h k) in
          let is : slice_get new k ≡ Some g = rw (written, same.1) (slice_get-set_same old n g room) in
          rw (is, noted, was) (sym (inside of ms m (Some k) keys here))
      | inr other ↦
          let away : same_frame (Some k) m.frame ≡ false = rw at_frame other.0 in
          let is : slice_get new k ≡ slice_get old k = rw written (slice_get-set_other old n k g other.1) in
          rw is (h k) ∙ sym (elsewhere of ms m (Some k) keys away)
    ]

pub keeps_frame : (old new : Places) (ms : List Mark) (m : Mark) (n : ℕ) (f g : TablePlaces) → Keeps old ms → m.frame ≡ Some n → slice_get old.frames.items n ≡ Some f
    → new.top ≡ old.top → new.frames.items ≡ set old.frames.items n g
    → NotesTable f g (slice_get m.path 0) (slice_get m.path 1) m.at (spot_of 0 m) (spot_of 1 m) → Keeps new (ms ++ m ∷ [])
keeps_frame old new ms m n f g h at_frame found same_top written noted =
    let room = slice_get_within old.frames.items n f found in
    let xs = old.frames.items in
    let ys = new.frames.items in
    let away : same_frame None m.frame ≡ false = rw at_frame refl in
    record {
      tops = λ q. rw same_top (h.tops q ∙ sym (elsewhere (spot_of 0) ms m None (q ∷ []) away));
      headers = frame_after header_in (λ (x : Mark). x.at) [] ms m n xs ys f g at_frame found room written noted.header h.headers;
      keys = λ k q. frame_after (λ o. key_in o q) (spot_of 0) (q ∷ []) ms m n xs ys f g at_frame found room written
          (noted.keys q ∙ rw (begins-one q m.path) refl) (λ j. h.keys j q) k;
      routes = λ k q. frame_after (λ o. route_in o q) (spot_of 1) (routes_key ∷ q ∷ []) ms m n xs ys f g at_frame found room written
          (noted.routes q ∙ rw (begins-two routes_key q m.path) refl) (λ j. h.routes j q) k;
    }

-- a pair of an inline table
pub table_keeps : (old new : TablePlaces) (ms : List Mark) (m : Mark) → TableKeeps old ms → m.frame ≡ None
    → NotesTable old new (slice_get m.path 0) (slice_get m.path 1) m.at (spot_of 0 m) (spot_of 1 m) → TableKeeps new (ms ++ m ∷ [])
table_keeps old new ms m h at_top noted =
    let here : same_frame None m.frame ≡ true = rw at_top refl in
    record {
      keys = λ q. noted.keys q ∙ rw (h.keys q, ← begins-one q m.path) (sym (inside (spot_of 0) ms m None (q ∷ []) here));
      routes = λ q. noted.routes q ∙ rw (h.routes q, ← begins-two routes_key q m.path) (sym (inside (spot_of 1) ms m None (routes_key ∷ q ∷ []) here));
    }

pub length-path : (xs ys : List (String Global)) → length (path_view xs ++ path_view ys) ≡ length xs + length ys
length-path xs ys = length-append (path_view xs) (path_view ys) ∙ rw (length-map xs _, length-map ys _) refl

-- what holds after a step that went well
pub ok_then : {A E : Type 0} (r : Result A E) (P Q : Type 0) → OnOk r P → (P → Q) → OnOk r Q
ok_then (Ok a) P Q h f = f h
ok_then (Err e) P Q h f = tt
