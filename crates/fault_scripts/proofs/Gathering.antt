-- The parts of a certificate with one frame more.
use Rattle.std.proofs.Common.{◌≡◌, ◌≤◌, inl, inr, ℕ, max, List, [], ◌∷◌, ◌++◌, Option, Some, None, map, option_map, slice_get, unwrap_or, refl, sym, ◌∙◌, ap, subst, arith}
use Rattle.std.specs.List.{flat_map}
use Rattle.std.proofs.lemmas.Bool.{cases_lt}
use Rattle.std.proofs.lemmas.List.{append-nil, map_push}
use Rattle.std.proofs.lemmas.List.Concat.{flat_map-append}
use Rattle.std.proofs.lemmas.List.Elements.{All-push, All-weaker, Contains-append_left, Contains-push}
use Rattle.std.proofs.lemmas.Option.{same_Some, slice_get-map}
use Rattle.frame_records.specs.declared.frame.Frame.{Frame}
use Rattle.frame_records.specs.Bases.{BaseView, frame_at}
use Rattle.abstract_paint.specs.Paint.{paint_of}
use Rattle.cert_table.specs.declared.row.Row.{Row}
use Rattle.finder.specs.declared.found.Discovered.{Discovered}
use Rattle.fault_scripts.specs.declared.table.GatheredRows.{GatheredRows}
use Rattle.fault_scripts.specs.Loops.{row_if_clean, row_by, row_at, price_at, rank_at, IsMost, IsGathered}
use Rattle.finder.proofs.Lists.{all_at}
use Rattle.fault_scripts.proofs.Lists.{place_of}

most_more : (values : List ℕ) (most value : ℕ) → IsMost values most → IsMost (values ++ value ∷ []) (max most value)
most_more values most value is =
    let most_of = IsMost (values ++ value ∷ []) in
    elim (cases_lt most value) [
      | inl lt ↦ subst most_of (omega (arith, lt)) (taken (omega (arith, lt)))
      | inr ge ↦ subst most_of (omega (arith, ge)) (kept ge)
    ] where
      kept : value ≤ most → IsMost (values ++ value ∷ []) most
      kept le = record {
        at_most = All-push (λ (v : ℕ). v ≤ most) values value is.at_most le;
        some = elim is.some [
          | inl there ↦ inl (Contains-append_left values (value ∷ []) most there)
          | inr zeroth ↦ inr zeroth
        ];
      }

      taken : most ≤ value → IsMost (values ++ value ∷ []) value
      taken le = record {
        at_most = All-push (λ (v : ℕ). v ≤ value) values value (All-weaker (λ (v : ℕ). v ≤ most) (λ (v : ℕ). v ≤ value) (λ v h. omega (arith, h, le)) values is.at_most) (omega arith);
        some = inl (Contains-push values value);
      }

pub gathered_more : (base : BaseView) (frames : List Discovered) (d : Discovered) (frame : Frame) (old new : GatheredRows)
    → frame_at base d.id ≡ Some frame → IsGathered base frames old
    → new.rows.items ≡ old.rows.items ++ row_if_clean d.id d.rank (paint_of frame.lead frame.body)
    → new.ceiling ≡ max old.ceiling frame.price → new.keyings ≡ max old.keyings (unwrap_or d.rank 0)
    → IsGathered base (frames ++ d ∷ []) new
gathered_more base frames d frame old new at is rows ceiling keyings =
    let row : row_at base d ≡ row_if_clean d.id d.rank (paint_of frame.lead frame.body) = ap (row_by d) at in
    let price : price_at base d ≡ frame.price = ap (λ (o : Option Frame). unwrap_or (option_map (λ f. f.price) o) 0) at in
    record {
      rows =
          rows
          ∙ ap (λ (r : List Row). r ++ row_if_clean d.id d.rank (paint_of frame.lead frame.body)) is.rows
          ∙ ap (λ (r : List Row). flat_map (row_at base) frames ++ r) (sym row ∙ sym (append-nil (row_at base d)))
          ∙ sym (flat_map-append (row_at base) frames (d ∷ []));
      ceiling = subst (λ (v : List ℕ). IsMost v new.ceiling) (sym (map_push (price_at base) frames d)) (subst (IsMost (map (price_at base) frames ++ price_at base d ∷ [])) (ap (max old.ceiling) price ∙ sym ceiling) (most_more (map (price_at base) frames) old.ceiling (price_at base d) is.ceiling));
      keyings = subst (λ (v : List ℕ). IsMost v new.keyings) (sym (map_push rank_at frames d)) (subst (IsMost (map rank_at frames ++ rank_at d ∷ [])) (sym keyings) (most_more (map rank_at frames) old.keyings (rank_at d) is.keyings));
    }

-- the greatest is at least each
pub most_above : {X : Type 0} (f : X → ℕ) (xs : List X) (most : ℕ) → IsMost (map f xs) most → (i : ℕ) (x : X)
    → slice_get xs i ≡ Some x → f x ≤ most
most_above f xs most is i x at = all_at (λ (v : ℕ). v ≤ most) (map f xs) i (f x) is.at_most (slice_get-map f xs i ∙ ap (option_map f) at)

-- and is one of them, if there is one
pub most_there : {X : Type 0} (f : X → ℕ) (xs : List X) (most : ℕ) → IsMost (map f xs) most → (i : ℕ) (x : X)
    → slice_get xs i ≡ Some x → (j : ℕ) × (y : X) × (slice_get xs j ≡ Some y) × (f y ≡ most)
most_there {X} f xs most is i x at =
    elim is.some [
      | inl there ↦ by there.0 (slice_get xs there.0) refl (sym (slice_get-map f xs there.0) ∙ place_of (map f xs) most there)
      | inr zeroth ↦ (i, x, at, omega (arith, most_above f xs most is i x at, zeroth))
    ] where
      by : (j : ℕ) (o : Option X) → slice_get xs j ≡ o → option_map f o ≡ Some most
          → (j : ℕ) × (y : X) × (slice_get xs j ≡ Some y) × (f y ≡ most)
      by j None e h = absurd cc
      by j (Some y) e h = (j, y, e, same_Some (f y) most h)
