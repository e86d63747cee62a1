-- What is noted of frames, and the result of seeking them.
use Rattle.std.proofs.Common.{◌≡◌, ◌<◌, ℕ, Bool, false, List, Some, None, Ok, Err, option_map, slice_get, get_or, length, set, replicate, sym, ◌∙◌, ap, ⊎_elim, arith}
use Rattle.finder.proofs.Words.{IsBinarySearchResult, cases_lt, All-set, All-replicate, Id, id_cmp, id_eq, id_cmp_total, id_eq_same, Frame, IsAscending, frame_among, is_open, frame_id, find_none, ascending_sorted, found_at, IsNote, AreNotes, IsSeen, id_at}
use Rattle.std.specs.declared.cmp.Ordering.TheVariants.{Greater}
use Rattle.std.proofs.lemmas.Bool.Decides.{nat_tests}
use Rattle.std.proofs.lemmas.List.Sorted.{searchable_from_sorted}
use Rattle.finder.specs.declared.notes.Note.{Note}
use Rattle.page_ids.specs.IdLaws.{less_apart}

same_id : (a b : Id) → a.page ≡ b.page → a.letter ≡ b.letter → a ≡ b
same_id a b page letter = id_eq_same a b (grind (arith, nat_tests))

-- the frame of a node
pub seen_at : (caller : List ℕ) (frames : List Frame) (i : ℕ) (f : Frame) (node : ℕ) (admitted : Bool) (id : Id)
    → slice_get frames i ≡ Some f → f.id ≡ id → node ≡ i → admitted ≡ is_open caller f
    → IsSeen caller frames id node admitted
seen_at caller frames i f node admitted id at same there admits = record {
  placed = ap (id_at frames) there ∙ ap (option_map (λ (g : Frame). g.id)) at ∙ ap Some same;
  admits = ap (λ k. option_map (is_open caller) (slice_get frames k)) there ∙ ap (option_map (is_open caller)) at ∙ ap Some (sym admits);
}

-- a note of it
pub noted : (caller : List ℕ) (frames : List Frame) (notes : List Note) (slot i : ℕ) (f : Frame) (note : Note)
    → AreNotes caller frames notes → slice_get frames i ≡ Some f → note.page ≡ f.id.page → note.letter ≡ f.id.letter
    → note.node ≡ i → note.is_open ≡ is_open caller f → AreNotes caller frames (set notes slot note)
noted caller frames notes slot i f note are at page letter there admits = record { each = All-set (IsNote caller frames) notes slot note (λ id of. seen_at caller frames i f note.node note.is_open id at (same_id f.id id (sym page ∙ of.page) (sym letter ∙ of.letter)) there admits) are.each }

-- blanks note nothing
pub none_noted : (caller : List ℕ) (frames : List Frame) (slots : ℕ) → AreNotes caller frames (replicate slots (record { page = 0; node = 0; letter = 0; is_open = false }))
none_noted caller frames slots = record { each = All-replicate (IsNote caller frames) slots (record { page = 0; node = 0; letter = 0; is_open = false }) (λ id of. absurd (omega (arith, of.named))) }

greater_apart : (a b : Id) → id_cmp a b ≡ Greater → id_eq a b ≡ false
greater_apart a b e = grind (arith, nat_tests)

module _ (frames : List Frame) (id : Id) (i : ℕ) (up : IsAscending frames) where
  -- what a binary search finds has the id
  pub searched : (f : Frame) → IsBinarySearchResult (λ g. id_cmp g.id id) frames (Ok i) → i < length frames → get_or frames i f ≡ f → f.id ≡ id
  searched f h lt at = frame_id frames id f (found_at frames id i f up lt at (ap (λ (g : Frame). id_cmp g.id id) (sym at) ∙ h f))

  -- and if it finds none there is none
  pub unsearched : IsBinarySearchResult (λ g. id_cmp g.id id) frames (Err i) → frame_among frames id ≡ None
  unsearched h =
      let p = h (searchable_from_sorted id_cmp_total (λ (f : Frame). f.id) frames id (ascending_sorted frames up)) in
      find_none (λ f. id_eq f.id id) frames (λ k d lt. ⊎_elim (λ before. less_apart (get_or frames k d).id id (p.0 k d (omega arith) before)) (λ from. greater_apart (get_or frames k d).id id (p.1 k d from lt)) (cases_lt k i))
