-- The nodes of ascending frames, and their ids.
use Rattle.std.proofs.Common.{◌≡◌, ◌<◌, ℕ, List, Some, slice_get, get_or, sym, ◌∙◌, ap, ⊎_elim}
use Rattle.finder.proofs.Words.{cases_order, slice_get_within, get_or_from_slice_get, Id, id_eq, id_eq_refl, Frame, IsAscending, frame_among, id_at, find_first, apart_at}
use Rattle.finder.proofs.Lists.{mapped}

module _ (frames : List Frame) (up : IsAscending frames) where
  no_later : (i j : ℕ) (f g : Frame) → slice_get frames i ≡ Some f → slice_get frames j ≡ Some g → f.id ≡ g.id → i < j
      → ⊥
  no_later i j f g at there same lt =
      let differ = apart_at frames j i f up lt (slice_get_within frames j g there) in
      let first = ap (λ (h : Frame). id_eq h.id (get_or frames j f).id) (get_or_from_slice_get frames i f f at) in
      let second = ap (λ (h : Frame). id_eq f.id h.id) (get_or_from_slice_get frames j g f there) in
      let equal = ap (id_eq f.id) same in
      let itself = id_eq_refl f.id in
      absurd cc

  -- two frames of one id have one node
  pub same_node : (i j : ℕ) (f g : Frame) → slice_get frames i ≡ Some f → slice_get frames j ≡ Some g → f.id ≡ g.id
      → i ≡ j
  same_node i j f g at there same = ⊎_elim (λ e. e) (λ apart. ⊎_elim (λ less. absurd (no_later i j f g at there same less)) (λ more. absurd (no_later j i g f there at (sym same) more)) apart) (cases_order i j)

  -- a frame is the one of its id
  pub frame_here : (i : ℕ) (f : Frame) → slice_get frames i ≡ Some f → frame_among frames f.id ≡ Some f
  frame_here i f at =
      let here = get_or_from_slice_get frames i f f at in
      let inside = slice_get_within frames i f at in
      find_first (λ g. id_eq g.id f.id) frames i f inside here (id_eq_refl f.id) (λ k lt. ap (λ (g : Frame). id_eq (get_or frames k f).id g.id) (sym here) ∙ apart_at frames i k f up lt inside)

-- the frame of a node
pub id_there : (frames : List Frame) (j : ℕ) (to : Id) → id_at frames j ≡ Some to
    → (f : Frame) × (slice_get frames j ≡ Some f) × (f.id ≡ to)
id_there frames j to e = mapped (λ (f : Frame). f.id) (slice_get frames j) to e
