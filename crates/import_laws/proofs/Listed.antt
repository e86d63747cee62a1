-- The members of frames list the frames, without a fault.
use Rattle.std.proofs.Common.{◌≡◌, ℕ, ◌+◌, ◌≤◌, List, [], ◌∷◌, map, Some, Ok, refl, ap}
use Rattle.std.proofs.lemmas.List.Elements.{All-head, All-tail}
use Rattle.std.specs.List.{All}
use Rattle.page_ids.specs.Ids.{Id}
use Rattle.page_ids.specs.declared.limits.TheConstants.{MOST_PAGE}
use Rattle.frame_records.specs.declared.frame.Frame.{Frame}
use Rattle.base_text.specs.declared.detail.Detail.{Detail}
use Rattle.base_text.specs.Frames.{ElementView, element_of}
use Rattle.base_text.specs.Drafts.{elements_faults, elements_placed, framed}
use Rattle.base_text.specs.Whole.{table_parts}
use Rattle.screen_files.specs.declared.filed.Filed.{Filed}
use Rattle.screen_files.specs.Album.{leads_on}
use Rattle.toml.specs.Data.{Data, table, Items, item}
use Rattle.import_laws.specs.Imported.{IsFiled, frame_members, frame_items, members_with}
use Rattle.import_laws.specs.Bases.{screen_frame, screen_frames}
use Rattle.import_laws.proofs.Elements.{frame_is, in_range}

-- a frame and the id that is read of it
abbrev sound : Id → Frame → ElementView (List Detail)
sound id f = record { id = Some id; frame = Some f; details = [] }

one_clean : (i : ℕ) (d : Data) (ds : Items) (id : Id) (f : Frame) → element_of d ≡ sound id f → elements_faults (i + 1) ds ≡ [] → elements_faults i (item d ds) ≡ []
one_clean i d ds id f one more = rw (one, more) refl

one_placed : (i : ℕ) (d : Data) (ds : Items) (id : Id) (f : Frame) (fs : List Frame) → element_of d ≡ sound id f → map framed (elements_placed (i + 1) ds) ≡ fs
    → map framed (elements_placed i (item d ds)) ≡ f ∷ fs
one_placed i d ds id f fs one more = rw one (ap (λ (gs : List Frame). f ∷ gs) more)

module _ (known : List Id) where
  element_is : (f : Filed) (rest : List Filed) → IsFiled f
      → element_of (table (frame_members known f.frame (leads_on f.frame.id rest))) ≡ sound f.frame.id (screen_frame known f.frame (leads_on f.frame.id rest))
  element_is f rest is = frame_is known f.frame (leads_on f.frame.id rest) is.id is.price is.screen

  pub none_at_fault : (i : ℕ) (frames : List Filed) → All IsFiled frames → elements_faults i (frame_items known frames) ≡ []
  none_at_fault i [] filed = refl
  none_at_fault i (f ∷ rest) filed =
      let next = leads_on f.frame.id rest in
      one_clean i (table (frame_members known f.frame next)) (frame_items known rest) f.frame.id (screen_frame known f.frame next)
      (element_is f rest (All-head IsFiled f rest filed)) (none_at_fault (i + 1) rest (All-tail IsFiled f rest filed))

  pub all_placed : (i : ℕ) (frames : List Filed) → All IsFiled frames → map framed (elements_placed i (frame_items known frames)) ≡ screen_frames known frames
  all_placed i [] filed = refl
  all_placed i (f ∷ rest) filed =
      let next = leads_on f.frame.id rest in
      one_placed i (table (frame_members known f.frame next)) (frame_items known rest) f.frame.id (screen_frame known f.frame next) (screen_frames known rest)
      (element_is f rest (All-head IsFiled f rest filed)) (all_placed (i + 1) rest (All-tail IsFiled f rest filed))

-- what a table of an entry page and sound frames lists
pub table_listed : (entry : ℕ) (ds : Items) (frames : List Frame) → entry ≤ MOST_PAGE → elements_faults 0 ds ≡ [] → map framed (elements_placed 0 ds) ≡ frames
    → table_parts (members_with entry ds) ≡ Ok (record { entry = entry; outside = []; frames = frames })
table_listed entry ds frames small clean placed = rw (in_range MOST_PAGE entry small, clean, placed) refl
