-- What a survey says.
use Rattle.std.proofs.Common.{◌≡◌, ℕ, Bool, true, false, List, Some, None, if◌then◌else◌, length, refl, sym, ◌∙◌, ap, ◌<◌, [], slice_get, arith, ◌≤◌}
use Rattle.finder.proofs.Words.{same_Some, slice_get_within, Frame, BaseView, IsAscending, frame_at, entry_of, seek_entry, is_open, sought_of, WayTarget, IsEntryNode, IsSought, target_at, node_of, Discovered, AreNamed, FindsReached, RanksAreLeast, IsFinding, EntryIsFound}
use Rattle.frame_records.specs.declared.base.Sought.TheVariants as sought_is
use Rattle.finder.proofs.Nodes.{frame_here, id_there}
use Rattle.finder.proofs.Marked.{frame_listed}
use Rattle.finder.proofs.Targeted.{SeenFrame, seen_frame}
use Rattle.finder.proofs.Scripted.{listed_at, scripts_lead}

-- whether the entry frame is found, and where it is
module _ (caller : List ℕ) (base : BaseView) where
  pub entry_missing : frame_at base (entry_of base) ≡ None → IsEntryNode caller base None
  entry_missing none entry = let gone = sym (ap (sought_of caller) none) ∙ entry.1 in absurd cc

  pub entry_by : (target : WayTarget) → IsAscending base.frames → IsSought caller base.frames (entry_of base) (Some target)
      → IsEntryNode caller base (node_of target)
  entry_by target up s = rw s.3 (by s.1 g.admits) where
    g : SeenFrame caller base.frames (entry_of base) s.0 s.1
    g = seen_frame caller base.frames (entry_of base) s.0 s.1 up s.2

    comes : (b : Bool) → is_open caller g.frame ≡ b
        → seek_entry caller base ≡ (if b then sought_is.Found g.frame.price else sought_is.Closed)
    comes b e = ap (sought_of caller) g.among ∙ ap (λ b. if b then sought_is.Found g.frame.price else sought_is.Closed) e

    by : (b : Bool) → is_open caller g.frame ≡ b → IsEntryNode caller base (node_of (target_at s.0 b))
    by true e = ((g.frame.price, comes true e), s.2.placed)
    by false e = λ entry. let closed = sym (comes false e) ∙ entry.1 in absurd cc

-- the frame of a listed node is in the base
pub placed : (base : BaseView) (nodes : List ℕ) (found : List Discovered) (i node : ℕ) → IsAscending base.frames
    → AreNamed base.frames nodes found → slice_get nodes i ≡ Some node
    → (f : Frame) × (slice_get base.frames node ≡ Some f) × ((d : Discovered) → slice_get found i ≡ Some d → frame_at base d.id ≡ Some f)
placed base nodes found i node up named at =
    let e = frame_listed base.frames nodes found named i node at in
    let f = id_there base.frames node e.0.id e.2 in (
      f.0,
      f.1,
      λ d there. ap (frame_at base) (sym (f.2 ∙ ap (λ (x : Discovered). x.id) (same_Some e.0 d (sym e.1 ∙ there)))) ∙ frame_here base.frames up node f.0 f.1,
    )

pub node_within : (base : BaseView) (nodes : List ℕ) (found : List Discovered) (i node : ℕ) → IsAscending base.frames
    → AreNamed base.frames nodes found → slice_get nodes i ≡ Some node → node < length base.frames
node_within base nodes found i node up named at = let f = placed base nodes found i node up named at in slice_get_within base.frames node f.0 f.1

-- if the entry frame is found it is listed
not_empty : (caller : List ℕ) (base : BaseView) (found : List Discovered) → FindsReached caller base found → found ≡ []
    → EntryIsFound caller base → ⊥
not_empty caller base found finds none entry =
    let there = listed_at caller base found finds (entry_of base) (record { steps = 0; entry = entry; walk = refl }) in
    let past = sym (ap (λ (l : List Discovered). slice_get l there.0) none) ∙ there.2 in
    absurd cc

pub whole : (caller : List ℕ) (base : BaseView) (found : List Discovered) → EntryIsFound caller base
    → FindsReached caller base found → RanksAreLeast caller base found → length found ≤ length base.frames
    → IsFinding caller base found
whole caller base found entry reached ranks few = record {
  reached = reached;
  ranks = ranks;
  scripts = scripts_lead caller base found reached;
  empty = (not_empty caller base found reached, λ not_found. absurd (not_found entry));
  few = few;
}

-- no frame
pub nothing : (caller : List ℕ) (base : BaseView) → (EntryIsFound caller base → ⊥) → IsFinding caller base []
nothing caller base not_found =
    let reached : FindsReached caller base [] = record {
      first = λ d at. absurd cc;
      reached = λ id. (λ r. absurd (not_found r.entry), λ some. absurd (omega (arith, some.2)));
      once = λ i j d lt end. absurd (omega (arith, lt, end));
      pairs = λ i d at. absurd cc;
      ascend = λ i j d lt end. absurd (omega (arith, lt, end));
    } in
    record {
      reached = reached;
      ranks = λ i d lt. absurd (omega (arith, lt));
      scripts = scripts_lead caller base [] reached;
      empty = (λ none entry. not_found entry, λ not. refl);
      few = omega arith;
    }
