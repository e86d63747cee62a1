-- The result of a way, by the look-up of the frame that it seeks.
use Rattle.std.proofs.Common.{◌≡◌, ◌+◌, ℕ, List, Some, slice_get, refl, sym, ◌∙◌, ap, ⊎_elim, arith, ◌<◌, ◌≤◌, ◌*◌, Bool, true, false, [], ◌∷◌, None, Option, option_map, if◌then◌else◌, get_or, subst, length, length-append}
use Rattle.finder.proofs.Words.{cases_lt, same_Some, slice_get_within, get_or-set_at, get_or-set_other, get_or_append_left, get_or_push, length-set, Id, Way, way_at, Frame, IsAscending, BaseView, frame_at, frame_among, is_open, sought_of, sought, missing_by, sought_by, offered_by, destination_of, WayTarget, IsSeen, IsSought, target_at, IsTarget, AreTargets, NotOffered, Closed, Missing, Outside, aim_of, aim_at, node_of}
use Rattle.frame_records.specs.declared.base.Sought.TheVariants as seeking
use Rattle.frame_records.specs.declared.ways.Destination.TheVariants as destination
use Rattle.finder.specs.declared.aim.Aim.TheVariants as aim
use Rattle.finder.specs.declared.table.Targets.{Targets}
use Rattle.finder.specs.declared.target.WayTarget.TheVariants.{Found}
use Rattle.finder.specs.Loops.WayTargets.{IsFoundAt, IsTargetBy, IsAdded}
use Rattle.finder.proofs.Nodes.{frame_here, id_there}
use Rattle.finder.proofs.Lists.{mapped}

-- the frame of an id that is seen
pub record SeenFrame (caller : List ℕ) (frames : List Frame) (id : Id) (node : ℕ) (admitted : Bool) : Type 0 where
  pub frame : Frame
  pub placed : slice_get frames node ≡ Some frame
  pub is_of : frame.id ≡ id
  pub among : frame_among frames id ≡ Some frame
  pub admits : is_open caller frame ≡ admitted

pub seen_frame : (caller : List ℕ) (frames : List Frame) (id : Id) (node : ℕ) (admitted : Bool) → IsAscending frames
    → IsSeen caller frames id node admitted → SeenFrame caller frames id node admitted
seen_frame caller frames id node admitted up s =
    let f = id_there frames node id s.placed in
    record {
      frame = f.0;
      placed = f.1;
      is_of = f.2;
      among = ap (frame_among frames) (sym f.2) ∙ frame_here frames up node f.0 f.1;
      admits = same_Some (is_open caller f.0) admitted (sym (ap (option_map (is_open caller)) f.1) ∙ s.admits);
    }

module _ (caller : List ℕ) (base : BaseView) (f : Frame) (way : Way) (to : Id) (seeks : Some to ≡ sought f way) where
  -- the base has the frame
  pub targeted : (target : WayTarget) → IsAscending base.frames → IsSought caller base.frames to (Some target)
      → IsTarget caller base f way target
  targeted target up s = rw s.3 (by s.1 g.admits) where
    g : SeenFrame caller base.frames to s.0 s.1
    g = seen_frame caller base.frames to s.0 s.1 up s.2

    comes : (b : Bool) → is_open caller g.frame ≡ b
        → destination_of caller base f way ≡ sought_by base way to (if b then seeking.Found g.frame.price else seeking.Closed)
    comes b e = ap (offered_by caller base way) (sym seeks) ∙ ap (λ o. sought_by base way to (sought_of caller o)) g.among ∙ ap (λ b. sought_by base way to (if b then seeking.Found g.frame.price else seeking.Closed)) e

    by : (b : Bool) → is_open caller g.frame ≡ b → IsTarget caller base f way (target_at s.0 b)
    by true e = record {
      aim = ap aim_of (sym (comes true e));
      found = λ node is. ap (λ p. option_map (λ (h : Frame). destination.Found h.id h.price) (slice_get base.frames p)) (sym (same_Some s.0 node is)) ∙ ap (option_map (λ (h : Frame). destination.Found h.id h.price)) g.placed ∙ ap (λ id. Some (destination.Found id g.frame.price)) g.is_of ∙ ap Some (sym (comes true e));
    }
    by false e = record { aim = ap aim_of (sym (comes false e)); found = λ node is. absurd cc }

  -- it lacks the frame
  pub missed : (target : WayTarget) → frame_at base to ≡ None → aim_at target ≡ aim_of (missing_by base way to)
      → node_of target ≡ None → IsTarget caller base f way target
  missed target none is nowhere = record {
    aim = is ∙ ap aim_of (sym (ap (offered_by caller base way) (sym seeks) ∙ ap (λ o. sought_by base way to (sought_of caller o)) none));
    found = λ node some. let no = sym nowhere ∙ some in absurd cc;
  }

not_found : (t : WayTarget) → node_of t ≡ None → aim_at t ≡ aim.Found → ⊥
not_found NotOffered none e = absurd cc
not_found (Found node) none e = absurd cc
not_found Closed none e = absurd cc
not_found Missing none e = absurd cc
not_found Outside none e = absurd cc

-- one more way
module _ (caller : List ℕ) (base : BaseView) (node way : ℕ) (f : Frame) (target : WayTarget) (old new : Targets) (small : way < 11) (few : length base.frames ≤ 65535) (at : slice_get base.frames node ≡ Some f) (is : IsTarget caller base f (way_at way) target) (added : IsAdded old new target) (are : AreTargets caller base (node * 11 + way) old) where
  abbrev last : ℕ
  last = length old.nodes.items

  record AreAdded : Type 0 where
    by_node : IsTargetBy caller base f (way_at way) added.node (get_or new.aims.items last aim.NotOffered)
    slots : length new.aims.items ≡ length old.aims.items
    kept : (k : ℕ) → k < last → get_or new.aims.items k aim.NotOffered ≡ get_or old.aims.items k aim.NotOffered

  placed : (p : ℕ) → IsFoundAt caller base f (way_at way) p → (g : Frame) × (slice_get base.frames p ≡ Some g)
  placed p found = let g = mapped (λ (h : Frame). destination.Found h.id h.price) (slice_get base.frames p) _ found in (g.0, g.1)

  are_added : (o : Option ℕ) → node_of target ≡ o → AreAdded
  are_added (Some p) e =
      let there = is.found p e in
      let same = added.found p e in
      record {
        by_node = record { found = λ lt. rw same.0 there; lost = λ past. absurd (omega (arith, same.0, past, slice_get_within base.frames p (placed p there).0 (placed p there).1)) };
        slots = ap length same.1;
        kept = λ k lt. ap (λ l. get_or l k aim.NotOffered) same.1;
      }
  are_added None e =
      let none = added.lost e in
      let within : last < length old.aims.items = omega (arith, are.room, are.slots, slice_get_within base.frames node f at, small) in
      let aim_is : get_or new.aims.items last aim.NotOffered ≡ aim_at target = ap (λ l. get_or l last aim.NotOffered) none.1 ∙ get_or-set_at old.aims.items last last (aim_at target) aim.NotOffered refl within in
      record {
        by_node = record { found = λ lt. absurd (omega (arith, lt, few, none.0)); lost = λ past. (aim_is ∙ is.aim, λ found. not_found target e (sym aim_is ∙ found)) };
        slots = ap length none.1 ∙ length-set old.aims.items last (aim_at target);
        kept = λ k lt. ap (λ l. get_or l k aim.NotOffered) none.1 ∙ get_or-set_other old.aims.items last k (aim_at target) aim.NotOffered (λ same. omega (arith, same, lt));
      }

  pub targets_more : AreTargets caller base (node * 11 + (way + 1)) new
  targets_more =
      let more = are_added (node_of target) refl in
      record {
        room = ap length added.nodes ∙ omega (arith, length-append old.nodes.items (added.node ∷ []), are.room);
        slots = more.slots ∙ are.slots;
        right = λ i k g lt is_way there.
            ⊎_elim (λ less.
            let inside : i * 11 + k < last = omega (arith, less, are.room) in
            subst (λ p. IsTargetBy caller base g (way_at k) p (get_or new.aims.items (i * 11 + k) aim.NotOffered)) (sym (ap (λ l. get_or l (i * 11 + k) 0) added.nodes ∙ get_or_append_left old.nodes.items (added.node ∷ []) 0 (i * 11 + k) inside)) (rw (more.kept (i * 11 + k) inside) (are.right i k g less is_way there))) (λ past.
            let row : node ≡ i = omega (arith, past, lt, is_way, small) in
            let column : way ≡ k = omega (arith, past, lt, row) in
            let same : f ≡ g = same_Some f g (sym at ∙ ap (slice_get base.frames) row ∙ there) in
            let here : last ≡ i * 11 + k = omega (arith, row, column, are.room) in
            let node_is : added.node ≡ get_or new.nodes.items (i * 11 + k) 0 = sym (ap (λ l. get_or l (i * 11 + k) 0) added.nodes ∙ get_or_push old.nodes.items added.node 0 (i * 11 + k) here) in
            subst (λ p. IsTargetBy caller base g (way_at k) p (get_or new.aims.items (i * 11 + k) aim.NotOffered)) node_is (subst (λ j. IsTargetBy caller base g (way_at k) added.node (get_or new.aims.items j aim.NotOffered)) here (subst (λ w. IsTargetBy caller base g (way_at w) added.node (get_or new.aims.items last aim.NotOffered)) column (subst (λ h. IsTargetBy caller base h (way_at way) added.node (get_or new.aims.items last aim.NotOffered)) same more.by_node)))) (cases_lt (i * 11 + k) (node * 11 + way));
      }
