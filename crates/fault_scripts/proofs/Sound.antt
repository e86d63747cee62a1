-- What holds of each discovered frame if there is no fault.
use Rattle.std.proofs.Common.{◌≡◌, ◌<◌, ◌≤◌, ◌⊎◌, inl, inr, ℕ, nat_lt, Bool, true, false, cond, List, Option, Some, None, slice_get, refl, arith}
use Rattle.std.proofs.lemmas.Bool.Decides.{nat_tests}
use Rattle.page_ids.specs.Ids.{Id}
use Rattle.page_ids.specs.Ways.{way_key}
use Rattle.page_ids.specs.declared.way.Way.{Way}
use Rattle.page_ids.specs.declared.way.Way.TheVariants.{Route, Next}
use Rattle.frame_records.specs.declared.frame.Frame.{Frame}
use Rattle.frame_records.specs.declared.base.Sought.{Sought}
use Rattle.frame_records.specs.declared.base.Sought.TheVariants as sought
use Rattle.frame_records.specs.declared.ways.Destination.{Destination}
use Rattle.frame_records.specs.declared.ways.Destination.TheVariants as way
use Rattle.frame_records.specs.Bases.{BaseView, frame_at, lists_outside}
use Rattle.frame_records.specs.Seek.{is_open, seek, entry_of}
use Rattle.frame_records.specs.Ways.{destination, sought, sought_by, Leads}
use Rattle.frame_records.specs.WayLaws.{goes}
use Rattle.abstract_paint.specs.declared.start.Start.{Start}
use Rattle.abstract_paint.specs.declared.cursor.AbsCursor.{AbsCursor}
use Rattle.abstract_paint.specs.declared.painting.Painted.TheVariants.{Clean}
use Rattle.abstract_paint.specs.Paint.{paint_of}
use Rattle.abstract_paint.specs.Start.{IsStart, start_of}
use Rattle.abstract_paint.proofs.Exact.{is_exact}
use Rattle.abstract_paint.proofs.LeastStart.{is_start}
use Rattle.terminal_codes.specs.Bodies.{IsClean}
use Rattle.checker.specs.declared.policy.Policy.{Policy}
use Rattle.finder.specs.declared.found.Discovered.{Discovered}
use Rattle.finder.specs.Finds.{IsFinding, script, Walk, IsDistance, IsRank, IsReached}
use Rattle.base_faults.specs.declared.fault.Fault.{Fault}
use Rattle.base_faults.specs.declared.fault.FaultKind.TheVariants as kind
use Rattle.fault_scripts.specs.Faults.{IsDueAs, IsDue, plain_fault, price_fault, touch_fault, key_fault}
use Rattle.fault_scripts.proofs.Discoveries.{IsDiscovered, listed_frame}

-- the frame that a way seeks is found, or a route leads to an outside page
abbrev pub GoesOn : List ℕ → BaseView → Id → Way → Id → Type 0
GoesOn caller base id (Route digit) to = Leads caller base id (Route digit) to ⊎ (lists_outside base to.page ≡ true)
GoesOn caller base id Next to = Leads caller base id Next to

-- a discovered frame without a fault: it costs and ranks no more than the policy says, is clean, and its ways lead on
pub record IsSound (base : BaseView) (policy : Policy) (d : Discovered) : Type 0 where
  pub frame : Frame
  pub rank : ℕ
  pub cursor : AbsCursor
  pub reached : IsReached policy.groups base d.id
  pub of_frame : frame_at base d.id ≡ Some frame
  pub opened : is_open policy.groups frame ≡ true
  pub price : frame.price ≤ policy.ceiling
  pub painted : paint_of frame.lead frame.body ≡ Clean cursor
  pub ranked : d.rank ≡ Some rank
  pub distance : IsDistance policy.groups base d.id rank
  pub near : rank ≤ policy.keyings
  pub ways : (w : Way) (to : Id) → sought frame w ≡ Some to → GoesOn policy.groups base d.id w to

not_above : (n m : ℕ) → (n < m → ⊥) → m ≤ n
not_above n m never = by (nat_lt n m) refl where
  by : (b : Bool) → nat_lt n m ≡ b → m ≤ n
  by true e = let above : n < m = grind (arith, nat_tests) in absurd (never above)
  by false e = grind (arith, nat_tests)

module _ (base : BaseView) (policy : Policy) (found : List Discovered) (finding : IsFinding policy.groups base found) (none : (fault : Fault) → IsDue base policy found fault → ⊥) (i : ℕ) (d : Discovered) (listed : slice_get found i ≡ Some d) where
  is : IsDiscovered policy.groups base d
  is = listed_frame policy.groups base found finding i d listed

  -- no fault is due at the frame
  none_here : (fault : Fault) → IsDueAs fault.kind base policy d.id is.frame (script found i) fault → ⊥
  none_here fault due = none fault (record {
    index = i;
    discovered = d;
    frame = is.frame;
    keys = script found i;
    place = record { listed = listed; of_frame = is.of_frame; script = refl };
    due = due;
  })

  price_low : is.frame.price ≤ policy.ceiling
  price_low = not_above policy.ceiling is.frame.price (λ above. none_here (price_fault d.id (script found i) is.frame.price) (record { above = above; is = refl }))

  clean_by : (r : Option Start) → IsStart is.frame.lead is.frame.body r → IsClean is.frame.lead is.frame.body
  clean_by None clean = clean
  clean_by (Some start) least = absurd (none_here (touch_fault d.id (script found i) start) (record { start = start; least = least; is = refl }))

  clean : IsClean is.frame.lead is.frame.body
  clean = clean_by (start_of is.frame.lead is.frame.body (paint_of is.frame.lead is.frame.body)) (is_start is.frame.lead is.frame.body)

  -- no way leads to a closed or a missing frame
  not_closed : (w : Way) (to : Id) → destination policy.groups base d.id w ≡ way.Closed to → ⊥
  not_closed w to e = none_here (key_fault kind.Closed d.id (script found i) (way_key w) to) (record { through = w; to = to; comes_to = e; is = refl })

  not_missing : (w : Way) (to : Id) → destination policy.groups base d.id w ≡ way.Missing to → ⊥
  not_missing w to e = none_here (key_fault kind.Missing d.id (script found i) (way_key w) to) (record { through = w; to = to; comes_to = e; is = refl })

  on_by : (w : Way) (to : Id) (s : Sought) → destination policy.groups base d.id w ≡ sought_by base w to s
      → GoesOn policy.groups base d.id w to
  on_by (Route digit) to (sought.Found price) e = inl (record { price = price; found = e })
  on_by Next to (sought.Found price) e = record { price = price; found = e }
  on_by w to sought.Closed e = absurd (not_closed w to e)
  on_by Next to sought.Missing e = absurd (not_missing Next to e)
  on_by (Route digit) to sought.Missing e = by (lists_outside base to.page) refl e where
    by : (b : Bool) → lists_outside base to.page ≡ b
        → destination policy.groups base d.id (Route digit) ≡ cond {A = Destination} b (way.Outside to.page) (way.Missing to) → GoesOn policy.groups base d.id (Route digit) to
    by true outside h = inr outside
    by false inside h = absurd (not_missing (Route digit) to h)

  no_return : ((n : ℕ) → n ≤ policy.keyings → Walk policy.groups base d.id (entry_of base) n → ⊥) → ⊥
  no_return far = none_here (plain_fault kind.NoReturn d.id (script found i)) (record { far = far; is = refl })

  -- the rank, which is within the keyings
  near_by : (r : Option ℕ) → d.rank ≡ r → IsRank policy.groups base d.id r
      → (rank : ℕ) × (d.rank ≡ Some rank) × IsDistance policy.groups base d.id rank × (rank ≤ policy.keyings)
  near_by None is_none no_walk = absurd (no_return (λ n le walk. no_walk n walk))
  near_by (Some rank) is_some distance =
      (rank, is_some, distance, not_above policy.keyings rank (λ far. no_return (λ n le walk. omega (arith, far, le, distance.least n walk))))

  pub sound : IsSound base policy d
  sound =
      let cursor = (is_exact is.frame.lead is.frame.body).some_cursor clean in
      let near = near_by d.rank refl is.rank in
      record {
        frame = is.frame;
        rank = near.0;
        cursor = cursor.0;
        reached = is.reached;
        of_frame = is.of_frame;
        opened = is.opened;
        price = price_low;
        painted = cursor.1;
        ranked = near.1;
        distance = near.2;
        near = near.3;
        ways = λ w to offered. on_by w to (seek policy.groups base to) (goes policy.groups base d.id is.frame w to is.of_frame offered);
      }
