-- What one key remembers and shows.
use Rattle.std.proofs.Common.{ℕ, ◌≤◌, List, [], ◌∷◌, length, arith}
use Rattle.page_ids.specs.Ids.{Id}
use Rattle.page_ids.specs.declared.key.Key.{Key}
use Rattle.page_ids.specs.declared.key.Key.TheVariants.{Route, Next, Prev, Reprint, Update}
use Rattle.page_ids.specs.declared.way.Way.TheVariants as ways
use Rattle.frame_records.specs.declared.base.Sought.{Sought}
use Rattle.frame_records.specs.declared.base.Sought.TheVariants as sought
use Rattle.frame_records.specs.declared.ways.Destination.{Destination}
use Rattle.frame_records.specs.declared.ways.Destination.TheVariants as destination
use Rattle.frame_records.specs.Bases.{BaseView}
use Rattle.frame_records.specs.Seek.{seek}
use Rattle.frame_records.specs.Ways as led
use Rattle.session_machine.specs.Sessions.{SessionState, At, Left, remembered_of, Outcome, key_step, prev_step, by_way, by_prev, by_update, remember}
use Rattle.session_machine.specs.Runs.{state_after}

-- what one key keeps of what it finds
abbrev Few : Outcome → Type 0
Few outcome = length (remembered_of outcome.0) ≤ 3

few_latest : (id : Id) (remembered : List Id) → length (remember id remembered) ≤ 3
few_latest id [] = omega arith
few_latest id (a ∷ []) = omega arith
few_latest id (a ∷ b ∷ more) = omega arith

few_way : (id : Id) (remembered : List Id) (d : Destination) → length remembered ≤ 3 → Few (by_way id remembered d)
few_way id remembered destination.NotOffered few = few
few_way id remembered (destination.Found to price) few = few_latest id remembered
few_way id remembered (destination.Closed to) few = few
few_way id remembered (destination.Missing to) few = few
few_way id remembered (destination.Outside page) few = omega arith

few_prev : (id latest : Id) (older : List Id) (s : Sought) → length (latest ∷ older) ≤ 3 → Few (by_prev id latest older s)
few_prev id latest older (sought.Found price) few = omega arith
few_prev id latest older sought.Closed few = few
few_prev id latest older sought.Missing few = few

few_back : (caller : List ℕ) (base : BaseView) (id : Id) (remembered : List Id) → length remembered ≤ 3 → Few (prev_step caller base id remembered)
few_back caller base id [] few = few
few_back caller base id (latest ∷ older) few = few_prev id latest older (seek caller base latest) few

few_update : (id : Id) (remembered : List Id) (s : Sought) → length remembered ≤ 3 → Few (by_update id remembered s)
few_update id remembered (sought.Found price) few = few
few_update id remembered sought.Closed few = few
few_update id remembered sought.Missing few = few

few_step : (caller : List ℕ) (base : BaseView) (from : SessionState) (key : Key) → length (remembered_of from) ≤ 3 → Few (key_step caller base from key)
few_step caller base (At id remembered) (Route digit) few = few_way id remembered (led.destination caller base id (ways.Route digit)) few
few_step caller base (At id remembered) Next few = few_way id remembered (led.destination caller base id ways.Next) few
few_step caller base (At id remembered) Prev few = few_back caller base id remembered few
few_step caller base (At id remembered) Reprint few = few
few_step caller base (At id remembered) Update few = few_update id remembered (seek caller base id) few
few_step caller base (Left page) key few = few

-- at most three frames are remembered after any keys
pub few_after : (caller : List ℕ) (base : BaseView) (from : SessionState) (keys : List Key) → length (remembered_of from) ≤ 3 → length (remembered_of (state_after caller base from keys)) ≤ 3
few_after caller base from [] few = few
few_after caller base from (key ∷ keys) few = few_after caller base (key_step caller base from key).0 keys (few_step caller base from key few)
