-- What is asked of a frame in each turn has an answer if and only if a fault is due that is there.
use Rattle.std.proofs.Common.{◌≡◌, ◌<◌, ◌≤◌, ◌+◌, ◌-◌, ◌==◌, ℕ, nat_lt, List, Bool, true, false, cond, Option, option_map, if◌then◌else◌, refl, sym, ◌∙◌, ap, subst, arith}
use Rattle.std.proofs.Common as std
use Rattle.std.proofs.lemmas.Bool.Decides.{nat_tests}
use Rattle.std.proofs.lemmas.Option.{cond_some, same_Some}
use Rattle.page_ids.specs.Ids.{Id}
use Rattle.page_ids.specs.declared.key.Key.{Key}
use Rattle.page_ids.specs.declared.way.Way.{Way}
use Rattle.page_ids.specs.declared.way.Way.TheVariants.{Route, Next}
use Rattle.page_ids.specs.Ways.{way_at, way_place, way_key}
use Rattle.frame_records.specs.declared.frame.Frame.{Frame}
use Rattle.frame_records.specs.declared.ways.Destination.{Destination}
use Rattle.frame_records.specs.declared.ways.Destination.TheVariants as way
use Rattle.frame_records.specs.Bases.{BaseView, frame_at}
use Rattle.frame_records.specs.Seek.{entry_of}
use Rattle.frame_records.specs.Ways.{destination_of, destination_by, destination}
use Rattle.frame_records.specs.WayLaws.{going, offered_place}
use Rattle.abstract_paint.specs.declared.start.Start.{Start}
use Rattle.abstract_paint.specs.Paint.{paint_of}
use Rattle.abstract_paint.specs.Start.{IsStart, start_of}
use Rattle.abstract_paint.proofs.Least.{starts_are_one}
use Rattle.abstract_paint.proofs.LeastStart.{is_start}
use Rattle.checker.specs.declared.policy.Policy.{Policy}
use Rattle.finder.specs.Finds.{Walk, IsRank}
use Rattle.base_faults.specs.declared.fault.Fault.{Fault}
use Rattle.base_faults.specs.declared.fault.FaultKind.{FaultKind}
use Rattle.base_faults.specs.declared.fault.FaultKind.TheVariants as kind
use Rattle.fault_scripts.specs.declared.frame_fault.FrameFault.{FrameFault}
use Rattle.fault_scripts.specs.declared.frame_fault.FrameFault.TheVariants.{Price, Touches, Missing, Closed, NoReturn}
use Rattle.fault_scripts.specs.Faults.{KeyIsDue, IsDueAs, key_number, turn_of}
use Rattle.fault_scripts.specs.Loops.{fault_of, over_price, way_fault, is_far, return_fault}

-- what is asked in each of 14 turns: the price, the painting, the ways in their order, the way back
abbrev pub asked : BaseView → Policy → Frame → Option ℕ → ℕ → Option FrameFault
asked base policy frame rank turn =
    if turn == 0 then over_price policy.ceiling frame.price
    else if turn == 1 then option_map Touches (start_of frame.lead frame.body (paint_of frame.lead frame.body))
    else if turn == 13 then return_fault policy.keyings rank
    else way_fault (way_at (turn - 2)) (destination_of policy.groups base frame (way_at (turn - 2)))

-- the way at a place has the place's number, and so has a way's key
number_at : (n : ℕ) → n < 11 → key_number (std.Some (way_key (way_at n))) ≡ n
number_at n lt = by (nat_lt n 10) refl where
  by : (b : Bool) → nat_lt n 10 ≡ b → key_number (std.Some (way_key (cond b (Route n) Next))) ≡ n
  by true e = refl
  by false e = grind (arith, nat_tests)

number_is : (w : Way) → key_number (std.Some (way_key w)) ≡ way_place w
number_is (Route digit) = refl
number_is Next = refl

-- the ways are asked from the third turn on
pub asked_way : (base : BaseView) (policy : Policy) (frame : Frame) (rank : Option ℕ) (n : ℕ) → n < 11
    → asked base policy frame rank (n + 2) ≡ way_fault (way_at n) (destination_of policy.groups base frame (way_at n))
asked_way base policy frame rank n lt =
    let a : (n + 2 == 0) ≡ false = grind (arith, nat_tests) in
    let b : (n + 2 == 1) ≡ false = grind (arith, nat_tests) in
    let c : (n + 2 == 13) ≡ false = grind (arith, nat_tests, lt) in
    let back : n + 2 - 2 ≡ n = omega arith in
    rw (a, b, c, back) refl

module _ (base : BaseView) (policy : Policy) (id : Id) (frame : Frame) (at : frame_at base id ≡ std.Some frame) (rank : Option ℕ) (is_rank : IsRank policy.groups base id rank) (keys : List Key) where
  abbrev answer : ℕ → Option FrameFault
  answer turn = asked base policy frame rank turn

  abbrev fault : FrameFault → Fault
  fault wrong = fault_of id keys wrong

  -- the wrong is due, in this turn
  pub record IsDueIn (turn : ℕ) (wrong : FrameFault) : Type 0 where
    pub due : IsDueAs (fault wrong).kind base policy id frame keys (fault wrong)
    pub placed : turn_of (fault wrong).kind (fault wrong).key ≡ turn

  price_due : (wrong : FrameFault) → over_price policy.ceiling frame.price ≡ std.Some wrong → IsDueIn 0 wrong
  price_due wrong e =
      let c = cond_some (nat_lt policy.ceiling frame.price) (Price frame.price) wrong e in
      let above : policy.ceiling < frame.price = grind (arith, nat_tests, c.0) in
      subst (IsDueIn 0) c.1 (record { due = record { above = above; is = refl }; placed = refl })

  touch_due : (wrong : FrameFault) (s : Option Start) → IsStart frame.lead frame.body s → option_map Touches s ≡ std.Some wrong
      → IsDueIn 1 wrong
  touch_due wrong std.None is e = absurd cc
  touch_due wrong (std.Some start) is e = subst (IsDueIn 1) (same_Some (Touches start) wrong e) (record { due = record { start = start; least = is; is = refl }; placed = refl })

  comes : (w : Way) (d : Destination) → destination_of policy.groups base frame w ≡ d
      → destination policy.groups base id w ≡ d
  comes w d e = ap (destination_by policy.groups base w) at ∙ e

  way_due : (wrong : FrameFault) (n : ℕ) → n < 11 → (d : Destination) → destination_of policy.groups base frame (way_at n) ≡ d
      → way_fault (way_at n) d ≡ std.Some wrong → IsDueIn (n + 2) wrong
  way_due wrong n lt way.NotOffered is e = absurd cc
  way_due wrong n lt (way.Found to price) is e = absurd cc
  way_due wrong n lt (way.Closed to) is e = subst (IsDueIn (n + 2)) (same_Some (Closed (way_at n) to) wrong e) (record { due = record { through = way_at n; to = to; comes_to = comes (way_at n) (way.Closed to) is; is = refl }; placed = ap (λ (m : ℕ). m + 2) (number_at n lt) })
  way_due wrong n lt (way.Missing to) is e = subst (IsDueIn (n + 2)) (same_Some (Missing (way_at n) to) wrong e) (record { due = record { through = way_at n; to = to; comes_to = comes (way_at n) (way.Missing to) is; is = refl }; placed = ap (λ (m : ℕ). m + 2) (number_at n lt) })
  way_due wrong n lt (way.Outside page) is e = absurd cc

  abbrev Far : Type 0
  Far = (n : ℕ) → n ≤ policy.keyings → Walk policy.groups base id (entry_of base) n → ⊥

  far_of : (r : Option ℕ) → IsRank policy.groups base id r → is_far policy.keyings r ≡ true → Far
  far_of std.None cut e n le w = cut n w
  far_of (std.Some r) distance e n le w = let above : policy.keyings < r = grind (arith, nat_tests, e) in absurd (omega (arith, above, distance.least n w, le))

  test_far : (r : Option ℕ) → IsRank policy.groups base id r → Far → is_far policy.keyings r ≡ true
  test_far std.None cut far = refl
  test_far (std.Some r) distance far = by (nat_lt policy.keyings r) refl where
    by : (b : Bool) → nat_lt policy.keyings r ≡ b → b ≡ true
    by true e = refl
    by false e = let within : r ≤ policy.keyings = grind (arith, nat_tests, e) in absurd (far r within distance.walk)

  return_due : (wrong : FrameFault) → return_fault policy.keyings rank ≡ std.Some wrong → IsDueIn 13 wrong
  return_due wrong e =
      let c = cond_some (is_far policy.keyings rank) NoReturn wrong e in
      subst (IsDueIn 13) c.1 (record { due = record { far = far_of rank is_rank c.0; is = refl }; placed = refl })

  -- an answer is due
  pub asked_due : (turn : ℕ) → turn < 14 → (wrong : FrameFault) → answer turn ≡ std.Some wrong → IsDueIn turn wrong
  asked_due turn lt wrong e = first (turn == 0) refl e where
    last : (b : Bool) → (turn == 0) ≡ false → (turn == 1) ≡ false → (turn == 13) ≡ b
        → cond b (return_fault policy.keyings rank) (way_fault (way_at (turn - 2)) (destination_of policy.groups base frame (way_at (turn - 2)))) ≡ std.Some wrong → IsDueIn turn wrong
    last true zeroth other is h = subst (λ (t : ℕ). IsDueIn t wrong) (grind (arith, nat_tests, is)) (return_due wrong h)
    last false zeroth other is h =
        let few : turn - 2 < 11 = grind (arith, nat_tests, lt, is) in
        let back : turn - 2 + 2 ≡ turn = grind (arith, nat_tests, zeroth, other) in
        subst (λ (t : ℕ). IsDueIn t wrong) back (way_due wrong (turn - 2) few (destination_of policy.groups base frame (way_at (turn - 2))) refl h)

    second : (b : Bool) → (turn == 0) ≡ false → (turn == 1) ≡ b
        → cond b (option_map Touches (start_of frame.lead frame.body (paint_of frame.lead frame.body))) (cond (turn == 13) (return_fault policy.keyings rank) (way_fault (way_at (turn - 2)) (destination_of policy.groups base frame (way_at (turn - 2))))) ≡ std.Some wrong → IsDueIn turn wrong
    second true zeroth is h = subst (λ (t : ℕ). IsDueIn t wrong) (grind (arith, nat_tests, is)) (touch_due wrong (start_of frame.lead frame.body (paint_of frame.lead frame.body)) (is_start frame.lead frame.body) h)
    second false zeroth is h = last (turn == 13) zeroth is refl h

    first : (b : Bool) → (turn == 0) ≡ b
        → cond b (over_price policy.ceiling frame.price) (cond (turn == 1) (option_map Touches (start_of frame.lead frame.body (paint_of frame.lead frame.body))) (cond (turn == 13) (return_fault policy.keyings rank) (way_fault (way_at (turn - 2)) (destination_of policy.groups base frame (way_at (turn - 2)))))) ≡ std.Some wrong → IsDueIn turn wrong
    first true is h = subst (λ (t : ℕ). IsDueIn t wrong) (grind (arith, nat_tests, is)) (price_due wrong h)
    first false is h = second (turn == 1) is refl h

  -- a fault that is due is the answer in its turn
  pub record IsAnswer (turn : ℕ) (f : Fault) : Type 0 where
    pub wrong : FrameFault
    pub is : f ≡ fault wrong
    pub answered : answer turn ≡ std.Some wrong
    pub in_turn : turn < 14

  -- the answer of a way
  way_answer : (f : Fault) (k : FaultKind) (what : Id → Destination) (w : FrameFault) (d : KeyIsDue policy.groups base id keys f k what) → (what d.to ≡ way.NotOffered → ⊥) → way_fault d.through (what d.to) ≡ std.Some w → f ≡ fault w → IsAnswer (key_number f.key + 2) f
  way_answer f k what w d other yields is =
      let g = going policy.groups base id d.through (what d.to) d.comes_to other in
      let own : g.frame ≡ frame = same_Some g.frame frame (sym g.there ∙ at) in
      let p = offered_place g.frame d.through g.to g.offered in
      let n = way_place d.through in
      let number : key_number f.key ≡ n = ap (λ (x : Fault). key_number x.key) d.is ∙ number_is d.through in
      let there : destination_of policy.groups base frame d.through ≡ what d.to = sym (ap (destination_by policy.groups base d.through) at) ∙ d.comes_to in
      let here : answer (n + 2) ≡ std.Some w =
      asked_way base policy frame rank n p.0
      ∙ ap (λ (x : Way). way_fault x (destination_of policy.groups base frame x)) p.1
      ∙ ap (way_fault d.through) there ∙ yields in
      subst (λ (m : ℕ). IsAnswer (m + 2) f) (sym number) (record { wrong = w; is = is; answered = here; in_turn = omega (arith, p.0) })

  pub due_asked : (k : FaultKind) (f : Fault) → IsDueAs k base policy id frame keys f → IsAnswer (turn_of k f.key) f
  due_asked kind.EntryMissing f d = absurd d
  due_asked kind.EntryClosed f d = absurd d
  due_asked kind.Price f d =
      let above : nat_lt policy.ceiling frame.price ≡ true = grind (arith, nat_tests, d.above) in
      record { wrong = Price frame.price; is = d.is; answered = rw above refl; in_turn = omega arith }
  due_asked kind.Touches f d =
      let same = starts_are_one frame.lead frame.body (start_of frame.lead frame.body (paint_of frame.lead frame.body)) (std.Some d.start) (is_start frame.lead frame.body) d.least in
      record { wrong = Touches d.start; is = d.is; answered = ap (option_map Touches) same; in_turn = omega arith }
  due_asked kind.Missing f d = way_answer f kind.Missing way.Missing (Missing d.through d.to) d (λ e. cc) refl d.is
  due_asked kind.Closed f d = way_answer f kind.Closed way.Closed (Closed d.through d.to) d (λ e. cc) refl d.is
  due_asked kind.NoReturn f d = record { wrong = NoReturn; is = d.is; answered = rw (test_far rank is_rank d.far) refl; in_turn = omega arith }
