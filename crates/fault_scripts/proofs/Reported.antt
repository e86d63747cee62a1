-- The faults that are reported, one answer after another, are exactly those that are due so far, in order.
use Rattle.std.proofs.Common.{◌≡◌, ◌<◌, ◌+◌, ◌*◌, ◌++◌, inl, inr, ℕ, List, [], ◌∷◌, length, get_or, Option, slice_get, option_map, refl, sym, ◌∙◌, ap, subst, arith}
use Rattle.std.proofs.Common as std
use Rattle.std.specs.Prelude.{Contains}
use Rattle.std.specs.Option.{option_to_list}
use Rattle.std.proofs.lemmas.Bool.{cases_lt}
use Rattle.std.proofs.lemmas.List.{append-nil}
use Rattle.std.proofs.lemmas.List.Elements.{All-push, All-weaker, All-get_or, Contains-append_left, Contains-push}
use Rattle.std.proofs.lemmas.List.Quantifiers.{all_pairs_push}
use Rattle.std.proofs.lemmas.Option.{same_Some, slice_get_within}
use Rattle.page_ids.specs.Ids.{Id}
use Rattle.page_ids.specs.declared.key.Key.{Key}
use Rattle.frame_records.specs.declared.frame.Frame.{Frame}
use Rattle.frame_records.specs.Bases.{BaseView, frame_at}
use Rattle.checker.specs.declared.policy.Policy.{Policy}
use Rattle.finder.specs.declared.found.Discovered.{Discovered}
use Rattle.finder.specs.Finds.{IsFinding, script}
use Rattle.finder.specs.Survey.{IsFrameAt, SurveyView}
use Rattle.base_faults.specs.declared.fault.Fault.{Fault}
use Rattle.fault_scripts.specs.declared.frame_fault.FrameFault.{FrameFault}
use Rattle.fault_scripts.specs.declared.frame_fault.FrameFault.TheVariants.{Price, Touches, Missing, Closed, NoReturn}
use Rattle.fault_scripts.specs.declared.reporter.Reporter.{Reporter}
use Rattle.fault_scripts.specs.Faults.{IsDue, IsOfPlace, ComesBefore, turn_of, turn_at, AreDue}
use Rattle.fault_scripts.specs.Loops.{fault_of, HasScript, IsDueBelow, IsReported, IsReporting}
use Rattle.fault_scripts.proofs.Asked.{asked, IsAnswer, asked_due, due_asked}
use Rattle.fault_scripts.proofs.Discoveries.{listed_frame, listed_once}

-- a fault names its frame
frame_of : (id : Id) (keys : List Key) (wrong : FrameFault) → (fault_of id keys wrong).frame ≡ id
frame_of id keys (Price price) = refl
frame_of id keys (Touches start) = refl
frame_of id keys (Missing way to) = refl
frame_of id keys (Closed way to) = refl
frame_of id keys NoReturn = refl

-- places are one if their frames and turns are
place_parts : (i j s t : ℕ) → s < 14 → t < 14 → i * 14 + s ≡ j * 14 + t → (i ≡ j) × (s ≡ t)
place_parts i j s t a b e = (omega (arith, a, b, e), omega (arith, a, b, e))

module _ (base : BaseView) (policy : Policy) (found : List Discovered) (finding : IsFinding policy.groups base found) where
  -- the answer that a due fault is
  pub answer_of : (f : Fault) (due : IsDue base policy found f)
      → IsAnswer base policy due.discovered.id due.frame due.place.of_frame due.discovered.rank (listed_frame policy.groups base found finding due.index due.discovered due.place.listed).rank due.keys (turn_of f.kind f.key) f
  answer_of f due = due_asked base policy due.discovered.id due.frame due.place.of_frame due.discovered.rank (listed_frame policy.groups base found finding due.index due.discovered due.place.listed).rank due.keys f.kind f due.due

  pub own_place : (f : Fault) (due : IsDue base policy found f) → IsOfPlace found due.index f
  own_place f due =
      let a = answer_of f due in
      (due.discovered, due.place.listed, ap (λ (x : Fault). x.frame) a.is ∙ frame_of due.discovered.id due.keys a.wrong)

  -- a due fault has one place
  pub place_is_one : (f : Fault) (due : IsDue base policy found f) (i : ℕ) → IsOfPlace found i f
      → turn_at i f ≡ turn_at due.index f
  place_is_one f due i p =
      let q = own_place f due in
      ap (λ (j : ℕ). turn_at j f) (listed_once policy.groups base found finding i due.index p.0 q.0 p.1 q.1 (sym p.2 ∙ q.2))

  pub before_end : (f : Fault) (due : IsDue base policy found f) → turn_at due.index f < length found * 14
  before_end f due = omega (arith, (answer_of f due).in_turn, slice_get_within found due.index due.discovered due.place.listed)

  -- a due fault is before another, if its own place does
  pub stands_before : (x y : Fault) (a : IsDue base policy found x) (b : IsDue base policy found y)
      → turn_at a.index x < turn_at b.index y → ComesBefore found x y
  stands_before x y a b lt i j p q = omega (arith, place_is_one x a i p, place_is_one y b j q, lt)

  -- at one place of one frame
  module _ (i : ℕ) (d : Discovered) (listed : slice_get found i ≡ std.Some d) (frame : Frame) (at : frame_at base d.id ≡ std.Some frame) (turn : ℕ) (small : turn < 14) where
    -- the answer is due there
    due_there : (wrong : FrameFault) → asked base policy frame d.rank turn ≡ std.Some wrong
        → (due : IsDue base policy found (fault_of d.id (script found i) wrong)) × (turn_at due.index (fault_of d.id (script found i) wrong) ≡ i * 14 + turn)
    due_there wrong e =
        let a = asked_due base policy d.id frame at d.rank (listed_frame policy.groups base found finding i d listed).rank (script found i) turn small wrong e in
        (record { index = i; discovered = d; frame = frame; keys = script found i; place = record { listed = listed; of_frame = at; script = refl }; due = a.due }, ap (λ (t : ℕ). i * 14 + t) a.placed)

    -- what is due there is the answer
    there_is : (f : Fault) (due : IsDue base policy found f) → turn_at due.index f ≡ i * 14 + turn
        → (wrong : FrameFault) × (asked base policy frame d.rank turn ≡ std.Some wrong) × (f ≡ fault_of d.id (script found i) wrong)
    there_is f due e =
        let a = answer_of f due in
        let parts = place_parts due.index i (turn_of f.kind f.key) turn a.in_turn small e in
        let same : due.discovered ≡ d = same_Some due.discovered d (sym due.place.listed ∙ ap (slice_get found) parts.0 ∙ listed) in
        let record_is : due.frame ≡ frame = same_Some due.frame frame (sym due.place.of_frame ∙ ap (λ (x : Discovered). frame_at base x.id) same ∙ at) in
        let keys : due.keys ≡ script found i = due.place.script ∙ ap (script found) parts.0 in
        let is : asked base policy due.frame due.discovered.rank (turn_of f.kind f.key) ≡ asked base policy frame d.rank turn =
        ap (λ (x : Frame). asked base policy x due.discovered.rank (turn_of f.kind f.key)) record_is
        ∙ ap (λ (x : Discovered). asked base policy frame x.rank (turn_of f.kind f.key)) same
        ∙ ap (asked base policy frame d.rank) parts.1 in
        (a.wrong, sym is ∙ a.answered, a.is ∙ ap (λ (x : Discovered). fault_of x.id due.keys a.wrong) same ∙ ap (λ (k : List Key). fault_of d.id k a.wrong) keys)

module _ (base : BaseView) (policy : Policy) (found : List Discovered) (finding : IsFinding policy.groups base found) where
  below_more : (p : ℕ) (f : Fault) → IsDueBelow base policy found p f → IsDueBelow base policy found (p + 1) f
  below_more p f h = record { due = h.due; below = omega (arith, h.below) }

  module _ (i : ℕ) (d : Discovered) (listed : slice_get found i ≡ std.Some d) (frame : Frame) (at : frame_at base d.id ≡ std.Some frame) (turn : ℕ) (small : turn < 14) where
    abbrev p : ℕ
    p = i * 14 + turn

    abbrev mine : FrameFault → Fault
    mine wrong = fault_of d.id (script found i) wrong

    -- no answer: nothing more is due
    none_reported : (faults : List Fault) → asked base policy frame d.rank turn ≡ std.None
        → IsReported base policy found p faults → IsReported base policy found (p + 1) faults
    none_reported faults none reported = record {
      just = All-weaker (IsDueBelow base policy found p) (IsDueBelow base policy found (p + 1)) (below_more p) faults reported.just;
      whole = λ f h. elim (cases_lt (turn_at h.due.index f) p) [
        | inl below ↦ reported.whole f (record { due = h.due; below = below })
        | inr ge ↦
            let w = there_is base policy found finding i d listed frame at turn small f h.due (omega (arith, ge, h.below)) in
            let clash : std.None ≡ std.Some w.0 = sym none ∙ w.1 in
            absurd cc
      ];
      in_order = reported.in_order;
    }

    -- an answer: its fault goes last
    one_reported : (faults : List Fault) (wrong : FrameFault) → asked base policy frame d.rank turn ≡ std.Some wrong
        → IsReported base policy found p faults → IsReported base policy found (p + 1) (faults ++ mine wrong ∷ [])
    one_reported faults wrong some reported =
        let own = due_there base policy found finding i d listed frame at turn small wrong some in
        record {
          just = All-push (IsDueBelow base policy found (p + 1)) faults (mine wrong) (All-weaker (IsDueBelow base policy found p) (IsDueBelow base policy found (p + 1)) (below_more p) faults reported.just) (record { due = own.0; below = omega (arith, own.1) });
          whole = λ f h. elim (cases_lt (turn_at h.due.index f) p) [
            | inl below ↦ Contains-append_left faults (mine wrong ∷ []) f (reported.whole f (record { due = h.due; below = below }))
            | inr ge ↦
                let w = there_is base policy found finding i d listed frame at turn small f h.due (omega (arith, ge, h.below)) in
                let same : wrong ≡ w.0 = same_Some wrong w.0 (sym some ∙ w.1) in
                let is : mine wrong ≡ f = ap mine same ∙ sym w.2 in
                subst (λ (x : Fault). Contains (faults ++ mine wrong ∷ []) x) is (Contains-push faults (mine wrong))
          ];
          in_order = all_pairs_push (ComesBefore found) faults (mine wrong) reported.in_order (λ k x lt.
              let before = All-get_or (IsDueBelow base policy found p) faults k x lt reported.just in
              stands_before base policy found finding (get_or faults k x) (mine wrong) before.due own.0 (omega (arith, before.below, own.1)));
        }

    reported_more : (faults : List Fault) (answer : Option FrameFault) → asked base policy frame d.rank turn ≡ answer
        → IsReported base policy found p faults
        → IsReported base policy found (p + 1) (faults ++ option_to_list (option_map mine answer))
    reported_more faults std.None e reported = subst (IsReported base policy found (p + 1)) (sym (append-nil faults)) (none_reported faults e reported)
    reported_more faults (std.Some wrong) e reported = one_reported faults wrong e reported

    -- a reporter that adds the answer has reported those below the next place
    pub reporting_more : (old new : Reporter) (answer : Option FrameFault) → asked base policy frame d.rank turn ≡ answer
        → IsReporting base policy found p old → HasScript found new.at new.keys.items
        → new.faults.items ≡ old.faults.items ++ option_to_list (option_map mine answer)
        → IsReporting base policy found (p + 1) new
    reporting_more old new answer e reporting script more = record {
      finding = finding;
      script = script;
      reported = subst (IsReported base policy found (p + 1)) (sym more) (reported_more old.faults.items answer e reporting.reported);
    }

  -- those of all places are those of the base
  pub all_reported : (faults : List Fault) → IsReported base policy found (length found * 14) faults
      → AreDue base policy found faults
  all_reported faults reported = record {
    just = λ f. (
      (λ h. subst (λ (x : Fault). IsDue base policy found x) h.2 (reported.just h.0 f h.1).due),
      (λ due. reported.whole f (record { due = due; below = before_end base policy found finding f due })),
    );
    in_order = reported.in_order;
  }

-- one answer more, of the frame at an index
pub step : (survey : SurveyView) (policy : Policy) (i : ℕ) (d : Discovered) (listed : slice_get survey.found i ≡ std.Some d) (frame : Frame) (at : IsFrameAt survey i frame) (p q turn : ℕ) → turn < 14 → p ≡ i * 14 + turn → q ≡ p + 1 → (old new : Reporter) (answer : Option FrameFault) → asked survey.base policy frame d.rank turn ≡ answer → IsReporting survey.base policy survey.found p old → HasScript survey.found new.at new.keys.items → new.faults.items ≡ old.faults.items ++ option_to_list (option_map (fault_of d.id (script survey.found i)) answer) → IsReporting survey.base policy survey.found q new
step survey policy i d listed frame at p q turn small here next old new answer e reporting script more =
    let before = subst (λ (n : ℕ). IsReporting survey.base policy survey.found n old) here reporting in
    subst (λ (n : ℕ). IsReporting survey.base policy survey.found n new) (omega (arith, here, next)) (reporting_more survey.base policy survey.found reporting.finding i d listed frame (at d listed) turn small old new answer e before script more)
