-- The frames since the last that clears.
use Rattle.std.proofs.Common.{◌≡◌, ◌<◌, ◌≤◌, ◌||◌, ◌+◌, ℕ, zero, suc, Bool, true, false, List, [], ◌∷◌, Option, Some, None, ◌∙◌, refl, sym, ap, subst, drop, length, get_or, arith}
use Rattle.std.proofs.lemmas.Bool.{or_parts}
use Rattle.std.proofs.Math.Bool.{or-false}
use Rattle.std.proofs.lemmas.List.Elements.{All-from_get_or}
use Rattle.std.proofs.lemmas.List.Folds.{list_any_at, list_any_none}
use Rattle.std.specs.List.{All, list_any}
use Rattle.page_ids.specs.Ids.{Id}
use Rattle.frame_records.specs.declared.frame.Frame.{Frame}
use Rattle.frame_records.specs.declared.frame.Lead.{Lead}
use Rattle.frame_records.specs.declared.frame.Lead.TheVariants.{Clear, Keep}
use Rattle.frame_records.specs.Bases.{BaseView, frame_at}
use Rattle.terminal_codes.specs.Screen.{Screen}
use Rattle.frame_screens.specs.Screens.{new_terminal, with_frame, with_frames, and_record, records, is_clearing}
use Rattle.frame_screens.specs.Loops.{clears_by, clears, since_clear}
use Rattle.frame_screens.specs.Laws.{LooksSame}
use Rattle.frame_screens.proofs.Rows.{cleared}

clearing_is_clear : (lead : Lead) → is_clearing lead ≡ true → lead ≡ Clear
clearing_is_clear Clear e = refl
clearing_is_clear Keep e = absurd cc

module _ (base : BaseView) where
  -- what is sent before a frame that clears doesn't show
  abbrev Decides : List Id → Type 0
  Decides ids = (t u : Screen) → list_any (clears base) ids ≡ true
      → LooksSame (with_frames t (records base (since_clear base ids))) (with_frames u (records base ids))

  decides_by : (id : Id) (ids : List Id) → Decides ids → (o : Option Frame) (later : Bool) → frame_at base id ≡ o
      → list_any (clears base) ids ≡ later → (clears_by o || later) ≡ true → (t u : Screen)
      → LooksSame (with_frames t (records base (since_clear base (id ∷ ids)))) (with_frames u (records base (id ∷ ids)))
  decides_by id ids on None true at later any t u = rw (at, later) (on t u later)
  decides_by id ids on (Some f) true at later any t u = rw (at, later) (on t (with_frame u f) later)
  decides_by id ids on None false at later any t u = absurd cc
  decides_by id ids on (Some f) false at later any t u =
      let last : since_clear base (id ∷ ids) ≡ id ∷ ids = rw later refl in
      let sent : records base (id ∷ ids) ≡ f ∷ records base ids = ap (and_record (records base ids)) at in
      let clear = clearing_is_clear f.lead (sym (or-false (is_clearing f.lead)) ∙ any) in
      let alone = cleared t u f (records base ids) clear in
      subst (λ (shown : List Id). LooksSame (with_frames t (records base shown)) (with_frames u (records base (id ∷ ids)))) (sym last)
      (subst (λ (fs : List Frame). LooksSame (with_frames t fs) (with_frames u fs)) (sym sent) alone)

  decides : (ids : List Id) → Decides ids
  decides [] t u any = absurd cc
  decides (id ∷ ids) t u any =
      decides_by id ids (decides ids) (frame_at base id) (list_any (clears base) ids) refl refl any t u

  since_all : (ids : List Id) → list_any (clears base) ids ≡ false → since_clear base ids ≡ ids
  since_all [] none = refl
  since_all (id ∷ ids) none = rw (or_parts (clears base id) (list_any (clears base) ids) none).1 refl

  looks_by : (ids : List Id) (any : Bool) → list_any (clears base) ids ≡ any
      → LooksSame (with_frames new_terminal (records base (since_clear base ids))) (with_frames new_terminal (records base ids))
  looks_by ids true is = decides ids new_terminal new_terminal is
  looks_by ids false is = rw (since_all ids is) record { cells = refl; at = refl; pending = refl }

  -- sent alone, the frames since the last that clears look the same on a new terminal
  pub looks_since : (ids : List Id)
      → LooksSame (with_frames new_terminal (records base (since_clear base ids))) (with_frames new_terminal (records base ids))
  looks_since ids = looks_by ids (list_any (clears base) ids) refl

  -- the place of the last frame that clears
  pub since_at : (ids : List Id) (i : ℕ) (d : Id) → i < length ids → clears base (get_or ids i d) ≡ true
      → ((k : ℕ) → i + 1 ≤ k → k < length ids → clears base (get_or ids k d) ≡ false) → since_clear base ids ≡ drop i ids
  since_at [] i d inside here after = absurd (omega (arith, inside))
  since_at (id ∷ ids) zero d inside here after =
      let none = list_any_none (clears base) ids (All-from_get_or (λ x. clears base x ≡ false) ids d (λ k lt. after (suc k) (omega arith) (omega arith))) in
      rw none refl
  since_at (id ∷ ids) (suc i) d inside here after =
      let any = list_any_at (clears base) ids i d (omega arith) here in
      rw any (since_at ids i d (omega arith) here (λ k more lt. after (suc k) (omega arith) (omega arith)))

  pub since_none : (ids : List Id) → All (λ id. clears base id ≡ false) ids → since_clear base ids ≡ ids
  since_none ids none = since_all ids (list_any_none (clears base) ids none)
