-- What frames leave in rows 0, 22 and 23.
use Rattle.std.proofs.Common.{◌≡◌, ◌≢◌, ◌∙◌, ◌<◌, ◌≤◌, ℕ, suc, Bool, true, false, ◌||◌, ◌&&◌, List, [], ◌∷◌, ◌++◌, Option, Some, None, refl, sym, ap, subst, inl, inr, length, get_or, set, take, cond, arith, get_or-set_other, get_or-set_same, slice_index, nat_lt}
use Rattle.std.proofs.lemmas.List.{length-set, length-replicate, get_or-replicate, get_or_past}
use Rattle.std.proofs.lemmas.List.Folds.{list_any-append}
use Rattle.std.proofs.lemmas.Bool.{cases_eq, false_from_ne_true, or_from, or_parts}
use Rattle.std.proofs.lemmas.Bool.Decides.{nat_tests}
use Rattle.std.proofs.lemmas.List.{append-nil}
use Rattle.std.specs.List.{AllByRecursion}
use Rattle.page_ids.specs.Ids.{Id}
use Rattle.frame_records.specs.declared.frame.Frame.{Frame}
use Rattle.frame_records.specs.declared.frame.Lead.{Lead}
use Rattle.frame_records.specs.declared.frame.Lead.TheVariants.{Clear, Keep}
use Rattle.frame_records.specs.Bases.{BaseView, frame_at}
use Rattle.terminal_codes.specs.declared.caret.Caret.{Caret}
use Rattle.terminal_codes.specs.Screen.{Screen, IsScreen, run, byte_step}
use Rattle.terminal_codes.specs.Writes.{caret_of, byte_writes, writes, stored, in_service_row, in_row_22, is_double_height, is_service, has_service}
use Rattle.terminal_codes.specs.Bodies.{lead_codes, IsClean}
use Rattle.terminal_codes.proofs.Runs.{run_append, runs_alike}
use Rattle.terminal_codes.proofs.Stores.{stores_writes, screen_of_run}
use Rattle.session_machine.specs.declared.reply.Reply.{Reply}
use Rattle.session_machine.specs.declared.reply.Reply.TheVariants.{Shown, Again, NotOffered, Missing, Closed, Gone}
use Rattle.checker.specs.Safe.{IsCleanAt, IsCleanReply}
use Rattle.frame_screens.specs.Frames.{sent_in}
use Rattle.frame_screens.specs.Screens.{new_terminal, with_frame, with_frames, and_record, records, is_clearing}
use Rattle.frame_screens.specs.Laws.{has_clearing, cell, KeepsServiceRows, HasBlankServiceRows, AreSentAlike, LooksSame}

-- Pairs stored in cells.

-- a pair that isn't in a service row is elsewhere
elsewhere : (p q code : ℕ) → in_service_row p ≡ true → is_service q code ≡ false → p ≢ q
elsewhere p q code inside out same =
    let there : in_service_row q ≡ true = subst (λ (n : ℕ). in_service_row n ≡ true) same inside in
    let parts = or_parts (in_service_row q) (is_double_height code && in_row_22 q) out in
    let no : in_service_row q ≡ false = parts.0 in
    cc

rows_stored : (ws : List (ℕ × ℕ)) (cells : List ℕ) (p : ℕ) → has_service ws ≡ false → in_service_row p ≡ true → get_or (stored cells ws) p 32 ≡ get_or cells p 32
rows_stored [] cells p quiet inside = refl
rows_stored (w ∷ ws) cells p quiet inside =
    let parts = or_parts (is_service w.0 w.1) (has_service ws) quiet in
    rows_stored ws (set cells w.0 w.1) p parts.1 inside ∙ get_or-set_other cells w.0 p w.1 32 (elsewhere p w.0 w.1 inside parts.0)

and_true : (a b : Bool) → (a && b) ≡ false → b ≡ true → a ≡ false
and_true true true h e = h
and_true false b h e = refl
and_true true false h e = absurd cc

-- in row 22 it isn't double height
single : (q code : ℕ) → is_service q code ≡ false → in_row_22 q ≡ true → is_double_height code ≡ false
single q code out inside = and_true (is_double_height code) (in_row_22 q) (or_parts (in_service_row q) (is_double_height code && in_row_22 q) out).1 inside

row_22_small : (p : ℕ) → in_row_22 p ≡ true → p < 920
row_22_small p inside = grind (arith, nat_tests)

above_stored : (ws : List (ℕ × ℕ)) (cells : List ℕ) (p : ℕ) → p < length cells → has_service ws ≡ false → in_row_22 p ≡ true
    → is_double_height (get_or cells p 32) ≡ false → is_double_height (get_or (stored cells ws) p 32) ≡ false
above_stored [] cells p lt quiet inside before = before
above_stored (w ∷ ws) cells p lt quiet inside before =
    let parts = or_parts (is_service w.0 w.1) (has_service ws) quiet in
    let next = set cells w.0 w.1 in
    let long : p < length next = omega (arith, length-set cells w.0 w.1) in
    let here : is_double_height (get_or next p 32) ≡ false =
    elim (cases_eq p w.0) [
      | inl e ↦
          let there : in_row_22 w.0 ≡ true = subst (λ (n : ℕ). in_row_22 n ≡ true) e inside in
          let at : w.0 < length cells = omega arith in
          let is : get_or next p 32 ≡ w.1 = ap (λ (n : ℕ). get_or next n 32) e ∙ get_or-set_same cells w.0 w.1 32 at in
          ap is_double_height is ∙ single w.0 w.1 parts.0 there
      | inr n ↦ ap is_double_height (get_or-set_other cells w.0 p w.1 32 n) ∙ before
    ] in
    above_stored ws next p long parts.1 inside here

-- A clean body.

body_quiet : (t : Screen) (body : List ℕ) → ((i : ℕ) → i < length body → has_service (writes (run t (take i body)) (slice_index body i ∷ [])) ≡ true → ⊥) → has_service (writes t body) ≡ false
body_quiet t [] h = refl
body_quiet t (b ∷ bs) h =
    let one = byte_writes (caret_of t) b in
    let lt : 0 < suc (length bs) = omega arith in
    let first : has_service one ≡ false = false_from_ne_true (has_service one) (λ e. h 0 lt (ap has_service (append-nil one) ∙ e)) in
    let rest : has_service (writes (byte_step t b) bs) ≡ false = body_quiet (byte_step t b) bs (λ i small e. h (suc i) (omega arith) e) in
    list_any-append (λ (w : ℕ × ℕ). is_service w.0 w.1) one (writes (byte_step t b) bs) ∙ or_from (has_service one) (has_service (writes (byte_step t b) bs)) first rest

clean_quiet : (lead : Lead) (body : List ℕ) (t : Screen) → IsClean lead body → IsScreen t → has_service (writes (run t (lead_codes lead)) body) ≡ false
clean_quiet lead body t clean v =
    body_quiet (run t (lead_codes lead)) body
    (λ i lt e. clean i (t, v, (lt, ap (λ (u : Screen). has_service (writes u (slice_index body i ∷ []))) (run_append t (lead_codes lead) (take i body)) ∙ e)))

-- A lead.

blank_by : (p : ℕ) (b : Bool) → nat_lt p 960 ≡ b → cell new_terminal p ≡ 32
blank_by p true e = let lt : p < 960 = grind (arith, nat_tests) in get_or-replicate {A = ℕ} 960 p 32 32 lt
blank_by p false e =
    let past : 960 ≤ p = grind (arith, nat_tests) in
    get_or_past {X = ℕ} new_terminal.cells p 32 (omega (arith, past, length-replicate {A = ℕ} 960 32))

blank_cell : (p : ℕ) → cell new_terminal p ≡ 32
blank_cell p = blank_by p (nat_lt p 960) refl

after_lead : (lead : Lead) (t : Screen) (p : ℕ) → cell (run t (lead_codes lead)) p ≡ cond (is_clearing lead) 32 (cell t p)
after_lead Clear t p = blank_cell p
after_lead Keep t p = refl

above_lead : (lead : Lead) (t : Screen) (p : ℕ) → is_double_height (cell t p) ≡ false → is_double_height (cell (run t (lead_codes lead)) p) ≡ false
above_lead Clear t p before = ap is_double_height (blank_cell p)
above_lead Keep t p before = before

-- A frame, and frames in turn.

abbrev IsCleanFrame : Frame → Type 0
IsCleanFrame f = IsClean f.lead f.body

module _ (t : Screen) (f : Frame) (clean : IsCleanFrame f) (v : IsScreen t) where
  after : Screen
  after = run t (lead_codes f.lead)

  pub screen_of_frame : IsScreen (with_frame t f)
  screen_of_frame = screen_of_run (run t (lead_codes f.lead)) f.body (screen_of_run t (lead_codes f.lead) v)

  pub frame_rows : (p : ℕ) → in_service_row p ≡ true → cell (with_frame t f) p ≡ cond (is_clearing f.lead) 32 (cell t p)
  frame_rows p inside =
      let u = run t (lead_codes f.lead) in
      let s = stores_writes u f.body (screen_of_run t (lead_codes f.lead) v) in
      ap (λ (xs : List ℕ). get_or xs p 32) s.cells ∙ rows_stored (writes u f.body) u.cells p (clean_quiet f.lead f.body t clean v) inside ∙ after_lead f.lead t p

  pub frame_above : (p : ℕ) → in_row_22 p ≡ true → is_double_height (cell t p) ≡ false → is_double_height (cell (with_frame t f) p) ≡ false
  frame_above p inside before =
      let u = run t (lead_codes f.lead) in
      let on = screen_of_run t (lead_codes f.lead) v in
      let s = stores_writes u f.body on in
      let lt : p < length u.cells = omega (arith, row_22_small p inside, on.cells) in
      ap (λ (xs : List ℕ). is_double_height (get_or xs p 32)) s.cells ∙ above_stored (writes u f.body) u.cells p lt (clean_quiet f.lead f.body t clean v) inside (above_lead f.lead t p before)

either_clears : (a b : Bool) (n : ℕ) → cond b 32 (cond a 32 n) ≡ cond (a || b) 32 n
either_clears true true n = refl
either_clears true false n = refl
either_clears false true n = refl
either_clears false false n = refl

frames_rows : (fs : List Frame) (t : Screen) (p : ℕ) → AllByRecursion IsCleanFrame fs → IsScreen t → in_service_row p ≡ true → cell (with_frames t fs) p ≡ cond (has_clearing fs) 32 (cell t p)
frames_rows [] t p clean v inside = refl
frames_rows (f ∷ fs) t p clean v inside =
    frames_rows fs (with_frame t f) p clean.1 (screen_of_frame t f clean.0 v) inside
    ∙ ap (λ (n : ℕ). cond (has_clearing fs) 32 n) (frame_rows t f clean.0 v p inside)
    ∙ either_clears (is_clearing f.lead) (has_clearing fs) (cell t p)

frames_above : (fs : List Frame) (t : Screen) (p : ℕ) → AllByRecursion IsCleanFrame fs → IsScreen t → in_row_22 p ≡ true → is_double_height (cell t p) ≡ false → is_double_height (cell (with_frames t fs) p) ≡ false
frames_above [] t p clean v inside before = before
frames_above (f ∷ fs) t p clean v inside before = frames_above fs (with_frame t f) p clean.1 (screen_of_frame t f clean.0 v) inside (frame_above t f clean.0 v p inside before)

keeps_rows : (fs : List Frame) → AllByRecursion IsCleanFrame fs → (t : Screen) → IsScreen t → KeepsServiceRows t fs
keeps_rows fs clean t v = record { rows = λ p inside. frames_rows fs t p clean v inside; above = λ p inside before. frames_above fs t p clean v inside before }

pub new_is_screen : IsScreen new_terminal
new_is_screen = record { cells = length-replicate {A = ℕ} 960 32; at = omega arith }

blank_either : (b : Bool) (n : ℕ) → n ≡ 32 → cond b 32 n ≡ 32
blank_either true n e = refl
blank_either false n e = e

blank_rows : (fs : List Frame) → AllByRecursion IsCleanFrame fs → HasBlankServiceRows (with_frames new_terminal fs)
blank_rows fs clean =
    let keeps = keeps_rows fs clean new_terminal new_is_screen in
    record {
      rows = λ p inside. keeps.rows p inside ∙ blank_either (has_clearing fs) (cell new_terminal p) (blank_cell p);
      above = λ p inside. keeps.above p inside (ap is_double_height (blank_cell p));
    }

-- The frames of clean replies.

clean_by : (r : Option Frame) (f : Frame) (fs : List Frame) → r ≡ Some f → IsCleanFrame f → AllByRecursion IsCleanFrame fs → AllByRecursion IsCleanFrame (and_record fs r)
clean_by None f fs e clean all = absurd cc
clean_by (Some g) f fs e clean all = let same : f ≡ g = cc in (subst IsCleanFrame same clean, all)

clean_records : (base : BaseView) (ids : List Id) → AllByRecursion (IsCleanAt base) ids → AllByRecursion IsCleanFrame (records base ids)
clean_records base [] all = tt
clean_records base (id ∷ ids) all = clean_by (frame_at base id) all.0.frame (records base ids) all.0.found all.0.clean (clean_records base ids all.1)

clean_sent : (base : BaseView) (replies : List Reply) → AllByRecursion (IsCleanReply base) replies → AllByRecursion (IsCleanAt base) (sent_in replies)
clean_sent base [] all = tt
clean_sent base (Shown id price ∷ replies) all = (all.0, clean_sent base replies all.1)
clean_sent base (Again id ∷ replies) all = (all.0, clean_sent base replies all.1)
clean_sent base (NotOffered ∷ replies) all = clean_sent base replies all.1
clean_sent base (Missing id ∷ replies) all = clean_sent base replies all.1
clean_sent base (Closed id ∷ replies) all = clean_sent base replies all.1
clean_sent base (Gone page ∷ replies) all = clean_sent base replies all.1

pub seen_any : (base : BaseView) (entry : Id) (replies : List Reply) → IsCleanAt base entry → AllByRecursion (IsCleanReply base) replies → (t : Screen) → IsScreen t → KeepsServiceRows t (records base (entry ∷ sent_in replies))
seen_any base entry replies first all = keeps_rows (records base (entry ∷ sent_in replies)) (clean_records base (entry ∷ sent_in replies) (first, clean_sent base replies all))

pub seen_new : (base : BaseView) (entry : Id) (replies : List Reply) → IsCleanAt base entry → AllByRecursion (IsCleanReply base) replies → HasBlankServiceRows (with_frames new_terminal (records base (entry ∷ sent_in replies)))
seen_new base entry replies first all = blank_rows (records base (entry ∷ sent_in replies)) (clean_records base (entry ∷ sent_in replies) (first, clean_sent base replies all))

-- What a screen depends on.

pub alike : (t : Screen) (fs gs : List Frame) → AreSentAlike fs gs → with_frames t fs ≡ with_frames t gs
alike t [] [] same = refl
alike t [] (g ∷ gs) same = absurd same
alike t (f ∷ fs) [] same = absurd same
alike t (f ∷ fs) (g ∷ gs) same =
    let one : with_frame t f ≡ with_frame t g = ap (λ (lead : Lead). run (run t (lead_codes lead)) f.body) same.0.lead ∙ ap (λ (body : List ℕ). run (run t (lead_codes g.lead)) body) same.0.body in
    ap (λ (u : Screen). with_frames u fs) one ∙ alike (with_frame t g) fs gs same.1

pub in_turn : (t : Screen) (fs gs : List Frame) → with_frames t (fs ++ gs) ≡ with_frames (with_frames t fs) gs
in_turn t [] gs = refl
in_turn t (f ∷ fs) gs = in_turn (with_frame t f) fs gs

caret_same : (a b : ℕ) (p q : Bool) → a ≡ b → p ≡ q → (let c : Caret = record { at = a; pending = p } in c) ≡ record { at = b; pending = q }
caret_same a b p q e f = ap (λ (n : ℕ). let c : Caret = record { at = n; pending = p } in c) e ∙ ap (λ (x : Bool). let c : Caret = record { at = b; pending = x } in c) f

-- bytes on terminals that look the same
bytes_alike : (t u : Screen) (bytes : List ℕ) → IsScreen t → IsScreen u → LooksSame t u → LooksSame (run t bytes) (run u bytes)
bytes_alike t u bytes v w same =
    let both = runs_alike t u bytes (caret_same t.at u.at t.pending u.pending same.at same.pending) in
    record {
      cells = (stores_writes t bytes v).cells ∙ ap (λ (xs : List ℕ). stored xs (writes t bytes)) same.cells ∙ ap (stored u.cells) both.writes ∙ sym (stores_writes u bytes w).cells;
      at = ap (λ (c : Caret). c.at) both.ends;
      pending = ap (λ (c : Caret). c.pending) both.ends;
    }

pub frames_alike : (t u : Screen) (fs : List Frame) → IsScreen t → IsScreen u → LooksSame t u → LooksSame (with_frames t fs) (with_frames u fs)
frames_alike t u [] v w same = same
frames_alike t u (f ∷ fs) v w same =
    let lead = lead_codes f.lead in
    let a = screen_of_run t lead v in
    let b = screen_of_run u lead w in
    let led = bytes_alike t u lead v w same in
    let sent = bytes_alike (run t lead) (run u lead) f.body a b led in
    frames_alike (with_frame t f) (with_frame u f) fs (screen_of_run (run t lead) f.body a) (screen_of_run (run u lead) f.body b) sent

cleared_is_screen : (t : Screen) → IsScreen (run t (lead_codes Clear))
cleared_is_screen t = record { cells = length-replicate {A = ℕ} 960 32; at = omega arith }

cleared_by : (t u : Screen) (lead : Lead) (body : List ℕ) (fs : List Frame) → lead ≡ Clear → LooksSame (with_frames (run (run t (lead_codes lead)) body) fs) (with_frames (run (run u (lead_codes lead)) body) fs)
cleared_by t u Keep body fs e = absurd cc
cleared_by t u Clear body fs e =
    let a = cleared_is_screen t in
    let b = cleared_is_screen u in
    let led : LooksSame (run t (lead_codes Clear)) (run u (lead_codes Clear)) = record { cells = refl; at = refl; pending = refl } in
    let sent = bytes_alike (run t (lead_codes Clear)) (run u (lead_codes Clear)) body a b led in
    frames_alike (run (run t (lead_codes Clear)) body) (run (run u (lead_codes Clear)) body) fs (screen_of_run (run t (lead_codes Clear)) body a) (screen_of_run (run u (lead_codes Clear)) body b) sent

pub cleared : (t u : Screen) (f : Frame) (fs : List Frame) → f.lead ≡ Clear → LooksSame (with_frames t (f ∷ fs)) (with_frames u (f ∷ fs))
cleared t u f fs e = cleared_by t u f.lead f.body fs e
