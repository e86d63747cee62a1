-- What is sent leaves on a terminal what the frames alone leave on a new one, with the centre's rows.
use Rattle.std.proofs.Common.{◌≡◌, ◌≢◌, ℕ, ◌+◌, ◌<◌, ◌≤◌, ◌⊎◌, inl, inr, arith, refl, ap, sym, ◌∙◌, subst, Bool, true, false, List, [], ◌∷◌, ◌++◌, Option, Some, None, ◌==◌, nat_lt, if◌then◌else◌, length, take, drop, get_or, set, replicate, append_assoc, length-append, get_or-set_other, get_or-set_same}
use Rattle.std.proofs.lemmas.List.{length-drop, length-set, length-take-le, take-append-le, take_all, get_or-take, get_or-drop, get_or_past, ext_get_or, length-replicate}
use Rattle.std.proofs.Math.Seq.{drop-append-add}
use Rattle.std.proofs.lemmas.Bool.{cases_eq, cases_lt}
use Rattle.std.proofs.lemmas.Bool.Decides.{nat_tests}
use Rattle.terminal_codes.specs.declared.caret.Caret.{Caret}
use Rattle.terminal_codes.specs.Screen.{Screen, IsScreen, code_of, control_step, with_code, byte_step, run}
use Rattle.terminal_codes.specs.Writes.{caret_of, writes, caret_run, stored}
use Rattle.terminal_codes.proofs.Runs.{caret_of_run, runs_alike, run_append}
use Rattle.terminal_codes.proofs.Stores.{stores_writes, screen_of_run}
use Rattle.frame_screens.specs.Screens.{new_terminal}
use Rattle.served_bytes.specs.Rows.{text_row, top_bytes, bottom_bytes, back_bytes}
use Rattle.served_bytes.specs.Seven.{in_seven}
use Rattle.served_bytes.specs.Sent.{Sending, Paints, Says, home, sending_bytes, sent_bytes}
use Rattle.served_bytes.specs.Seen.{frames_in, last_top, last_words, between_rows, with_texts, ServesExactly}
use Rattle.served_bytes.proofs.Centre.{screen, same_screen, is_row, painted_back, said_back}
use Rattle.served_bytes.proofs.SevenBits.{same_in_seven}

-- Cells that two lists share.

-- the cell at which both lists get one number; or none, past their ends
set_in_both : (xs ys : List ℕ) (p v : ℕ) → length xs ≡ length ys → (p < length xs) ⊎ (length xs ≤ p) → get_or (set xs p v) p 0 ≡ get_or (set ys p v) p 0
set_in_both xs ys p v n (inl lt) = get_or-set_same xs p v 0 lt ∙ sym (get_or-set_same ys p v 0 (omega arith))
set_in_both xs ys p v n (inr ge) =
    let in_xs : length (set xs p v) ≤ p = omega (arith, length-set xs p v) in
    let in_ys : length (set ys p v) ≤ p = omega (arith, length-set ys p v) in
    get_or_past (set xs p v) p 0 in_xs ∙ sym (get_or_past (set ys p v) p 0 in_ys)

set_alike : (xs ys : List ℕ) (q v p : ℕ) → length xs ≡ length ys → get_or xs p 0 ≡ get_or ys p 0 → (p ≡ q) ⊎ (p ≢ q) → get_or (set xs q v) p 0 ≡ get_or (set ys q v) p 0
set_alike xs ys q v p n h (inl e) = subst (λ (k : ℕ). get_or (set xs q v) k 0 ≡ get_or (set ys q v) k 0) (sym e) (set_in_both xs ys q v n (cases_lt q (length xs)))
set_alike xs ys q v p n h (inr differs) = get_or-set_other xs q p v 0 differs ∙ (h ∙ sym (get_or-set_other ys q p v 0 differs))

-- storing the same pairs in two lists of one length keeps what they share
same_cell : (xs ys : List ℕ) (ws : List (ℕ × ℕ)) (p : ℕ) → length xs ≡ length ys → get_or xs p 0 ≡ get_or ys p 0 → get_or (stored xs ws) p 0 ≡ get_or (stored ys ws) p 0
same_cell xs ys [] p n h = h
same_cell xs ys (w ∷ ws) p n h =
    let long : length (set xs w.0 w.1) ≡ length (set ys w.0 w.1) = length-set xs w.0 w.1 ∙ (n ∙ sym (length-set ys w.0 w.1)) in
    same_cell (set xs w.0 w.1) (set ys w.0 w.1) ws p long (set_alike xs ys w.0 w.1 p n h (cases_eq p w.0))

cell_of_run : (t : Screen) (bytes : List ℕ) → IsScreen t → (p : ℕ) → get_or (run t bytes).cells p 0 ≡ get_or (stored t.cells (writes t bytes)) p 0
cell_of_run t bytes v p = ap (λ (xs : List ℕ). get_or xs p 0) (stores_writes t bytes v).cells

-- Rows 1 to 22.

abbrev inside : List ℕ → List ℕ
inside cells = take 880 (drop 40 cells)

at_inside : (cells : List ℕ) (k : ℕ) → k < 880 → get_or (inside cells) k 0 ≡ get_or cells (40 + k) 0
at_inside cells k lt = get_or-take 880 (drop 40 cells) k 0 lt ∙ get_or-drop 40 cells k 0

length_inside : (cells : List ℕ) → length cells ≡ 960 → length (inside cells) ≡ 880
length_inside cells n = length-take-le 880 (drop 40 cells) (omega (arith, length-drop 40 cells))

-- the same writes keep rows 1 to 22 the same
inside_after : (u v : Screen) (bytes : List ℕ) → IsScreen u → IsScreen v → inside u.cells ≡ inside v.cells → writes u bytes ≡ writes v bytes → inside (run u bytes).cells ≡ inside (run v bytes).cells
inside_after u v bytes su sv same e =
    let nu : length (inside (run u bytes).cells) ≡ 880 = length_inside (run u bytes).cells (screen_of_run u bytes su).cells in
    let nv : length (inside (run v bytes).cells) ≡ 880 = length_inside (run v bytes).cells (screen_of_run v bytes sv).cells in
    ext_get_or 0 (inside (run u bytes).cells) (inside (run v bytes).cells) (nu ∙ sym nv) (λ k lt. at k (omega arith)) where
      at : (k : ℕ) → k < 880 → get_or (inside (run u bytes).cells) k 0 ≡ get_or (inside (run v bytes).cells) k 0
      at k lt =
          let before : get_or u.cells (40 + k) 0 ≡ get_or v.cells (40 + k) 0 = sym (at_inside u.cells k lt) ∙ (ap (λ (xs : List ℕ). get_or xs k 0) same ∙ at_inside v.cells k lt) in
          let stores = same_cell u.cells v.cells (writes u bytes) (40 + k) (su.cells ∙ sym sv.cells) before in
          let after = cell_of_run u bytes su (40 + k) ∙ (stores ∙ (ap (λ (ws : List (ℕ × ℕ)). get_or (stored v.cells ws) (40 + k) 0) e ∙ sym (cell_of_run v bytes sv (40 + k)))) in
          at_inside (run u bytes).cells k lt ∙ (after ∙ sym (at_inside (run v bytes).cells k lt))

module _ (top bottom cells : List ℕ) (above : length top ≡ 40) (whole : length cells ≡ 960) where
  seam : length top + 0 ≡ 40
  seam = omega arith

  inside_between : inside (between_rows top bottom cells) ≡ inside cells
  inside_between =
      let part = inside cells in
      let rest : drop 40 (top ++ (part ++ bottom)) ≡ part ++ bottom = subst (λ (k : ℕ). drop k (top ++ (part ++ bottom)) ≡ part ++ bottom) seam (drop-append-add top (part ++ bottom) 0) in
      let long : length part ≡ 880 = length_inside cells whole in
      ap (λ (xs : List ℕ). take 880 (drop 40 xs)) (append_assoc top part bottom) ∙ (ap (take 880) rest ∙ (take-append-le 880 part bottom (omega arith) ∙ take_all 880 part (omega arith)))

  -- all but row 23
  before_row_23 : take 920 (between_rows top bottom cells) ≡ top ++ inside cells
  before_row_23 =
      let long : length (top ++ inside cells) ≡ 920 = omega (arith, length-append top (inside cells), length_inside cells whole, above) in
      take-append-le 920 (top ++ inside cells) bottom (omega arith) ∙ take_all 920 (top ++ inside cells) (omega arith)

with_texts_screen : (top words : List ℕ) (t : Screen) → IsScreen t → IsScreen (with_texts top words t)
with_texts_screen top words t v = record {
  cells = omega (arith, length-append (text_row top ++ inside t.cells) (text_row words), length-append (text_row top) (inside t.cells), length_inside t.cells v.cells, (is_row top).long, (is_row words).long);
  at = v.at;
}

-- Whether the cursor is visible: bytes alone decide.

abbrev shown_by : Bool → ℕ → Bool
shown_by v b = if b == 17 then true else if b == 20 then false else v

visible_of_code : (t : Screen) (code : Option ℕ) → (with_code t code).visible ≡ t.visible
visible_of_code t None = refl
visible_of_code t (Some code) = refl

visible_of_control : (t : Screen) (b : ℕ) → (control_step t b).visible ≡ shown_by t.visible b
visible_of_control t b =
    elim (cases_eq b 27) [
      | inl e ↦ subst (λ (k : ℕ). (control_step t k).visible ≡ shown_by t.visible k) (sym e) refl
      | inr n27 ↦
          elim (cases_eq b 12) [
            | inl e ↦ subst (λ (k : ℕ). (control_step t k).visible ≡ shown_by t.visible k) (sym e) refl
            | inr n12 ↦
                elim (cases_eq b 17) [
                  | inl e ↦ subst (λ (k : ℕ). (control_step t k).visible ≡ shown_by t.visible k) (sym e) refl
                  | inr n17 ↦
                      elim (cases_eq b 20) [
                        | inl e ↦ subst (λ (k : ℕ). (control_step t k).visible ≡ shown_by t.visible k) (sym e) refl
                        | inr n20 ↦
                            let not_27 : (b == 27) ≡ false = grind (arith, nat_tests) in
                            let not_12 : (b == 12) ≡ false = grind (arith, nat_tests) in
                            let not_17 : (b == 17) ≡ false = grind (arith, nat_tests) in
                            let not_20 : (b == 20) ≡ false = grind (arith, nat_tests) in
                            rw (not_27, not_12, not_17, not_20) refl
                      ]
                ]
          ]
    ]

visible_by : (t : Screen) (b : ℕ) (low : Bool) → nat_lt b 32 ≡ low → (byte_step t b).visible ≡ shown_by t.visible b
visible_by t b true e = rw e (visible_of_control t b)
visible_by t b false e =
    let not_17 : (b == 17) ≡ false = grind (arith, nat_tests) in
    let not_20 : (b == 20) ≡ false = grind (arith, nat_tests) in
    let step : (byte_step t b).visible ≡ (with_code t (code_of t.pending b)).visible = ap (λ (r : Bool). (if r then control_step t b else with_code t (code_of t.pending b)).visible) e in
    step ∙ (visible_of_code t (code_of t.pending b) ∙ rw (not_17, not_20) refl)

visible_after : (u v : Screen) (bytes : List ℕ) → u.visible ≡ v.visible → (run u bytes).visible ≡ (run v bytes).visible
visible_after u v [] e = e
visible_after u v (b ∷ bs) e = visible_after (byte_step u b) (byte_step v b) bs (visible_by u b (nat_lt b 32) refl ∙ (ap (λ (q : Bool). shown_by q b) e ∙ sym (visible_by v b (nat_lt b 32) refl)))

-- Two terminals that differ in rows 0 and 23 alone.

record Twins (u v : Screen) : Type 0 where
  left : IsScreen u
  right : IsScreen v
  rows : inside u.cells ≡ inside v.cells
  caret : caret_of u ≡ caret_of v
  visible : u.visible ≡ v.visible

twins_after : (u v : Screen) (bytes : List ℕ) → Twins u v → Twins (run u bytes) (run v bytes)
twins_after u v bytes h =
    let alike = runs_alike u v bytes h.caret in
    record {
      left = screen_of_run u bytes h.left;
      right = screen_of_run v bytes h.right;
      rows = inside_after u v bytes h.left h.right h.rows alike.writes;
      caret = alike.ends;
      visible = visible_after u v bytes h.visible;
    }

with_twin : (top words : List ℕ) (t : Screen) → IsScreen t → Twins (with_texts top words t) t
with_twin top words t v = record {
  left = with_texts_screen top words t v;
  right = v;
  rows = inside_between (text_row top) (text_row words) t.cells (is_row top).long v.cells;
  caret = refl;
  visible = refl;
}

-- One frame, and words alone.

module _ (top words : List ℕ) (v : Screen) (c : Caret) (on : IsScreen v) (here : caret_of v ≡ c) where
  abbrev shown : Screen
  shown = with_texts top words v

  caret_sent : (frame : List ℕ) → caret_of (run v frame) ≡ caret_run c frame
  caret_sent frame = caret_of_run v frame ∙ ap (λ (k : Caret). caret_run k frame) here

  painted : (frame next : List ℕ) → run shown (sending_bytes c (Paints frame next)) ≡ with_texts next [] (run v frame)
  painted frame next =
      let after = twins_after shown v frame (with_twin top words v on) in
      let there = caret_sent frame in
      let within : (caret_run c frame).at < 960 = subst (λ (k : Caret). k.at < 960) there after.right.at in
      let rest = top_bytes next ++ (bottom_bytes [] ++ back_bytes (caret_run c frame)) in
      run_append shown (in_seven frame) rest
      ∙ (ap (λ (u : Screen). run u rest) (same_in_seven frame shown)
      ∙ (painted_back next [] (caret_run c frame) within (run shown frame) after.left
      ∙ (same_screen (run shown frame).visible (ap (λ (rows : List ℕ). (text_row next ++ rows) ++ text_row []) after.rows) (ap (λ (k : Caret). k.at) (sym there)) (ap (λ (k : Caret). k.pending) (sym there))
      ∙ ap (λ (q : Bool). screen (between_rows (text_row next) (text_row []) (run v frame).cells) (run v frame).at (run v frame).pending q) after.visible)))

  said : (next : List ℕ) → run shown (sending_bytes c (Says next)) ≡ with_texts top next v
  said next =
      let within : c.at < 960 = subst (λ (k : Caret). k.at < 960) here on.at in
      let front = before_row_23 (text_row top) (text_row words) v.cells (is_row top).long on.cells in
      said_back next c within shown (with_texts_screen top words v on)
      ∙ same_screen v.visible (ap (λ (rows : List ℕ). rows ++ text_row next) front) (ap (λ (k : Caret). k.at) (sym here)) (ap (λ (k : Caret). k.pending) (sym here))

-- All in turn.

sent_from : (sendings : List Sending) (top words : List ℕ) (v : Screen) (c : Caret) → IsScreen v → caret_of v ≡ c
    → run (with_texts top words v) (sent_bytes c sendings) ≡ with_texts (last_top top sendings) (last_words words sendings) (run v (frames_in sendings))
sent_from [] top words v c on here = refl
sent_from (Paints frame next ∷ more) top words v c on here =
    let u = with_texts top words v in
    let rest = sent_bytes (caret_run c frame) more in
    let on_next = screen_of_run v frame on in
    run_append u (sending_bytes c (Paints frame next)) rest
    ∙ (ap (λ (k : Screen). run k rest) (painted top words v c on here frame next)
    ∙ (sent_from more next [] (run v frame) (caret_run c frame) on_next (caret_sent top words v c on here frame)
    ∙ ap (with_texts (last_top next more) (last_words [] more)) (sym (run_append v frame (frames_in more)))))
sent_from (Says next ∷ more) top words v c on here =
    let u = with_texts top words v in
    let rest = sent_bytes c more in
    run_append u (sending_bytes c (Says next)) rest
    ∙ (ap (λ (k : Screen). run k rest) (said top words v c on here next) ∙ sent_from more top next v c on here)

-- How it begins.

pub blank : text_row [] ≡ replicate 40 32
unfolding text_row
blank = refl

new_screen : IsScreen new_terminal
new_screen = record { cells = length-replicate {A = ℕ} 960 32; at = omega arith }

blank_between : between_rows (replicate 40 32) (replicate 40 32) (replicate 960 32) ≡ replicate 960 32
blank_between = refl

blank_cells : between_rows (text_row []) (text_row []) (replicate 960 32) ≡ replicate 960 32
blank_cells = ap (λ (row : List ℕ). between_rows row row (replicate 960 32)) blank ∙ blank_between

blank_texts : with_texts [] [] new_terminal ≡ new_terminal
blank_texts = same_screen true blank_cells refl refl

pub serves_exactly : ServesExactly
serves_exactly sendings t = ap (λ (u : Screen). run u (sent_bytes home sendings)) (sym blank_texts) ∙ sent_from sendings [] [] new_terminal home new_screen refl
