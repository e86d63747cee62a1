-- What the centre's rows and the way back do.
use Rattle.std.proofs.Common.{◌≡◌, ℕ, zero, suc, ◌+◌, ◌*◌, ◌<◌, ◌≤◌, ◌/◌, ◌%◌, arith, refl, ap, sym, ◌∙◌, subst, Bool, true, false, ◌&&◌, List, [], ◌∷◌, ◌++◌, length, nat_le, nat_lt, get_or, map, set, take, drop, replicate, append_assoc, append-nil, ap₂, length-append}
use Rattle.std.proofs.lemmas.List.{drop_all, length-drop}
use Rattle.std.proofs.lemmas.List.Edits.{sets, sets-eq}
use Rattle.std.proofs.lemmas.List.FromFn.{length-map-range_with_len, map-range_with_len_more}
use Rattle.std.proofs.Math.Seq.{take-append-add}
use Rattle.std.proofs.lemmas.Bool.Decides.{nat_tests}
use Rattle.std.specs.List.{AllByRecursion, range_with_len}
use Rattle.terminal_codes.specs.declared.caret.Caret.{Caret}
use Rattle.terminal_codes.specs.Screen.{Screen, IsScreen, byte_step, run}
use Rattle.terminal_codes.proofs.Runs.{run_append}
use Rattle.served_bytes.specs.Rows.{plain_code, cell_in, text_row, top_bytes, bottom_bytes, pending_escape, back_bytes}
use Rattle.served_bytes.specs.Seen.{between_rows}

-- A row.

-- a character, 20 to 7F
abbrev pub IsPlain : ℕ → Type 0
IsPlain b = (32 ≤ b) × (b < 128)

-- 40 characters
pub record IsPlainRow (row : List ℕ) : Type 0 where
  pub long : length row ≡ 40
  pub plain : AllByRecursion IsPlain row

plain_one : (b : ℕ) → (nat_le 32 b && nat_lt b 128) ≡ true → IsPlain b
plain_one b h = grind (arith, nat_tests)

plain_by : (b : ℕ) (is : Bool) → (nat_le 32 b && nat_lt b 128) ≡ is → IsPlain (plain_code b)
plain_by b true e = rw e (plain_one b e)
plain_by b false e = rw e (omega arith, omega arith)

plain_cells : (text : List ℕ) (n a : ℕ) → AllByRecursion IsPlain (map (cell_in text) (range_with_len a n))
plain_cells text zero a = tt
plain_cells text (suc n) a = (plain_by (get_or text a 32) (nat_le 32 (get_or text a 32) && nat_lt (get_or text a 32) 128) refl, plain_cells text n (a + 1))

pub is_row : (text : List ℕ) → IsPlainRow (text_row text)
unfolding text_row
is_row text = record { long = length-map-range_with_len (cell_in text) 0 40; plain = plain_cells text 40 0 }

-- one column more
pub row_more : (text before out pushed : List ℕ) (cell n : ℕ) → out ≡ before ++ map (cell_in text) (range_with_len 0 n) → cell ≡ cell_in text n → pushed ≡ out ++ cell ∷ []
    → pushed ≡ before ++ map (cell_in text) (range_with_len 0 (n + 1))
row_more text before out pushed cell n done is push =
    push
    ∙ (ap₂ (λ (xs : List ℕ) (b : ℕ). xs ++ b ∷ []) done is
    ∙ (append_assoc before (map (cell_in text) (range_with_len 0 n)) (cell_in text n ∷ [])
    ∙ ap (λ (xs : List ℕ). before ++ xs) (sym (map-range_with_len_more (cell_in text) 0 n n (omega arith)))))

pub row_whole : (text before out : List ℕ) → out ≡ before ++ map (cell_in text) (range_with_len 0 40) → out ≡ before ++ text_row text
unfolding text_row
row_whole text before out e = e

-- Characters on a screen.

abbrev pub screen : List ℕ → ℕ → Bool → Bool → Screen
screen cells at pending visible = record { cells = cells; at = at; pending = pending; visible = visible }

pub same_screen : {cells others : List ℕ} {at there : ℕ} {p q : Bool} (v : Bool) → cells ≡ others → at ≡ there → p ≡ q → screen cells at p v ≡ screen others there q v
same_screen v e f g = cc

-- a character where no escape is pending
plain_step : (t : Screen) (b : ℕ) → IsPlain b → t.pending ≡ false → byte_step t b ≡ screen (set t.cells t.at b) ((t.at + 1) % 960) false t.visible
plain_step t b h e =
    let low : nat_lt b 32 ≡ false = grind (arith, nat_tests) in
    let high : nat_lt b 128 ≡ true = grind (arith, nat_tests) in
    rw (low, e, high) refl

-- characters up to the end of the screen at most
plain_run : (xs : List ℕ) (t : Screen) (p : ℕ) → AllByRecursion IsPlain xs → t.pending ≡ false → t.at ≡ p % 960 → p + length xs ≤ 960 → run t xs ≡ screen (sets t.cells p xs) ((p + length xs) % 960) false t.visible
plain_run [] t p h e at fits = same_screen t.visible refl (omega arith) e
plain_run (x ∷ xs) t p h e at fits =
    let here : t.at ≡ p = omega arith in
    let next = screen (set t.cells t.at x) ((t.at + 1) % 960) false t.visible in
    let rest = plain_run xs next (suc p) h.1 refl (omega arith) (omega arith) in
    ap (λ (u : Screen). run u xs) (plain_step t x h.0 e) ∙ (rest ∙ same_screen t.visible (ap (λ (q : ℕ). sets (set t.cells q x) (suc p) xs) here) (omega arith) refl)

row_painted : (row : List ℕ) (cells : List ℕ) (v : Bool) (p : ℕ) → IsPlainRow row → p + 40 ≤ 960 → length cells ≡ 960 → run (screen cells p false v) row ≡ screen (take p cells ++ row ++ drop (p + 40) cells) ((p + 40) % 960) false v
row_painted row cells v p h fits n =
    let wide : p + length row ≤ 960 = omega (arith, h.long) in
    let done = plain_run row (screen cells p false v) p h.plain refl (omega arith) wide in
    let stored = sets-eq row cells p (omega arith) in
    done ∙ same_screen v (stored ∙ ap (λ (k : ℕ). take p cells ++ row ++ drop (p + k) cells) h.long) (omega (arith, h.long)) refl

-- Row 0, and row 23.

-- row 23 over the cells before it
pub bottom_paints : (words : List ℕ) (t : Screen) → IsScreen t → run t (bottom_bytes words) ≡ screen (take 920 t.cells ++ text_row words) 0 false t.visible
bottom_paints words t v =
    let none : drop 960 t.cells ≡ [] = drop_all 960 t.cells (omega (arith, v.cells)) in
    row_painted (text_row words) t.cells t.visible 920 (is_row words) (omega arith) v.cells
    ∙ same_screen t.visible (ap (λ (xs : List ℕ). take 920 t.cells ++ text_row words ++ xs) none ∙ append-nil (take 920 t.cells ++ text_row words)) refl refl

-- the cells after row 0
pub above : (top cells : List ℕ) → length top ≡ 40 → take 920 (top ++ drop 40 cells) ≡ top ++ take 880 (drop 40 cells)
above top cells n = subst (λ (k : ℕ). take k (top ++ drop 40 cells) ≡ top ++ take 880 (drop 40 cells)) (seam n) (take-append-add top (drop 40 cells) 880) where
  seam : length top ≡ 40 → length top + 880 ≡ 920
  seam e = omega arith

pub centre_paints : (top words : List ℕ) (t : Screen) → IsScreen t → run t (top_bytes top ++ bottom_bytes words) ≡ screen (between_rows (text_row top) (text_row words) t.cells) 0 false t.visible
centre_paints top words t v =
    let row = text_row top in
    let h = is_row top in
    let first : run (screen t.cells 0 false t.visible) row ≡ screen (row ++ drop 40 t.cells) 40 false t.visible = row_painted row t.cells t.visible 0 h (omega arith) v.cells in
    let whole : length (row ++ drop 40 t.cells) ≡ 960 = omega (arith, length-append row (drop 40 t.cells), length-drop 40 t.cells, h.long, v.cells) in
    let second = bottom_paints words (screen (row ++ drop 40 t.cells) 40 false t.visible) (record { cells = whole; at = omega arith }) in
    run_append (screen t.cells 0 false t.visible) row (bottom_bytes words)
    ∙ (ap (λ (u : Screen). run u (bottom_bytes words)) first
    ∙ (second ∙ same_screen t.visible (ap (λ (xs : List ℕ). xs ++ text_row words) (above row t.cells h.long)) refl refl))

-- Moves.

rows_down : (n : ℕ) (cells : List ℕ) (at : ℕ) (v : Bool) → at < 960 → run (screen cells at false v) (replicate n 10) ≡ screen cells ((at + 40 * n) % 960) false v
rows_down zero cells at v lt = same_screen v refl (omega arith) refl
rows_down (suc n) cells at v lt = rows_down n cells ((at + 40) % 960) v (omega arith) ∙ same_screen v refl (omega arith) refl

columns_on : (n : ℕ) (cells : List ℕ) (at : ℕ) (v : Bool) → at < 960 → run (screen cells at false v) (replicate n 9) ≡ screen cells ((at + n) % 960) false v
columns_on zero cells at v lt = same_screen v refl (omega arith) refl
columns_on (suc n) cells at v lt = columns_on n cells ((at + 1) % 960) v (omega arith) ∙ same_screen v refl (omega arith) refl

escaped : (q : Bool) (cells : List ℕ) (at : ℕ) (v : Bool) → run (screen cells at false v) (pending_escape q) ≡ screen cells at q v
escaped true cells at v = refl
escaped false cells at v = refl

back_from : (at : ℕ) (q : Bool) (cells : List ℕ) (v : Bool) → at < 960 → run (screen cells 0 false v) (replicate (at / 40) 10 ++ (replicate (at % 40) 9 ++ pending_escape q)) ≡ screen cells at q v
back_from at q cells v lt =
    let row = (0 + 40 * (at / 40)) % 960 in
    let down = rows_down (at / 40) cells 0 v (omega arith) in
    let on = columns_on (at % 40) cells row v (omega arith) in
    let there : (row + at % 40) % 960 ≡ at = omega arith in
    run_append (screen cells 0 false v) (replicate (at / 40) 10) (replicate (at % 40) 9 ++ pending_escape q)
    ∙ (ap (λ (u : Screen). run u (replicate (at % 40) 9 ++ pending_escape q)) down
    ∙ (run_append (screen cells row false v) (replicate (at % 40) 9) (pending_escape q)
    ∙ (ap (λ (u : Screen). run u (pending_escape q)) (on ∙ same_screen v refl there refl) ∙ escaped q cells at v)))

-- the way back leads there from everywhere, and writes nothing
pub goes_back : (c : Caret) → c.at < 960 → (t : Screen) → run t (back_bytes c) ≡ screen t.cells c.at c.pending t.visible
goes_back c lt t = back_from c.at c.pending t.cells t.visible lt

-- rows painted, and the way back
pub painted_back : (top words : List ℕ) (c : Caret) → c.at < 960 → (t : Screen) → IsScreen t
    → run t (top_bytes top ++ (bottom_bytes words ++ back_bytes c)) ≡ screen (between_rows (text_row top) (text_row words) t.cells) c.at c.pending t.visible
painted_back top words c lt t v =
    ap (run t) (sym (append_assoc (top_bytes top) (bottom_bytes words) (back_bytes c)))
    ∙ (run_append t (top_bytes top ++ bottom_bytes words) (back_bytes c)
    ∙ (ap (λ (u : Screen). run u (back_bytes c)) (centre_paints top words t v)
    ∙ goes_back c lt (screen (between_rows (text_row top) (text_row words) t.cells) 0 false t.visible)))

pub said_back : (words : List ℕ) (c : Caret) → c.at < 960 → (t : Screen) → IsScreen t
    → run t (bottom_bytes words ++ back_bytes c) ≡ screen (take 920 t.cells ++ text_row words) c.at c.pending t.visible
said_back words c lt t v =
    run_append t (bottom_bytes words) (back_bytes c)
    ∙ (ap (λ (u : Screen). run u (back_bytes c)) (bottom_paints words t v)
    ∙ goes_back c lt (screen (take 920 t.cells ++ text_row words) 0 false t.visible))
