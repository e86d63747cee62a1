-- The runs of a row, one cell after another.
use Rattle.std.proofs.Common.{rules, Ok, Err, Result, Option, ◌≡◌, ℕ, zero, suc, ◌+◌, ◌-◌, ◌<◌, ◌≤◌, arith, refl, sym, ap, ◌∙◌, subst, Bool, true, false, List, [], ◌∷◌, ◌++◌, take, drop, length, get_or, add-one, drop-cons, append_assoc, length-drop}
use Rattle.std.proofs.lemmas.List.{take_more, get_or_default, length-take-le, get_or-take, get_or-drop, take_all, drop_all}
use Rattle.std.specs.declared.alloc.AllocError.{AllocError}
use Rattle.std.specs.Result.{OnOk}
use Rattle.screens.specs.declared.look.Look.{Look}
use Rattle.screens.specs.declared.layer.Ink.{Ink}
use Rattle.screens.specs.declared.layer.Layer.{Layer}
use Rattle.screens.specs.Svg.{Piece, markup, ink_of, same_ink, run_goes_on, run_pieces, row_pieces, layer_pieces}
use Rattle.screens.proofs.Markups.{markup_append, nothing}

-- a cell within the row is the cell, whatever the default
same_default : (row : List Look) (i : ℕ) (d : Look) → get_or row i d ≡ get_or row i (get_or row i d)
same_default [] i d = refl
same_default (a ∷ row) zero d = refl
same_default (a ∷ row) (suc i) d = same_default row i d

-- the cells from one to another
abbrev pub between : List Look → ℕ → ℕ → List Look
between row from to = take (to - from) (drop from row)

-- a run's first cell, or the next one if the run is empty
first_of : (row : List Look) (from n : ℕ) (d : Look) → get_or (take n (drop from row)) 0 (get_or row (from + n) d) ≡ get_or row from (get_or row (from + n) d)
first_of row from zero d =
    let e : from + 0 ≡ from = omega arith in
    subst (λ (k : ℕ). get_or row k d ≡ get_or row from (get_or row k d)) (sym e) (same_default row from d)
first_of row from (suc n) d =
    let e : from + 0 ≡ from = omega arith in
    get_or-take (suc n) (drop from row) 0 (get_or row (from + suc n) d) (omega arith)
    ∙ (get_or-drop from row 0 (get_or row (from + suc n) d) ∙ ap (λ (k : ℕ). get_or row k (get_or row (from + suc n) d)) e)

first_cell : (row : List Look) (from to : ℕ) (d : Look) → from ≤ to → get_or (between row from to) 0 (get_or row to d) ≡ get_or row from (get_or row to d)
first_cell row from to d le =
    let e : from + (to - from) ≡ to = omega arith in
    subst (λ (k : ℕ). get_or (take (to - from) (drop from row)) 0 (get_or row k d) ≡ get_or row from (get_or row k d)) e (first_of row from (to - from) d)

between_more : (row : List Look) (from to : ℕ) (d : Look) → from ≤ to → to < length row → between row from (to + 1) ≡ between row from to ++ get_or row to d ∷ []
between_more row from to d le lt =
    let e : to + 1 - from ≡ to - from + 1 = omega arith in
    let f : from + (to - from) ≡ to = omega arith in
    let size : length (drop from row) ≡ length row - from = length-drop from row in
    ap (λ (n : ℕ). take n (drop from row)) e
    ∙ (take_more (drop from row) (to - from) d (omega arith)
    ∙ ap (λ (a : Look). between row from to ++ a ∷ []) (get_or-drop from row (to - from) d ∙ ap (λ (k : ℕ). get_or row k d) f))

between_length : (row : List Look) (from to : ℕ) → from ≤ to → to ≤ length row → from + length (between row from to) ≡ to
between_length row from to le lt =
    let size : length (drop from row) ≡ length row - from = length-drop from row in
    let e : length (between row from to) ≡ to - from = length-take-le (to - from) (drop from row) (omega arith) in
    omega (arith, e)

-- one cell alone
between_one : (row : List Look) (to : ℕ) (d : Look) → to < length row → between row to (to + 1) ≡ get_or row to d ∷ []
between_one row to d lt =
    let none : to - to ≡ 0 = omega arith in
    between_more row to to d (omega arith) lt ∙ ap (λ (n : ℕ). take n (drop to row) ++ get_or row to d ∷ []) none

next_cell : (row : List Look) (to : ℕ) (d : Look) → to < length row → drop to row ≡ get_or row to d ∷ drop (to + 1) row
next_cell row to d lt = rw add-one (drop-cons row to d lt)

stays : (layer : Layer) (r c : ℕ) (run rest : List Look) (a : Look) → run_goes_on layer run a ≡ true → row_pieces layer r c run (a ∷ rest) ≡ row_pieces layer r c (run ++ a ∷ []) rest
stays layer r c run rest a e = rw e refl

ends : (layer : Layer) (r c : ℕ) (run rest : List Look) (a : Look) → run_goes_on layer run a ≡ false → row_pieces layer r c run (a ∷ rest) ≡ run_pieces layer r c run ++ row_pieces layer r (c + length run) (a ∷ []) rest
ends layer r c run rest a e = rw e refl

-- whether a run goes on is said by its first cell
decided : (layer : Layer) (row : List Look) (from to : ℕ) (d : Look) → from ≤ to → to < length row → run_goes_on layer (between row from to) (get_or row to d) ≡ same_ink (ink_of layer (get_or row from d)) (ink_of layer (get_or row to d))
decided layer row from to d le lt =
    ap (λ (a : Look). same_ink (ink_of layer a) (ink_of layer (get_or row to d))) (first_cell row from to d le ∙ get_or_default row from (get_or row to d) d (omega arith))

-- a turn of the loop over a row: the run goes on
turn_on : (layer : Layer) (row : List Look) (r from to : ℕ) (d : Look) (old new all : List ℕ) → from ≤ to → to < length row → same_ink (ink_of layer (get_or row from d)) (ink_of layer (get_or row to d)) ≡ true → new ≡ old → old ++ markup (row_pieces layer r from (between row from to) (drop to row)) ≡ all → new ++ markup (row_pieces layer r from (between row from (to + 1)) (drop (to + 1) row)) ≡ all
turn_on layer row r from to d old new all le lt same en h =
    let a = get_or row to d in
    let rest = drop (to + 1) row in
    ap (λ (bs : List ℕ). bs ++ markup (row_pieces layer r from (between row from (to + 1)) rest)) en
    ∙ (ap (λ (ps : List Piece). old ++ markup ps) (ap (λ (run : List Look). row_pieces layer r from run rest) (between_more row from to d le lt) ∙ (sym (stays layer r from (between row from to) rest a (decided layer row from to d le lt ∙ same)) ∙ ap (row_pieces layer r from (between row from to)) (sym (next_cell row to d lt)))) ∙ h)

-- it ends, and another begins
turn_off : (layer : Layer) (row : List Look) (r from to : ℕ) (d : Look) (old new all : List ℕ) → from ≤ to → to < length row → same_ink (ink_of layer (get_or row from d)) (ink_of layer (get_or row to d)) ≡ false → new ≡ old ++ markup (run_pieces layer r from (between row from to)) → old ++ markup (row_pieces layer r from (between row from to) (drop to row)) ≡ all → new ++ markup (row_pieces layer r to (between row to (to + 1)) (drop (to + 1) row)) ≡ all
turn_off layer row r from to d old new all le lt differs en h =
    let a = get_or row to d in
    let rest = drop (to + 1) row in
    let run = between row from to in
    let first = run_pieces layer r from run in
    let later = row_pieces layer r to (a ∷ []) rest in
    let here : row_pieces layer r from run (drop to row) ≡ first ++ later = ap (row_pieces layer r from run) (next_cell row to d lt) ∙ (ends layer r from run rest a (decided layer row from to d le lt ∙ differs) ∙ ap (λ (c : ℕ). first ++ row_pieces layer r c (a ∷ []) rest) (between_length row from to le (omega arith))) in
    ap (λ (bs : List ℕ). bs ++ markup (row_pieces layer r to (between row to (to + 1)) rest)) en
    ∙ (ap (λ (one : List Look). (old ++ markup first) ++ markup (row_pieces layer r to one rest)) (between_one row to d lt)
    ∙ (append_assoc old (markup first) (markup later)
    ∙ (ap (λ (bs : List ℕ). old ++ bs) (sym (markup_append first later) ∙ ap markup (sym here)) ∙ h)))

-- after the last cell the last run is left
whole_run : (layer : Layer) (row : List Look) (r from to n : ℕ) (old all : List ℕ) → length row - from ≤ n → length row ≤ to → old ++ markup (row_pieces layer r from (between row from to) (drop to row)) ≡ all → old ++ markup (run_pieces layer r from (take n (drop from row))) ≡ all
whole_run layer row r from to n old all ge le h =
    let none : drop to row ≡ [] = drop_all to row le in
    let size : length (drop from row) ≡ length row - from = length-drop from row in
    let same : take n (drop from row) ≡ between row from to = take_all n (drop from row) (omega arith) ∙ sym (take_all (to - from) (drop from row) (omega arith)) in
    ap (λ (run : List Look). old ++ markup (run_pieces layer r from run)) same
    ∙ (ap (λ (rest : List Look). old ++ markup (row_pieces layer r from (between row from to) rest)) (sym none) ∙ h)

pub last_run : (layer : Layer) (row : List Look) (r from to n : ℕ) (result : Result (Unit {0}) AllocError) (new old all : List ℕ) → OnOk result (new ≡ old ++ markup (run_pieces layer r from (take n (drop from row)))) → length row - from ≤ n → length row ≤ to → old ++ markup (row_pieces layer r from (between row from to) (drop to row)) ≡ all → OnOk result (new ≡ all)
last_run layer row r from to n (Ok x) new old all e ge le h = e ∙ whole_run layer row r from to n old all ge le h
last_run layer row r from to n (Err x) new old all e ge le h = search rules

pub both_inks : (i j k l : Option Ink) (r : Bool) → r ≡ same_ink i j → i ≡ k → j ≡ l → same_ink k l ≡ r
both_inks i j k l r e f g = sym (e ∙ (ap (λ (x : Option Ink). same_ink x j) f ∙ ap (same_ink k) g))

-- the same with the begin that the loop goes on with
pub next_on : (layer : Layer) (row : List Look) (r from next to : ℕ) (d : Look) (old new all : List ℕ) → next ≡ from → from ≤ to → to < length row → same_ink (ink_of layer (get_or row from d)) (ink_of layer (get_or row to d)) ≡ true → new ≡ old → old ++ markup (row_pieces layer r from (between row from to) (drop to row)) ≡ all → new ++ markup (row_pieces layer r next (between row next (to + 1)) (drop (to + 1) row)) ≡ all
next_on layer row r from next to d old new all e le lt same en h =
    subst (λ (k : ℕ). new ++ markup (row_pieces layer r k (between row k (to + 1)) (drop (to + 1) row)) ≡ all) (sym e) (turn_on layer row r from to d old new all le lt same en h)

pub next_off : (layer : Layer) (row : List Look) (r from next to : ℕ) (d : Look) (old new all : List ℕ) → next ≡ to → from ≤ to → to < length row → same_ink (ink_of layer (get_or row from d)) (ink_of layer (get_or row to d)) ≡ false → new ≡ old ++ markup (run_pieces layer r from (between row from to)) → old ++ markup (row_pieces layer r from (between row from to) (drop to row)) ≡ all → new ++ markup (row_pieces layer r next (between row next (to + 1)) (drop (to + 1) row)) ≡ all
next_off layer row r from next to d old new all e le lt differs en h =
    subst (λ (k : ℕ). new ++ markup (row_pieces layer r k (between row k (to + 1)) (drop (to + 1) row)) ≡ all) (sym e) (turn_off layer row r from to d old new all le lt differs en h)

-- the ink of the run that the loop goes on with
pub begin_ink : (layer : Layer) (row : List Look) (from next : ℕ) (d e : Look) (i k : Option Ink) → next ≡ from → from < length row → k ≡ i → i ≡ ink_of layer (get_or row from d) → k ≡ ink_of layer (get_or row next e)
begin_ink layer row from next d e i k same lt kept is =
    subst (λ (n : ℕ). k ≡ ink_of layer (get_or row n e)) (sym same) (kept ∙ (is ∙ ap (ink_of layer) (get_or_default row from d e lt)))

-- a turn of the loop over the rows
pub layer_more : (layer : Layer) (rows : List (List Look)) (i : ℕ) (d : List Look) (old new all : List ℕ) → i < length rows → new ≡ old ++ markup (row_pieces layer i 0 [] (get_or rows i d)) → old ++ markup (layer_pieces layer i (drop i rows)) ≡ all → new ++ markup (layer_pieces layer (i + 1) (drop (i + 1) rows)) ≡ all
layer_more layer rows i d old new all lt e h =
    let first = row_pieces layer i 0 [] (get_or rows i d) in
    let later = layer_pieces layer (i + 1) (drop (i + 1) rows) in
    let cut : drop i rows ≡ get_or rows i d ∷ drop (i + 1) rows = rw add-one (drop-cons rows i d lt) in
    let here : layer_pieces layer i (drop i rows) ≡ first ++ later = ap (layer_pieces layer i) cut in
    ap (λ (bs : List ℕ). bs ++ markup later) e
    ∙ (append_assoc old (markup first) (markup later) ∙ (ap (λ (bs : List ℕ). old ++ bs) (sym (markup_append first later) ∙ ap markup (sym here)) ∙ h))

-- after the last row
pub layer_end : (layer : Layer) (rows looks : List (List Look)) (i : ℕ) (old start : List ℕ) → length rows ≤ i → rows ≡ looks → old ++ markup (layer_pieces layer i (drop i rows)) ≡ start ++ markup (layer_pieces layer 0 rows) → old ≡ start ++ markup (layer_pieces layer 0 looks)
layer_end layer rows looks i old start le same h =
    let none : drop i rows ≡ [] = drop_all i rows le in
    nothing old
    ∙ (ap (λ (rest : List (List Look)). old ++ markup (layer_pieces layer i rest)) (sym none)
    ∙ (h ∙ ap (λ (all : List (List Look)). start ++ markup (layer_pieces layer 0 all)) same))
