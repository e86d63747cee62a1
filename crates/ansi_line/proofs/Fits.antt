-- The rows of a screen fit a terminal.
use Rattle.std.proofs.Common.{◌≡◌, ℕ, suc, ◌-◌, ◌*◌, ◌≤◌, arith, refl, ap, ◌∙◌, List, [], ◌∷◌, map, length, min, drop}
use Rattle.std.specs.Prelude as P
use Rattle.std.specs.List.{range_with_len}
use Rattle.std.proofs.lemmas.Bool.{cond_both}
use Rattle.std.proofs.lemmas.List.{length-take, length-map}
use Rattle.std.proofs.lemmas.List.Elements.{All-nil, All-cons}
use Rattle.screens.specs.declared.look.Look.{Look}
use Rattle.screens.specs.declared.row.State.{State}
use Rattle.screens.specs.Table.{start}
use Rattle.screens.specs.Looks.{row_step, row_looks, below, can_stretch, codes_of_row, is_covered, own_looks, looks_at, looks}
use Rattle.screens.proofs.Shows.{text_is_its_lines}
use Rattle.ansi_line.specs.AnsiReading.{Cell}
use Rattle.ansi_line.specs.Laws.{seen_cell, seen_cells, AreScreenRows}

row_length : (s : State) (cs : List ℕ) → length (row_looks s cs) ≡ length cs
row_length s [] = refl
row_length s (c ∷ cs) = ap suc (row_length (row_step s c) cs)

abbrev Fits : List Look → Type 0
Fits row = length row ≤ 40

own_fits : (cells : List ℕ) (r : ℕ) → Fits (own_looks cells r)
own_fits cells r =
    let count : length (own_looks cells r) ≡ length (codes_of_row cells r) = row_length (start (can_stretch r)) (codes_of_row cells r) in
    let most : length (codes_of_row cells r) ≡ min 40 (length (drop (40 * r) cells)) = length-take 40 (drop (40 * r) cells) in
    omega arith

below_fits : (row : List Look) → Fits row → Fits (map below row)
below_fits row h = let e : length (map below row) ≡ length row = length-map row below in omega arith

row_fits : (cells : List ℕ) (r : ℕ) → Fits (looks_at cells r)
row_fits cells r = cond_both (is_covered cells r) (map below (own_looks cells (r - 1))) (own_looks cells r) Fits (λ e. below_fits (own_looks cells (r - 1)) (own_fits cells (r - 1))) (λ e. own_fits cells r)

abbrev CellsFit : List Cell → Type 0
CellsFit row = length row ≤ 40

cells_fit : (cells rs : List ℕ) → P.All CellsFit (seen_cells (map (looks_at cells) rs))
cells_fit cells [] = All-nil CellsFit
cells_fit cells (r ∷ rs) =
    let row = looks_at cells r in
    let e : length (map seen_cell row) ≡ length row = length-map row seen_cell in
    let le : length row ≤ 40 = row_fits cells r in
    let here : CellsFit (map seen_cell row) = omega arith in
    All-cons CellsFit (map seen_cell row) (seen_cells (map (looks_at cells) rs)) here (cells_fit cells rs)

pub ansi_fits : (cells : List ℕ) → AreScreenRows (seen_cells (looks cells))
unfolding looks
ansi_fits cells = record {
  height = length-map (looks cells) (map seen_cell) ∙ (text_is_its_lines cells).rows;
  width = cells_fit cells (range_with_len 0 24);
}
