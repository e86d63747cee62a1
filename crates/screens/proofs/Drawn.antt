-- What is computed of each letter.
use Rattle.std.proofs.Common.{ℕ, Bool, not, ◌&&◌, List, nat_le}
use Rattle.std.specs.List.{list_all, range_with_len}
use Rattle.screens.specs.declared.look.Height.{Height}
use Rattle.screens.specs.declared.look.Height.TheVariants.{Single, Upper, Lower}
use Rattle.screens.specs.Letters.{Letter}
use Rattle.screens.specs.Outlines.{is_half_dot, half_row, half_outline, UprightLine, upright_lines, is_outline, crossing, turns_around}
use Rattle.screens.specs.Svg.{is_same}
use Rattle.screens.proofs.Safe.{is_inner}

abbrev pub fits : UprightLine → Bool
fits l = nat_le l.at 12 && (nat_le l.from 20 && nat_le l.to 20)

-- the lines that cross a row, and the row of half dots that it shows
abbrev pub row_drawn : List (List ℕ) → List UprightLine → ℕ → Bool
row_drawn dots ls row = list_all (λ x. is_same (turns_around ls x) (is_half_dot dots x row)) (range_with_len 0 12) && not (turns_around ls 12)

abbrev pub rows_drawn : Height → List (List ℕ) → List UprightLine → Bool
rows_drawn h dots ls = list_all (λ y. row_drawn dots (crossing ls y) (half_row h y)) (range_with_len 0 20)

abbrev pub is_drawn : Height → Letter → Bool
is_drawn h l =
    is_outline (half_outline h l)
    && (list_all is_inner (half_outline h l) && (list_all fits (upright_lines (half_outline h l)) && rows_drawn h l.dots (upright_lines (half_outline h l))))

abbrev pub is_right : Letter → Bool
is_right l = is_drawn Single l && (is_drawn Upper l && is_drawn Lower l)
