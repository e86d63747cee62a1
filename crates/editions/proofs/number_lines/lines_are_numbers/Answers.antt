use Rattle.editions.proofs.LineLaws.{lines_numbers}
use Rattle.editions.proofs.number_lines.lines_are_numbers.Goals as goal

pub returns : goal.returns
returns c = lines_numbers
