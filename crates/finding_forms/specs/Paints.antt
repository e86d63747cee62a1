-- Colours in a terminal: SGR of ECMA-48, all bold.
use Rattle.std.specs.Prelude.{ℕ, List, [], ◌++◌, codes}
use Rattle.lint.specs.declared.finding.Level.{Level}
use Rattle.lint.specs.declared.finding.Level.TheVariants.{Error, Warning}
use Rattle.finding_forms.specs.declared.paint.Shade.{Shade}
use Rattle.finding_forms.specs.declared.paint.Shade.TheVariants.{White, Blue, Red, Yellow}
use Rattle.finding_forms.specs.declared.paint.Paint.{Paint}
use Rattle.finding_forms.specs.declared.paint.Paint.TheVariants.{Plain, Of}

abbrev pub begin_shade : Shade → List ℕ
begin_shade White = codes "\u{1b}[1m"
begin_shade Blue = codes "\u{1b}[1;34m"
begin_shade Red = codes "\u{1b}[1;31m"
begin_shade Yellow = codes "\u{1b}[1;33m"

abbrev pub end_shade : List ℕ
end_shade = codes "\u{1b}[0m"

abbrev pub shaded : Shade → List ℕ → List ℕ
shaded shade text = begin_shade shade ++ (text ++ end_shade)

abbrev pub level_shade : Level → Shade
level_shade Error = Red
level_shade Warning = Yellow

-- around a line's number
abbrev pub begin_number : Paint → List ℕ
begin_number Plain = []
begin_number (Of _) = begin_shade Blue

-- around carets
abbrev pub begin_carets : Paint → List ℕ
begin_carets Plain = []
begin_carets (Of level) = begin_shade (level_shade level)

abbrev pub end_paint : Paint → List ℕ
end_paint Plain = []
end_paint (Of _) = end_shade
