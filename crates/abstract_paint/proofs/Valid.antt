-- What the fold keeps of a cursor, and what one step of it means.
use Rattle.std.proofs.Common.{◌≡◌, ℕ, ◌<◌, true, false, List, Option, Some, None}
use Rattle.terminal_codes.specs.declared.caret.Caret.{Caret}
use Rattle.terminal_codes.specs.Writes.{caret_step, caret_run, touches}
use Rattle.abstract_paint.specs.declared.cursor.Place.{Place}
use Rattle.abstract_paint.specs.declared.cursor.Place.TheVariants.{Any}
use Rattle.abstract_paint.specs.declared.cursor.Pend.{Pend}
use Rattle.abstract_paint.specs.declared.cursor.Pend.TheVariants.{No, Yes, Maybe}
use Rattle.abstract_paint.specs.declared.cursor.AbsCursor.{AbsCursor}
use Rattle.abstract_paint.specs.Paint.{PlaceStands, Stands, OnScreen}

abbrev pub StandsFor : AbsCursor → Caret → Type 0
StandsFor x c = Stands x c.at c.pending

-- an open flag goes with an open place
abbrev pub FlagFits : Place → Pend → Type 0
FlagFits place No = Unit {0}
FlagFits place Yes = Unit {0}
FlagFits place Maybe = place ≡ Any

pub record IsCursor (x : AbsCursor) : Type 0 where
  pub screen : OnScreen x.place
  pub flag : FlagFits x.place x.pend

-- f takes the positions of from to just those of to
pub record MovesTo (f : ℕ → ℕ) (from to : Place) : Type 0 where
  pub into : (p : ℕ) → p < 960 → PlaceStands from p → PlaceStands to (f p)
  pub back : (q : ℕ) → q < 960 → PlaceStands to q → (p : ℕ) × (p < 960) × PlaceStands from p × (f p ≡ q)
  pub screen : OnScreen to

-- the byte takes the carets of x to just those of y, and writes no service position
pub record StepsTo (b : ℕ) (x y : AbsCursor) : Type 0 where
  pub into : (s : Caret) → StandsFor x s → StandsFor y (caret_step s b)
  pub back : (u : Caret) → StandsFor y u → (s : Caret) × StandsFor x s × (caret_step s b ≡ u)
  pub clean : (s : Caret) → StandsFor x s → touches s b ≡ false
  pub valid : IsCursor y

-- some caret of x writes a service position
abbrev pub SomeTouches : ℕ → AbsCursor → Type 0
SomeTouches b x = (s : Caret) × StandsFor x s × (touches s b ≡ true)

-- the result of a step is right
abbrev pub IsJudged : ℕ → AbsCursor → Option AbsCursor → Type 0
IsJudged b x None = SomeTouches b x
IsJudged b x (Some y) = StepsTo b x y

-- the cursor stands for exactly the ends of what was sent
pub record EndsBy (sent : List ℕ) (x : AbsCursor) : Type 0 where
  pub into : (c : Caret) → c.at < 960 → StandsFor x (caret_run c sent)
  pub back : (u : Caret) → StandsFor x u → (c : Caret) × (c.at < 960) × (caret_run c sent ≡ u)
