-- The texts of `current` and `follows`.
use Rattle.std.specs.Prelude.{ℕ, ◌-◌, ◌==◌, if◌then◌else◌, List, [], ◌∷◌, ◌++◌, Option, Some, None, ◌≡◌, ◌≤◌, decimal, length, take, get_or}
use Rattle.std.specs.Str.{bytes_eq}
use Rattle.page_ids.specs.Texts.{number_in, number_or_none}
use Rattle.editions.specs.declared.limits.TheConstants.{MOST_EDITION}

-- a number in decimal and a line end (10)
abbrev pub number_line : ℕ → List ℕ
number_line n = decimal n ++ (10 ∷ [])

-- the line of a text that has one line end, its last byte; none without it
abbrev pub line_in : List ℕ → Option (List ℕ)
line_in text =
    if length text == 0 then None
    else if get_or text (length text - 1) 0 == 10 then Some (take (length text - 1) text) else None

-- the number of a line
abbrev pub number_of_line : Option (List ℕ) → Option ℕ
number_of_line None = None
number_of_line (Some line) = number_or_none (number_in MOST_EDITION line)

-- the number that `current` names: digits and one line end. A text without its line end is half written, and names none
abbrev pub current_in : List ℕ → Option ℕ
current_in text = number_of_line (line_in text)

-- the number of the edition against which one was cleared, or none at a new beginning
abbrev pub follows_text : Option ℕ → List ℕ
follows_text None = 45 ∷ 10 ∷ []
follows_text (Some n) = number_line n

-- no number
abbrev pub unless_dash : List ℕ → Option ℕ → Option (Option ℕ)
unless_dash text None = if bytes_eq text (follows_text None) then Some None else None
unless_dash text (Some n) = Some (Some n)

-- what `follows` says, if it says something
abbrev pub follows_in : List ℕ → Option (Option ℕ)
follows_in text = unless_dash text (current_in text)

-- A number is named by its own text, and by no other.
pub record LinesAreNumbers : Type 0 where
  pub found : (text : List ℕ) (n : ℕ) → current_in text ≡ Some n → (n ≤ MOST_EDITION) × (text ≡ number_line n)
  pub only : (n : ℕ) → n ≤ MOST_EDITION → current_in (number_line n) ≡ Some n
  pub follows_found : (text : List ℕ) (follows : Option ℕ) → follows_in text ≡ Some follows → text ≡ follows_text follows
  pub beginning : follows_in (follows_text None) ≡ Some None
  pub following : (n : ℕ) → n ≤ MOST_EDITION → follows_in (follows_text (Some n)) ≡ Some (Some n)
