-- What `current` names, among the editions that are there.
use Rattle.std.specs.Prelude.{ℕ, Bool, List, length, nat_eq, if◌then◌else◌, ◌-◌, Option, Some, None, slice_get}
use Rattle.std.specs.List.{list_any}
use Rattle.editions.specs.NumberLines.{current_in}
use Rattle.edition_lists.specs.declared.current.FoundCurrent.{FoundCurrent}
use Rattle.edition_lists.specs.declared.current.FoundCurrent.TheVariants.{Nothing, Edition, Lacking, Unread}

-- whether a number is among some
abbrev pub is_among : List ℕ → ℕ → Bool
is_among numbers n = list_any (λ m. nat_eq m n) numbers

abbrev pub found_by : List ℕ → Option ℕ → FoundCurrent
found_by numbers None = Unread
found_by numbers (Some n) = if is_among numbers n then Edition n else Lacking n

abbrev pub found_by_text : List ℕ → List ℕ → FoundCurrent
found_by_text numbers text = found_by numbers (current_in text)

-- by the numbers of all editions, and the bytes of `current`, if there
abbrev pub found_current : List ℕ → Option (List ℕ) → FoundCurrent
found_current numbers None = Nothing
found_current numbers (Some text) = found_by_text numbers text

-- the edition beside which the others are judged: the last one, if `current` names no number
abbrev pub served_of : FoundCurrent → List ℕ → Option ℕ
served_of Nothing numbers = None
served_of (Edition n) numbers = Some n
served_of (Lacking n) numbers = Some n
served_of Unread numbers = slice_get numbers (length numbers - 1)
