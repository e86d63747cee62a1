-- Values of another kind, and ids with a capital letter.
use Rattle.std.specs.Prelude.{ℕ, Bool, false, not, ◌&&◌, ◌||◌, ◌==◌, ◌-◌, List, [], ◌∷◌, codes, length, nat_lt, Option, Some, None, if◌then◌else◌}
use Rattle.std.specs.Char.{is_ascii_uppercase}
use Rattle.std.specs.Str.{bytes_eq, str_eq_ignore_ascii_case}
use Rattle.slip_fixes.specs.Bytes.{is_quote, after_digits, is_number, piece_of}

-- the quotation mark at an end
abbrev pub is_close : List ℕ → Bool
is_close (b ∷ []) = is_quote b
is_close _ = false

-- digits without a zero before others
abbrev pub is_whole : List ℕ → Bool
is_whole [] = false
is_whole (b ∷ []) = is_number (b ∷ [])
is_whole (b ∷ c ∷ bs) = not (b == 48) && is_number (b ∷ c ∷ bs)

-- a number before a quotation mark
abbrev pub closed_number : List ℕ → Option (List ℕ)
closed_number bs =
    let number = piece_of bs 0 (length bs - 1) in
    if is_close (after_digits bs) && is_whole number then Some number else None

-- a number in quotation marks
abbrev pub quoted_number : List ℕ → Option (List ℕ)
quoted_number [] = None
quoted_number (b ∷ bs) = if is_quote b then closed_number bs else None

abbrev pub takes_number : List ℕ → Bool
takes_number key = bytes_eq key (codes "price") || bytes_eq key (codes "entry") || bytes_eq key (codes "group") || bytes_eq key (codes "outside")

-- a pair of `routes`, and not all of it
abbrev pub is_item : List ℕ → List ℕ → List ℕ → Bool
is_item key piece value = bytes_eq key (codes "routes") && nat_lt (length value) (length piece)

-- a truth value in quotation marks
abbrev pub truth : List ℕ → Option (List ℕ)
truth value =
    if bytes_eq value (codes "\"true\"") || bytes_eq value (codes "'true'") then Some (codes "true")
    else if bytes_eq value (codes "\"false\"") || bytes_eq value (codes "'false'") then Some (codes "false")
    else None

-- a word of `lead` in quotation marks, in any case of letters
abbrev pub new_lead : List ℕ → List ℕ → Option (List ℕ)
new_lead key value =
    if not (bytes_eq key (codes "lead")) then None
    else if str_eq_ignore_ascii_case value (codes "\"keep\"") || str_eq_ignore_ascii_case value (codes "'keep'") then Some (codes "\"keep\"")
    else if str_eq_ignore_ascii_case value (codes "\"clear\"") || str_eq_ignore_ascii_case value (codes "'clear'") then Some (codes "\"clear\"")
    else None

abbrev pub is_unlisted : List ℕ → List ℕ → Bool
is_unlisted key value = bytes_eq key (codes "outside") && is_number value

abbrev pub new_value : List ℕ → List ℕ → List ℕ → Option (List ℕ)
new_value key piece value =
    if bytes_eq key (codes "next") then truth value
    else if takes_number key || is_item key piece value then quoted_number value
    else None

abbrev pub capital_before : List ℕ → Option ℕ
capital_before (b ∷ c ∷ []) = if is_ascii_uppercase b && is_quote c then Some b else None
capital_before _ = None

-- the letter of an id with a capital letter, in quotation marks
abbrev pub quoted_capital : List ℕ → Option ℕ
quoted_capital [] = None
quoted_capital (b ∷ bs) = if is_quote b then capital_before (after_digits bs) else None
