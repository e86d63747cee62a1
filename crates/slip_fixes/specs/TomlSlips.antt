-- What isn't TOML.
use Rattle.std.specs.Prelude.{ℕ, Bool, true, false, not, ◌&&◌, ◌||◌, ◌==◌, List, [], ◌∷◌, codes, length, nat_lt, Option, Some, None, if◌then◌else◌}
use Rattle.std.specs.Char.{is_ascii_hexdigit}
use Rattle.std.specs.Str.{bytes_eq}
use Rattle.base_text.specs.declared.keys.Field.{Field}
use Rattle.base_text.specs.Fields.{field_name, is_digit_key}
use Rattle.slip_fixes.specs.Bytes.{after_gaps, after_zeros, is_number}
use Rattle.slip_fixes.specs.NearKeys.{all_fields}
use Rattle.slip_fixes.specs.Values.{takes_number}

-- a truth value with capital letters
abbrev pub small_truth : List ℕ → Option (List ℕ)
small_truth word =
    if bytes_eq word (codes "True") || bytes_eq word (codes "TRUE") then Some (codes "true")
    else if bytes_eq word (codes "False") || bytes_eq word (codes "FALSE") then Some (codes "false")
    else None

-- a number with zeros before it, without them
abbrev pub without_zeros : List ℕ → Option (List ℕ)
without_zeros word =
    if is_number word && nat_lt (length (after_zeros word)) (length word) && not (length (after_zeros word) == 0) then Some (after_zeros word) else None

abbrev pub new_word : List ℕ → List ℕ → Option (List ℕ)
new_word key word =
    if bytes_eq key (codes "next") then small_truth word
    else if takes_number key || is_digit_key key then without_zeros word
    else None

-- two digits in base 16, but not 00, and then what is none
abbrev pub ends_pair : List ℕ → Bool
ends_pair (a ∷ b ∷ c ∷ _) = is_ascii_hexdigit a && is_ascii_hexdigit b && not (a == 48 && b == 48) && not (is_ascii_hexdigit c)
ends_pair _ = false

-- the same after two zeros
abbrev pub ends_long : List ℕ → Bool
ends_long (a ∷ b ∷ bs) = a == 48 && b == 48 && ends_pair bs
ends_long _ = false

-- what takes the place of the `u` (117) or `U` (85) of an escape
abbrev pub new_escape : List ℕ → Option (List ℕ)
new_escape [] = None
new_escape (b ∷ bs) =
    if b == 117 && ends_pair bs then Some (codes "u00")
    else if b == 85 && ends_long bs then Some (codes "u")
    else None

abbrev pub is_named : List Field → List ℕ → Bool
is_named [] key = false
is_named (field ∷ fields) key = if bytes_eq (field_name field) key then true else is_named fields key

abbrev pub is_known : List ℕ → Bool
is_known key = is_named all_fields key

-- a value can begin here, and not `=`, a comment or the line's end
abbrev pub is_value_start : List ℕ → Bool
is_value_start [] = false
is_value_start (b ∷ bs) = not (b == 61 || b == 35 || b == 13 || b == 10)

-- what takes the place of a colon after this key and before these bytes
abbrev pub new_mark : List ℕ → List ℕ → Option (List ℕ)
new_mark key bs = if (is_digit_key key || is_known key) && is_value_start (after_gaps bs) then Some (codes " =") else None
