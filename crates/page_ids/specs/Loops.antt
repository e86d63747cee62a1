-- Facts that hold between the turns of loops, and what functions that aren't exported say. No promise rests on them.
use Rattle.std.specs.Prelude.{ℕ, ◌==◌, List, [], ◌∷◌, Option, Some, None, if◌then◌else◌, ◌-◌, ◌&&◌, nat_lt}
use Rattle.page_ids.specs.declared.key.Key.{Key}
use Rattle.page_ids.specs.declared.key.Key.TheVariants.{Reprint, Update, Prev, Route, Next}

-- Which key a text begins with.

-- the key of the bytes after `*0`, of those after `*`, and of any
abbrev pub key_past_zero : List ℕ → Option Key
key_past_zero [] = None
key_past_zero (c ∷ cs) = if c == 48 then Some Reprint else if c == 57 then Some Update else None

abbrev pub key_past_star : List ℕ → Option Key
key_past_star [] = None
key_past_star (b ∷ bs) = if b == 35 then Some Prev else if b == 48 then key_past_zero bs else None

abbrev pub key_read_at : List ℕ → Option Key
key_read_at [] = None
key_read_at (a ∷ more) =
    if a == 35 then Some Next
    else if a == 42 then key_past_star more
    else if nat_lt 47 a && nat_lt a 58 then Some (Route (a - 48)) else None
