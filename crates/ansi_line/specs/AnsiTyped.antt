-- The keys of a terminal with colours.
use Rattle.std.specs.Prelude.{ℕ, ◌==◌, ◌&&◌, ◌||◌, nat_le, Bool, false, List, [], ◌∷◌, if◌then◌else◌}
use Rattle.ansi_line.specs.declared.keys.Typing.{Typing}
use Rattle.ansi_line.specs.declared.keys.Typing.TheVariants.{Plain, Returned, Escaped, Sequence, Last}

-- a byte of those that a cursor key or a function key sends after an escape: 20 to 7E
abbrev pub is_of_key : ℕ → Bool
is_of_key b = nat_le 0x20 b && nat_le b 0x7E

-- it is no key of a caller's: one of those, or the line feed right after a carriage return
abbrev pub is_left_out : Typing → ℕ → Bool
is_left_out Plain b = false
is_left_out Returned b = b == 10
is_left_out Escaped b = false
is_left_out Sequence b = is_of_key b
is_left_out Last b = is_of_key b

-- a carriage return (13) and a line feed (10) are `#` (35); what is left out is no key (0)
abbrev pub typed_as : Typing → ℕ → ℕ
typed_as t b = if is_left_out t b then 0 else if b == 13 || b == 10 then 35 else b

-- where a byte leads that is of no sequence
abbrev pub typing_from : ℕ → Typing
typing_from b = if b == 13 then Returned else if b == 27 then Escaped else Plain

-- after an escape: [ begins a sequence, and O has one byte after it
abbrev pub typing_escaped : ℕ → Typing
typing_escaped b = if b == 0x5B then Sequence else if b == 0x4F then Last else typing_from b

-- within a sequence: 20 to 3F go on, and 40 to 7E end it
abbrev pub typing_within : ℕ → Typing
typing_within b = if nat_le 0x20 b && nat_le b 0x3F then Sequence else typing_from b

-- where a byte leads
abbrev pub typing_after : Typing → ℕ → Typing
typing_after Plain b = typing_from b
typing_after Returned b = typing_from b
typing_after Escaped b = typing_escaped b
typing_after Sequence b = typing_within b
typing_after Last b = typing_from b

abbrev pub all_typed : Typing → List ℕ → List ℕ
all_typed t [] = []
all_typed t (b ∷ bs) = typed_as t b ∷ all_typed (typing_after t b) bs
