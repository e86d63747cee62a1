-- Keys that are one step from another.
use Rattle.std.specs.Prelude.{ℕ, Bool, false, not, ◌&&◌, ◌||◌, ◌==◌, List, [], ◌∷◌, Option, Some, None, if◌then◌else◌}
use Rattle.std.specs.Char.{eq_ignore_ascii_case}
use Rattle.std.specs.Str.{bytes_eq, str_eq_ignore_ascii_case}
use Rattle.near_words.specs.Near.{distance}
use Rattle.base_text.specs.declared.keys.Field.{Field}
use Rattle.base_text.specs.declared.keys.Field.TheVariants.{Entry, Outside, Frame, Id, Price, Group, Next, Routes, Lead, Body, Rows}
use Rattle.base_text.specs.Fields.{field_name}

abbrev pub all_fields : List Field
all_fields = Entry ∷ Outside ∷ Frame ∷ Id ∷ Price ∷ Group ∷ Next ∷ Routes ∷ Lead ∷ Body ∷ Rows ∷ []

-- the same first letter, small or capital
abbrev pub begin_alike : List ℕ → List ℕ → Bool
begin_alike (b ∷ _) (c ∷ _) = eq_ignore_ascii_case b c
begin_alike _ _ = false

-- the key is the name with capital letters
abbrev pub has_capitals : List ℕ → List ℕ → Bool
has_capitals key name = not (bytes_eq key name) && str_eq_ignore_ascii_case key name

-- one step makes the key the name, and not one at its first letter, or small letters do
abbrev pub is_step_away : List ℕ → List ℕ → Bool
is_step_away key name = has_capitals key name || distance key name == 1 && begin_alike key name

abbrev pub first_near : List ℕ → List Field → Option Field
first_near key [] = None
first_near key (field ∷ fields) = if is_step_away key (field_name field) then Some field else first_near key fields

abbrev pub near_field : List ℕ → Option Field
near_field key = first_near key all_fields
