-- The closed user groups to which a caller belongs, and the texts that list them.
use Rattle.std.specs.Prelude.{◌≡◌, ◌≢◌, ◌<◌, ◌≤◌, ◌&&◌, ◌↔◌, ℕ, Bool, false, List, [], ◌∷◌, ◌++◌, length, map, All, AllPairs, decimal, nat_lt, if◌then◌else◌, Result, Ok, Err}
use Rattle.std.specs.List.{list_all, join_with_byte}
use Rattle.std.specs.Char.{is_ascii_digit}
use Rattle.page_ids.specs.declared.number.NumberFault.{NumberFault}
use Rattle.page_ids.specs.declared.number.NumberFault.TheVariants.{NotNumeral, AboveLimit}
use Rattle.page_ids.specs.Texts.{number_in}
use Rattle.frame_records.specs.declared.limits.TheConstants.{MOST_GROUP, MOST_GROUPS}
use Rattle.frame_records.specs.declared.groups.GroupFault.{GroupFault}
use Rattle.frame_records.specs.declared.groups.GroupFault.TheVariants.{Number, Range, Order}
use Rattle.frame_records.specs.Bases.{IsGroup}
use Rattle.frame_records.specs.Steps.{◌>>=◌}
use Rattle.page_ids.specs.Parts.{parts_of}

-- at most 16 numbers of groups, strictly ascending
pub record AreGroups (groups : List ℕ) : Type 0 where
  pub few : length groups ≤ MOST_GROUPS
  pub ascending : AllPairs (λ a b. a < b) groups
  pub each : All IsGroup groups

-- all of these are smaller
abbrev pub are_below : List ℕ → ℕ → Bool
are_below groups group = list_all (λ held. nat_lt held group) groups

-- there is room after these for a greater one
abbrev pub has_room : List ℕ → ℕ → Bool
has_room groups group = nat_lt (length groups) MOST_GROUPS && are_below groups group

-- the list with a number after it, if it has room for it
abbrev pub pushed : List ℕ → ℕ → List ℕ
pushed groups group = if has_room groups group then groups ++ group ∷ [] else groups

-- a number after these groups: no group's number, or a 17th; then one that isn't greater
abbrev pub numbered : List ℕ → ℕ → Result ℕ GroupFault
numbered groups n =
    if nat_lt 0 n && nat_lt (length groups) MOST_GROUPS
    then (if are_below groups n then Ok n else Err Order)
    else Err Range

abbrev pub group_of : List ℕ → Result ℕ NumberFault → Result ℕ GroupFault
group_of groups (Ok n) = numbered groups n
group_of groups (Err NotNumeral) = Err Number
group_of groups (Err AboveLimit) = Err Range

-- the group of a word after these groups
abbrev pub group_in : List ℕ → List ℕ → Result ℕ GroupFault
group_in groups word = group_of groups (number_in MOST_GROUP word)

-- the groups with that of a word after them
abbrev pub added : List ℕ → List ℕ → Result (List ℕ) GroupFault
added groups word = group_in groups word >>= λ group. Ok (groups ++ group ∷ [])

-- words in turn, after these groups
abbrev pub words_in : List ℕ → List (List ℕ) → Result (List ℕ) GroupFault
words_in groups [] = Ok groups
words_in groups (word ∷ words) = added groups word >>= λ more. words_in more words

-- a text that is cut at each separator
abbrev pub groups_in : ℕ → List ℕ → Result (List ℕ) GroupFault
groups_in separator text = words_in [] (parts_of separator text)

-- decimal numbers with a separator between them
abbrev pub groups_text : ℕ → List ℕ → List ℕ
groups_text separator groups = join_with_byte separator (map decimal groups)

-- the text lists the groups, of which there is one at least
pub record IsGroupsText (separator : ℕ) (text groups : List ℕ) : Type 0 where
  pub valid : AreGroups groups
  pub some : groups ≢ []
  pub spelled : text ≡ groups_text separator groups

-- with every separator that is no digit, groups are read from just their own texts
abbrev pub GroupsAreTexts : Type 0
GroupsAreTexts = (separator : ℕ) (text groups : List ℕ) → is_ascii_digit separator ≡ false → (groups_in separator text ≡ Ok groups) ↔ IsGroupsText separator text groups
