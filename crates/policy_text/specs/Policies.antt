-- What a policy's text means: one policy, or its first fault.
use Rattle.std.specs.Prelude.{ℕ, ◌+◌, ◌++◌, ◌∷◌, [], ◌≡◌, ◌⊎◌, Bool, ◌||◌, List, codes, length, nat_lt, nat_le, pos, negsuc, ◌&&◌, if◌then◌else◌, Option, Some, None, is_some, Result, Ok, Err}
use Rattle.std.specs.Str.{bytes_eq}
use Rattle.toml.specs.Data.{Members, no_members, member, Data, integer, array, Items, no_items, item, get_member}
use Rattle.frame_records.specs.declared.limits.TheConstants.{MOST_PENCE, MOST_GROUP, MOST_GROUPS}
use Rattle.frame_records.specs.Groups.{are_below}
use Rattle.frame_records.specs.Steps.{◌>>=◌}
use Rattle.cert_table.specs.declared.limits.TheConstants.{MOST_RANK}
use Rattle.checker.specs.declared.policy.Policy.{Policy}
use Rattle.base_text.specs.Whole.{tree_of}
use Rattle.policy_text.specs.declared.limits.TheConstants.{MOST_POLICY_TEXT}
use Rattle.policy_text.specs.declared.fault.PolicyField.{PolicyField}
use Rattle.policy_text.specs.declared.fault.PolicyField.TheVariants.{Ceiling, Keyings, Groups}
use Rattle.policy_text.specs.declared.fault.PolicyFault.{PolicyFault}
use Rattle.policy_text.specs.declared.fault.PolicyFault.TheVariants.{TooLong, NotToml, UnknownKey, Absent, WrongKind, WrongItem, Range, ItemRange, TooManyGroups, Order, Memory}

-- How a policy's text writes its keys.

abbrev pub policy_key : PolicyField → List ℕ
policy_key Ceiling = codes "ceiling"
policy_key Keyings = codes "keyings"
policy_key Groups = codes "groups"

-- the keys that a policy has
abbrev pub is_policy_key : List ℕ → Bool
is_policy_key k = (bytes_eq k (codes "ceiling") || bytes_eq k (codes "keyings")) || bytes_eq k (codes "groups")

-- the first key that a policy doesn't have, in the order of the keys' bytes
abbrev pub unknown_key : Members → Option (List ℕ)
unknown_key no_members = None
unknown_key (member k d ms) = if is_policy_key k then unknown_key ms else Some k

-- The value of each key, or what is wrong with it.

-- a whole number up to a limit
abbrev pub policy_number : PolicyField → ℕ → Data → Result ℕ PolicyFault
policy_number f most (integer (pos n)) = if nat_le n most then Ok n else Err (Range f)
policy_number f most (integer (negsuc n)) = Err (Range f)
policy_number f most d = Err (WrongKind f)

-- the same of a key that has to be there
abbrev pub required_number : PolicyField → ℕ → Option Data → Result ℕ PolicyFault
required_number f most None = Err (Absent f)
required_number f most (Some d) = policy_number f most d

-- the number of a group, by the number of its item, from 1
abbrev pub item_number : ℕ → Data → Result ℕ PolicyFault
item_number i (integer (pos n)) = if nat_le 1 n && nat_le n MOST_GROUP then Ok n else Err (ItemRange i)
item_number i (integer (negsuc n)) = Err (ItemRange i)
item_number i d = Err (WrongItem i)

-- a group after these: a 17th, then one that isn't greater
abbrev pub group_after : ℕ → List ℕ → ℕ → Result (List ℕ) PolicyFault
group_after i groups n =
    if nat_lt (length groups) MOST_GROUPS
    then (if are_below groups n then Ok (groups ++ n ∷ []) else Err (Order i))
    else Err TooManyGroups

-- the groups with that of an item after them
abbrev pub item_added : ℕ → List ℕ → Data → Result (List ℕ) PolicyFault
item_added i groups d = item_number i d >>= λ n. group_after i groups n

-- items in turn, the first with this number, after these groups
abbrev pub policy_groups : ℕ → List ℕ → Items → Result (List ℕ) PolicyFault
policy_groups i groups no_items = Ok groups
policy_groups i groups (item d ds) = item_added i groups d >>= λ more. policy_groups (i + 1) more ds

-- the groups, or none
abbrev pub groups_value : Option Data → Result (List ℕ) PolicyFault
groups_value None = Ok []
groups_value (Some (array ds)) = policy_groups 1 [] ds
groups_value (Some d) = Err (WrongKind Groups)

-- The policy of a text.

abbrev pub policy_with : ℕ → ℕ → List ℕ → Policy
policy_with ceiling keyings groups = record { ceiling = ceiling; keyings = keyings; groups = groups }

-- the keys in their order
abbrev pub values_of : Members → Result Policy PolicyFault
values_of ms =
    required_number Ceiling MOST_PENCE (get_member (codes "ceiling") ms) >>= λ ceiling.
    required_number Keyings MOST_RANK (get_member (codes "keyings") ms) >>= λ keyings.
    groups_value (get_member (codes "groups") ms) >>= λ groups. Ok (policy_with ceiling keyings groups)

-- an unknown key comes before the values
abbrev pub members_policy : Members → Result Policy PolicyFault
members_policy ms = if is_some (unknown_key ms) then Err UnknownKey else values_of ms

-- the policy of a tree, if the text has one
abbrev pub tree_policy : Option Members → Result Policy PolicyFault
tree_policy None = Err NotToml
tree_policy (Some ms) = members_policy ms

-- the policy of a text, or its first fault; its length comes before all else
abbrev pub policy_in : List ℕ → Result Policy PolicyFault
policy_in text = if nat_lt MOST_POLICY_TEXT (length text) then Err TooLong else tree_policy (tree_of text)

-- what is read is the text's policy or its first fault; or memory was refused
abbrev pub IsPolicyOfText : List ℕ → Result Policy PolicyFault → Type 0
IsPolicyOfText text (Ok policy) = policy_in text ≡ Ok policy
IsPolicyOfText text (Err fault) = (fault ≡ Memory) ⊎ (policy_in text ≡ Err fault)

-- The widest policy.

-- every base's prices and every certificate's keyings are within it; of callers in no group
abbrev pub widest : Policy
widest = policy_with MOST_PENCE MOST_RANK []

abbrev pub widest_text : List ℕ
widest_text = codes "ceiling = 9999\nkeyings = 65535\n"
