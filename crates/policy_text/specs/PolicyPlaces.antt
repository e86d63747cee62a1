-- Where a policy's text has its first fault.
use Rattle.std.specs.Prelude.{ℕ, ◌∷◌, [], ◌-◌, List, Option, Some, None, unwrap_or}
use Rattle.std.specs.Option.{option_or}
use Rattle.toml.specs.Data.{Members}
use Rattle.toml_places.specs.declared.spans.Span.{Span}
use Rattle.toml_places.specs.declared.spans.KeyPlace.{KeyPlace}
use Rattle.toml_places.specs.Places.{marks, first_spot}
use Rattle.toml_places.specs.Spans.{key_span, value_span, element_span}
use Rattle.policy_text.specs.declared.fault.PolicyField.{PolicyField}
use Rattle.policy_text.specs.declared.fault.PolicyField.TheVariants.{Groups}
use Rattle.policy_text.specs.declared.fault.PolicyFault.{PolicyFault}
use Rattle.policy_text.specs.declared.fault.PolicyFault.TheVariants.{UnknownKey, WrongKind, WrongItem, Range, ItemRange, TooManyGroups, Order}
use Rattle.policy_text.specs.Policies.{policy_key, unknown_key}

-- where a key is first written
abbrev pub policy_key_spot : List ℕ → List ℕ → Option KeyPlace
policy_key_spot text key = first_spot (marks text) None (key ∷ [])

-- the key itself
abbrev pub policy_key_at : List ℕ → Option KeyPlace → Option Span
policy_key_at text None = None
policy_key_at text (Some spot) = key_span spot text

-- its value
abbrev pub policy_value_at : List ℕ → Option KeyPlace → Option Span
policy_value_at text None = None
policy_value_at text (Some spot) = value_span spot text

abbrev pub policy_field_at : List ℕ → PolicyField → Option Span
policy_field_at text f = policy_value_at text (policy_key_spot text (policy_key f))

-- an item of an array, by its number from 1; the array, if the item isn't found
abbrev pub item_in : List ℕ → ℕ → Option Span → Option Span
item_in text i None = None
item_in text i (Some array) = option_or (element_span (i - 1) array.begin text) (Some array)

abbrev pub group_item_at : List ℕ → ℕ → Option Span
group_item_at text i = item_in text i (policy_field_at text Groups)

-- the first key that a policy doesn't have
abbrev pub unknown_key_at : List ℕ → Option (List ℕ) → Option Span
unknown_key_at text None = None
unknown_key_at text (Some key) = policy_key_at text (policy_key_spot text key)

-- the smallest piece that is at fault; of what isn't there none
abbrev pub policy_fault_at : List ℕ → Members → PolicyFault → Option Span
policy_fault_at text ms UnknownKey = unknown_key_at text (unknown_key ms)
policy_fault_at text ms (WrongKind f) = policy_field_at text f
policy_fault_at text ms (Range f) = policy_field_at text f
policy_fault_at text ms (WrongItem i) = group_item_at text i
policy_fault_at text ms (ItemRange i) = group_item_at text i
policy_fault_at text ms (Order i) = group_item_at text i
policy_fault_at text ms TooManyGroups = policy_field_at text Groups
policy_fault_at text ms _ = None

-- the front of the text, if there is none
abbrev pub or_front : Option Span → Span
or_front span = unwrap_or span (record { begin = 0; end = 0 })
