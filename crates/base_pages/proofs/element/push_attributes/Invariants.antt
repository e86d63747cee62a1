use Rattle.std.proofs.Common.{◌≡◌, ◌++◌, drop}
use Rattle.std.specs.List.{flat_map}
use Rattle.base_pages.specs.Elements.{attribute_bytes}
use Rattle.base_pages.proofs.element.push_attributes.Given as goal

abbrev pub invariant-loop-attribute : goal.invariant-loop-attribute
invariant-loop-attribute l = l.out.items ++ flat_map attribute_bytes (drop l.attribute-index l.attributes) ≡ l.fn.out.items ++ flat_map attribute_bytes l.attributes
