-- The links of a file and its ways.
use Rattle.std.specs.Prelude.{◌≡◌, ◌↔◌, ◌&&◌, ◌||◌, All, Contains, ℕ, Bool, false, List, [], ◌∷◌, codes, if◌then◌else◌}
use Rattle.std.specs.List.{list_any}
use Rattle.page_ids.specs.Ids.{Id, IsFrameId}
use Rattle.page_ids.specs.Keys.{IsKey}
use Rattle.page_ids.specs.declared.way.Way.{Way}
use Rattle.page_ids.specs.Ways.{way_key}
use Rattle.frame_records.specs.declared.frame.Frame.{Frame}
use Rattle.frame_records.specs.declared.ways.Destination.TheVariants.{Found}
use Rattle.frame_records.specs.Ways.{destination_of}
use Rattle.fault_scripts.specs.declared.outcome.Outcome.{Outcome}
use Rattle.fault_scripts.specs.declared.outcome.Outcome.TheVariants.{Certified, Faulty}
use Rattle.screens.specs.Laws.{is_name}
use Rattle.base_pages.specs.Sections.{BookView, shown_frames}
use Rattle.base_pages.specs.Reading.{Element}
use Rattle.base_pages.specs.Said.{link_said, section_said}

-- the section of a frame has a link with the key of a way to that of an id
abbrev pub HasLink : BookView → Frame → Way → Id → Type 0
HasLink b f way to = Contains (section_said b f) (link_said to (way_key way))

-- for the callers, the way leads there, and the file has the frame
pub record LeadsInFile (b : BookView) (f : Frame) (way : Way) (to : Id) : Type 0 where
  pub price : ℕ
  pub found : destination_of b.caller b.base f way ≡ Found to price
  pub frame : Frame
  pub has : Contains (shown_frames b b.base.frames) frame
  pub is : frame.id ≡ to

-- in the section of a frame
pub record LinksAreWays (b : BookView) (f : Frame) : Type 0 where
  -- there is a link with a key to an id if and only if the way of that key leads there
  pub ways : (way : Way) (to : Id) → IsKey (way_key way) → IsFrameId to
      → HasLink b f way to ↔ LeadsInFile b f way to
  -- and each link is one of these, so that its target is in the file
  pub links : (e : Element) → Contains (section_said b f) e → e.name ≡ codes "a"
      → (way : Way) × (to : Id) × LeadsInFile b f way to × (e ≡ link_said to (way_key way))

-- the links of each frame that is shown
abbrev pub AllLinksAreWays : BookView → Type 0
AllLinksAreWays b = All (LinksAreWays b) (shown_frames b b.base.frames)

-- The ways of certified bases.

-- the value of an attribute, if there is one
abbrev pub value_in : List ℕ → List (List ℕ × List ℕ) → List ℕ
value_in name [] = []
value_in name (a ∷ attributes) = if is_name a.0 name then a.1 else value_in name attributes

abbrev pub has_class : List ℕ → Element → Bool
has_class class e = is_name (value_in (codes "class") e.attributes) class

-- a section says that no key reaches its frame
abbrev pub says_unreached : List Element → Bool
says_unreached [] = false
says_unreached (e ∷ es) = has_class (codes "unreached") e

-- a way to a frame that is missing or closed
abbrev pub fails : Element → Bool
fails e = is_name e.name (codes "span") && (has_class (codes "missing") e || has_class (codes "closed") e)

-- in a section that callers reach no way fails
abbrev pub NoWayFails : List (List Element) → Type 0
NoWayFails sections = All (λ es. says_unreached es ≡ false → list_any fails es ≡ false) sections

-- if the base is certified
abbrev pub NoneFails : Outcome → List (List Element) → Type 0
NoneFails (Certified cert) sections = NoWayFails sections
NoneFails (Faulty faults) sections = Unit {0}
