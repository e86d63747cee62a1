-- A text on its way to a sink, section by section.
use Rattle.std.proofs.Common.{rules, ◌≡◌, ◌∙◌, ℕ, Bool, true, false, cond, List, [], ◌∷◌, ◌++◌, sym, ap, refl, append_assoc, append-nil, Option, None, Some, inr}
use Rattle.std.specs.Prelude.{filter, Result, Ok, Err}
use Rattle.std.specs.List.{flat_map}
use Rattle.std.specs.Io.KnownBytes.{Appends}
use Rattle.devices.specs.Devices.{Seen, IsOnItsWay}
use Rattle.frame_records.specs.declared.frame.Frame.{Frame}
use Rattle.finder.specs.Parts.{part_shows}
use Rattle.checker.specs.declared.policy.Policy.{Policy}
use Rattle.frame_records.specs.Bases.{BaseView}
use Rattle.page_ids.specs.Ids.{Id}
use Rattle.finder.specs.declared.view.View.{View}
use Rattle.finder.specs.Parts.{IsViewPart}
use Rattle.base_pages.specs.declared.fault.PagesFault.{PagesFault}
use Rattle.base_pages.specs.declared.fault.PagesFault.TheVariants.{Write, Memory}
use Rattle.base_pages.specs.declared.pages.PagesStatus.{PagesStatus}
use Rattle.base_pages.specs.declared.pages.PagesStatus.TheVariants.{Written, NoPage}
use Rattle.base_pages.specs.Pages.{StoppedWithin, IsPagesFault, IsPartWritten, IsPagesRun}
use Rattle.base_pages.specs.Loops.{IsStopped}
use Rattle.base_pages.specs.Sections.{BookView, SourceView, section, sections}

-- what was taken is the front of any text that goes on
pub stopped : (old now : Seen) (kept : List ℕ) (wrote : ℕ) (text rest : List ℕ) → IsOnItsWay old now kept wrote text → StoppedWithin old now (text ++ rest)
stopped old now kept wrote text rest way = record {
  front = way.front;
  rest = kept ++ rest;
  is = ap (λ xs. xs ++ rest) way.all ∙ append_assoc way.front kept rest;
  took = way.took;
}

-- the section of a frame, and those of the frames after it
pub first_section : (b : BookView) (f : Frame) (fs : List Frame) → sections b (f ∷ fs) ≡ sections b (f ∷ []) ++ sections b fs
first_section b f fs = by (part_shows b.part f.id) where
  by : (s : Bool) → flat_map (section b) (cond s (f ∷ filter (λ x. part_shows b.part x.id) fs) (filter (λ x. part_shows b.part x.id) fs)) ≡ flat_map (section b) (cond s (f ∷ []) []) ++ sections b fs
  by true = ap (λ xs. xs ++ sections b fs) (sym (append-nil (section b f)))
  by false = refl

-- all of a text is kept at first
pub begins : (old : Seen) → old.failed ≡ false → (kept none text : List ℕ) → kept ≡ none ++ text → none ≡ [] → IsOnItsWay old old kept 0 text
begins old unbroken kept none text is empty = record {
  front = [];
  all = sym (is ∙ ap (λ xs. xs ++ text) empty);
  counted = refl;
  took = record { taken = Keeps-Appends old.bytes; unbroken = unbroken; unflushed = refl };
} where
  Keeps-Appends : (o : Option (List ℕ)) → Appends o o []
  Keeps-Appends None = search rules
  Keeps-Appends (Some bs) = search rules

-- a text that isn't written whole
pub fault_of : (old new : Seen) (Is : List ℕ → Type 0) (text : List ℕ) → Is text → (fault : PagesFault) → IsStopped old new text fault → IsPagesFault old new Is fault
fault_of old new Is text is (Write wrote) stop = (text, is, stop)
fault_of old new Is text is Memory stop = inr (text, is, stop)

-- the run of a view that has a part
pub run_of_part : (old new : Seen) (source : SourceView) (base : BaseView) (policy : Policy) (view : View) (part : Option (List Id)) → IsViewPart policy.groups base view (Some part)
    → (r : Result PagesStatus PagesFault) → IsPartWritten old new source base policy part r → IsPagesRun old new source base policy view r
run_of_part old new source base policy view part is (Ok Written) w = record { part = part; is = is; written = w }
run_of_part old new source base policy view part is (Ok NoPage) w = absurd w
run_of_part old new source base policy view part is (Err (Write n)) w = record { part = part; is = is; written = w }
run_of_part old new source base policy view part is (Err Memory) w = inr (record { part = part; is = is; written = w })
