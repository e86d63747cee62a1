-- Which element of `outside` a page is.
use Rattle.std.specs.Prelude.{ℕ, zero, suc, ◌+◌, ℤ, pos, Bool, false, ◌==◌, nat_le, if◌then◌else◌, List, Option, Some, None}
use Rattle.std.specs.Option.{option_or}
use Rattle.page_ids.specs.declared.limits.TheConstants.{MOST_PAGE}
use Rattle.frame_records.specs.declared.limits.TheConstants.{MOST_LISTED}
use Rattle.base_text.specs.declared.whole_fault.WholeFault.{WholeFault}
use Rattle.base_text.specs.declared.whole_fault.WholeFault.TheVariants.{OutsideInside}
use Rattle.toml_places.specs.Steps.{◌>>=◌}
use Rattle.toml_places.specs.declared.spans.Span.{Span}
use Rattle.toml_places.specs.Spans.{integer_at}
use Rattle.lint.specs.Tables.{TableView}

abbrev pub page_of : Option ℤ → Option ℕ
page_of (Some (pos n)) = if nat_le n MOST_PAGE then Some n else None
page_of _ = None

-- the page that is written in the span
abbrev pub page_in_span : List ℕ → Span → Option ℕ
page_in_span text s = page_of (integer_at s.begin text)

abbrev pub is_page : ℕ → Option ℕ → Bool
is_page page None = false
is_page page (Some n) = n == page

-- the element of an index, if it is this page
abbrev pub element_if : TableView → ℕ → ℕ → Option Span
element_if t page k = t.item k >>= (λ s. if is_page page (page_in_span t.text s) then Some s else None)

-- the first that is this page, of n elements from one on
unfoldable pub page_from : TableView → ℕ → ℕ → ℕ → Option Span
page_from t page zero k = None
page_from t page (suc n) k = option_or (element_if t page k) (page_from t page n (k + 1))

-- among as many pages as a base may list
abbrev pub page_at : TableView → ℕ → Option Span
page_at t page = page_from t page MOST_LISTED 0

-- if the fault is a page of `outside`, its element
abbrev pub outside_element : (ℕ → Option Span) → WholeFault → Option Span
outside_element pages (OutsideInside page) = pages page
outside_element pages _ = None
