-- Routes that are guessed from the numbers of pages.
use Rattle.std.specs.Prelude.{◌≡◌, ℕ, zero, suc, Bool, true, false, not, List, [], ◌∷◌, ◌++◌, ◌+◌, ◌*◌, ◌/◌, ◌==◌, ◌&&◌, nat_le, codes, decimal, if◌then◌else◌}
use Rattle.std.specs.List.{list_any}
use Rattle.page_ids.specs.Ids.{Id, id_eq, first_frame}
use Rattle.page_ids.specs.declared.limits.TheConstants.{MOST_PAGE}
use Rattle.screens.specs.declared.look.Look.{Look}
use Rattle.screen_files.specs.declared.filed.Filed.{Filed}
use Rattle.screen_files.specs.Keys.{shows_key}

-- a frame is among these
abbrev pub knows_frame : List Id → Id → Bool
knows_frame ids id = list_any (λ i. id_eq i id) ids

abbrev pub has_frame : List Filed → Id → Bool
has_frame frames id = list_any (λ f. id_eq f.frame.id id) frames

-- those to which guessed routes may lead: these frames, or none if no routes are guessed
abbrev pub KnowsFrames : Bool → List Filed → List Id → Type 0
KnowsFrames guessed frames known = (id : Id) → knows_frame known id ≡ (guessed && has_frame frames id)

-- the page to which a digit leads by its number: `0` to the page without the last digit, or to page 0, another one to the page with this
-- digit at its end
abbrev pub page_by : ℕ → ℕ → ℕ
page_by page digit = if digit == 0 then page / 10 else 10 * page + digit

-- a page that callers can reach from this one by such a digit
abbrev pub leads_by : List Id → ℕ → ℕ → Bool
leads_by known page digit =
    (nat_le (page_by page digit) MOST_PAGE && not (page_by page digit == page)) && knows_frame known (first_frame (page_by page digit))

abbrev pub is_guessed : List Id → ℕ → List (List Look) → ℕ → Bool
is_guessed known page all digit = shows_key all digit && leads_by known page digit

-- what comes before a pair
abbrev pub route_between : Bool → List ℕ
route_between true = codes " "
route_between false = codes ", "

-- a digit, 48 is `0`, and the page to which it leads
abbrev pub pair_text : Bool → ℕ → ℕ → List ℕ
pair_text first digit to = route_between first ++ ((48 + digit) ∷ (codes " = " ++ decimal to))

-- those of n digits from one on; whether none came before
unfoldable pub routes_from : List Id → ℕ → List (List Look) → Bool → ℕ → ℕ → List ℕ
routes_from known page all first zero digit = []
routes_from known page all first (suc n) digit =
    if is_guessed known page all digit then pair_text first digit (page_by page digit) ++ routes_from known page all false n (digit + 1)
    else routes_from known page all first n (digit + 1)

-- the routes of a screen of a page
abbrev pub guessed_routes : List Id → ℕ → List (List Look) → List ℕ
guessed_routes known page all = routes_from known page all true 10 0
