-- What a screen is in other programs.
use Rattle.std.specs.Prelude.{◌≡◌, ◌<◌, ℕ, List, [], ◌∷◌, ◌++◌, Some, None, Ok, length, replicate, take}
use Rattle.std.specs.List.{All}
use Rattle.terminal_codes.specs.Writes.{IsCode}
use Rattle.page_ids.specs.Ids.{Id, IsFrameId}
use Rattle.screen_forms.specs.Forms.{tti_bytes, tti_page}
use Rattle.screen_forms.specs.Links.{link_codes, link_letters}
use Rattle.screen_forms.specs.Sheets.{sheet_screens}
use Rattle.screen_forms.specs.declared.text_screens.TextScreen.{TextScreen}

-- 960 codes that cells can hold
pub record IsSavedScreen (screen : List ℕ) : Type 0 where
  pub cells : length screen ≡ 960
  pub codes : All IsCode screen

-- the letters of a screen are read as that screen
abbrev pub LinksKeepScreens : Type 0
LinksKeepScreens = (screen : List ℕ) → IsSavedScreen screen → link_codes (link_letters screen) ≡ Some screen

-- what an address holds is a screen
abbrev pub LinksAreScreens : Type 0
LinksAreScreens = (letters screen : List ℕ) → link_codes letters ≡ Some screen → IsSavedScreen screen

-- rows 0 to 22 of a screen, on the page of its TTI file
abbrev pub written_page : Id → List ℕ → TextScreen
written_page id screen =
    record { line = 2; beside = None; number = Some (record { page = tti_page id.page; letter = id.letter }); codes = take 920 screen ++ replicate 40 32 }

-- the TTI file of a screen is read as that page
abbrev pub SheetsKeepScreens : Type 0
SheetsKeepScreens = (id : Id) (screen : List ℕ) → IsFrameId id → IsSavedScreen screen
    → sheet_screens (tti_bytes id screen) ≡ Ok (written_page id screen ∷ [])

-- what the pages of a text hold is screens
abbrev pub SheetsAreScreens : Type 0
SheetsAreScreens = (text : List ℕ) (screens : List TextScreen) → All (λ b. b < 256) text → sheet_screens text ≡ Ok screens
    → All (λ s. IsSavedScreen s.codes) screens
