-- The screens of a text.
use Rattle.std.specs.Prelude.{◌≡◌, ℕ, Bool, List, Result, Ok, Err, Vec, ◌==◌, ◌&&◌, drop, get_or, if◌then◌else◌}
use Rattle.std.specs.declared.alloc.Global.{Global}
use Rattle.screen_forms.specs.declared.text_screens.FaultyLine.{FaultyLine}
use Rattle.screen_forms.specs.declared.text_screens.TextScreen.{TextScreen}
use Rattle.screen_forms.specs.declared.text_screens.TextScreensFault.{TextScreensFault}
use Rattle.screen_forms.specs.declared.text_screens.TextScreensFault.TheVariants.{Line, Memory}

-- a byte order mark: EF BB BF
abbrev pub has_byte_mark : List ℕ → Bool
has_byte_mark text = get_or text 0 0 == 0xEF && get_or text 1 0 == 0xBB && get_or text 2 0 == 0xBF

abbrev pub after_byte_mark : List ℕ → List ℕ
after_byte_mark text = if has_byte_mark text then drop 3 text else text

-- the screens of a text, or its first fault
abbrev pub AreTextScreens : Result (List TextScreen) FaultyLine → Result (Vec TextScreen Global) TextScreensFault → Type 0
AreTextScreens found (Ok screens) = found ≡ Ok screens.items
AreTextScreens found (Err (Line fault)) = found ≡ Err fault
AreTextScreens found (Err Memory) = Unit {0}
