-- The screens of a capture.
use Rattle.std.specs.Prelude.{◌≡◌, ◌<◌, ◌≤◌, ℕ, Bool, true, false, List, [], ◌∷◌, ◌++◌, Option, Some, None, Result, Ok, Err, Vec, ◌-◌, ◌==◌, length, if◌then◌else◌}
use Rattle.std.specs.declared.alloc.Global.{Global}
use Rattle.std.specs.List.{list_all}
use Rattle.std.specs.Option.{is_some}
use Rattle.terminal_codes.specs.Screen.{byte_step}
use Rattle.screen_files.specs.declared.capture.Shot.{Shot}
use Rattle.screen_files.specs.declared.capture.Reel.{Reel}
use Rattle.screen_files.specs.declared.capture.CaptureFault.{CaptureFault}
use Rattle.screen_files.specs.declared.capture.CaptureFault.TheVariants.{TooMany, Memory}
use Rattle.screen_files.specs.declared.capture.TheConstants.{MOST_SHOTS}
use Rattle.screen_files.specs.Codes.{seven_bits, switched_on}
use Rattle.screen_files.specs.Heads.{screen_head}

-- a byte that clears the screen, 0C
abbrev pub clears_screen : ℕ → Bool
clears_screen b = seven_bits b == 0x0C

abbrev pub is_blank_screen : List ℕ → Bool
is_blank_screen codes = list_all (λ c. c == 0x20) codes

abbrev pub shot_at : ℕ → List ℕ → Shot
shot_at byte codes = record { byte = byte; codes = codes }

-- a screen that began at a byte, if it isn't blank
abbrev pub shot_if_shown : ℕ → List ℕ → List Shot
shot_if_shown byte codes = if is_blank_screen codes then [] else shot_at byte codes ∷ []

-- what came before the first byte that clears: a screen if its row 0 shows an id
abbrev pub shown_first : List ℕ → List Shot
shown_first codes = if is_some (screen_head codes).id then shot_at 0 codes ∷ [] else []

-- the screen that a byte clears; `start` is the offset of the one that cleared before
abbrev pub shown_since : Option ℕ → List ℕ → List Shot
shown_since None codes = shown_first codes
shown_since (Some byte) codes = shot_if_shown byte codes

-- The terminal between two bytes of a capture of `size` bytes.

-- it is switched on
abbrev pub unwound : Reel
unwound = record { terminal = switched_on; start = None }

-- the offset of the first of the bytes that are left
abbrev pub offset_in : ℕ → List ℕ → ℕ
offset_in size left = size - length left

abbrev pub start_by : Bool → ℕ → Option ℕ → Option ℕ
start_by true offset before = Some offset
start_by false offset before = before

-- it received the first of the bytes that are left
abbrev pub reel_after : Reel → ℕ → ℕ → Reel
reel_after r offset b =
    record { terminal = byte_step r.terminal (seven_bits b); start = start_by (clears_screen b) offset r.start }

abbrev pub cleared_by : Reel → ℕ → List Shot
cleared_by r b = if clears_screen b then shown_since r.start r.terminal.cells else []

-- the screens that are cleared by the bytes that are left
unfoldable pub cleared : ℕ → Reel → List ℕ → List Shot
cleared size r [] = []
cleared size r (b ∷ bs) = cleared_by r b ++ cleared size (reel_after r (offset_in size (b ∷ bs)) b) bs

-- after them
unfoldable pub wound : ℕ → Reel → List ℕ → Reel
wound size r [] = r
wound size r (b ∷ bs) = wound size (reel_after r (offset_in size (b ∷ bs)) b) bs

-- The screens.

abbrev pub start_offset : Option ℕ → ℕ
start_offset None = 0
start_offset (Some byte) = byte

-- what is on the screen at the end
abbrev pub end_shot : Reel → Shot
end_shot r = shot_at (start_offset r.start) r.terminal.cells

abbrev pub shown_end : Reel → List Shot
shown_end r = shot_if_shown (start_offset r.start) r.terminal.cells

-- those that aren't blank
abbrev pub shown_screens : List ℕ → List Shot
shown_screens bytes = cleared (length bytes) unwound bytes ++ shown_end (wound (length bytes) unwound bytes)

-- the last, if there are no others
abbrev pub end_if_none : List Shot → Reel → List Shot
end_if_none [] r = end_shot r ∷ []
end_if_none (s ∷ ss) r = []

abbrev pub with_end : List Shot → Reel → List Shot
with_end shots r = shots ++ end_if_none shots r

-- the screens of a capture: if all are blank, the last
abbrev pub capture_screens : List ℕ → List Shot
capture_screens bytes = with_end (shown_screens bytes) (wound (length bytes) unwound bytes)

-- the screens of a capture, or why there are none
abbrev pub AreCaptureScreens : List ℕ → Result (Vec Shot Global) CaptureFault → Type 0
AreCaptureScreens bytes (Ok shots) = (shots.items ≡ capture_screens bytes) × (length shots.items ≤ MOST_SHOTS)
AreCaptureScreens bytes (Err TooMany) = MOST_SHOTS < length (capture_screens bytes)
AreCaptureScreens bytes (Err Memory) = Unit {0}
