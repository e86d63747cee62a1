-- The keys that are heard on a line.
use Rattle.std.specs.Prelude.{ℕ, ◌+◌, ◌-◌, ◌%◌, ◌==◌, ◌||◌, ◌&&◌, Bool, true, false, List, [], ◌∷◌, ◌++◌, codes, length, nat_lt, nat_le, if◌then◌else◌}
use Rattle.std.specs.Str.{bytes_eq}
use Rattle.page_ids.specs.declared.key.Key.{Key}
use Rattle.page_ids.specs.declared.key.Key.TheVariants.{Route, Next, Prev, Reprint, Update}
use Rattle.line_keys.specs.declared.heard.Heard.{Heard}
use Rattle.line_keys.specs.declared.heard.Heard.TheVariants.{Nothing, Changed, Pressed, Page, End}
use Rattle.line_keys.specs.declared.telnet.Telnet.{Telnet}
use Rattle.line_keys.specs.declared.telnet.Telnet.TheVariants.{Plain}
use Rattle.line_keys.specs.Stream.{is_typed, telnet_after}

-- One byte of the caller's own. A command so far is its text: empty, or `*` and at most nine digits.
--
--   command so far      digit                                    `#`                `*`
--   none                its route                                next               begins a command
--   `*`                 goes on                                  previous           takes it back
--   `*0`                0 reprint, 9 update, others go on        a page             begins anew
--   `*90`               goes on                                  ends the call      begins anew
--   `*`, other digits   goes on; after nine it is passed over    a page             begins anew

-- a digit after `*`, by its number
abbrev pub digit_more : List ℕ → ℕ → List ℕ × Heard
digit_more command d =
    if bytes_eq command (codes "*0") && d == 0 then ([], Pressed Reprint)
    else if bytes_eq command (codes "*0") && d == 9 then ([], Pressed Update)
    else if nat_lt (length command) 10 then (command ++ (48 + d) ∷ [], Changed)
    else (command, Nothing)

abbrev pub digit_heard : List ℕ → ℕ → List ℕ × Heard
digit_heard command d = if length command == 0 then (command, Pressed (Route d)) else digit_more command d

-- `#`
abbrev pub hash_heard : List ℕ → Heard
hash_heard command =
    if length command == 0 then Pressed Next
    else if bytes_eq command (codes "*") then Pressed Prev
    else if bytes_eq command (codes "*90") then End
    else Page

-- `*`
abbrev pub star_heard : List ℕ → List ℕ
star_heard command = if bytes_eq command (codes "*") then [] else codes "*"

-- `#` is 23, or 5F as a terminal sends it; `*` is 2A; digits are 30 to 39; each other byte is passed over
abbrev pub typed : List ℕ → ℕ → List ℕ × Heard
typed command b =
    if b == 35 || b == 95 then ([], hash_heard command)
    else if b == 42 then (star_heard command, Changed)
    else if nat_le 48 b && nat_lt b 58 then digit_heard command (b - 48)
    else (command, Nothing)

-- Any byte.

-- where the bytes are in telnet's stream, and the command so far
pub record HearingView : Type 0 where
  pub telnet : Telnet
  pub command : List ℕ

-- before the first byte
abbrev pub quiet : HearingView
quiet = record { telnet = Plain; command = [] }

abbrev pub with_command : HearingView → List ℕ × Heard → HearingView × Heard
with_command h t = (record { telnet = h.telnet; command = t.0 }, t.1)

-- the caller's own byte less its top bit, or one of a command of telnet's
abbrev pub heard_if : Bool → HearingView → ℕ → HearingView × Heard
heard_if true h b = with_command h (typed h.command (b % 128))
heard_if false h b = (record { telnet = telnet_after h.telnet b; command = h.command }, Nothing)

abbrev pub hear : HearingView → ℕ → HearingView × Heard
hear h b = heard_if (is_typed h.telnet b) h b

-- Bytes, in order.

-- where they leave the hearing
abbrev pub hearing_after : HearingView → List ℕ → HearingView
hearing_after h [] = h
hearing_after h (b ∷ bs) = hearing_after (hear h b).0 bs

-- the key that was heard, if one was, before others
abbrev pub and_key : Heard → List Key → List Key
and_key (Pressed key) keys = key ∷ keys
and_key Nothing keys = keys
and_key Changed keys = keys
and_key Page keys = keys
and_key End keys = keys

-- the keys that they end
abbrev pub keys_heard : HearingView → List ℕ → List Key
keys_heard h [] = []
keys_heard h (b ∷ bs) = and_key (hear h b).1 (keys_heard (hear h b).0 bs)
