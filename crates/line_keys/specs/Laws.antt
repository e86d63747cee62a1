-- The laws of what is heard.
use Rattle.std.specs.Prelude.{◌≡◌, ◌≢◌, ℕ, ◌+◌, ◌<◌, ◌≤◌, ◌⊎◌, List, [], ◌∷◌, ◌++◌}
use Rattle.std.specs.List.{AllByRecursion}
use Rattle.page_ids.specs.declared.key.Key.{Key}
use Rattle.page_ids.specs.Keys.{AreKeys, keys_text}
use Rattle.line_keys.specs.declared.telnet.Telnet.TheVariants.{Plain}
use Rattle.line_keys.specs.Heard.{HearingView, quiet, hear, hearing_after, keys_heard}

pub record WordsAreHeard : Type 0 where
  -- the words of keys are heard as these keys
  pub words : (keys : List Key) → AreKeys keys → keys_heard quiet (keys_text keys) ≡ keys
  pub ended : (keys : List Key) → AreKeys keys → hearing_after quiet (keys_text keys) ≡ quiet
  -- bytes in turn
  pub keys_in_turn : (h : HearingView) (xs ys : List ℕ) → keys_heard h (xs ++ ys) ≡ keys_heard h xs ++ keys_heard (hearing_after h xs) ys
  pub after_in_turn : (h : HearingView) (xs ys : List ℕ) → hearing_after h (xs ++ ys) ≡ hearing_after (hearing_after h xs) ys

-- bytes that end no key and leave the hearing as it was
pub record ArePassedOver (h : HearingView) (bytes : List ℕ) : Type 0 where
  pub none : keys_heard h bytes ≡ []
  pub same : hearing_after h bytes ≡ h

-- within a command so far too, if the bytes before are no command of telnet's that goes on
pub record TelnetIsPassedOver : Type 0 where
  -- FF (255) and one byte, but for FA (250) to FE (254)
  pub one : (h : HearingView) (b : ℕ) → h.telnet ≡ Plain → (b < 250) ⊎ (255 ≤ b) → ArePassedOver h (255 ∷ b ∷ [])
  -- FF, one of FB to FE (251 to 254), and one byte
  pub two : (h : HearingView) (b option : ℕ) → h.telnet ≡ Plain → 251 ≤ b → b < 255 → ArePassedOver h (255 ∷ b ∷ option ∷ [])
  -- FF FA, bytes without FF, and FF F0 (240)
  pub block : (h : HearingView) (bytes : List ℕ) → h.telnet ≡ Plain → AllByRecursion (λ b. b ≢ 255) bytes → ArePassedOver h (255 ∷ 250 ∷ (bytes ++ 255 ∷ 240 ∷ []))

-- bit 7 of the caller's own bytes says nothing; FF isn't one
abbrev pub TopBitIsDropped : Type 0
TopBitIsDropped = (h : HearingView) (b : ℕ) → h.telnet ≡ Plain → b < 127 → hear h (128 + b) ≡ hear h b
