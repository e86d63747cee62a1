-- Telnet's commands are passed over, and so is bit 7.
use Rattle.std.proofs.Common.{◌≡◌, ◌≢◌, ℕ, ◌+◌, ◌%◌, ◌<◌, ◌≤◌, ◌⊎◌, inl, inr, arith, refl, ap, sym, ◌∙◌, subst, Bool, true, false, List, [], ◌∷◌, ◌++◌, nat_lt, nat_le}
use Rattle.std.specs.Prelude.{◌==◌, not}
use Rattle.std.specs.List.{AllByRecursion}
use Rattle.std.proofs.lemmas.Bool.Decides.{nat_tests}
use Rattle.line_keys.specs.declared.heard.Heard.{Heard}
use Rattle.line_keys.specs.declared.heard.Heard.TheVariants.{Nothing}
use Rattle.line_keys.specs.declared.telnet.Telnet.{Telnet}
use Rattle.line_keys.specs.declared.telnet.Telnet.TheVariants.{Plain, Command, Choice, Block}
use Rattle.line_keys.specs.Stream.{is_typed, telnet_after}
use Rattle.line_keys.specs.Heard.{typed, HearingView, with_command, heard_if, hear, hearing_after, keys_heard}
use Rattle.line_keys.specs.Laws.{ArePassedOver, TelnetIsPassedOver, TopBitIsDropped}

abbrev at : Telnet → List ℕ → HearingView
at telnet command = record { telnet = telnet; command = command }

-- a byte in a command of telnet's, by where it leads
abbrev silent : Telnet → List ℕ → HearingView × Heard
silent telnet command = (at telnet command, Nothing)

plain_byte : (b : ℕ) → (b < 250) ⊎ (255 ≤ b) → telnet_after Command b ≡ Plain
plain_byte b (inl lt) =
    let not_block : (b == 250) ≡ false = grind (arith, nat_tests) in
    let not_choice : nat_le 251 b ≡ false = grind (arith, nat_tests) in
    rw (not_block, not_choice) refl
plain_byte b (inr ge) =
    let not_block : (b == 250) ≡ false = grind (arith, nat_tests) in
    let from : nat_le 251 b ≡ true = grind (arith, nat_tests) in
    let not_choice : nat_lt b 255 ≡ false = grind (arith, nat_tests) in
    rw (not_block, from, not_choice) refl

choice_byte : (b : ℕ) → 251 ≤ b → b < 255 → telnet_after Command b ≡ Choice
choice_byte b ge lt =
    let not_block : (b == 250) ≡ false = grind (arith, nat_tests) in
    let from : nat_le 251 b ≡ true = grind (arith, nat_tests) in
    let to : nat_lt b 255 ≡ true = grind (arith, nat_tests) in
    rw (not_block, from, to) refl

inner_byte : (b : ℕ) → b ≢ 255 → telnet_after Block b ≡ Block
inner_byte b differs = let no : (b == 255) ≡ false = grind (arith, nat_tests) in rw no refl

module _ (command : List ℕ) where
  by_one : (b : ℕ) → (b < 250) ⊎ (255 ≤ b) → ArePassedOver (at Plain command) (255 ∷ b ∷ [])
  by_one b few =
      let e = plain_byte b few in
      record { none = refl; same = ap (λ (k : Telnet). at k command) e }

  by_two : (b option : ℕ) → 251 ≤ b → b < 255 → ArePassedOver (at Plain command) (255 ∷ b ∷ option ∷ [])
  by_two b option ge lt =
      let e = choice_byte b ge lt in
      record {
        none = ap (λ (k : Telnet). keys_heard (at k command) (option ∷ [])) e;
        same = ap (λ (k : Telnet). hearing_after (at k command) (option ∷ [])) e;
      }

  keys_inside : (bytes rest : List ℕ) → AllByRecursion (λ b. b ≢ 255) bytes → keys_heard (at Block command) (bytes ++ rest) ≡ keys_heard (at Block command) rest
  keys_inside [] rest all = refl
  keys_inside (b ∷ bs) rest all = ap (λ (k : Telnet). keys_heard (at k command) (bs ++ rest)) (inner_byte b all.0) ∙ keys_inside bs rest all.1

  after_inside : (bytes rest : List ℕ) → AllByRecursion (λ b. b ≢ 255) bytes → hearing_after (at Block command) (bytes ++ rest) ≡ hearing_after (at Block command) rest
  after_inside [] rest all = refl
  after_inside (b ∷ bs) rest all = ap (λ (k : Telnet). hearing_after (at k command) (bs ++ rest)) (inner_byte b all.0) ∙ after_inside bs rest all.1

  by_block : (bytes : List ℕ) → AllByRecursion (λ b. b ≢ 255) bytes → ArePassedOver (at Plain command) (255 ∷ 250 ∷ (bytes ++ 255 ∷ 240 ∷ []))
  by_block bytes all = record { none = keys_inside bytes (255 ∷ 240 ∷ []) all; same = after_inside bytes (255 ∷ 240 ∷ []) all }

-- a hearing is its parts
whole : (h : HearingView) → h.telnet ≡ Plain → at Plain h.command ≡ h
whole h e = ap (λ (k : Telnet). at k h.command) (sym e)

passed : (h : HearingView) (bytes : List ℕ) → h.telnet ≡ Plain → ArePassedOver (at Plain h.command) bytes → ArePassedOver h bytes
passed h bytes e p = subst (λ (k : HearingView). ArePassedOver k bytes) (whole h e) p

pub telnet_is_passed_over : TelnetIsPassedOver
telnet_is_passed_over = record {
  one = λ h b e few. passed h (255 ∷ b ∷ []) e (by_one h.command b few);
  two = λ h b option e ge lt. passed h (255 ∷ b ∷ option ∷ []) e (by_two h.command b option ge lt);
  block = λ h bytes e all. passed h (255 ∷ 250 ∷ (bytes ++ 255 ∷ 240 ∷ [])) e (by_block h.command bytes all);
}

-- Bit 7.

own : (b : ℕ) → (b == 255) ≡ false → is_typed Plain b ≡ true
own b e = ap not e

dropped : (command : List ℕ) (b : ℕ) → b < 127 → hear (at Plain command) (128 + b) ≡ hear (at Plain command) b
dropped command b lt =
    let high : (128 + b == 255) ≡ false = grind (arith, nat_tests) in
    let low : (b == 255) ≡ false = grind (arith, nat_tests) in
    let same : (128 + b) % 128 ≡ b % 128 = omega arith in
    ap (λ (is : Bool). heard_if is (at Plain command) (128 + b)) (own (128 + b) high)
    ∙ (ap (λ (n : ℕ). with_command (at Plain command) (typed command n)) same
    ∙ sym (ap (λ (is : Bool). heard_if is (at Plain command) b) (own b low)))

pub top_bit_is_dropped : TopBitIsDropped
top_bit_is_dropped h b e lt = subst (λ (k : HearingView). hear k (128 + b) ≡ hear k b) (whole h e) (dropped h.command b lt)
