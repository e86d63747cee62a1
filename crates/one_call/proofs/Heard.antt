-- What hearing a byte leaves of the command so far.
use Rattle.std.proofs.Common.{◌≡◌, ℕ, ◌+◌, ◌==◌, refl, List, [], ◌∷◌, ◌++◌, length, codes, Bool, true, false, nat_lt, nat_le, ◌&&◌, ◌||◌, ◌%◌, ◌-◌, if◌then◌else◌}
use Rattle.std.specs.Str.{bytes_eq}
use Rattle.page_ids.specs.declared.key.Key.TheVariants.{Route, Next, Prev, Reprint, Update}
use Rattle.line_keys.specs.declared.heard.Heard.{Heard}
use Rattle.line_keys.specs.declared.heard.Heard.TheVariants.{Nothing, Changed, Pressed, Page, End}
use Rattle.line_keys.specs.Stream.{is_typed}
use Rattle.line_keys.specs.Heard.{HearingView, digit_more, digit_heard, hash_heard, star_heard, typed, heard_if, hear}

-- nothing leaves it as it was; a key, a page and the end leave none
abbrev pub LeavesBy : List ℕ → List ℕ → Heard → Type 0
LeavesBy before after Nothing = after ≡ before
LeavesBy before after Changed = Unit {0}
LeavesBy before after (Pressed key) = (length after == 0) ≡ true
LeavesBy before after Page = (length after == 0) ≡ true
LeavesBy before after End = (length after == 0) ≡ true

abbrev Leaves : List ℕ → List ℕ × Heard → Type 0
Leaves before o = LeavesBy before o.0 o.1

either : {A : Type 0} (P : A → Type 0) (test : Bool) (x y : A) → (test ≡ true → P x) → P y → P (if test then x else y)
either P true x y f h = f refl
either P false x y f h = h

more_leaves : (command : List ℕ) (d : ℕ) → Leaves command (digit_more command d)
more_leaves command d =
    either (Leaves command) (bytes_eq command (codes "*0") && d == 0) ([], Pressed Reprint) _ (λ e. refl)
    (either (Leaves command) (bytes_eq command (codes "*0") && d == 9) ([], Pressed Update) _ (λ e. refl)
    (either (Leaves command) (nat_lt (length command) 10) (command ++ (48 + d) ∷ [], Changed) (command, Nothing) (λ e. tt) refl))

digit_leaves : (command : List ℕ) (d : ℕ) → Leaves command (digit_heard command d)
digit_leaves command d = either (Leaves command) (length command == 0) (command, Pressed (Route d)) (digit_more command d) (λ e. e) (more_leaves command d)

hash_leaves : (command : List ℕ) → LeavesBy command [] (hash_heard command)
hash_leaves command =
    either (LeavesBy command []) (length command == 0) (Pressed Next) _ (λ e. refl)
    (either (LeavesBy command []) (bytes_eq command (codes "*")) (Pressed Prev) _ (λ e. refl)
    (either (LeavesBy command []) (bytes_eq command (codes "*90")) End Page (λ e. refl) refl))

typed_leaves : (command : List ℕ) (b : ℕ) → Leaves command (typed command b)
typed_leaves command b =
    either (Leaves command) (b == 35 || b == 95) ([], hash_heard command) _ (λ e. hash_leaves command)
    (either (Leaves command) (b == 42) (star_heard command, Changed) _ (λ e. tt)
    (either (Leaves command) (nat_le 48 b && nat_lt b 58) (digit_heard command (b - 48)) (command, Nothing) (λ e. digit_leaves command (b - 48)) refl))

leaves_if : (own : Bool) (h : HearingView) (b : ℕ) → LeavesBy h.command (heard_if own h b).0.command (heard_if own h b).1
leaves_if true h b = typed_leaves h.command (b % 128)
leaves_if false h b = refl

pub hear_leaves : (h : HearingView) (b : ℕ) → LeavesBy h.command (hear h b).0.command (hear h b).1
hear_leaves h b = leaves_if (is_typed h.telnet b) h b
