-- Commands without a control character.
use Rattle.std.proofs.Common.{◌≡◌, ℕ, ◌<◌, ◌≤◌, ◌^◌, Bool, true, false, not, ◌==◌, if◌then◌else◌, List, [], ◌∷◌, ◌++◌, codes, decimal, chars, refl, sym, subst, append-nil, arith, Option, Some, None, IfSome}
use Rattle.std.proofs.lemmas.Bool.{and_from, and_parts}
use Rattle.std.specs.Prelude.{nat_lt}
use Rattle.std.specs.List.{flat_map, list_all}
use Rattle.std.specs.Char.{is_control}
use Rattle.std.proofs.Math.Utf8.{encode, encodes, scalar, scalars}
use Rattle.std.proofs.lemmas.Bool.Decides.{nat_tests}
use Rattle.std.proofs.lemmas.Grind.{flat_map-append}
use Rattle.std.proofs.lemmas.Str.{encodes-chars, scalars-chars}
use Rattle.lint_words.specs.declared.code.Code.{Code}
use Rattle.lint_words.specs.Lines.{IsLine}
use Rattle.lint_words.specs.WordsOf.{WordsView}
use Rattle.lint_words.proofs.LineParts.{IsLine-append, IsLine-plain, IsLine-encodes}
use Rattle.lint.specs.declared.finding.Level.{Level}
use Rattle.toml_places.specs.declared.text_lines.Extent.{Extent}
use Rattle.finding_forms.specs.declared.github_form.Slot.{Slot}
use Rattle.finding_forms.specs.declared.github_form.Slot.TheVariants as slot
use Rattle.finding_forms.specs.LineForm.{level_text, code_text}
use Rattle.finding_forms.specs.GithubForm.{escaped_byte, github_escaped, columns_text, github_place, github_hint, properties_text, command_text}
use Rattle.finding_forms.proofs.Printed.{IsLine-decimal, code_plain, level_plain}

-- Escaped text.

high_kept : (s : Slot) (c : ℕ) → 128 ≤ c → flat_map (escaped_byte s) (encode c) ≡ encode c
unfolding encode
high_kept slot.Message c high = grind (arith, nat_tests)
high_kept slot.Property c high = grind (arith, nat_tests)

low_one : (c : ℕ) → c < 128 → encode c ≡ c ∷ []
unfolding encode
low_one c low = grind (arith, nat_tests)

IsLine-one : (c : ℕ) → scalar c ≡ true → not (is_control c) ≡ true → IsLine (encode c)
IsLine-one c s p =
    subst IsLine (append-nil (encode c)) (IsLine-encodes (c ∷ []) (and_from (scalar c) true s refl) (and_from (not (is_control c)) true p refl))

message_low : (c : ℕ) (percent : Bool) → IsLine (c ∷ []) → IsLine (if percent then codes "%25" else c ∷ [])
message_low c true is = IsLine-plain (codes "%25") refl
message_low c false is = is

property_low : (c : ℕ) (colon comma percent : Bool) → IsLine (c ∷ [])
    → IsLine (if colon then codes "%3A" else if comma then codes "%2C" else if percent then codes "%25" else c ∷ [])
property_low c true comma percent is = IsLine-plain (codes "%3A") refl
property_low c false true percent is = IsLine-plain (codes "%2C") refl
property_low c false false percent is = message_low c percent is

low_line : (s : Slot) (c : ℕ) → IsLine (c ∷ []) → IsLine (escaped_byte s c)
low_line slot.Message c is = message_low c (c == 37) is
low_line slot.Property c is = property_low c (c == 58) (c == 44) (c == 37) is

char_line : (s : Slot) (c : ℕ) (low : Bool) → nat_lt c 128 ≡ low → IsLine (encode c) → IsLine (flat_map (escaped_byte s) (encode c))
char_line s c true p is =
    let one = low_one c (grind (arith, nat_tests, p)) in
    let line = low_line s c (subst IsLine one is) in
    rw (one, append-nil (escaped_byte s c)) line
char_line s c false p is = rw (high_kept s c (grind (arith, nat_tests, p))) is

chars_line : (s : Slot) (cs : List ℕ) → scalars cs ≡ true → list_all (λ c. not (is_control c)) cs ≡ true
    → IsLine (flat_map (escaped_byte s) (encodes cs))
chars_line s [] are printable = IsLine-plain [] refl
chars_line s (c ∷ cs) are printable =
    let shows = (and_parts (not (is_control c)) (list_all (λ d. not (is_control d)) cs) printable).0 in
    let one = char_line s c (nat_lt c 128) refl (IsLine-one c (and_parts (scalar c) (scalars cs) are).0 shows) in
    let more = chars_line s cs (and_parts (scalar c) (scalars cs) are).1 (and_parts (not (is_control c)) (list_all (λ d. not (is_control d)) cs) printable).1 in
    subst IsLine (sym (flat_map-append (escaped_byte s) (encode c) (encodes cs))) (IsLine-append _ _ one more)

IsLine-escaped : (s : Slot) (bytes : List ℕ) → IsLine bytes → IsLine (github_escaped s bytes)
IsLine-escaped s bytes is =
    subst (λ (bs : List ℕ). IsLine (github_escaped s bs)) (encodes-chars bytes is.utf8)
    (chars_line s (chars bytes) (scalars-chars bytes is.utf8) is.printable)

-- Commands.

named : (name : List ℕ) (n : ℕ) → IsLine name → n < 2 ^ 64 → IsLine (name ++ decimal n)
named name n is fits = IsLine-append name (decimal n) is (IsLine-decimal n fits)

columns_line : (e : Extent) (one : Bool) → e.column < 2 ^ 64 → e.end_column < 2 ^ 64
    → IsLine (if one then codes ",col=" ++ (decimal e.column ++ (codes ",endColumn=" ++ decimal e.end_column)) else [])
columns_line e true a b =
    let end = named (codes ",endColumn=") e.end_column (IsLine-plain (codes ",endColumn=") refl) b in
    let rest = IsLine-append (decimal e.column) _ (IsLine-decimal e.column a) end in
    IsLine-append (codes ",col=") _ (IsLine-plain (codes ",col=") refl) rest
columns_line e false a b = IsLine-plain [] refl

IsLine-place : (e : Extent) → e.line < 2 ^ 64 → e.column < 2 ^ 64 → e.end_line < 2 ^ 64 → e.end_column < 2 ^ 64 → IsLine (github_place e)
IsLine-place e a b c d =
    let columns = columns_line e (e.line == e.end_line) b d in
    let ends = IsLine-append (decimal e.end_line) (columns_text e) (IsLine-decimal e.end_line c) columns in
    let with_end = IsLine-append (codes ",endLine=") _ (IsLine-plain (codes ",endLine=") refl) ends in
    let rest = IsLine-append (decimal e.line) _ (IsLine-decimal e.line a) with_end in
    IsLine-append (codes ",line=") _ (IsLine-plain (codes ",line=") refl) rest

IsLine-properties : (path : List ℕ) (e : Extent) (code : Code) → IsLine path → IsLine (github_place e) → IsLine (properties_text path e code)
IsLine-properties path e code is place =
    let title = IsLine-append (codes ",title=") (code_text code) (IsLine-plain (codes ",title=") refl) (IsLine-plain (code_text code) (code_plain code)) in
    let rest = IsLine-append (github_place e) _ place title in
    let with_path = IsLine-append (github_escaped slot.Property path) _ (IsLine-escaped slot.Property path is) rest in
    IsLine-append (codes " file=") _ (IsLine-plain (codes " file=") refl) with_path

IsLine-hint : (hint : Option (List ℕ)) → IfSome hint IsLine → IsLine (github_hint hint)
IsLine-hint None is = IsLine-plain [] refl
IsLine-hint (Some hint) is = IsLine-append (codes "; ") _ (IsLine-plain (codes "; ") refl) (IsLine-escaped slot.Message hint is)

pub IsLine-command : (path : List ℕ) (e : Extent) (level : Level) (words : WordsView) (hint : Option (List ℕ)) → IsLine path
    → e.line < 2 ^ 64 → e.column < 2 ^ 64 → e.end_line < 2 ^ 64 → e.end_column < 2 ^ 64 → IsLine words.message → IfSome hint IsLine
    → IsLine (command_text path e level words hint)
IsLine-command path e level words hint is a b c d message is_hint =
    let tail = IsLine-append (github_escaped slot.Message words.message) (github_hint hint) (IsLine-escaped slot.Message words.message message) (IsLine-hint hint is_hint) in
    let rest = IsLine-append (codes "::") _ (IsLine-plain (codes "::") refl) tail in
    let properties = IsLine-properties path e words.code is (IsLine-place e a b c d) in
    let with_properties = IsLine-append (properties_text path e words.code) _ properties rest in
    let with_level = IsLine-append (level_text level) _ (IsLine-plain (level_text level) (level_plain level)) with_properties in
    IsLine-append (codes "::") _ (IsLine-plain (codes "::") refl) with_level
