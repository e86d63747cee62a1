-- The bytes of a line that are taken, one by one.
use Rattle.std.proofs.Common.{◌≡◌, ℕ, zero, suc, ◌+◌, ◌-◌, ◌<◌, true, false, not, ◌||◌, nat_lt, nat_le, List, length, slice_index, refl, ap, ◌∙◌, arith}
use Rattle.std.proofs.lemmas.Bool.{and_parts, not-true, or_parts}
use Rattle.std.proofs.lemmas.Bool.Decides.{nat_tests}
use Rattle.toml_places.specs.Strings.{starts_char}
use Rattle.finding_forms.specs.Excerpts.{left_after, goes_back, goes_ahead, line_ends_at, begin_before, end_within, end_ahead}

pub back_stop : (text : List ℕ) (left at : ℕ) → goes_back text left at ≡ false → begin_before text left at ≡ at
unfolding begin_before
back_stop text left zero stops = refl
back_stop text left (suc at) stops = rw stops refl

pub back_step : (text : List ℕ) (left at : ℕ) → goes_back text left at ≡ true
    → begin_before text left at ≡ begin_before text (left_after left (slice_index text (at - 1))) (at - 1)
unfolding begin_before
back_step text left zero goes = absurd cc
back_step text left (suc at) goes =
    let same : suc at - 1 ≡ at = omega arith in
    rw (goes, same) refl

pub ahead_room : (text : List ℕ) (left at : ℕ) → goes_ahead text left at ≡ true → at < length text
ahead_room text left at goes =
    let inside : line_ends_at text at ≡ false = not-true (line_ends_at text at) (and_parts (not (line_ends_at text at)) (nat_lt 0 left || not (starts_char (slice_index text at))) goes).0 in
    let short : nat_le (length text) at ≡ false = (or_parts (nat_le (length text) at) _ inside).0 in
    grind (arith, nat_tests, short)

within_stop : (text : List ℕ) (bytes left at : ℕ) → goes_ahead text left at ≡ false → end_within text bytes left at ≡ at
unfolding end_within
within_stop text zero left at stops = refl
within_stop text (suc bytes) left at stops = rw stops refl

pub ahead_stop : (text : List ℕ) (left at : ℕ) → goes_ahead text left at ≡ false → end_ahead text left at ≡ at
ahead_stop text left at stops = within_stop text (length text - at) left at stops

within_step : (text : List ℕ) (bytes left at : ℕ) → goes_ahead text left at ≡ true
    → end_within text (suc bytes) left at ≡ end_within text bytes (left_after left (slice_index text at)) (at + 1)
unfolding end_within
within_step text bytes left at goes = rw goes refl

pub ahead_step : (text : List ℕ) (left at : ℕ) → goes_ahead text left at ≡ true
    → end_ahead text left at ≡ end_ahead text (left_after left (slice_index text at)) (at + 1)
ahead_step text left at goes =
    let room = ahead_room text left at goes in
    let less : length text - at ≡ suc (length text - (at + 1)) = omega (arith, room) in
    ap (λ bytes. end_within text bytes left at) less ∙ within_step text (length text - (at + 1)) left at goes
