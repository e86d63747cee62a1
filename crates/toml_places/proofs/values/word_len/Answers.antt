use Rattle.std.proofs.Common.{◌≡◌, ◌+◌, ◌<◌, length, get_or, drop, rules, arith}
use Rattle.std.proofs.lemmas.Grind.{common_steps}
use Rattle.std.proofs.lemmas.Bool.Decides.{nat_tests}
use Rattle.std.proofs.lemmas.Str.{IsCharBoundary-after_ascii, IsCharBoundary-from_rest, IsUtf8-drop}
use Rattle.std.specs.List.{prefix_len}
use Rattle.toml_parser.specs.Lexical.{is_word}
use Rattle.toml_parser.specs.Numbers.{word_len}
use Rattle.toml_parser.proofs.LexicalLemmas.{within_from_byte, IsCharBoundary-ascii_run}
use Rattle.toml_places.proofs.values.word_len.Goals as goal

pub returns-then-is_ascii_digit-clause-len : goal.returns-then-is_ascii_digit-clause-len
unfolding word_len
returns-then-is_ascii_digit-clause-len c = grind (arith, common_steps)

pub returns-then-is_ascii_digit-clause-boundary : goal.returns-then-is_ascii_digit-clause-boundary
unfolding word_len
returns-then-is_ascii_digit-clause-boundary c =
    let s = c.args.text.now in
    let len = c.run_len-len.result in
    let space : get_or s len 0 ≡ 32 = grind (arith, common_steps) in
    let within : len < length s = within_from_byte s len (omega arith) in
    let after = IsCharBoundary-after_ascii s len c.utf8.text within (omega arith) in
    let rest = IsCharBoundary-ascii_run is_word (drop (len + 1) s) (IsUtf8-drop s (len + 1) c.utf8.text after) (λ b h. grind (arith, nat_tests)) in
    let same : c.run_len.result ≡ prefix_len is_word (drop (len + 1) s) = grind (arith, common_steps) in
    rw same (IsCharBoundary-from_rest s (len + 1) (prefix_len is_word (drop (len + 1) s)) after.0 rest)

pub returns-else-byte_at-eq32-clause-len : goal.returns-else-byte_at-eq32-clause-len
unfolding word_len
returns-else-byte_at-eq32-clause-len c = search rules

pub returns-else-byte_at-eq32-clause-boundary : goal.returns-else-byte_at-eq32-clause-boundary
unfolding word_len
returns-else-byte_at-eq32-clause-boundary c =
    rw (c.run_len-len.ensures.len, c.as_bytes-bytes.ensures.value) (IsCharBoundary-ascii_run is_word c.args.text.now c.utf8.text (λ b h. grind (arith, nat_tests)))
