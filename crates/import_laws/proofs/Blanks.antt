-- Comments and empty lines are skipped.
use Rattle.std.proofs.Common.{◌≡◌, ℕ, ◌<◌, ◌≤◌, true, List, [], ◌∷◌, ◌++◌, Some, refl, ◌∙◌, arith}
use Rattle.std.proofs.lemmas.Bool.Decides.{nat_tests}
use Rattle.std.proofs.lemmas.List.Elements.{All-head, All-tail}
use Rattle.std.specs.List.{All}
use Rattle.toml_parser.specs.Lexical.{first, skip_from, skip_turn, skip_blank}

-- a character of a comment
abbrev pub IsShown : ℕ → Type 0
IsShown c = (32 ≤ c) × (c < 127)

-- the rest of a comment, up to the line's end
comment_rest : (text rest : List ℕ) → All IsShown text → skip_from true true (text ++ 10 ∷ rest) ≡ skip_blank rest
unfolding skip_from
comment_rest [] rest all = refl
comment_rest (c ∷ cs) rest all =
    let is = All-head IsShown c cs all in
    let on : skip_turn true true c (first (cs ++ 10 ∷ rest)) ≡ Some true = grind (arith, nat_tests, is.0, is.1) in
    rw on (comment_rest cs rest (All-tail IsShown c cs all))

-- `#` is 35
hash_on : (text : List ℕ) → skip_blank (35 ∷ text) ≡ skip_from true true text
unfolding skip_from
hash_on text = refl

-- a comment from its `#` on, with the line's end
pub skip_comment : (text rest : List ℕ) → All IsShown text → skip_blank (35 ∷ (text ++ 10 ∷ rest)) ≡ skip_blank rest
skip_comment text rest all = hash_on (text ++ 10 ∷ rest) ∙ comment_rest text rest all
