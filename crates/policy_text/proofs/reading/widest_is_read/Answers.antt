-- The widest policy's text, as toml reads it.
use Rattle.std.proofs.Common.{◌≡◌, ◌<◌, ◌&&◌, ℕ, Bool, List, [], ◌∷◌, pos, Some, true, refl, codes, arith, nat_lt}
use Rattle.std.specs.Str.{IsAscii}
use Rattle.std.proofs.lemmas.Bool.{and_parts}
use Rattle.std.proofs.lemmas.Bool.Decides.{nat_tests}
use Rattle.std.proofs.lemmas.Str.{IsUtf8-from_ascii}
use Rattle.std.proofs.lemmas.Str.Ascii.{IsAscii-nil, IsAscii-cons}
use Rattle.toml.specs.Data.{Members, member, integer, no_members}
use Rattle.toml.specs.Parse.{parse_document}
use Rattle.toml.proofs.OnLiterals.{toml_on_literals}
use Rattle.base_text.proofs.Documents.{its_tree}
use Rattle.policy_text.specs.Policies.{widest_text}
use Rattle.policy_text.proofs.reading.widest_is_read.Goals as goal

abbrev widest_members : Members
widest_members = member (codes "ceiling") (integer (pos 9999)) (member (codes "keyings") (integer (pos 65535)) no_members)

known : parse_document widest_text ≡ Some widest_members
unfolding toml_on_literals
known = refl

abbrev are_low : List ℕ → Bool
are_low [] = true
are_low (b ∷ bs) = nat_lt b 128 && are_low bs

low : (bs : List ℕ) → are_low bs ≡ true → IsAscii bs
low [] h = IsAscii-nil
low (b ∷ bs) h =
    let both = and_parts (nat_lt b 128) (are_low bs) h in
    let less : b < 128 = grind (arith, nat_tests, both.0) in
    IsAscii-cons b bs less (low bs both.1)

pub returns : goal.returns
returns c = rw (its_tree widest_text widest_members (IsUtf8-from_ascii widest_text (low widest_text refl)) known) refl
