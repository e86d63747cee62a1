-- The policy of a text is within the limits of policies.
use Rattle.std.proofs.Common.{◌≡◌, ◌≤◌, ℕ, Bool, true, false, cond, List, codes, pos, negsuc, Option, Some, None, nat_le, refl, subst, arith}
use Rattle.std.proofs.lemmas.Bool.Decides.{nat_tests}
use Rattle.std.specs.Prelude.{Result, Ok, Err, is_some}
use Rattle.frame_records.specs.declared.limits.TheConstants.{MOST_PENCE}
use Rattle.frame_records.specs.Steps.{◌>>=◌}
use Rattle.cert_text.proofs.Spelled.{bind_ok}
use Rattle.cert_table.specs.declared.limits.TheConstants.{MOST_RANK}
use Rattle.toml.specs.Data.{Members, Data, string, integer, float, boolean, datetime, array, table, get_member}
use Rattle.base_text.specs.Whole.{tree_of}
use Rattle.checker.specs.declared.policy.Policy.{Policy}
use Rattle.policy_text.specs.declared.fault.PolicyField.{PolicyField}
use Rattle.policy_text.specs.declared.fault.PolicyField.TheVariants.{Ceiling, Keyings}
use Rattle.policy_text.specs.declared.fault.PolicyFault.{PolicyFault}
use Rattle.policy_text.specs.Policies.{policy_number, required_number, groups_value, policy_with, unknown_key, values_of, tree_policy, policy_in}
use Rattle.editions.specs.Chains.{IsPolicy}

unless_fault : (b : Bool) (fault : PolicyFault) (r : Result Policy PolicyFault) (p : Policy) → cond b (Err fault) r ≡ Ok p → r ≡ Ok p
unless_fault true fault r p e = absurd cc
unless_fault false fault r p e = e

if_within : (b : Bool) (n k : ℕ) (fault : PolicyFault) → cond b (Ok n) (Err fault) ≡ Ok k → (b ≡ true) × (n ≡ k)
if_within true n k fault e = (refl, cc)
if_within false n k fault e = absurd cc

number_within : (f : PolicyField) (most : ℕ) (d : Data) (n : ℕ) → policy_number f most d ≡ Ok n → n ≤ most
number_within f most (integer (pos k)) n e =
    let a = if_within (nat_le k most) k n _ e in
    let le : k ≤ most = grind (arith, nat_tests, a.0) in
    omega (arith, le, a.1)
number_within f most (integer (negsuc k)) n e = absurd cc
number_within f most (string text) n e = absurd cc
number_within f most (float x) n e = absurd cc
number_within f most (boolean b) n e = absurd cc
number_within f most (datetime t) n e = absurd cc
number_within f most (array ds) n e = absurd cc
number_within f most (table ms) n e = absurd cc

required_within : (f : PolicyField) (most : ℕ) (o : Option Data) (n : ℕ) → required_number f most o ≡ Ok n → n ≤ most
required_within f most None n e = absurd cc
required_within f most (Some d) n e = number_within f most d n e

abbrev read_as : Policy → Result Policy PolicyFault
read_as p = Ok p

same_policy : (ceiling keyings : ℕ) (groups : List ℕ) (p : Policy) → ceiling ≤ MOST_PENCE → keyings ≤ MOST_RANK → read_as (policy_with ceiling keyings groups) ≡ read_as p → IsPolicy p
same_policy ceiling keyings groups p a b e = let same : policy_with ceiling keyings groups ≡ p = cc in subst IsPolicy same (a, b)

values_within : (ms : Members) (p : Policy) → values_of ms ≡ Ok p → IsPolicy p
values_within ms p e =
    let a = bind_ok (required_number Ceiling MOST_PENCE (get_member (codes "ceiling") ms)) (λ ceiling.
    required_number Keyings MOST_RANK (get_member (codes "keyings") ms) >>= λ keyings.
    groups_value (get_member (codes "groups") ms) >>= λ groups. Ok (policy_with ceiling keyings groups)) p e in
    let b = bind_ok (required_number Keyings MOST_RANK (get_member (codes "keyings") ms)) (λ keyings.
    groups_value (get_member (codes "groups") ms) >>= λ groups. Ok (policy_with a.0 keyings groups)) p a.2 in
    let c = bind_ok (groups_value (get_member (codes "groups") ms)) (λ groups. Ok (policy_with a.0 b.0 groups)) p b.2 in
    same_policy a.0 b.0 c.0 p (required_within Ceiling MOST_PENCE (get_member (codes "ceiling") ms) a.0 a.1) (required_within Keyings MOST_RANK (get_member (codes "keyings") ms) b.0 b.1) c.2

tree_within : (o : Option Members) (p : Policy) → tree_policy o ≡ Ok p → IsPolicy p
tree_within None p e = absurd cc
tree_within (Some ms) p e = values_within ms p (unless_fault (is_some (unknown_key ms)) _ (values_of ms) p e)

pub policy_within : (text : List ℕ) (p : Policy) → policy_in text ≡ Ok p → IsPolicy p
policy_within text p e = tree_within (tree_of text) p (unless_fault _ _ (tree_policy (tree_of text)) p e)
