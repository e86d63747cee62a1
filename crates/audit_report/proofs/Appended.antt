-- What is appended in two parts.
use Rattle.std.proofs.Common.{◌≡◌, ◌∙◌, ◌++◌, ℕ, List, ap, append_assoc}

pub appended : (out before part first last : List ℕ) → first ≡ out ++ before → last ≡ first ++ part → last ≡ out ++ (before ++ part)
appended out before part first last is more = more ∙ ap (λ xs. xs ++ part) is ∙ append_assoc out before part
