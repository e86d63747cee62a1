-- A text means at most one base.
use Rattle.std.proofs.Common.{◌≡◌, ℕ, List, Ok, Result, sym, ◌∙◌, subst}
use Rattle.frame_records.specs.Bases.{BaseView, IsBaseOf}
use Rattle.frame_records.proofs.OneBase.{one_base}
use Rattle.base_text.specs.declared.fault.BaseFault.{BaseFault}
use Rattle.base_text.specs.Whole.{PartsView, IsTextBase}

abbrev listed : PartsView → Result PartsView BaseFault
listed p = Ok p

same_parts : (p q : PartsView) → listed p ≡ listed q → p ≡ q
same_parts p q e = cc

pub one_text_base : (text : List ℕ) (a b : BaseView) → IsTextBase text a → IsTextBase text b → a ≡ b
one_text_base text a b is_a is_b =
    let same : is_b.0 ≡ is_a.0 = same_parts is_b.0 is_a.0 (sym is_b.1 ∙ is_a.1) in
    one_base is_a.0.entry is_a.0.outside is_a.0.frames a b is_a.2
    (subst (λ (p : PartsView). IsBaseOf p.entry p.outside p.frames b) same is_b.2)
