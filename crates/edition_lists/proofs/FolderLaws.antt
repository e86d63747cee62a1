-- What a sound folder means for callers.
use Rattle.std.proofs.Common.{◌≡◌, ℕ, List, [], ◌∷◌, map, Option, Some, refl, sym, ap, ◌∙◌, subst}
use Rattle.std.specs.Prelude.{Result, Ok}
use Rattle.std.specs.List.{AllByRecursion}
use Rattle.frame_records.specs.Bases.{BaseView, AreApart}
use Rattle.base_text.specs.Whole.{IsTextBase}
use Rattle.base_text.proofs.OneText.{one_text_base}
use Rattle.cert_table.specs.Table.{CertView}
use Rattle.cert_text.specs.Grammar.{IsCertificateText}
use Rattle.cert_text.proofs.Only.{one_certificate}
use Rattle.checker.specs.declared.policy.Policy.{Policy}
use Rattle.checker.specs.Change.{Edition, IsSafeChange, IsSafeOverChanges}
use Rattle.checker.proofs.Editions.{safe_change}
use Rattle.policy_text.specs.declared.fault.PolicyFault.{PolicyFault}
use Rattle.policy_text.specs.Policies.{policy_in}
use Rattle.editions.specs.Folders.{EditionBytes, FilesSeen, all_files, FolderState}
use Rattle.editions.specs.NumberLines.{follows_in}
use Rattle.editions.specs.Chains.{EditionView, IsEditionText, IsClearedEdition, IsClearedAgainst, ServedEdition, IsPolicy, AreChained, wider_of, widest_of}
use Rattle.editions.specs.Moments.{IsFollowing, IsFollowed, IsSoundEdition, IsSoundFolder}
use Rattle.editions.proofs.ChainLaws.{chains_safe}
use Rattle.edition_lists.specs.FolderChains.{ChainedEdition, chained_view, IsInFolder, AreAfter, IsFolderChain, SoundFoldersAreSafe}
use Rattle.edition_lists.proofs.Policies.{policy_within}

-- An edition's texts have one meaning.

pub same_some : {A : Type 0} (a b : A) → Some a ≡ Some b → a ≡ b
same_some a b e = cc

abbrev read_as : Policy → Result Policy PolicyFault
read_as p = Ok p

same_ok : (p q : Policy) → read_as p ≡ read_as q → p ≡ q
same_ok p q e = cc

abbrev view_with : BaseView → CertView → Policy → Option ℕ → EditionView
view_with base cert policy follows = record { base = base; cert = cert; policy = policy; follows = follows }

same_view : (a b : BaseView) (c d : CertView) (p q : Policy) (j k : Option ℕ) → a ≡ b → c ≡ d → p ≡ q → j ≡ k → view_with a c p j ≡ view_with b d q k
same_view a b c d p q j k base cert policy follows = cc

one_meaning : (a b : EditionBytes) (v w : EditionView) → all_files a ≡ all_files b → IsEditionText a v → IsEditionText b w → v ≡ w
one_meaning a b v w same is_v is_w =
    let base : a.base ≡ b.base = same_some a.base b.base (ap (λ (f : FilesSeen). f.base) same) in
    let cert : a.cert ≡ b.cert = same_some a.cert b.cert (ap (λ (f : FilesSeen). f.cert) same) in
    let policy : a.policy ≡ b.policy = same_some a.policy b.policy (ap (λ (f : FilesSeen). f.policy) same) in
    let follows : a.follows ≡ b.follows = same_some a.follows b.follows (ap (λ (f : FilesSeen). f.follows) same) in
    same_view v.base w.base v.cert w.cert v.policy w.policy v.follows w.follows
    (one_text_base b.base v.base w.base (subst (λ (t : List ℕ). IsTextBase t v.base) base is_v.of_base) is_w.of_base)
    (one_certificate b.cert v.cert w.cert (subst (λ (t : List ℕ). IsCertificateText t v.cert) cert is_v.of_cert) is_w.of_cert)
    (same_ok v.policy w.policy (sym is_v.of_policy ∙ ap policy_in policy ∙ is_w.of_policy))
    (same_some v.follows w.follows (sym is_v.of_follows ∙ ap follows_in follows ∙ is_w.of_follows))

-- Editions of a sound folder.

module _ (f : FolderState) (sound : IsSoundFolder f) where
  one : (follows : Option ℕ) (e : ChainedEdition) (is : IsInFolder f follows e) → IsSoundEdition f.editions e.number (all_files is.bytes)
  one follows e is = sound.each e.number (all_files is.bytes) is.there

  its_meaning : (follows : Option ℕ) (e : ChainedEdition) (is : IsInFolder f follows e) → (one follows e is).view ≡ chained_view follows e
  its_meaning follows e is =
      let s = one follows e is in
      one_meaning s.bytes is.bytes s.view (chained_view follows e) (sym s.whole) s.text is.text

  clear : (follows : Option ℕ) (e : ChainedEdition) → IsInFolder f follows e → IsClearedEdition (chained_view follows e)
  clear follows e is = subst IsClearedEdition (its_meaning follows e is) (one follows e is).cleared

  against : (follows : Option ℕ) (old new : ChainedEdition) → IsInFolder f follows old → IsInFolder f (Some old.number) new → IsClearedAgainst (chained_view follows old) (chained_view (Some old.number) new)
  against follows old new is_old is_new =
      let s = one (Some old.number) new is_new in
      let same = its_meaning (Some old.number) new is_new in
      let followed : IsFollowed f.editions new.number s.view old.number = subst (λ (o : Option ℕ). IsFollowing f.editions new.number s.view o) (ap (λ (v : EditionView). v.follows) same) s.following in
      let files : all_files followed.bytes ≡ all_files is_old.bytes = same_some (all_files followed.bytes) (all_files is_old.bytes) (sym followed.there ∙ is_old.there) in
      subst (λ (v : EditionView). IsClearedAgainst v (chained_view (Some old.number) new))
      (one_meaning followed.bytes is_old.bytes followed.old (chained_view follows old) files followed.text is_old.text)
      (subst (λ (v : EditionView). IsClearedAgainst followed.old v) same followed.against)

apart : (f : FolderState) (follows : Option ℕ) (e : ChainedEdition) → IsInFolder f follows e → AreApart e.edition.edition.base
apart f follows e is = is.text.of_base.2.valid.apart

within : (f : FolderState) (follows : Option ℕ) (e : ChainedEdition) → IsInFolder f follows e → IsPolicy e.edition.policy
within f follows e is = policy_within is.bytes.policy e.edition.policy is.text.of_policy

-- along a chain
all_apart : (f : FolderState) (e : ChainedEdition) (more : List ChainedEdition) → AreAfter f e more → AllByRecursion (λ s. AreApart s.edition.base) (map (λ e. e.edition) more)
all_apart f e [] after = tt
all_apart f e (g ∷ more) after = (apart f (Some e.number) g after.0, all_apart f g more after.1)

all_within : (f : FolderState) (e : ChainedEdition) (more : List ChainedEdition) → AreAfter f e more → AllByRecursion (λ s. IsPolicy s.policy) (map (λ e. e.edition) more)
all_within f e [] after = tt
all_within f e (g ∷ more) after = (within f (Some e.number) g after.0, all_within f g more after.1)

all_chained : (f : FolderState) (sound : IsSoundFolder f) (follows : Option ℕ) (e : ChainedEdition) (more : List ChainedEdition) → IsInFolder f follows e → AreAfter f e more → AreChained (e.edition ∷ map (λ e. e.edition) more)
all_chained f sound follows e [] is after = tt
all_chained f sound follows e (g ∷ more) is after =
    let one = against f sound follows e g is after.0 in
    (record { groups = one.groups; change = one.change }, all_chained f sound (Some e.number) g more after.0 after.1)

editions_of : (more : List ChainedEdition) → map (λ (s : ServedEdition). s.edition) (map (λ (e : ChainedEdition). e.edition) more) ≡ map (λ (e : ChainedEdition). e.edition.edition) more
editions_of [] = refl
editions_of (e ∷ more) = ap (λ (es : List Edition). e.edition.edition ∷ es) (editions_of more)

chain_safe : (f : FolderState) (first second : ChainedEdition) (more : List ChainedEdition) → IsSoundFolder f → IsFolderChain f first (second ∷ more)
    → IsSafeOverChanges (widest_of first.edition.policy.groups) first.edition.edition (second.edition.edition ∷ map (λ e. e.edition.edition) more)
chain_safe f first second more sound chain =
    let follows = chain.0.0 in
    let is = chain.0.1 in
    subst (λ (es : List Edition). IsSafeOverChanges (widest_of first.edition.policy.groups) first.edition.edition (second.edition.edition ∷ es)) (editions_of more)
    (chains_safe first.edition second.edition (map (λ e. e.edition) more)
    (apart f follows first is, all_apart f first (second ∷ more) chain.1)
    (within f follows first is, all_within f first (second ∷ more) chain.1)
    (all_chained f sound follows first (second ∷ more) is chain.1))

change_safe : (f : FolderState) (old new : ChainedEdition) → IsSoundFolder f → IsFolderChain f old (new ∷ [])
    → IsSafeChange (wider_of old.edition.policy new.edition.policy) old.edition.edition.base old.edition.edition.cert new.edition.edition.base new.edition.edition.cert
change_safe f old new sound chain =
    let follows = chain.0.0 in
    let is = chain.0.1 in
    safe_change (wider_of old.edition.policy new.edition.policy) old.edition.edition.base old.edition.edition.cert new.edition.edition.base new.edition.edition.cert
    (apart f follows old is) (apart f (Some old.number) new chain.1.0) (against f sound follows old new is chain.1.0).change

pub folders_safe : SoundFoldersAreSafe
folders_safe = record {
  cleared = λ f follows e sound is. clear f sound follows e is;
  change = change_safe;
  changes = λ f sound first second more chain. chain_safe f first second more sound chain;
}
