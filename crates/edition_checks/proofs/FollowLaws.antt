-- The edition that is served, as a sound folder has it.
use Rattle.std.proofs.Common.{◌≡◌, ℕ, List, Option, Some, None, refl, sym, ap, ◌∙◌, subst}
use Rattle.std.specs.Prelude.{Ok}
use Rattle.base_text.specs.Whole.{IsTextBase}
use Rattle.cert_text.specs.Grammar.{IsCertificateText}
use Rattle.policy_text.specs.Policies.{policy_in}
use Rattle.editions.specs.declared.edition_file.EditionFile.{EditionFile}
use Rattle.editions.specs.declared.edition_file.EditionFile.TheVariants.{Base, Cert, Policy}
use Rattle.editions.specs.Folders.{EditionBytes, FilesSeen, all_files, FolderState, edition_among, file_of, file_seen, IsNewNumber}
use Rattle.editions.specs.Chains.{IsEditionText, IsClearedAgainst}
use Rattle.editions.specs.Moments.{IsFollowed, IsSoundEdition, IsSoundFolder}
use Rattle.edition_checks.specs.declared.candidate.Candidate.{Candidate}
use Rattle.edition_checks.specs.declared.served.Served.{Served}
use Rattle.edition_checks.specs.Served.{IsServed, served_view, candidate_view}
use Rattle.edition_checks.specs.Putting.{ServedMayBeFollowed}

-- a file that is there is one of an edition that is there
has_file : (o : Option FilesSeen) (file : EditionFile) (text : List ℕ) → file_of o file ≡ Some text → (files : FilesSeen) × (o ≡ Some files) × (file_seen file files ≡ Some text)
has_file None file text e = absurd cc
has_file (Some files) file text e = (files, refl, e)

same_text : (a b : List ℕ) → Some a ≡ Some b → b ≡ a
same_text a b e = let same : a ≡ b = cc in sym same

-- the file of a whole edition
its_file : (o : Option FilesSeen) (file : EditionFile) (text : List ℕ) (bytes : EditionBytes) → o ≡ Some (all_files bytes) → file_of o file ≡ Some text → file_seen file (all_files bytes) ≡ Some text
its_file o file text bytes is there = sym (ap (λ (o : Option FilesSeen). file_of o file) is) ∙ there

module _ (f : FolderState) (s : Served) (c : Candidate) (sound : IsSoundFolder f) (served : IsServed f s) (against : IsClearedAgainst (served_view None s) (candidate_view None c)) where
  there : (files : FilesSeen) × (edition_among f.editions s.number ≡ Some files) × (file_seen Base files ≡ Some s.base_text.items)
  there = has_file (edition_among f.editions s.number) Base s.base_text.items served.base_there

  one : IsSoundEdition f.editions s.number there.0
  one = sound.each s.number there.0 there.1

  found : edition_among f.editions s.number ≡ Some (all_files one.bytes)
  found = there.1 ∙ ap Some one.whole

  base_is : s.base_text.items ≡ one.bytes.base
  base_is = same_text one.bytes.base s.base_text.items (its_file (edition_among f.editions s.number) Base s.base_text.items one.bytes found served.base_there)

  cert_is : served.of_cert.text ≡ one.bytes.cert
  cert_is = same_text one.bytes.cert served.of_cert.text (its_file (edition_among f.editions s.number) Cert served.of_cert.text one.bytes found served.of_cert.there)

  policy_is : s.policy_text.items ≡ one.bytes.policy
  policy_is = same_text one.bytes.policy s.policy_text.items (its_file (edition_among f.editions s.number) Policy s.policy_text.items one.bytes found served.policy_there)

  old_text : IsEditionText one.bytes (served_view one.view.follows s)
  old_text = record {
    of_base = subst (λ (text : List ℕ). IsTextBase text s.base) base_is served.of_base;
    of_cert = subst (λ (text : List ℕ). IsCertificateText text s.cert) cert_is served.of_cert.is;
    of_policy = subst (λ (text : List ℕ). policy_in text ≡ Ok s.policy) policy_is served.of_policy;
    of_follows = one.text.of_follows;
  }

  followed : (n : ℕ) → IsNewNumber f.editions n → IsFollowed f.editions n (candidate_view (Some s.number) c) s.number
  followed n new = record {
    before = new.smaller s.number there.0 there.1;
    bytes = one.bytes;
    there = found;
    old = served_view one.view.follows s;
    text = old_text;
    against = record { groups = against.groups; change = against.change };
  }

pub served_followed : ServedMayBeFollowed
served_followed f s c sound served most against = record {
  named = most;
  following = λ n new. followed f s c sound served against n new;
}
