-- What comes before the sections: the name of the base's file, the policy and the verdict.
use Rattle.std.specs.Prelude.{ℕ, List, [], ◌∷◌, ◌++◌, codes, decimal, length, ◌==◌, if◌then◌else◌}
use Rattle.std.specs.Str.{chars}
use Rattle.page_ids.specs.Ids.{frame_text}
use Rattle.frame_records.specs.declared.limits.TheConstants.{MOST_PENCE}
use Rattle.frame_records.specs.Bases.{BaseView}
use Rattle.frame_records.specs.Seek.{entry_of}
use Rattle.cert_table.specs.declared.limits.TheConstants.{MOST_RANK}
use Rattle.cert_table.specs.Table.{CertView}
use Rattle.cert_text.specs.Grammar.{spaced_groups}
use Rattle.checker.specs.declared.policy.Policy.{Policy}
use Rattle.base_faults.specs.declared.fault.Fault.{Fault}
use Rattle.fault_scripts.specs.declared.outcome.Outcome.{Outcome}
use Rattle.fault_scripts.specs.declared.outcome.Outcome.TheVariants.{Certified, Faulty}
use Rattle.screens.specs.Svg.{Piece, markup}
use Rattle.base_pages.specs.Elements.{element_pieces, around}
use Rattle.base_pages.specs.Faults.{entry_faults, fault_list}

-- how many there are of a thing
unfoldable pub fault_count : ℕ → List ℕ → List ℕ
fault_count n thing = decimal n ++ codes " " ++ thing ++ (if n == 1 then [] else codes "s")

-- a limit after others
unfoldable pub ceiling_text : ℕ → List ℕ
ceiling_text ceiling = codes ", at most " ++ decimal ceiling ++ codes "p a frame"

unfoldable pub keyings_text : ℕ → List ℕ
keyings_text keyings = codes ", at most " ++ fault_count keyings (codes "key") ++ codes " back"

-- how many frames the certificate has, and its ceiling and keyings
unfoldable pub certified_words : CertView → List ℕ
certified_words cert = fault_count (length cert.rows) (codes "frame") ++ ceiling_text cert.ceiling ++ keyings_text cert.keyings

unfoldable pub certified : List Piece
certified = element_pieces (codes "p") ((codes "class", codes "verdict certified") ∷ []) (codes "CERTIFIED")

unfoldable pub paragraph : List ℕ → List Piece
paragraph words = element_pieces (codes "p") [] words

-- how many faults there are
unfoldable pub faulty_pieces : List Fault → List Piece
faulty_pieces faults = element_pieces (codes "p") ((codes "class", codes "verdict faulty") ∷ []) (fault_count (length faults) (codes "fault"))

abbrev pub outcome_pieces : Outcome → List Piece
outcome_pieces (Certified cert) = certified ++ paragraph (certified_words cert)
outcome_pieces (Faulty faults) = faulty_pieces faults

-- groups, with a space before each
unfoldable pub callers_text : List ℕ → List ℕ
callers_text groups = if length groups == 0 then codes "no groups" else codes "groups" ++ spaced_groups groups

-- the widest limit isn't named
abbrev pub ceiling_asked : ℕ → List ℕ
ceiling_asked ceiling = if ceiling == MOST_PENCE then [] else ceiling_text ceiling

abbrev pub keyings_asked : ℕ → List ℕ
keyings_asked keyings = if keyings == MOST_RANK then [] else keyings_text keyings

unfoldable pub policy_words : Policy → List ℕ
policy_words policy = codes "For a caller in " ++ callers_text policy.groups ++ ceiling_asked policy.ceiling ++ keyings_asked policy.keyings

unfoldable pub name_line : List ℕ → List Piece
name_line name = element_pieces (codes "h1") [] (chars name)

-- the faults of an outcome
abbrev pub outcome_faults : Outcome → List Fault
outcome_faults (Certified cert) = []
outcome_faults (Faulty faults) = faults

-- the header, which names the entry frame, and that it isn't found if it isn't
unfoldable pub header_pieces : List ℕ → BaseView → Policy → Outcome → List Piece
header_pieces name base policy outcome =
    around (codes "header") ((codes "data-entry", frame_text (entry_of base)) ∷ []) (name_line name ++ outcome_pieces outcome ++ paragraph (policy_words policy))
    ++ fault_list (entry_faults (outcome_faults outcome))

abbrev pub header : List ℕ → BaseView → Policy → Outcome → List ℕ
header name base policy outcome = markup (header_pieces name base policy outcome)
