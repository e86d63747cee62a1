-- Where a text writes its frames, line by line, and what is said of their faults.
use Rattle.std.specs.Prelude.{◌≡◌, ℕ, Bool, false, List, Option, Some, None, codes, is_some, map}
use Rattle.base_text.specs.Whole.{IsTextBase}
use Rattle.page_ids.specs.Ids.{Id}
use Rattle.frame_records.specs.Bases.{BaseView}
use Rattle.finder.specs.declared.found.Discovered.{Discovered}
use Rattle.checker.specs.declared.policy.Policy.{Policy}
use Rattle.base_faults.specs.declared.fault.Fault.{Fault}
use Rattle.toml_places.specs.Places.{Mark, marks}
use Rattle.toml_places.specs.Skips.{place_at}
use Rattle.lint_words.specs.declared.fault_words.Judged.{Judged}
use Rattle.lint_words.specs.FaultWords.{audit_fault_words}
use Rattle.lint.specs.declared.lines.WrittenBase.{WrittenBase}
use Rattle.lint.specs.declared.lines.WrittenFrame.{WrittenFrame}
use Rattle.lint.specs.Lookups.{value_of}
use Rattle.lint.specs.Tables.{key_spot, id_span}
use Rattle.lint.specs.Lint.{group_closed_to, rank_of, ranks_of, text_tables}

-- Lines of frames.

-- the line of the value of a frame's id, where lint marks the frame, and whether it is written with `rows`
abbrev pub written_line : List ℕ → List Mark → ℕ → WrittenFrame
written_line text ms k = record {
  line = (place_at text (id_span text ms k).begin).0;
  has_rows = is_some (key_spot text ms (Some k) (codes "rows"));
}

abbrev pub lined : List ℕ → List Mark → Id × ℕ → Id × WrittenFrame
lined text ms p = (p.0, written_line text ms p.1)

-- the lines of the frames of tables
abbrev pub frame_lines_of : List ℕ → List (Id × ℕ) → List (Id × WrittenFrame)
frame_lines_of text tables = map (lined text (marks text)) tables

-- the lines of the frames that a text lists
abbrev pub frame_lines_in : List ℕ → List (Id × WrittenFrame)
frame_lines_in text = frame_lines_of text (text_tables text)

-- the base that a text means and the lines of its frames, or none if the text means no base
abbrev pub IsWrittenBase : List ℕ → Option WrittenBase → Type 0
IsWrittenBase text (Some w) = IsTextBase text w.base × (w.lines ≡ frame_lines_in text)
IsWrittenBase text None = (base : BaseView) → IsTextBase text base → ⊥

-- What is said of faults.

-- what contracts see of a sentence, in UTF-8; an empty hint is none, and nothing else is promised of it
pub record SentenceView : Type 0 where
  pub message : List ℕ
  pub hint : List ℕ

abbrev pub is_in_rows : Option WrittenFrame → Bool
is_in_rows None = false
is_in_rows (Some line) = line.has_rows

-- what the words of a fault say beside the fault itself, by the lines of frames
abbrev pub judged_at : Option WrittenFrame → BaseView → Policy → List Discovered → Fault → Judged
judged_at line base policy found fault = record {
  ceiling = policy.ceiling;
  keyings = policy.keyings;
  has_rows = is_in_rows line;
  rank = rank_of (ranks_of found) fault.frame;
  group = group_closed_to base fault;
}

-- the message of a fault
abbrev pub said_of : List (Id × WrittenFrame) → BaseView → Policy → List Discovered → Fault → List ℕ
said_of lines base policy found fault = (audit_fault_words (judged_at (value_of lines fault.frame) base policy found fault) fault).message

-- a sentence for each fault
abbrev pub AreSentences : List (Id × WrittenFrame) → BaseView → Policy → List Discovered → List Fault → List SentenceView → Type 0
AreSentences lines base policy found faults sentences =
    map (λ s. s.message) sentences ≡ map (said_of lines base policy found) faults
