-- What a finding is about, for programs.
use Rattle.std.specs.Prelude.{ℕ, List, codes, Option, Some, None, option_map}
use Rattle.page_ids.specs.Ids.{Id}
use Rattle.page_ids.specs.Keys.{key_word, keys_text}
use Rattle.page_ids.specs.declared.key.Key.{Key}
use Rattle.base_text.specs.Fields.{field_name}
use Rattle.base_text.specs.declared.detail.Detail.{Detail}
use Rattle.base_text.specs.declared.detail.Detail.TheVariants.{UnknownKey, Absent, WrongKind, WrongItem, Number, ItemNumber, Lead, BodyCode, MoreBodyCodes, TooManyRows, BodyAndRows, RowTooLong, RowCode, MoreRowCodes, BadFrame}
use Rattle.base_text.specs.declared.detail.TextFault.{TextFault}
use Rattle.base_text.specs.declared.whole_fault.WholeFault.{WholeFault}
use Rattle.base_text.specs.declared.whole_fault.WholeFault.TheVariants.{TooManyFrames, TooManyOutside, BodyTooLong, NextAfterZ, Duplicate, OutsideInside}
use Rattle.base_faults.specs.declared.fault.Fault.{Fault}
use Rattle.base_faults.specs.declared.fault.FaultKind.{FaultKind}
use Rattle.base_faults.specs.declared.fault.FaultKind.TheVariants as kind
use Rattle.lint_words.specs.Lines.{line_of}

-- the frame at fault, the key that is pressed or else the key of the text, and the keys from the entry page, as lines
pub record AboutView : Type 0 where
  pub frame : Option Id
  pub key : Option (List ℕ)
  pub keys : Option (List ℕ)

abbrev pub about_frame : Option Id → AboutView
about_frame frame = record { frame = frame; key = None; keys = None }

abbrev pub about_key : Option Id → List ℕ → AboutView
about_key frame key = record { frame = frame; key = Some (line_of key); keys = None }

abbrev pub about_maybe : Option Id → Option (List ℕ) → AboutView
about_maybe frame None = about_frame frame
about_maybe frame (Some key) = about_key frame key

-- the key of the text that a fault is about; X7 is about two
abbrev pub detail_key : Detail → Option (List ℕ)
detail_key (UnknownKey t key) = Some key
detail_key (Absent f) = Some (field_name f)
detail_key (WrongKind f k) = Some (field_name f)
detail_key (WrongItem f n k) = Some (field_name f)
detail_key (Number f z) = Some (field_name f)
detail_key (ItemNumber f n z) = Some (field_name f)
detail_key (Lead text) = Some (codes "lead")
detail_key (BodyCode n c) = Some (codes "body")
detail_key (MoreBodyCodes n more) = Some (codes "body")
detail_key (TooManyRows n) = Some (codes "rows")
detail_key BodyAndRows = None
detail_key (RowTooLong n length) = Some (codes "rows")
detail_key (RowCode n i c) = Some (codes "rows")
detail_key (MoreRowCodes n i more) = Some (codes "rows")
detail_key (BadFrame text) = Some (codes "id")

abbrev pub text_about : TextFault → AboutView
text_about fault = about_maybe fault.id (detail_key fault.detail)

-- a body may be given as `rows`
abbrev pub whole_about : WholeFault → AboutView
whole_about (TooManyFrames n) = about_key None (codes "frame")
whole_about (TooManyOutside n) = about_key None (codes "outside")
whole_about (BodyTooLong table id length) = about_frame (Some id)
whole_about (NextAfterZ table id) = about_key (Some id) (codes "next")
whole_about (Duplicate table first id) = about_key (Some id) (codes "id")
whole_about (OutsideInside page) = about_key None (codes "outside")

abbrev pub kind_key : FaultKind → Option (List ℕ)
kind_key kind.EntryMissing = Some (codes "entry")
kind_key kind.EntryClosed = Some (codes "group")
kind_key kind.Price = Some (codes "price")
kind_key _ = None

-- the key that is pressed, else the key of the text
abbrev pub pressed_key : Option Key → FaultKind → Option (List ℕ)
pressed_key None k = kind_key k
pressed_key (Some key) k = Some (key_word key)

abbrev pub fault_about : Fault → AboutView
fault_about fault = record {
  frame = Some fault.frame;
  key = option_map line_of (pressed_key fault.key fault.kind);
  keys = Some (line_of (keys_text fault.script));
}
