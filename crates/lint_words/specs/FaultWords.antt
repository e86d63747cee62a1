-- The words of a fault of an audit, and of a frame that no walk reaches.
use Rattle.std.specs.Prelude.{ℕ, Bool, ◌==◌, if◌then◌else◌, List, ◌++◌, codes, decimal, Option, Some, None}
use Rattle.page_ids.specs.Ids.{Id, frame_text, page_text}
use Rattle.abstract_paint.specs.declared.start.Start.{Start}
use Rattle.base_faults.specs.declared.fault.Fault.{Fault}
use Rattle.base_faults.specs.declared.fault.FaultKind.{FaultKind}
use Rattle.base_faults.specs.declared.fault.FaultKind.TheVariants.{EntryMissing, EntryClosed, Price, Touches, Missing, Closed, NoReturn}
use Rattle.lint_words.specs.Pieces.{grouped, number_and_word, frame_name, shown_by, pressed_words, group_text}
use Rattle.lint_words.specs.Lines.{line_of}
use Rattle.lint_words.specs.AboutOf.{about_frame, fault_about}
use Rattle.lint_words.specs.WordsOf.{WordsView, words_of}
use Rattle.lint_words.specs.declared.code.Code.{Code}
use Rattle.lint_words.specs.declared.code.Code.TheVariants as code
use Rattle.lint_words.specs.declared.fault_words.Judged.{Judged}

abbrev pub entry_missing_words : Fault → List ℕ
entry_missing_words fault =
    codes "the entry page " ++ (page_text fault.frame.page ++ codes " has no frame a")

abbrev pub cost_words : ℕ → Fault → List ℕ
cost_words ceiling fault =
    codes "frame " ++ (frame_text fault.frame ++ (codes " costs " ++ (decimal fault.price ++
    (codes ", the ceiling is " ++ (decimal ceiling ++ shown_by fault.script)))))

-- For a body the words name the byte that writes, and the position of the start from which it does.
abbrev pub body_touches_words : Option Start → Fault → List ℕ
body_touches_words None fault =
    codes "the body of frame " ++ (frame_text fault.frame ++ (codes " writes into a service row" ++
    shown_by fault.script))
body_touches_words (Some start) fault =
    codes "byte " ++ (grouped start.offset ++ (codes " of the body of frame " ++ (frame_text fault.frame ++
    (codes " writes into a service row, from start " ++ (decimal start.at ++ shown_by fault.script)))))

-- In a frame that is given as rows only double height in row 22 writes into a service row: the law `rows_are_clean`.
abbrev pub touching_words : Bool → Fault → List ℕ
touching_words has_rows fault =
    if has_rows then codes "row 22 of frame " ++ (frame_text fault.frame ++
    (codes " has double height, which writes into the last row" ++ shown_by fault.script))
    else body_touches_words fault.start fault

-- a key leads to a page without a first frame
abbrev pub missing_page_words : ℕ → Fault → List ℕ
missing_page_words page fault =
    pressed_words fault.key ++ (codes " of frame " ++ (frame_text fault.frame ++
    (codes " leads to page " ++ (page_text page ++ (codes ", which has no frame a" ++ shown_by fault.script)))))

-- a key leads to the frame sought: what is wrong with that, and the frame's group
abbrev pub leads_words : List ℕ → Option ℕ → Fault → List ℕ
leads_words wrong group fault =
    pressed_words fault.key ++ (codes " of frame " ++ (frame_text fault.frame ++ (codes " leads to " ++
    (frame_name fault.sought ++ (wrong ++ (group_text group ++ shown_by fault.script))))))

-- by the letter of the frame sought; 97 is `a`
abbrev pub missing_words : Option Id → Fault → List ℕ
missing_words None fault = leads_words (codes ", which the base lacks") None fault
missing_words (Some id) fault =
    if id.letter == 97 then missing_page_words id.page fault else leads_words (codes ", which the base lacks") None fault

-- the shortest walk back is too long
abbrev pub too_far_words : ℕ → ℕ → Fault → List ℕ
too_far_words rank keyings fault =
    codes "from frame " ++ (frame_text fault.frame ++ (codes " the entry page is " ++
    (number_and_word rank (codes "key") (codes "keys") ++ (codes " away, at most " ++
    (number_and_word keyings (codes "is") (codes "are") ++ (codes " allowed" ++ shown_by fault.script))))))

-- no walk leads back, or none that is short enough
abbrev pub no_way_back_words : Option ℕ → ℕ → Fault → List ℕ
no_way_back_words None keyings fault =
    codes "no keys lead from frame " ++ (frame_text fault.frame ++ (codes " back to the entry page" ++ shown_by fault.script))
no_way_back_words (Some rank) keyings fault = too_far_words rank keyings fault

abbrev pub message_as : FaultKind → Judged → Fault → List ℕ
message_as EntryMissing j fault = entry_missing_words fault
message_as EntryClosed j fault =
    codes "frame " ++ (frame_text fault.frame ++ (codes ", the entry page, is closed to these callers" ++ group_text j.group))
message_as Price j fault = cost_words j.ceiling fault
message_as Touches j fault = touching_words j.has_rows fault
message_as Missing j fault = missing_words fault.sought fault
message_as Closed j fault = leads_words (codes ", which is closed to these callers") j.group fault
message_as NoReturn j fault = no_way_back_words j.rank j.keyings fault

abbrev pub fault_message : Judged → Fault → List ℕ
fault_message j fault = message_as fault.kind j fault

abbrev pub fault_code : FaultKind → Code
fault_code EntryMissing = code.EntryMissing
fault_code EntryClosed = code.EntryClosed
fault_code Price = code.Price
fault_code Touches = code.Touches
fault_code Missing = code.Missing
fault_code Closed = code.Closed
fault_code NoReturn = code.NoReturn

-- a fault by its kind
abbrev pub audit_fault_words : Judged → Fault → WordsView
audit_fault_words j fault = words_of (fault_code fault.kind) (fault_about fault) (line_of (fault_message j fault))

-- a frame that no walk reaches
abbrev pub unreached_words : Id → WordsView
unreached_words id =
    words_of code.Unreached (about_frame (Some id)) (line_of (codes "no key leads to frame " ++ (frame_text id ++ codes " from the entry page")))

-- how many frames no walk reaches, of a base whose entry frame isn't found
abbrev pub none_reached_words : ℕ → WordsView
none_reached_words n =
    words_of code.Unreached (about_frame None) (line_of (codes "no key leads to " ++
    (number_and_word n (codes "frame") (codes "frames") ++ codes " from the entry page")))
