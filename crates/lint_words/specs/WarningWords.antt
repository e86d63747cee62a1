-- The words of warnings about what a frame shows.
use Rattle.std.specs.Prelude.{ℕ, ◌-◌, List, ◌++◌, codes, decimal, Some}
use Rattle.page_ids.specs.Ids.{Id, frame_text}
use Rattle.base_text.specs.declared.keys.Field.{Field}
use Rattle.base_text.specs.declared.keys.Field.TheVariants as field
use Rattle.base_text.specs.Fields.{field_name}
use Rattle.lint_words.specs.KeyPieces.{item_text}
use Rattle.lint_words.specs.Lines.{line_of}
use Rattle.lint_words.specs.Pieces.{grouped}
use Rattle.lint_words.specs.AboutOf.{about_frame, about_key}
use Rattle.lint_words.specs.WordsOf.{WordsView, words_of}
use Rattle.lint_words.specs.declared.code.Code.TheVariants as code
use Rattle.lint_words.specs.declared.warning_words.LineEnd.{LineEnd}
use Rattle.lint_words.specs.declared.warning_words.LineEnd.TheVariants.{Feed, Return}

-- a row, counted from 1, that the row above hides
abbrev pub hidden_message : Id → ℕ → List ℕ
hidden_message id row =
    item_text field.Rows row (Some id) ++ (codes " is hidden by the double height of row " ++ grouped (row - 1))

-- a line end in a body
abbrev pub line_end_text : LineEnd → List ℕ
line_end_text Feed = codes " ends with a line feed alone, so the text goes on in the same column"
line_end_text Return = codes " ends with CR LF as the file does: saved with LF, the text goes on in the same column"

abbrev pub line_end_message : Id → LineEnd → List ℕ
line_end_message id end = codes "a line of the body of frame " ++ (frame_text id ++ line_end_text end)

-- a row, counted from 1, with an escape where there is none
abbrev pub escape_message : Id → ℕ → List ℕ
escape_message id row =
    item_text field.Rows row (Some id) ++ codes " has \\u00 in single quotation marks, which is shown as it is"

-- a row of the screen, counted from 0, that shows an escape
abbrev pub shown_escape_message : Id → ℕ → List ℕ
shown_escape_message id row = item_text field.Rows row (Some id) ++ codes " shows an escape as it is written"

-- a row of the screen, counted from 0, that offers a key which has no route
abbrev pub menu_message : Id → ℕ → ℕ → List ℕ
menu_message id row digit =
    item_text field.Rows row (Some id) ++ (codes " offers key " ++ (decimal digit ++ codes ", which has no route"))

-- a frame of a group to which no way leads
abbrev pub unsought_message : Id → ℕ → List ℕ
unsought_message id group =
    codes "no key of any frame leads to frame " ++ (frame_text id ++ (codes ", which belongs to group " ++ decimal group))

abbrev pub hidden_words : Id → ℕ → WordsView
hidden_words id row = words_of code.Hidden (about_key (Some id) (codes "rows")) (line_of (hidden_message id row))

abbrev pub line_end_words : Id → LineEnd → WordsView
line_end_words id end = words_of code.LineEnd (about_key (Some id) (codes "body")) (line_of (line_end_message id end))

abbrev pub escape_words : Id → ℕ → WordsView
escape_words id row = words_of code.Escape (about_key (Some id) (codes "rows")) (line_of (escape_message id row))

-- what is shown is written under this key
abbrev pub shown_escape_words : Id → ℕ → Field → WordsView
shown_escape_words id row shown = words_of code.Escape (about_key (Some id) (field_name shown)) (line_of (shown_escape_message id row))

abbrev pub menu_words : Id → ℕ → ℕ → WordsView
menu_words id row digit = words_of code.Menu (about_key (Some id) (codes "routes")) (line_of (menu_message id row digit))

abbrev pub unsought_words : Id → ℕ → WordsView
unsought_words id group = words_of code.Unsought (about_frame (Some id)) (line_of (unsought_message id group))
