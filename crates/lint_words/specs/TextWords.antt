-- The words of a fault of a base's text.
use Rattle.std.specs.Prelude.{ℕ, Bool, true, false, ◌==◌, if◌then◌else◌, List, [], ◌++◌, codes, Option, Some, None}
use Rattle.page_ids.specs.Ids.{Id}
use Rattle.base_text.specs.declared.keys.Field.{Field}
use Rattle.base_text.specs.declared.keys.Field.TheVariants as field
use Rattle.base_text.specs.declared.keys.TableKind.{TableKind}
use Rattle.base_text.specs.declared.keys.TableKind.TheVariants as table
use Rattle.base_text.specs.declared.detail.Detail.{Detail}
use Rattle.base_text.specs.declared.detail.Detail.TheVariants.{UnknownKey, Absent, WrongKind, WrongItem, Number, ItemNumber, Lead, BodyCode, MoreBodyCodes, TooManyRows, BodyAndRows, RowTooLong, RowCode, MoreRowCodes, BadFrame}
use Rattle.base_text.specs.declared.detail.ValueKind.{ValueKind}
use Rattle.base_text.specs.declared.detail.ValueKind.TheVariants as value
use Rattle.base_text.specs.declared.detail.TextFault.{TextFault}
use Rattle.lint_words.specs.Pieces.{grouped, number_and_word, quoted, char_text, frame_name}
use Rattle.lint_words.specs.KeyPieces.{key_text, key_subject, item_text, out_of_range_text}
use Rattle.lint_words.specs.Lines.{line_of}
use Rattle.lint_words.specs.AboutOf.{about_frame, text_about}
use Rattle.lint_words.specs.WordsOf.{WordsView, words_of}
use Rattle.lint_words.specs.declared.code.Code.{Code}
use Rattle.lint_words.specs.declared.code.Code.TheVariants as code

-- what a value is
abbrev pub kind_text : ValueKind → List ℕ
kind_text value.String = codes "a string"
kind_text value.Integer = codes "a whole number"
kind_text value.Float = codes "a decimal number"
kind_text value.Boolean = codes "true or false"
kind_text value.Datetime = codes "a date or time"
kind_text value.Array = codes "a list"
kind_text value.Table = codes "a table"

-- what the value of a key has to be
abbrev pub needed_text : Field → List ℕ
needed_text field.Entry = codes "a whole number"
needed_text field.Outside = codes "a list of whole numbers"
needed_text field.Frame = codes "an array of tables"
needed_text field.Id = codes "a string"
needed_text field.Price = codes "a whole number"
needed_text field.Group = codes "a whole number"
needed_text field.Next = codes "true or false"
needed_text field.Routes = codes "a table"
needed_text field.Lead = codes "a string"
needed_text field.Body = codes "a string"
needed_text field.Rows = codes "a list of strings"

-- what it has to be
abbrev pub item_needed : Field → List ℕ
item_needed field.Rows = codes "a string"
item_needed f = codes "a whole number"

-- the table that doesn't have a key
abbrev pub unknown_text : TableKind → List ℕ
unknown_text table.Top = codes " is not a key of a base"
unknown_text table.Frame = codes " is not a key of a frame"
unknown_text table.Routes = codes " is not a key of routes, use the digits 0 to 9"

-- a key that has to be there and isn't; a frame has one of `body` and `rows`
abbrev pub absent_words : Field → Option Id → List ℕ
absent_words field.Entry id = codes "the base has no \"entry\""
absent_words field.Body id = frame_name id ++ codes " has no \"body\" and no \"rows\""
absent_words f id = frame_name id ++ (codes " has no " ++ key_text f)

-- what a key or an item is, and what is needed
abbrev pub misfit_words : List ℕ → List ℕ → List ℕ
misfit_words found needed = codes " is " ++ (found ++ (codes ", " ++ (needed ++ codes " is needed")))

-- whether `frame` names the frame of an index, and not the key of the top
abbrev pub is_element : Option ℕ → Field → Bool
is_element (Some i) field.Frame = true
is_element frame f = false

-- what is wrong with a row; `more` is how many more characters are refused
abbrev pub row_words : Option Id → Detail → List ℕ
row_words id (RowTooLong row n) =
    item_text field.Rows row id ++ (codes " has " ++ (grouped n ++ codes " characters, at most 40 are allowed"))
row_words id (RowCode row n c) =
    codes "character " ++ (grouped n ++ (codes " of " ++ (item_text field.Rows row id ++ (codes " is " ++
    (char_text c ++ codes ", which no row may have")))))
row_words id (MoreRowCodes row n more) =
    item_text field.Rows row id ++ (codes " has " ++ (number_and_word more (codes "more character") (codes "more characters") ++
    codes " that no row may have"))
row_words id detail = []

-- what is wrong with what a frame shows; a character of the body has to be a byte
abbrev pub shown_words : Option Id → Detail → List ℕ
shown_words id BodyAndRows = frame_name id ++ codes " has both \"body\" and \"rows\", leave out one"
shown_words id (BodyCode n c) =
    codes "character " ++ (grouped n ++ (codes " of " ++ (key_subject field.Body id ++ (codes " is " ++
    (char_text c ++ codes ", at most U+00FF is allowed")))))
shown_words id (MoreBodyCodes n more) =
    key_subject field.Body id ++ (codes " has " ++ (number_and_word more (codes "more character") (codes "more characters") ++
    codes " above U+00FF"))
shown_words id (TooManyRows n) = frame_name id ++ (codes " has " ++ (grouped n ++ codes " rows, at most 22 are allowed"))
shown_words id detail = row_words id detail

-- what is wrong, in a frame's table or at the top: a key or a value, an element of `frame` that is no table, or what a frame shows
abbrev pub detail_words : Option ℕ → Option Id → Detail → List ℕ
detail_words frame id (UnknownKey t key) = quoted key ++ unknown_text t
detail_words frame id (Absent f) = absent_words f id
detail_words frame id (WrongKind f k) =
    if is_element frame f then codes "an item of \"frame\" is " ++ (kind_text k ++ codes ", a table is needed")
    else key_subject f id ++ misfit_words (kind_text k) (needed_text f)
detail_words frame id (WrongItem f n k) = item_text f n id ++ misfit_words (kind_text k) (item_needed f)
detail_words frame id (Number f z) = key_subject f id ++ out_of_range_text f z
detail_words frame id (ItemNumber f n z) = item_text f n id ++ out_of_range_text f z
detail_words frame id (Lead text) =
    key_subject field.Lead id ++ (codes " is " ++ (quoted text ++ codes ", \"clear\" or \"keep\" is needed"))
detail_words frame id (BadFrame text) = quoted text ++ codes " is not a frame id"
detail_words frame id detail = shown_words id detail

-- how many faults of a frame's table or of the top aren't listed
abbrev pub unlisted_words : Option ℕ → Option Id → ℕ → List ℕ
unlisted_words None id n = number_and_word n (codes "more fault") (codes "more faults") ++ codes " at the top, not listed"
unlisted_words (Some i) id n =
    number_and_word n (codes "more fault") (codes "more faults") ++ (codes " in " ++ (frame_name id ++ codes ", not listed"))

abbrev pub detail_code : Detail → Code
detail_code (UnknownKey t key) = code.UnknownKey
detail_code (Absent f) = code.Absent
detail_code (WrongKind f k) = code.WrongKind
detail_code (WrongItem f n k) = code.WrongKind
detail_code (Number f z) = code.Range
detail_code (ItemNumber f n z) = code.Range
detail_code (Lead text) = code.Range
detail_code (BodyCode n c) = code.Range
detail_code (MoreBodyCodes n more) = code.Range
detail_code (TooManyRows n) = code.Range
detail_code BodyAndRows = code.BodyAndRows
detail_code (RowTooLong row n) = code.RowTooLong
detail_code (RowCode row n c) = code.RowCode
detail_code (MoreRowCodes row n more) = code.RowCode
detail_code (BadFrame text) = code.BadFrame

-- what is wrong; of a fault that is listed for all others of its table, how many these are
abbrev pub text_message : TextFault → List ℕ
text_message fault =
    if fault.unlisted == 0 then detail_words fault.frame fault.id fault.detail
    else unlisted_words fault.frame fault.id fault.unlisted

-- a fault of a text
abbrev pub text_fault_words : TextFault → WordsView
text_fault_words fault = words_of (detail_code fault.detail) (text_about fault) (line_of (text_message fault))

-- a text that is too long, and one that isn't TOML, on which toml has this message
abbrev pub too_long_words : WordsView
too_long_words = words_of code.TooLong (about_frame None) (line_of (codes "the text has more than 16,777,216 bytes"))

abbrev pub not_toml_words : List ℕ → WordsView
not_toml_words message = words_of code.NotToml (about_frame None) (line_of message)
