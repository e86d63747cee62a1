-- The codes of findings.
use Rattle.std.specs.Prelude.{ℕ, List, [], codes}
use Rattle.lint_words.specs.declared.code.Code.{Code}
use Rattle.lint_words.specs.declared.code.Code.TheVariants.{TooLong, NotToml, UnknownKey, Absent, WrongKind, Range, BodyAndRows, RowTooLong, RowCode, BadFrame, TooMany, BodyTooLong, NextAfterZ, Duplicate, OutsideInside, EntryMissing, EntryClosed, Price, Touches, Missing, Closed, NoReturn, Unreached, Hidden, LineEnd, Escape, Menu, Unsought}

abbrev pub code_word : Code → List ℕ
code_word TooLong = codes "X1"
code_word NotToml = codes "X2"
code_word UnknownKey = codes "X3"
code_word Absent = codes "X4"
code_word WrongKind = codes "X5"
code_word Range = codes "X6"
code_word BodyAndRows = codes "X7"
code_word RowTooLong = codes "X8"
code_word RowCode = codes "X9"
code_word BadFrame = codes "I2"
code_word TooMany = codes "B4"
code_word BodyTooLong = codes "B5"
code_word NextAfterZ = codes "B3"
code_word Duplicate = codes "B1"
code_word OutsideInside = codes "B2"
code_word EntryMissing = codes "ENTRYMISSING"
code_word EntryClosed = codes "ENTRYCLOSED"
code_word Price = codes "PRICE"
code_word Touches = codes "TOUCHES"
code_word Missing = codes "MISSING"
code_word Closed = codes "CLOSED"
code_word NoReturn = codes "NORETURN"
code_word Unreached = codes "UNREACHED"
code_word Hidden = codes "HIDDEN"
code_word LineEnd = codes "LINEEND"
code_word Escape = codes "ESCAPE"
code_word Menu = codes "MENU"
code_word Unsought = codes "UNSOUGHT"

-- the name after a code; a code that is a word has none
abbrev pub code_name : Code → List ℕ
code_name TooLong = codes "TooLong"
code_name NotToml = codes "NotToml"
code_name UnknownKey = codes "UnknownKey"
code_name Absent = codes "Absent"
code_name WrongKind = codes "WrongKind"
code_name Range = codes "Range"
code_name BodyAndRows = codes "BodyAndRows"
code_name RowTooLong = codes "RowTooLong"
code_name RowCode = codes "RowCode"
code_name BadFrame = codes "BadFrame"
code_name TooMany = codes "TooMany"
code_name BodyTooLong = codes "BodyTooLong"
code_name NextAfterZ = codes "NextAfterZ"
code_name Duplicate = codes "Duplicate"
code_name OutsideInside = codes "OutsideInside"
code_name _ = []
