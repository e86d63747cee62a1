-- Facts that hold between the turns of loops, and what functions that aren't exported say. No promise rests on them.
use Rattle.std.specs.Prelude.{ℕ, List, decimal, [], ◌∷◌, ◌++◌}
use Rattle.page_ids.specs.Ids.{frame_text, page_text}
use Rattle.lint_words.specs.declared.piece.Piece.{Piece}
use Rattle.lint_words.specs.declared.piece.Piece.TheVariants.{Text, Page, Id, Frame, Number, Grouped, Count, Quoted, Char, Code, ShownBy, Pressed, Group, Key, Subject, Item, OutOfRange}
use Rattle.lint_words.specs.Pieces.{grouped, number_and_word, quoted, code_point_text, char_text, frame_name, shown_by, pressed_words, group_text}
use Rattle.lint_words.specs.KeyPieces.{key_text, key_subject, item_text, out_of_range_text}

-- Words as a list of pieces.

-- the text of one piece
abbrev pub piece_text : Piece → List ℕ
piece_text (Text words) = words.now
piece_text (Page page) = page_text page
piece_text (Id id) = frame_text id
piece_text (Frame id) = frame_name id
piece_text (Number n) = decimal n
piece_text (Grouped n) = grouped n
piece_text (Count n one more) = number_and_word n one.now more.now
piece_text (Quoted text) = quoted text.now
piece_text (Char c) = char_text c
piece_text (Code c) = code_point_text c
piece_text (ShownBy keys) = shown_by keys.now
piece_text (Pressed key) = pressed_words key
piece_text (Group group) = group_text group
piece_text (Key f) = key_text f
piece_text (Subject f id) = key_subject f id
piece_text (Item f n id) = item_text f n id
piece_text (OutOfRange f z) = out_of_range_text f z

-- one after another
abbrev pub pieces_text : List Piece → List ℕ
pieces_text [] = []
pieces_text (piece ∷ []) = piece_text piece
pieces_text (piece ∷ next ∷ pieces) = piece_text piece ++ pieces_text (next ∷ pieces)
