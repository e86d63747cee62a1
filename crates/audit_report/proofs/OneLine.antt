-- A frame is one line, in each form of a list.
use Rattle.std.proofs.Common.{◌≡◌, ◌∙◌, ℕ, ◌+◌, arith, refl, true, false, List, [], ◌∷◌, ◌++◌, ◌==◌, Option, Some, None, codes, decimal}
use Rattle.std.specs.List.{list_all}
use Rattle.std.proofs.lemmas.Bool.Decides.{nat_tests}
use Rattle.std.proofs.lemmas.List.Folds.{list_all-append}
use Rattle.page_ids.specs.Ids.{Id, IsLetter, frame_text}
use Rattle.page_ids.proofs.Digits.{all_decimal}
use Rattle.page_ids.specs.Keys.{key_word, keys_text}
use Rattle.page_ids.specs.declared.key.Key.{Key}
use Rattle.page_ids.specs.declared.key.Key.TheVariants.{Route, Next, Prev, Reprint, Update}
use Rattle.frame_records.specs.declared.frame.Frame.{Frame}
use Rattle.audit_report.specs.Lines.{ended_line, with_id}
use Rattle.audit_report.specs.ReportLines.{script_text}
use Rattle.audit_report.specs.declared.list_form.ListForm.{ListForm}
use Rattle.audit_report.specs.declared.list_form.ListForm.TheVariants.{Line, Json}
use Rattle.audit_report.specs.Listing.{with_or, price_and_group, price_and_group_members, script_member, frame_line, unreached_line, is_no_newline, IsOneLine, AreOneLines}

abbrev InLine : List ℕ → Type 0
InLine bs = list_all is_no_newline bs ≡ true

joined : (xs ys : List ℕ) → InLine xs → InLine ys → InLine (xs ++ ys)
joined xs ys h k = list_all-append is_no_newline xs ys ∙ rw (h, k) refl

in_decimal : (n : ℕ) → InLine (decimal n)
in_decimal n = all_decimal is_no_newline (λ d lt. let a : (48 + d == 10) ≡ false = grind (arith, nat_tests) in rw a refl) n

in_id : (words : List ℕ) (id : Id) → InLine words → IsLetter id.letter → InLine (with_id words id)
in_id words id h is = joined words (frame_text id) h (joined (decimal id.page) (id.letter ∷ []) (in_decimal id.page) last) where
  last : InLine (id.letter ∷ [])
  last = let a : (id.letter == 10) ≡ false = grind (arith, nat_tests) in rw a refl

in_key : (key : Key) → InLine (key_word key)
in_key (Route digit) = let a : (48 + digit == 10) ≡ false = grind (arith, nat_tests) in rw a refl
in_key Next = refl
in_key Prev = refl
in_key Reprint = refl
in_key Update = refl

in_keys : (keys : List Key) → InLine (keys_text keys)
in_keys [] = refl
in_keys (key ∷ keys) = joined (key_word key) (keys_text keys) (in_key key) (in_keys keys)

in_script : (keys : List Key) → InLine (script_text keys)
in_script [] = refl
in_script (key ∷ keys) = joined (codes " SCRIPT ") (keys_text (key ∷ keys)) refl (in_keys (key ∷ keys))

in_or : (none words : List ℕ) (number : Option ℕ) → InLine none → InLine words → InLine (with_or none words number)
in_or none words (Some n) is h = joined words (decimal n) h (in_decimal n)
in_or none words None is h = joined words none h is

in_price_and_group : (f : Frame) → InLine (price_and_group f)
in_price_and_group f =
    joined (codes " PRICE " ++ decimal f.price) (with_or (codes "-") (codes " GROUP ") f.group) (joined (codes " PRICE ") (decimal f.price) refl (in_decimal f.price)) (in_or (codes "-") (codes " GROUP ") f.group refl refl)

in_members : (f : Frame) → InLine (price_and_group_members f)
in_members f =
    joined (codes ",\"price\":" ++ decimal f.price) (with_or (codes "null") (codes ",\"group\":") f.group) (joined (codes ",\"price\":") (decimal f.price) refl (in_decimal f.price)) (in_or (codes "null") (codes ",\"group\":") f.group refl refl)

in_script_member : (keys : List Key) → InLine (script_member keys)
in_script_member keys =
    let before = codes ",\"script\":\"" in
    joined (before ++ keys_text keys) (codes "\"}") (joined before (keys_text keys) refl (in_keys keys)) refl

one_line : (text : List ℕ) → InLine text → IsOneLine (ended_line text)
one_line text h = record { text = text; ends = refl; one = h }

frame_one : (f : Frame) → IsLetter f.id.letter → (form : ListForm) (rank : Option ℕ) (keys : List Key) → IsOneLine (frame_line form f rank keys)
frame_one f is Line rank keys =
    let a = with_id (codes "FRAME ") f.id in
    let b = with_or (codes "-") (codes " RANK ") rank in
    one_line (a ++ b ++ price_and_group f ++ script_text keys)
    (joined (a ++ b ++ price_and_group f) (script_text keys) (joined (a ++ b) (price_and_group f) (joined a b (in_id (codes "FRAME ") f.id refl is) (in_or (codes "-") (codes " RANK ") rank refl refl)) (in_price_and_group f)) (in_script keys))
frame_one f is Json rank keys =
    let a = with_id (codes "{\"frame\":\"") f.id in
    let b = with_or (codes "null") (codes "\",\"reached\":true,\"rank\":") rank in
    let c = a ++ b ++ price_and_group_members f in
    one_line (c ++ script_member keys)
    (joined c (script_member keys)
    (joined (a ++ b) (price_and_group_members f) (joined a b (in_id (codes "{\"frame\":\"") f.id refl is) (in_or (codes "null") (codes "\",\"reached\":true,\"rank\":") rank refl refl)) (in_members f))
    (in_script_member keys))

unreached_one : (f : Frame) → IsLetter f.id.letter → (form : ListForm) → IsOneLine (unreached_line form f)
unreached_one f is Line =
    one_line (with_id (codes "UNREACHED ") f.id ++ price_and_group f) (joined (with_id (codes "UNREACHED ") f.id) (price_and_group f) (in_id (codes "UNREACHED ") f.id refl is) (in_price_and_group f))
unreached_one f is Json =
    let a = with_id (codes "{\"frame\":\"") f.id in
    let b = codes "\",\"reached\":false,\"rank\":null" in
    one_line (a ++ b ++ price_and_group_members f ++ codes ",\"script\":null}")
    (joined (a ++ b ++ price_and_group_members f) (codes ",\"script\":null}") (joined (a ++ b) (price_and_group_members f) (joined a b (in_id (codes "{\"frame\":\"") f.id refl is) refl) (in_members f)) refl)

pub are_one_lines : (f : Frame) → IsLetter f.id.letter → AreOneLines f
are_one_lines f is = record { reached = frame_one f is; unreached = unreached_one f is }
