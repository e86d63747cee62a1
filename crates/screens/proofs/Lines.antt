-- Lines without the spaces at their ends.
use Rattle.std.proofs.Common.{rules, Ok, Err, Result, ◌≡◌, ◌≢◌, ℕ, zero, suc, ◌+◌, arith, refl, sym, ap, ◌∙◌, false, List, [], ◌∷◌, ◌++◌, ◌==◌, replicate, append_assoc, append-nil, add-one, ◌<◌, ◌≤◌, map, drop, length, get_or, drop-cons}
use Rattle.std.proofs.lemmas.List.{replicate_more, drop_all}
use Rattle.std.proofs.lemmas.Grind.{flat_map-append}
use Rattle.std.proofs.lemmas.Bool.Decides.{nat_tests}
use Rattle.std.specs.declared.alloc.AllocError.{AllocError}
use Rattle.std.specs.Result.{OnOk}
use Rattle.screens.specs.declared.look.Look.{Look}
use Rattle.screens.specs.declared.writing.Writing.{Writing}
use Rattle.screens.specs.Writing.{char_bytes, written}
use Rattle.screens.specs.Text.{seen_char, before, trimmed, line, text}

pub written_append : (w : Writing) (cs ds : List ℕ) → written w (cs ++ ds) ≡ written w cs ++ written w ds
written_append w cs ds = flat_map-append (char_bytes w) cs ds

pub put_last : (w : Writing) (old : List ℕ) (n c : ℕ) → (old ++ written w (replicate n 0x20)) ++ char_bytes w c ≡ old ++ written w (replicate n 0x20 ++ c ∷ [])
put_last w old n c =
    append_assoc old (written w (replicate n 0x20)) (char_bytes w c)
    ∙ ap (λ (bs : List ℕ). old ++ bs) (ap (λ (bs : List ℕ). written w (replicate n 0x20) ++ bs) (sym (append-nil (char_bytes w c))) ∙ sym (written_append w (replicate n 0x20) (c ∷ [])))

pub put_more : (w : Writing) (old : List ℕ) (n : ℕ) → (old ++ written w (replicate n 0x20)) ++ char_bytes w 0x20 ≡ old ++ written w (replicate (n + 1) 0x20)
put_more w old n = put_last w old n 0x20 ∙ ap (λ (cs : List ℕ). old ++ written w cs) (replicate_more n 0x20)

spaces_swap : (n : ℕ) (cs : List ℕ) → replicate n 0x20 ++ 0x20 ∷ cs ≡ 0x20 ∷ (replicate n 0x20 ++ cs)
spaces_swap zero cs = refl
spaces_swap (suc n) cs = ap (λ (xs : List ℕ). 0x20 ∷ xs) (spaces_swap n cs)

-- one more space waits
one_waits : (n : ℕ) (cs : List ℕ) → trimmed (replicate (n + 1) 0x20 ++ cs) ≡ trimmed (replicate n 0x20 ++ 0x20 ∷ cs)
one_waits n cs = rw add-one (ap trimmed (sym (spaces_swap n cs)))

-- spaces alone are dropped
all_drop : (n : ℕ) → trimmed (replicate n 0x20 ++ []) ≡ []
all_drop zero = refl
all_drop (suc n) = ap (before 0x20) (all_drop n)

kept : (c : ℕ) (cs : List ℕ) → c ≢ 0x20 → before c cs ≡ c ∷ cs
kept c [] h = let e : (c == 0x20) ≡ false = grind (arith, nat_tests) in rw e refl
kept c (d ∷ ds) h = refl

-- spaces before a character stay
all_stay : (n c : ℕ) (cs : List ℕ) → c ≢ 0x20 → trimmed (replicate n 0x20 ++ c ∷ cs) ≡ replicate n 0x20 ++ c ∷ trimmed cs
all_stay zero c cs h = kept c (trimmed cs) h
all_stay (suc zero) c cs h = ap (before 0x20) (all_stay zero c cs h)
all_stay (suc (suc n)) c cs h = ap (before 0x20) (all_stay (suc n) c cs h)

-- a character after this many spaces
line_more : (w : Writing) (old : List ℕ) (n c : ℕ) (cs : List ℕ) → c ≢ 0x20 → (old ++ written w (replicate n 0x20 ++ c ∷ [])) ++ written w (trimmed cs) ≡ old ++ written w (trimmed (replicate n 0x20 ++ c ∷ cs))
line_more w old n c cs h =
    append_assoc old (written w (replicate n 0x20 ++ c ∷ [])) (written w (trimmed cs))
    ∙ ap (λ (bs : List ℕ). old ++ bs) (sym (written_append w (replicate n 0x20 ++ c ∷ []) (trimmed cs)) ∙ ap (written w) (append_assoc (replicate n 0x20) (c ∷ []) (trimmed cs) ∙ sym (all_stay n c cs h)))

-- a row's characters from i on
chars_at : (row : List Look) (i : ℕ) (d : Look) → i < length row → map seen_char (drop i row) ≡ seen_char (get_or row i d) ∷ map seen_char (drop (i + 1) row)
chars_at row i d lt = rw add-one (ap (map seen_char) (drop-cons row i d lt))

-- a turn of the loop over a row, at a space
pub turn_space : (w : Writing) (row : List Look) (i n m c : ℕ) (d : Look) (old new all : List ℕ) → i < length row → c ≡ seen_char (get_or row i d) → c ≡ 0x20 → m ≡ n + 1 → new ≡ old → old ++ written w (trimmed (replicate n 0x20 ++ map seen_char (drop i row))) ≡ all → new ++ written w (trimmed (replicate m 0x20 ++ map seen_char (drop (i + 1) row))) ≡ all
turn_space w row i n m c d old new all lt e is_space em en h =
    let cs = map seen_char (drop (i + 1) row) in
    let here : map seen_char (drop i row) ≡ 0x20 ∷ cs = chars_at row i d lt ∙ ap (λ (k : ℕ). k ∷ cs) (sym e ∙ is_space) in
    ap (λ (bs : List ℕ). bs ++ written w (trimmed (replicate m 0x20 ++ cs))) en
    ∙ (ap (λ (k : ℕ). old ++ written w (trimmed (replicate k 0x20 ++ cs))) em
    ∙ (ap (λ (xs : List ℕ). old ++ written w xs) (one_waits n cs ∙ ap (λ (ds : List ℕ). trimmed (replicate n 0x20 ++ ds)) (sym here)) ∙ h))

-- at another character
pub turn_char : (w : Writing) (row : List Look) (i n m c : ℕ) (d : Look) (old new all : List ℕ) → i < length row → c ≡ seen_char (get_or row i d) → c ≢ 0x20 → m ≡ 0 → new ≡ old ++ written w (replicate n 0x20 ++ c ∷ []) → old ++ written w (trimmed (replicate n 0x20 ++ map seen_char (drop i row))) ≡ all → new ++ written w (trimmed (replicate m 0x20 ++ map seen_char (drop (i + 1) row))) ≡ all
turn_char w row i n m c d old new all lt e differs em en h =
    let cs = map seen_char (drop (i + 1) row) in
    let here : map seen_char (drop i row) ≡ c ∷ cs = chars_at row i d lt ∙ ap (λ (k : ℕ). k ∷ cs) (sym e) in
    ap (λ (bs : List ℕ). bs ++ written w (trimmed (replicate m 0x20 ++ cs))) en
    ∙ (ap (λ (k : ℕ). (old ++ written w (replicate n 0x20 ++ c ∷ [])) ++ written w (trimmed (replicate k 0x20 ++ cs))) em
    ∙ (line_more w old n c cs differs ∙ (ap (λ (ds : List ℕ). old ++ written w (trimmed (replicate n 0x20 ++ ds))) (sym here) ∙ h)))

-- after the last, a newline
turn_end : (w : Writing) (row : List Look) (i n : ℕ) (old start : List ℕ) → length row ≤ i → old ++ written w (trimmed (replicate n 0x20 ++ map seen_char (drop i row))) ≡ start ++ written w (line row) → old ++ char_bytes w 10 ≡ start ++ written w (line row ++ 10 ∷ [])
turn_end w row i n old start ge h =
    let none : drop i row ≡ [] = drop_all i row ge in
    let same : old ≡ start ++ written w (line row) = sym (append-nil old) ∙ (ap (λ (xs : List ℕ). old ++ written w xs) (sym (all_drop n) ∙ ap (λ (r : List Look). trimmed (replicate n 0x20 ++ map seen_char r)) (sym none)) ∙ h) in
    ap (λ (bs : List ℕ). bs ++ char_bytes w 10) same
    ∙ (append_assoc start (written w (line row)) (char_bytes w 10)
    ∙ ap (λ (bs : List ℕ). start ++ bs) (ap (λ (bs : List ℕ). written w (line row) ++ bs) (sym (append-nil (char_bytes w 10))) ∙ sym (written_append w (line row) (10 ∷ []))))

-- whether or not the newline could be written
pub line_ends : (w : Writing) (row : List Look) (i n : ℕ) (r : Result (Unit {0}) AllocError) (new old start : List ℕ) → OnOk r (new ≡ old ++ char_bytes w 10) → length row ≤ i → old ++ written w (trimmed (replicate n 0x20 ++ map seen_char (drop i row))) ≡ start ++ written w (line row) → OnOk r (new ≡ start ++ written w (line row ++ 10 ∷ []))
line_ends w row i n (Ok x) new old start e ge h = e ∙ turn_end w row i n old start ge h
line_ends w row i n (Err x) new old start e ge h = search rules

-- a turn of the loop over the rows
pub text_more : (w : Writing) (rows : List (List Look)) (i : ℕ) (d : List Look) (old new all : List ℕ) → i < length rows → new ≡ old ++ written w (line (get_or rows i d) ++ 10 ∷ []) → old ++ written w (text (drop i rows)) ≡ all → new ++ written w (text (drop (i + 1) rows)) ≡ all
text_more w rows i d old new all lt e h =
    let here : drop i rows ≡ get_or rows i d ∷ drop (i + 1) rows = rw add-one (drop-cons rows i d lt) in
    let first = line (get_or rows i d) ++ 10 ∷ [] in
    let rest = text (drop (i + 1) rows) in
    ap (λ (bs : List ℕ). bs ++ written w rest) e
    ∙ (append_assoc old (written w first) (written w rest)
    ∙ (ap (λ (bs : List ℕ). old ++ bs) (sym (written_append w first rest) ∙ ap (λ (rs : List (List Look)). written w (text rs)) (sym here)) ∙ h))
