-- Rows between the centre's rows.
use Rattle.std.proofs.Common.{◌≡◌, ◌∙◌, ◌≤◌, ℕ, List, ◌++◌, refl, sym, ap, length, take, drop, replicate, append_assoc, arith}
use Rattle.std.proofs.lemmas.List.{take-replicate, take-append-le, take_all}
use Rattle.std.proofs.lemmas.Slice.{drop-append-drop}
use Rattle.std.specs.Prelude.{Result, Ok, Err, IsOk, OnOk}
use borrow.Rule.Slice.PartMut.{put_mid}

-- the first of a row's blank cells
pub blank_before : (n : ℕ) → n ≤ 40 → take n (replicate {A = ℕ} 40 32) ≡ replicate n 32
blank_before n few = take-replicate n 40 32 few

-- rows put after row 0 into a blank screen
put : (top rows all : List ℕ) → length top ≡ 40 → put_mid 40 880 (top ++ drop 40 all) rows ≡ top ++ (rows ++ drop 880 (drop 40 all))
put top rows all h =
    let first : take 40 (top ++ drop 40 all) ≡ top = take-append-le 40 top (drop 40 all) (omega arith) ∙ take_all 40 top (omega arith) in
    let rest : drop 40 (top ++ drop 40 all) ≡ drop 40 all = drop-append-drop 40 all top 40 (omega arith) h in
    ap (λ (xs : List ℕ). xs ++ (rows ++ drop 880 (drop 40 (top ++ drop 40 all)))) first ∙ ap (λ (xs : List ℕ). top ++ (rows ++ drop 880 xs)) rest

pub placed : (top rows : List ℕ) → length top ≡ 40 → put_mid 40 880 (top ++ drop 40 (replicate 960 32)) rows ≡ (top ++ rows) ++ replicate 40 32
placed top rows h =
    let rest : drop 880 (drop 40 (replicate {A = ℕ} 960 32)) ≡ replicate 40 32 = refl in
    put top rows (replicate 960 32) h ∙ ap (λ (xs : List ℕ). top ++ (rows ++ xs)) rest ∙ sym (append_assoc top rows (replicate 40 32))

pub on_ok : {T E P : Type 0} (r : Result T E) → IsOk r → OnOk r P → P
on_ok (Ok x) is holds = holds
on_ok (Err e) is holds = absurd cc
