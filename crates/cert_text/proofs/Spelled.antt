-- What is read from a line is spelled so.
use Rattle.std.proofs.Common.{◌≡◌, ℕ, ◌-◌, ◌<◌, ◌≤◌, Bool, true, false, cond, eqb, List, [], ◌∷◌, ◌++◌, length, get_or, take, drop, Option, Some, None, Result, Ok, Err, refl, sym, ap, inl, inr, subst, ◌∙◌, arith}
use Rattle.std.specs.Fmt.{decimal}
use Rattle.std.specs.Str.{bytes_eq}
use Rattle.std.specs.List.{join_with_byte}
use Rattle.std.specs.Prelude.{codes, slice_get}
use Rattle.std.proofs.lemmas.Bool.Decides.{nat_tests}
use Rattle.std.proofs.lemmas.Slice.Eq.{bytes_eq-Decides}
use Rattle.std.proofs.lemmas.List.{take-append-drop, append-nil}
use Rattle.std.proofs.lemmas.List.Splits.{join_with_byte-slice_split}
use Rattle.std.specs.Option.{ok_or}
use Rattle.page_ids.proofs.KeyTexts.{chosen}
use Rattle.page_ids.proofs.Truths.{ok_is, needs}
use Rattle.page_ids.proofs.IdTexts.{split_end, id_found}
use Rattle.page_ids.specs.Ids.{Id, frame_text}
use Rattle.page_ids.specs.declared.number.NumberFault.{NumberFault}
use Rattle.page_ids.specs.Texts.{number_in, id_in}
use Rattle.page_ids.proofs.Numbers.{number_found}
use Rattle.cert_table.specs.Table.{comes_after}
use Rattle.cert_table.specs.declared.row.Row.{Row}
use Rattle.abstract_paint.specs.declared.cursor.AbsCursor.{AbsCursor}
use Rattle.abstract_paint.specs.declared.cursor.Place.{Place}
use Rattle.abstract_paint.specs.declared.cursor.Place.TheVariants.{Any, Col, Spot}
use Rattle.abstract_paint.specs.declared.cursor.Pend.{Pend}
use Rattle.abstract_paint.specs.declared.cursor.Pend.TheVariants.{No, Yes, Maybe}
use Rattle.abstract_paint.specs.Paint.{OnScreen}
use Rattle.cert_text.specs.declared.fault.LineCause.{LineCause}
use Rattle.cert_text.specs.declared.fault.LineCause.TheVariants.{Word, Order, Cursor}
use Rattle.cert_text.specs.Grammar.{place_text, pend_text, cursor_text, row_line, IsRow}
use Rattle.frame_records.specs.Steps.{◌>>=◌}
use Rattle.page_ids.specs.Parts.{parts_of}
use Rattle.cert_text.specs.Lines.{number_or_cause, line_number, number_after, in_place, place_in, pend_in, without_pend, cursor_of, cursor_in, row_of, row_of_parts, in_order, row_in}

-- the value of a step that did not fail
pub bind_ok : {A B E : Type 0} (r : Result A E) (f : A → Result B E) (y : B) → (r >>= f) ≡ Ok y
    → (x : A) × (r ≡ Ok x) × (f x ≡ Ok y)
bind_ok (Ok x) f y e = (x, refl, e)
bind_ok (Err d) f y e = absurd cc

abbrev done : {A : Type 0} → A → Result A LineCause
done x = Ok x

number_ok : (r : Result ℕ NumberFault) (n : ℕ) → number_or_cause r ≡ Ok n → r ≡ Ok n
number_ok (Ok m) n e = let same : m ≡ n = ok_is m n e in ap Ok same
number_ok (Err d) n e = absurd cc

pub line_number_found : (most : ℕ) (text : List ℕ) (n : ℕ) → most ≤ 4294967295 → line_number most text ≡ Ok n
    → (n ≤ most) × (text ≡ decimal n)
line_number_found most text n small e = number_found most text n small (number_ok (number_in most text) n e)

pub number_after_found : (word : List ℕ) (most : ℕ) (line : List ℕ) (n : ℕ) → most ≤ 4294967295
    → number_after word most line ≡ Ok n → (n ≤ most) × (line ≡ word ++ decimal n)
number_after_found word most line n small e =
    let a = needs (bytes_eq (take (length word) line) word) Word (line_number most (drop (length word) line)) n e in
    let same : take (length word) line ≡ word = grind (arith, bytes_eq-Decides (take (length word) line) word, a.0) in
    let f = line_number_found most (drop (length word) line) n small a.1 in (
      f.0,
      sym (take-append-drop (length word) line) ∙ ap (λ (w : List ℕ). w ++ drop (length word) line) same
          ∙ ap (λ (w : List ℕ). word ++ w) f.1,
    )

id_ok : (o : Option Id) (i : Id) → ok_or o Word ≡ Ok i → o ≡ Some i
id_ok (Some j) i e = let same : j ≡ i = ok_is j i e in ap Some same
id_ok None i e = absurd cc

in_place_found : (place : ℕ → Place) (r : Result ℕ NumberFault) (p : Place) → in_place place r ≡ Ok p
    → (n : ℕ) × (r ≡ Ok n) × (place n ≡ p)
in_place_found place (Ok n) p e = (n, refl, ok_is (place n) p e)
in_place_found place (Err d) p e = absurd cc

abbrev IsSpelled : List ℕ → Place → Type 0
IsSpelled text p = (text ≡ place_text p) × OnScreen p

numbered : (c d : ℕ) (cs : List ℕ) (place : ℕ → Place) (most : ℕ) (p : Place) → most ≤ 4294967295 → eqb c d ≡ true
    → in_place place (number_in most cs) ≡ Ok p
    → ((n : ℕ) → place_text (place n) ≡ d ∷ decimal n) → ((n : ℕ) → n ≤ most → OnScreen (place n))
    → IsSpelled (c ∷ cs) p
numbered c d cs place most p small same e text is =
    let a = in_place_found place (number_in most cs) p e in
    let n = number_found most cs a.0 small a.1 in
    let letter : c ≡ d = grind (arith, nat_tests, same) in
    subst (IsSpelled (c ∷ cs)) a.2
    (ap (λ (x : ℕ). x ∷ cs) letter ∙ ap (λ (x : List ℕ). d ∷ x) n.1 ∙ sym (text a.0), is a.0 n.0)

place_found : (text : List ℕ) (p : Place) → place_in text ≡ Ok p → IsSpelled text p
place_found [] p e = absurd cc
place_found (c ∷ cs) p e =
    elim (chosen (bytes_eq (c ∷ cs) (codes "any")) (done Any)
    (cond (eqb c 99) (in_place Col (number_in 39 cs))
    (cond (eqb c 115) (in_place Spot (number_in 959 cs)) (Err Cursor))) (Ok p) e) [
      | inl h ↦
          let same : (c ∷ cs) ≡ codes "any" = grind (arith, bytes_eq-Decides (c ∷ cs) (codes "any"), h.0) in
          subst (IsSpelled (c ∷ cs)) (ok_is Any p h.1) (same, tt)
      | inr h ↦
          elim (chosen (eqb c 99) (in_place Col (number_in 39 cs))
          (cond (eqb c 115) (in_place Spot (number_in 959 cs)) (Err Cursor)) (Ok p) h.1) [
            | inl k ↦ numbered c 99 cs Col 39 p (omega arith) k.0 k.1 (λ n. refl) (λ n le. omega (arith, le))
            | inr k ↦
                let m = needs (eqb c 115) Cursor (in_place Spot (number_in 959 cs)) p k.1 in
                numbered c 115 cs Spot 959 p (omega arith) m.0 m.1 (λ n. refl) (λ n le. omega (arith, le))
          ]
    ]

cursor_of_found : (pend : Pend) (r : Result Place LineCause) (x : AbsCursor) → cursor_of pend r ≡ Ok x
    → (r ≡ Ok x.place) × (pend ≡ x.pend)
cursor_of_found pend (Ok p) x e =
    let same = ok_is (record { place = p; pend = pend }) x e in
    (ap (λ (y : AbsCursor). done y.place) same, ap (λ (y : AbsCursor). y.pend) same)
cursor_of_found pend (Err d) x e = absurd cc

ends_in : (text : List ℕ) (c : ℕ) → 0 < c → eqb (get_or text (length text - 1) 0) c ≡ true
    → text ≡ take (length text - 1) text ++ c ∷ []
ends_in [] c pos h = absurd (grind (arith, nat_tests))
ends_in (t ∷ ts) c pos h =
    let last : get_or (t ∷ ts) (length (t ∷ ts) - 1) 0 ≡ c = grind (arith, nat_tests, h) in
    split_end (t ∷ ts) (omega arith) ∙ ap (λ (x : ℕ). take (length (t ∷ ts) - 1) (t ∷ ts) ++ x ∷ []) last

-- a text is what is before the pending state, and that
pend_of : (text : List ℕ) (b c : Bool) → (b ≡ true → text ≡ take (length text - 1) text ++ 43 ∷ [])
    → (c ≡ true → text ≡ take (length text - 1) text ++ 63 ∷ [])
    → text ≡ without_pend text (cond b Yes (cond c Maybe No)) ++ pend_text (cond b Yes (cond c Maybe No))
pend_of text true c f g = f refl
pend_of text false true f g = g refl
pend_of text false false f g = sym (append-nil text)

pend_split : (text : List ℕ) → text ≡ without_pend text (pend_in text) ++ pend_text (pend_in text)
pend_split text =
    pend_of text (eqb (get_or text (length text - 1) 0) 43) (eqb (get_or text (length text - 1) 0) 63)
    (ends_in text 43 (omega arith)) (ends_in text 63 (omega arith))

pub cursor_found : (text : List ℕ) (x : AbsCursor) → cursor_in text ≡ Ok x → (text ≡ cursor_text x) × OnScreen x.place
cursor_found text x e =
    let a = cursor_of_found (pend_in text) (place_in (without_pend text (pend_in text))) x e in
    let p = place_found (without_pend text (pend_in text)) x.place a.0 in (
      pend_split text ∙ ap (λ (w : List ℕ). w ++ pend_text (pend_in text)) p.0
          ∙ ap (λ (d : Pend). place_text x.place ++ pend_text d) a.1,
      p.1,
    )

parts_found : (ps : List (List ℕ)) (r : Row) → row_of_parts ps ≡ Ok r
    → (a b c : List ℕ) × (ps ≡ a ∷ b ∷ c ∷ []) × (row_of a b c ≡ Ok r)
parts_found [] r e = absurd cc
parts_found (a ∷ []) r e = absurd cc
parts_found (a ∷ b ∷ []) r e = absurd cc
parts_found (a ∷ b ∷ c ∷ []) r e = (a, b, c, refl, e)
parts_found (a ∷ b ∷ c ∷ d ∷ more) r e = absurd cc

pub row_of_found : (a b c : List ℕ) (r : Row) → row_of a b c ≡ Ok r
    → IsRow r × (a ++ (32 ∷ (b ++ (32 ∷ c))) ≡ row_line r)
unfolding row_of
row_of_found a b c r e =
    let i =
    bind_ok (ok_or (id_in a) Word)
    (λ i. line_number 65535 b >>= λ k. cursor_in c >>= λ x. Ok (record { id = i; rank = k; cursor = x })) r e in
    let k =
    bind_ok (line_number 65535 b) (λ k. cursor_in c >>= λ x. Ok (record { id = i.0; rank = k; cursor = x })) r i.2 in
    let x = bind_ok (cursor_in c) (λ x. Ok (record { id = i.0; rank = k.0; cursor = x })) r k.2 in
    let is_id = id_found a i.0 (id_ok (id_in a) i.0 i.1) in
    let is_rank = line_number_found 65535 b k.0 (omega arith) k.1 in
    let is_cursor = cursor_found c x.0 x.1 in
    let made : Row = record { id = i.0; rank = k.0; cursor = x.0 } in
    let line : a ++ (32 ∷ (b ++ (32 ∷ c))) ≡ row_line made =
    ap (λ (w : List ℕ). w ++ (32 ∷ (b ++ (32 ∷ c)))) is_id.1
    ∙ ap (λ (w : List ℕ). frame_text i.0 ++ (32 ∷ (w ++ (32 ∷ c)))) is_rank.1
    ∙ ap (λ (w : List ℕ). frame_text i.0 ++ (32 ∷ (decimal k.0 ++ (32 ∷ w)))) is_cursor.0 in
    subst (λ (y : Row). IsRow y × (a ++ (32 ∷ (b ++ (32 ∷ c))) ≡ row_line y)) (ok_is made r x.2)
    (record { id = is_id.0; rank = is_rank.0; place = is_cursor.1 }, line)

pub row_found : (rows : List Row) (line : List ℕ) (r : Row) → row_in rows line ≡ Ok r
    → IsRow r × (line ≡ row_line r) × (comes_after (slice_get rows (length rows - 1)) r.id ≡ true)
unfolding row_in
row_found rows line r e =
    let p = bind_ok (row_of_parts (parts_of 32 line)) (in_order rows) r e in
    let o = needs (comes_after (slice_get rows (length rows - 1)) p.0.id) Order (Ok p.0) r p.2 in
    let q = parts_found (parts_of 32 line) p.0 p.1 in
    let f = row_of_found q.0 q.1 q.2 p.0 q.4 in
    let joined : line ≡ q.0 ++ (32 ∷ (q.1 ++ (32 ∷ q.2))) =
    sym (join_with_byte-slice_split 32 line) ∙ ap (join_with_byte 32) q.3 in
    subst (λ (y : Row). IsRow y × (line ≡ row_line y) × (comes_after (slice_get rows (length rows - 1)) y.id ≡ true))
    (ok_is p.0 r o.1) (f.0, joined ∙ f.1, o.0)
