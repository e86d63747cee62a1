-- On what toml's grammar reads, a string and a key are passed a step at a time.
use Rattle.std.proofs.Common.{◌≡◌, ℕ, zero, suc, ◌+◌, ◌-◌, ◌/◌, ◌%◌, nat_lt, ◌<◌, ◌≤◌, Bool, true, false, cond, nat_le, zero-add, ◌&&◌, ◌==◌, List, [], ◌∷◌, ◌++◌, length, take, drop, Option, Some, None, is_some, option_map, ◌⊎◌, refl, sym, ap, ◌∙◌, subst, inl, inr, arith, append_assoc}
use Rattle.std.proofs.lemmas.Bool.{cases_Bool, and_parts, false≢true}
use Rattle.std.proofs.lemmas.Bool.Decides.{nat_tests}
use Rattle.std.proofs.lemmas.Option.{none-some, same_Some}
use Rattle.std.proofs.Math.Nat.{mod-lt}
use Rattle.std.proofs.lemmas.List.Sums.{sum_by-append}
use Rattle.std.specs.List.{prefix_len, list_all, count_by}
use Rattle.std.specs.Char.{is_digit, encode_utf8}
use Rattle.std.specs.Str.Parse.{digits_value}
use Rattle.toml_parser.specs.Lexical.{first, starts_newline, skip_ws, skip_lines}
use Rattle.toml_parser.specs.Strings as toml
use Rattle.toml_parser.specs.Strings.{is_plain, special, body, after_piece, simple_escape, hex_len, hex_escape, escape_char, is_scalar, quoted, one_line, trim_newline, starts_string}
use Rattle.toml_parser.proofs.StringsLemmas.{body_plain, body_special}
use Rattle.toml_places.specs.declared.strings.Step.{Step}
use Rattle.toml_places.specs.declared.strings.Step.TheVariants.{End, Cut, Char}
use Rattle.toml_places.specs.Strings.{starts_char, string_goes_on, after_char, after_hex, after_escape, escape, at_delims, next_step, is_end, is_char, after_content, TextPart, content_char, is_multi, content as from_content, after_string, string_char}
use Rattle.toml_places.specs.Reads.{IsChar}
use Rattle.toml_places.proofs.Options.{stepped, mapped}

next_byte : (c : ℕ) → starts_char (128 + c % 64) ≡ false
next_byte c =
    let below : c % 64 < 64 = mod-lt c (omega arith) in
    grind (arith, nat_tests)

-- these bytes are one character, or none
abbrev pub Fits : Step → List ℕ → Type 0
Fits s front = (count_by starts_char front ≡ cond (is_char s) 1 0) × (is_char s ≡ true → starts_char (first front) ≡ true)

encode_fits : (c : ℕ) → Fits Char (encode_utf8 c)
unfolding encode_utf8
encode_fits c =
    let last = next_byte c in
    let second = next_byte (c / 64) in
    let third = next_byte (c / 4096) in
    elim (cases_Bool (nat_lt c 128)) [
      | inl one ↦ let lead : starts_char c ≡ true = grind (arith, nat_tests) in rw (one, lead) (refl, λ h. refl)
      | inr more ↦ elim (cases_Bool (nat_lt c 2048)) [
        | inl two ↦ let lead : starts_char (192 + c / 64) ≡ true = grind (arith, nat_tests) in rw (more, two, lead, last) (refl, λ h. refl)
        | inr most ↦ elim (cases_Bool (nat_lt c 65536)) [
          | inl three ↦ let lead : starts_char (224 + c / 4096) ≡ true = grind (arith, nat_tests) in rw (more, most, three, lead, second, last) (refl, λ h. refl)
          | inr four ↦ let lead : starts_char (240 + c / 262144) ≡ true = grind (arith, nat_tests) in rw (more, most, four, lead, third, second, last) (refl, λ h. refl)
        ]
      ]
    ]

pub count-cons : (c : ℕ) (cs : List ℕ) → count_by starts_char (c ∷ cs) ≡ cond (starts_char c) 1 0 + count_by starts_char cs
count-cons c cs =
    sum_by-append (λ y. cond (starts_char y) 1 0) (c ∷ []) cs ∙ ap (λ n. n + count_by starts_char cs) (zero-add (cond (starts_char c) 1 0))

pub count-append : (xs ys : List ℕ) → count_by starts_char (xs ++ ys) ≡ count_by starts_char xs + count_by starts_char ys
count-append xs ys = sum_by-append (λ y. cond (starts_char y) 1 0) xs ys

conts_count : (cs : List ℕ) → count_by starts_char (take (prefix_len string_goes_on cs) cs) ≡ 0
conts_count [] = refl
conts_count (c ∷ cs) =
    let next : 1 + prefix_len string_goes_on cs ≡ suc (prefix_len string_goes_on cs) = omega arith in
    let cons = count-cons c (take (prefix_len string_goes_on cs) cs) in
    let none = conts_count cs in
    elim (cases_Bool (starts_char c)) [
      | inl lead ↦ rw lead refl
      | inr on ↦ rw (on, next) (cons ∙ rw (on, none) refl)
    ]

hex_follows : (n : ℕ) (text rest : List ℕ) (c : ℕ) → hex_escape n text ≡ Some (c, rest) → after_hex n text ≡ Some rest
unfolding hex_escape after_hex
hex_follows n text rest c h =
    let digits = take n text in
    let written = nat_le n (length text) && list_all (λ x. is_digit x 16) digits in
    elim (cases_Bool (written && is_scalar (digits_value 16 digits))) [
      | inl all ↦
          let here : written ≡ true = (and_parts written (is_scalar (digits_value 16 digits)) all).0 in
          rw here (ap (λ p. Some p.1) (same_Some _ (c, rest) (rw all at h)))
      | inr none ↦ absurd (none-some (c, rest) (rw none at h))
    ]

char_follows : (text rest : List ℕ) (c : ℕ) → escape_char text ≡ Some (c, rest) → after_escape text ≡ Some rest
unfolding escape_char after_escape
char_follows text rest c h =
    elim (cases_Bool (nat_lt 0 (hex_len (first text)))) [
      | inl hex ↦ rw hex (hex_follows (hex_len (first text)) (drop 1 text) rest c (rw hex at h))
      | inr other ↦
          let m = mapped (simple_escape (first text)) (λ (x : ℕ). (x, drop 1 text)) (c, rest) (rw other at h) in
          let some : is_some (simple_escape (first text)) ≡ true = rw m.is refl in
          rw (other, some) (ap (λ (p : ℕ × List ℕ). Some p.1) m.same)
    ]

abbrev as_piece : List ℕ × List ℕ → Option (List ℕ) × List ℕ
as_piece p = (Some p.0, p.1)

-- what a step wrote
abbrev Wrote : Step → Option (List ℕ) → Type 0
Wrote s None = is_end s ≡ true
Wrote s (Some front) = (is_end s ≡ false) × Fits s front

one_byte : (c : ℕ) → starts_char c ≡ true → Wrote Char (Some (c ∷ []))
one_byte c lead = (refl, (rw lead refl, λ h. lead))

escape_follows : (multi : Bool) (text rest bytes : List ℕ) → toml.escape multi text ≡ Some (bytes, rest)
    → (s : Step) × (escape multi text ≡ Some (s, rest)) × Wrote s (Some bytes)
unfolding toml.escape escape
escape_follows multi text rest bytes h =
    elim (cases_Bool (multi && starts_newline (skip_ws text))) [
      | inl cut ↦
          let same = same_Some ([], skip_lines text) (bytes, rest) (rw cut at h) in
          let none : bytes ≡ [] = sym (ap (λ p. p.0) same) in
          (Cut, rw cut (ap (λ p. Some (Cut, p.1)) same), rw none (refl, (refl, λ e. absurd (false≢true e))))
      | inr other ↦
          let m = mapped (escape_char text) (λ p. (encode_utf8 p.0, p.1)) (bytes, rest) (rw other at h) in
          let after : after_escape text ≡ Some m.value.1 = char_follows text m.value.1 m.value.0 m.is in
          let front : bytes ≡ encode_utf8 m.value.0 = sym (ap (λ p. p.0) m.same) in
          (Char, rw (other, after) (ap (λ p. Some (Char, p.1)) m.same), rw front (refl, encode_fits m.value.0))
    ]

module _ (delim : ℕ) (multi : Bool) (ascii : delim < 128) where
  cont_plain : (c : ℕ) → string_goes_on c ≡ true → is_plain delim multi c ≡ true
  cont_plain c h = grind (arith, nat_tests)

  -- the content that a front of it leaves
  pub record Rest (n : ℕ) (content text rest front : List ℕ) : Type 0 where
    pub more : List ℕ
    pub left : ℕ
    pub fewer : left ≤ n
    pub is : body delim multi left text ≡ Some (more, rest)
    pub same : content ≡ front ++ more

  plain_read : (n c : ℕ) (cs content rest : List ℕ) → is_plain delim multi c ≡ true → body delim multi (suc n) (c ∷ cs) ≡ Some (content, rest)
      → Rest n content cs rest (c ∷ [])
  plain_read n c cs content rest plain h =
      let m = mapped (body delim multi n cs) (λ p. ((c ∷ []) ++ p.0, p.1)) (content, rest) (sym (body_plain delim multi n c cs plain) ∙ h) in
      record {
        more = m.value.0;
        left = n;
        fewer = omega arith;
        is = m.is ∙ ap (λ t. Some (m.value.0, t)) (ap (λ p. p.1) m.same);
        same = sym (ap (λ p. p.0) m.same);
      }

  conts_read : (n : ℕ) (cs content rest : List ℕ) → body delim multi n cs ≡ Some (content, rest)
      → Rest n content (drop (prefix_len string_goes_on cs) cs) rest (take (prefix_len string_goes_on cs) cs)
  unfolding body
  conts_read n [] content rest h = record { more = content; left = n; fewer = omega arith; is = h; same = refl }
  conts_read zero (c ∷ cs) content rest h = absurd (none-some (content, rest) h)
  conts_read (suc n) (c ∷ cs) content rest h =
      let k = prefix_len string_goes_on cs in
      let next : 1 + k ≡ suc k = omega arith in
      elim (cases_Bool (string_goes_on c)) [
        | inl on ↦
            let one = plain_read n c cs content rest (cont_plain c on) h in
            let fewer = one.fewer in
            let r = conts_read one.left cs one.more rest one.is in
            rw (on, next) (record { more = r.more; left = r.left; fewer = omega (arith, r.fewer); is = r.is; same = one.same ∙ ap (λ (t : List ℕ). c ∷ t) r.same })
        | inr other ↦ rw other (record { more = content; left = suc n; fewer = omega arith; is = h; same = refl })
      ]

  delims_follow : (text rest : List ℕ) (piece : Option (List ℕ)) → toml.at_delims delim text ≡ Some (piece, rest)
      → (s : Step) × (at_delims delim text ≡ Some (s, rest)) × Wrote s piece
  unfolding at_delims
  delims_follow text rest piece h =
      let count = prefix_len (λ c. c == delim) text in
      let lead : starts_char delim ≡ true = grind (arith, nat_tests) in
      elim (cases_Bool (count == 3)) [
        | inl three ↦
            let same = same_Some (None, drop 3 text) (piece, rest) (rw three at h) in
            let none : piece ≡ None = sym (ap (λ p. p.0) same) in
            (End, rw three (ap (λ p. Some (End, p.1)) same), rw none refl)
        | inr other ↦ elim (cases_Bool (nat_lt count 6)) [
          | inl few ↦
              let same = same_Some (Some (delim ∷ []), drop 1 text) (piece, rest) (rw (other, few) at h) in
              let one : piece ≡ Some (delim ∷ []) = sym (ap (λ p. p.0) same) in
              (Char, rw (other, few) (ap (λ p. Some (Char, p.1)) same), rw one (one_byte delim lead))
          | inr many ↦ absurd (none-some (piece, rest) (rw (other, many) at h))
        ]
      ]

  delim_follows : (more : Bool) (text rest : List ℕ) (piece : Option (List ℕ)) → cond more (toml.at_delims delim text) (Some (None, drop 1 text)) ≡ Some (piece, rest)
      → (s : Step) × (cond more (at_delims delim text) (Some (End, drop 1 text)) ≡ Some (s, rest)) × Wrote s piece
  delim_follows true text rest piece h = delims_follow text rest piece h
  delim_follows false text rest piece h =
      let same = same_Some (None, drop 1 text) (piece, rest) h in
      let none : piece ≡ None = sym (ap (λ p. p.0) same) in
      (End, ap (λ p. Some (End, p.1)) same, rw none refl)

  escaped_follows : (text rest : List ℕ) (piece : Option (List ℕ)) → option_map as_piece (toml.escape multi text) ≡ Some (piece, rest)
      → (s : Step) × (escape multi text ≡ Some (s, rest)) × Wrote s piece
  escaped_follows text rest piece h =
      let m = mapped (toml.escape multi text) as_piece (piece, rest) h in
      let (s, is, wrote) = escape_follows multi text m.value.1 m.value.0 m.is in
      let some : Some m.value.0 ≡ piece = ap (λ p. p.0) m.same in
      (s, is ∙ ap (λ p. Some (s, p.1)) m.same, subst (λ (x : Option (List ℕ)). Wrote s x) some wrote)

  special_follows : (text rest : List ℕ) (piece : Option (List ℕ)) → is_plain delim multi (first text) ≡ false → special delim multi text ≡ Some (piece, rest)
      → (s : Step) × (next_step delim multi text ≡ Some (s, rest)) × Wrote s piece
  unfolding special next_step
  special_follows text rest piece other h =
      elim (cases_Bool (first text == delim)) [
        | inl here ↦
            let (s, is, wrote) = delim_follows multi text rest piece (rw here at h) in
            (s, rw (other, here) is, wrote)
        | inr away ↦ elim (cases_Bool (first text == 92)) [
          | inl escaped ↦
              let next : next_step delim multi text ≡ escape multi (drop 1 text) = rw (other, away, escaped) refl in
              let (s, is, wrote) = escaped_follows (drop 1 text) rest piece (rw (away, escaped) at h) in
              (s, next ∙ is, wrote)
          | inr plain ↦ elim (cases_Bool (multi && starts_newline text)) [
            | inl newline ↦
                let same = same_Some (Some (first text ∷ []), drop 1 text) (piece, rest) (rw (away, plain, newline) at h) in
                let lead : starts_char (first text) ≡ true = grind (arith, nat_tests) in
                let one : piece ≡ Some (first text ∷ []) = sym (ap (λ p. p.0) same) in
                (Char, rw (other, away, plain, newline) (ap (λ p. Some (Char, p.1)) same), rw one (one_byte (first text) lead))
            | inr none ↦ absurd (none-some (piece, rest) (rw (away, plain, none) at h))
          ]
        ]
      ]

  -- a step over content that is read
  pub record Goes (n : ℕ) (text content rest : List ℕ) : Type 0 where
    pub step : Step
    pub next : List ℕ
    pub front : List ℕ
    pub more : List ℕ
    pub left : ℕ
    pub fewer : left < n
    pub goes : is_end step ≡ false
    pub is : next_step delim multi text ≡ Some (step, next)
    pub same : content ≡ front ++ more
    pub fits : Fits step front
    pub reads : body delim multi left next ≡ Some (more, rest)

  abbrev pub Steps : ℕ → List ℕ → List ℕ → List ℕ → Type 0
  Steps n text content rest = ((next_step delim multi text ≡ Some (End, rest)) × (content ≡ [])) ⊎ Goes n text content rest

  ended : (n : ℕ) (text content next rest : List ℕ) (s : Step) → is_end s ≡ true → next_step delim multi text ≡ Some (s, next) → next ≡ rest → content ≡ []
      → Steps n text content rest
  ended n text content next rest End e is same none = inl (is ∙ ap (λ t. Some (End, t)) same, none)
  ended n text content next rest Cut e is same none = absurd (false≢true e)
  ended n text content next rest Char e is same none = absurd (false≢true e)

  piece_read : (n : ℕ) (text content rest next : List ℕ) (piece : Option (List ℕ)) (s : Step) → next_step delim multi text ≡ Some (s, next) → Wrote s piece
      → after_piece (body delim multi n) piece next ≡ Some (content, rest) → Steps (suc n) text content rest
  piece_read n text content rest next None s is wrote h =
      let same = same_Some ([], next) (content, rest) h in
      ended (suc n) text content next rest s wrote is (ap (λ p. p.1) same) (sym (ap (λ p. p.0) same))
  piece_read n text content rest next (Some front) s is wrote h =
      let m = mapped (body delim multi n next) (λ p. (front ++ p.0, p.1)) (content, rest) h in
      inr (record {
        step = s;
        next = next;
        front = front;
        more = m.value.0;
        left = n;
        fewer = omega arith;
        goes = wrote.0;
        is = is;
        same = sym (ap (λ p. p.0) m.same);
        fits = wrote.1;
        reads = m.is ∙ ap (λ t. Some (m.value.0, t)) (ap (λ p. p.1) m.same);
      })

  plain_step : (c : ℕ) (cs : List ℕ) → is_plain delim multi c ≡ true
      → next_step delim multi (c ∷ cs) ≡ Some (cond (starts_char c) Char Cut, drop (prefix_len string_goes_on cs) cs)
  unfolding next_step after_char
  plain_step c cs plain = let next : 1 + prefix_len string_goes_on cs ≡ suc (prefix_len string_goes_on cs) = omega arith in rw (plain, next) refl

  plain_fits : (c : ℕ) (cs : List ℕ) → Fits (cond (starts_char c) Char Cut) (c ∷ take (prefix_len string_goes_on cs) cs)
  plain_fits c cs =
      let cons = count-cons c (take (prefix_len string_goes_on cs) cs) in
      let none = conts_count cs in
      elim (cases_Bool (starts_char c)) [
        | inl lead ↦ rw lead (cons ∙ rw (lead, none) refl, λ h. refl)
        | inr on ↦ rw on (cons ∙ rw (on, none) refl, λ h. absurd (false≢true h))
      ]

  plain_goes : (c : ℕ) → is_end (cond (starts_char c) Char Cut) ≡ false
  plain_goes c = elim (cases_Bool (starts_char c)) [ inl lead ↦ rw lead refl | inr on ↦ rw on refl ]

  pub step_read : (n : ℕ) (text content rest : List ℕ) → body delim multi n text ≡ Some (content, rest) → Steps n text content rest
  unfolding body
  step_read zero text content rest h = absurd (none-some (content, rest) h)
  step_read (suc n) [] content rest h =
      let other : is_plain delim multi 0 ≡ false = grind (arith, nat_tests) in
      let one = stepped (special delim multi []) (λ p. after_piece (body delim multi n) p.0 p.1) (content, rest) (sym (body_special delim multi n [] other) ∙ h) in
      let (s, is, wrote) = special_follows [] one.value.1 one.value.0 other one.is in
      piece_read n [] content rest one.value.1 one.value.0 s is wrote one.then
  step_read (suc n) (c ∷ cs) content rest h =
      elim (cases_Bool (is_plain delim multi c)) [
        | inl plain ↦
            let one = plain_read n c cs content rest plain h in
            let r = conts_read one.left cs one.more rest one.is in
            let fewer = one.fewer in
            let more = r.fewer in
            inr (record {
              step = cond (starts_char c) Char Cut;
              next = drop (prefix_len string_goes_on cs) cs;
              front = c ∷ take (prefix_len string_goes_on cs) cs;
              more = r.more;
              left = r.left;
              fewer = omega arith;
              goes = plain_goes c;
              is = plain_step c cs plain;
              same = one.same ∙ ap (λ (t : List ℕ). c ∷ t) r.same;
              fits = plain_fits c cs;
              reads = r.is;
            })
        | inr other ↦
            let one = stepped (special delim multi (c ∷ cs)) (λ p. after_piece (body delim multi n) p.0 p.1) (content, rest) (sym (body_special delim multi n (c ∷ cs) other) ∙ h) in
            let (s, is, wrote) = special_follows (c ∷ cs) one.value.1 one.value.0 other one.is in
            piece_read n (c ∷ cs) content rest one.value.1 one.value.0 s is wrote one.then
      ]

  pub content_follows : (m n : ℕ) (text content rest : List ℕ) → n ≤ m → body delim multi n text ≡ Some (content, rest) → after_content delim multi m text ≡ Some rest
  unfolding after_content body
  content_follows zero zero text content rest room h = absurd (none-some (content, rest) h)
  content_follows zero (suc n) text content rest room h = absurd (omega arith)
  content_follows (suc m) n text content rest room h =
      elim (step_read n text content rest h) [
        | inl over ↦ rw over.0 refl
        | inr goes ↦
            let fewer = goes.fewer in
            rw (goes.is, goes.goes) (content_follows m goes.left goes.next goes.more rest (omega arith) goes.reads)
      ]

  -- the content from its k-th character on, at its piece
  pub record CharRead (content rest : List ℕ) (k : ℕ) (piece : Option TextPart) : Type 0 where
    pub p : TextPart
    pub char : List ℕ
    pub after : List ℕ
    pub is : piece ≡ Some p
    pub place : IsChar content k char after
    pub here : (n : ℕ) × (body delim multi n p.0 ≡ Some (char ++ after, rest))
    pub next : (n : ℕ) × (body delim multi n p.1 ≡ Some (after, rest))

  later : (content front more rest : List ℕ) (k j : ℕ) (piece : Option TextPart) → content ≡ front ++ more → count_by starts_char front + j ≡ k → CharRead more rest j piece
      → CharRead content rest k piece
  later content front more rest k j piece same count r =
      let b = r.place.before in
      record {
        p = r.p;
        char = r.char;
        after = r.after;
        is = r.is;
        place = record {
          before = front ++ b;
          all = same ∙ ap (λ (t : List ℕ). front ++ t) r.place.all ∙ sym (append_assoc front b (r.char ++ r.after));
          index = count-append front b ∙ ap (λ i. count_by starts_char front + i) r.place.index ∙ count;
          lead = r.place.lead;
          one = r.place.one;
        };
        here = r.here;
        next = r.next;
      }

  pub char_read : (m n k : ℕ) (text content rest : List ℕ) → n ≤ m → body delim multi n text ≡ Some (content, rest) → k < count_by starts_char content
      → CharRead content rest k (content_char delim multi m k text)
  unfolding content_char body
  char_read zero zero k text content rest room h some = absurd (none-some (content, rest) h)
  char_read zero (suc n) k text content rest room h some = absurd (omega arith)
  char_read (suc m) n k text content rest room h some =
      elim (step_read n text content rest h) [
        | inl over ↦ let none : count_by starts_char content ≡ 0 = rw over.1 refl in absurd (omega arith)
        | inr goes ↦
            let fewer = goes.fewer in
            let total = ap (λ (t : List ℕ). count_by starts_char t) goes.same ∙ count-append goes.front goes.more in
            let fits = goes.fits in
            elim (cases_Bool (is_char goes.step)) [
              | inl char ↦
                  let one : count_by starts_char goes.front ≡ 1 = fits.0 ∙ rw char refl in
                  elim (cases_Bool (k == 0)) [
                    | inl here ↦ rw (goes.is, goes.goes, char, here) (record {
                      p = (text, goes.next);
                      char = goes.front;
                      after = goes.more;
                      is = refl;
                      place = record { before = []; all = goes.same; index = grind (arith, nat_tests); lead = fits.1 char; one = one };
                      here = (n, h ∙ ap (λ (t : List ℕ). Some (t, rest)) goes.same);
                      next = (goes.left, goes.reads);
                    })
                    | inr there ↦
                        let some_more : 1 ≤ k = grind (arith, nat_tests) in
                        rw (goes.is, goes.goes, char, there) (later content goes.front goes.more rest k (k - 1) _ goes.same (omega arith)
                        (char_read m goes.left (k - 1) goes.next goes.more rest (omega arith) goes.reads (omega arith)))
                  ]
              | inr cut ↦
                  let none : count_by starts_char goes.front ≡ 0 = fits.0 ∙ rw cut refl in
                  let same_k : k - 0 ≡ k = omega arith in
                  rw (goes.is, goes.goes, cut, same_k) (later content goes.front goes.more rest k k _ goes.same (omega arith)
                  (char_read m goes.left k goes.next goes.more rest (omega arith) goes.reads (omega arith)))
            ]
      ]

pub ascii_delim : (text : List ℕ) → starts_string text ≡ true → first text < 128
ascii_delim text h = grind (arith, nat_tests)

pub quoted_follows : (text content rest : List ℕ) → starts_string text ≡ true → quoted text ≡ Some (content, rest) → after_string text ≡ Some rest
unfolding quoted one_line after_string from_content
quoted_follows text content rest string h =
    let ascii = ascii_delim text string in
    elim (cases_Bool (is_multi text)) [
      | inl multi ↦ rw multi (content_follows (first text) true ascii (length text) (length text) (trim_newline (drop 3 text)) content rest (omega arith) (rw multi at h))
      | inr one ↦ rw one (content_follows (first text) false ascii (length text) (length text) (drop 1 text) content rest (omega arith) (rw one at h))
    ]

-- the k-th character of a string
pub char_at : (text content rest : List ℕ) (k : ℕ) (string : starts_string text ≡ true) → quoted text ≡ Some (content, rest) → k < count_by starts_char content
    → CharRead (first text) (is_multi text) (ascii_delim text string) content rest k (string_char k text)
unfolding quoted one_line string_char from_content
char_at text content rest k string h some =
    let ascii = ascii_delim text string in
    let read = λ (multi : Bool) (here : List ℕ) (is : body (first text) multi (length text) here ≡ Some (content, rest)).
    char_read (first text) multi ascii (length text) (length text) k here content rest (omega arith) is some in
    rw string (elim (cases_Bool (is_multi text)) [
      | inl multi ↦ rw multi (read true (trim_newline (drop 3 text)) (rw multi at h))
      | inr one ↦ rw one (read false (drop 1 text) (rw one at h))
    ])
