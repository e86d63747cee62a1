-- Lines that are read as expressions.
use Rattle.std.proofs.Common.{◌≡◌, ℕ, suc, ◌-◌, ◌<◌, true, false, ◌==◌, List, [], ◌∷◌, ◌++◌, length, Option, Some, None, option_and_then, refl, sym, ap, ◌∙◌, arith, append_assoc, append-nil}
use Rattle.std.proofs.lemmas.Bool.Decides.{nat_tests}
use Rattle.toml_parser.specs.Lexical.{skip_blank}
use Rattle.toml_parser.proofs.LexicalLemmas.{skip_from-nil}
use Rattle.toml.specs.Tables.{Document, Expression, define, no_nodes, close}
use Rattle.toml.specs.Parse.{line, lines, skip_bom, parse_document}
use Rattle.toml.proofs.Turns.{lines_end, lines_more, lines_refused, document_some}
use Rattle.toml.proofs.Blanks.{skip_within}
use Rattle.toml.proofs.ReadLines.{run}

-- what is left to read after some lines, with room for it
pub record Leaves (rest x : List ℕ) (m : ℕ) (es : List Expression) : Type 0 where
  pub left : List ℕ
  pub room : ℕ
  pub skips : skip_blank left ≡ skip_blank rest
  pub fits : length left < room
  pub reads : (doc : Document) → lines m doc x ≡ option_and_then (λ next. lines room next left) (run doc es)

-- the text is lines of these expressions, whatever follows
abbrev pub Reads : List ℕ → List Expression → Type 0
Reads text es = (rest x : List ℕ) (m : ℕ) → skip_blank x ≡ skip_blank (text ++ rest) → length x < m → Leaves rest x m es

-- lines without an expression
pub reads_blank : (text : List ℕ) → ((rest : List ℕ) → skip_blank (text ++ rest) ≡ skip_blank rest) → Reads text []
reads_blank text blank rest x m same fits = record { left = x; room = m; skips = same ∙ blank rest; fits = fits; reads = λ doc. refl }

-- what one expression leaves of a text that begins with it
pub record Turn (start rest : List ℕ) (e : Expression) : Type 0 where
  pub after : List ℕ
  pub reads : line start ≡ Some (e, after)
  pub skips : skip_blank after ≡ skip_blank rest
  pub shorter : length after < length start

one_step : (m : ℕ) (x after : List ℕ) (e : Expression) (doc : Document) (defined : Option Document) → defined ≡ define doc e → 0 < m
    → (length (skip_blank x) == 0) ≡ false → line (skip_blank x) ≡ Some (e, after)
    → lines m doc x ≡ option_and_then (λ next. lines (m - 1) next after) (option_and_then (λ next. run next []) defined)
one_step m x after e doc None same some other read = lines_refused m doc x e after some other read (sym same)
one_step m x after e doc (Some next) same some other read = lines_more m doc next x e after some other read (sym same)

-- a line of one expression, after what is skipped before it
pub reads_one : (text : List ℕ) (e : Expression) (start : List ℕ → List ℕ)
    → ((rest : List ℕ) → skip_blank (text ++ rest) ≡ start rest) → ((rest : List ℕ) → Turn (start rest) rest e) → Reads text (e ∷ [])
reads_one text e start begins turn rest x m same fits =
    let t = turn rest in
    let at : skip_blank x ≡ start rest = same ∙ begins rest in
    let long : length (skip_blank x) ≡ length (start rest) = ap length at in
    let other : (length (skip_blank x) == 0) ≡ false = grind (arith, nat_tests, t.shorter, long) in
    record {
      left = t.after;
      room = m - 1;
      skips = t.skips;
      fits = omega (arith, skip_within x, long, t.shorter, fits);
      reads = λ doc. one_step m x t.after e doc (define doc e) refl (omega (arith, fits)) other (ap line at ∙ t.reads);
    }

run_after : (o : Option Document) (es fs : List Expression) → ((doc : Document) → run doc (es ++ fs) ≡ option_and_then (λ next. run next fs) (run doc es))
    → option_and_then (λ next. run next (es ++ fs)) o ≡ option_and_then (λ next. run next fs) (option_and_then (λ next. run next es) o)
run_after None es fs more = refl
run_after (Some next) es fs more = more next

pub run_append : (doc : Document) (es fs : List Expression) → run doc (es ++ fs) ≡ option_and_then (λ next. run next fs) (run doc es)
run_append doc [] fs = refl
run_append doc (e ∷ es) fs = run_after (define doc e) es fs (λ next. run_append next es fs)

then_both : (o : Option Document) (fs : List Expression) (k m : ℕ) (x y : List ℕ)
    → ((doc : Document) → lines m doc x ≡ option_and_then (λ next. lines k next y) (run doc fs))
    → option_and_then (λ next. lines m next x) o ≡ option_and_then (λ next. lines k next y) (option_and_then (λ next. run next fs) o)
then_both None fs k m x y reads = refl
then_both (Some doc) fs k m x y reads = reads doc

-- lines after lines
pub reads_append : (text more : List ℕ) (es fs : List Expression) → Reads text es → Reads more fs → Reads (text ++ more) (es ++ fs)
reads_append text more es fs one two rest x m same fits =
    let a = one (more ++ rest) x m (same ∙ ap skip_blank (append_assoc text more rest)) fits in
    let b = two rest a.left a.room a.skips a.fits in
    record {
      left = b.left;
      room = b.room;
      skips = b.skips;
      fits = b.fits;
      reads = λ doc. a.reads doc ∙ then_both (run doc es) fs b.room a.room a.left b.left b.reads
          ∙ ap (option_and_then (λ next. lines b.room next b.left)) (sym (run_append doc es fs));
    }

-- a whole text, whose expressions make a document
pub reads_whole : (text : List ℕ) (es : List Expression) (doc : Document) → Reads text es → skip_bom text ≡ text
    → run (no_nodes, []) es ≡ Some doc → parse_document text ≡ Some (close doc.0)
reads_whole text es doc reads none made =
    let a = reads [] text (suc (length text)) (ap skip_blank (sym (append-nil text))) (omega arith) in
    let over : length (skip_blank a.left) ≡ 0 = ap length (a.skips ∙ skip_from-nil true false) in
    let read : lines (suc (length text)) (no_nodes, []) text ≡ Some doc =
    a.reads (no_nodes, []) ∙ ap (option_and_then (λ next. lines a.room next a.left)) made
    ∙ lines_end a.room doc a.left (omega (arith, a.fits)) over in
    document_some text doc (ap (lines (suc (length text)) (no_nodes, [])) none ∙ read)
