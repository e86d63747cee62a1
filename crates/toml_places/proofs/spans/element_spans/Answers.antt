use Rattle.std.proofs.Common.{◌≡◌, ◌∙◌, ◌==◌, ℕ, true, false, List, [], drop, Some, option_map, slice_get, sym, ap}
use Rattle.std.proofs.lemmas.Result.{IfOk-weaker}
use Rattle.std.proofs.lemmas.Bool.Decides.{nat_tests}
use Rattle.std.proofs.Common.{arith}
use Rattle.toml_parser.specs.Lexical.{first}
use Rattle.toml_places.specs.declared.spans.Span.{Span}
use Rattle.toml_places.specs.Values.{element, element_from}
use Rattle.toml_places.specs.Spans.{from_offset, span_in, element_span}
use Rattle.toml_places.proofs.spans.element_spans.Goals as goal

of_array : (text array : List ℕ) (at k : ℕ) → Some array ≡ from_offset at text → (first array == 91) ≡ true
    → option_map (span_in text) (element_from k (drop 1 array)) ≡ element_span k at text
unfolding element
of_array text array at k is opens = rw (sym is, opens)

no_array : (text array : List ℕ) (at k : ℕ) (spans : List Span) → Some array ≡ from_offset at text → (first array == 91) ≡ false → spans ≡ []
    → slice_get spans k ≡ element_span k at text
unfolding element
no_array text array at k spans is other none = rw (none, sym is, other)

pub returns-then-first-eq91 : goal.returns-then-first-eq91
returns-then-first-eq91 c =
    let opens : (first c.in-Some.array.now == 91) ≡ true = grind (arith, nat_tests, c.if-first-eq91.true) in
    IfOk-weaker c.spans_from.result _ _ (λ spans are k. are k ∙ ap (λ rest. option_map (span_in c.args.text.now) (element_from k rest)) c.skip.ensures.rest
    ∙ of_array c.args.text.now c.in-Some.array.now c.args.at k c.in-Some.ensures.value opens) c.spans_from.ensures

pub returns-else-first-eq91 : goal.returns-else-first-eq91
returns-else-first-eq91 c =
    let other : (first c.in-Some.array.now == 91) ≡ false = grind (arith, nat_tests, c.if-first-eq91.false) in
    λ k. no_array c.args.text.now c.in-Some.array.now c.args.at k c.new.result.items c.in-Some.ensures.value other c.new.ensures.items
