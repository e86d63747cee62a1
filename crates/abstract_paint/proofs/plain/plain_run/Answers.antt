use Rattle.std.proofs.Common.{◌≡◌, ℕ, ◌+◌, ◌-◌, ◌≤◌, List, map, length, take, drop, ap, sym, subst, ◌∙◌, arith}
use Rattle.std.proofs.lemmas.List.{length-drop}
use Rattle.std.proofs.lemmas.List.Sums.{prefix_len-le-length}
use Rattle.std.specs.Array.{IsFirstChunk}
use lib.Count.{count_trailing_zeros}
use lib.Lanes.{mask_l}
use Rattle.abstract_paint.specs.Plain.{is_plain}
use Rattle.abstract_paint.specs.Loops.{is_other}
use Rattle.abstract_paint.proofs.ChunkRuns.{tail_is, run_through, run_stops}
use Rattle.abstract_paint.proofs.plain.plain_run.Goals as goal

-- the chunk is the next 32 bytes
chunk_is : (bytes chunk : List ℕ) (run : ℕ) → IsFirstChunk (take (length bytes - run) (drop run bytes)) chunk 32 → (run + 32 ≤ length bytes) × (chunk ≡ take 32 (drop run bytes))
chunk_is bytes chunk run h =
    let enough : 32 ≤ length (drop run bytes) = subst (λ (xs : List ℕ). 32 ≤ length xs) (tail_is run bytes) h.enough in
    (omega (arith, length-drop run bytes), h.same ∙ ap (take 32) (tail_is run bytes))

pub returns-then-others-ne0 : goal.returns-then-others-ne0
returns-then-others-ne0 c =
    let bytes = c.args.bytes.now in
    let run = c.loop-chunk.run in
    let others = c.other_mask-others in
    let here = chunk_is bytes c.in-Some.chunk.now run c.in-Some.ensures.cases in
    let mask : others.result ≡ mask_l (map is_other (take 32 (drop run bytes))) = others.ensures ∙ ap (λ (xs : List ℕ). mask_l (map is_other xs)) here.1 in
    let stops = run_stops bytes run 32 here.0 (omega arith) (omega (arith, mask)) ∙ ap (count_trailing_zeros 32) (sym mask) in
    omega (arith, stops, c.loop-chunk.invariant.rest)

pub loop-chunk-preserved : goal.loop-chunk-preserved
loop-chunk-preserved c =
    let bytes = c.args.bytes.now in
    let run = c.loop-chunk.run in
    let others = c.other_mask-others in
    let here = chunk_is bytes c.in-Some.chunk.now run c.in-Some.ensures.cases in
    let mask : others.result ≡ mask_l (map is_other (take 32 (drop run bytes))) = others.ensures ∙ ap (λ (xs : List ℕ). mask_l (map is_other xs)) here.1 in
    let more = run_through bytes run 32 here.0 (omega (arith, mask)) in
    record { within = here.0; rest = omega (arith, more, c.loop-chunk.invariant.rest) }

pub overflow_add-result-2 : goal.overflow_add-result-2
overflow_add-result-2 c =
    let bytes = c.args.bytes.now in
    let run = c.loop-chunk.run in
    let rest = take (length bytes - run) (drop run bytes) in
    let within : run + c.short_run.result ≤ length bytes = omega (arith, c.short_run.ensures, prefix_len-le-length is_plain rest, ap length (tail_is run bytes), length-drop run bytes) in
    record { fits = omega arith }
