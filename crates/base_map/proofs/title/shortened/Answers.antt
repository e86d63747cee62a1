use Rattle.std.proofs.Common.{◌≡◌, ◌∙◌, ap, take, refl}
use Rattle.std.proofs.lemmas.List.{take_min}
use Rattle.std.proofs.lemmas.Str.Ascii.{trim_ascii_is}
use Rattle.base_map.specs.Nodes.{start_trimmed, end_trimmed}
use Rattle.base_map.proofs.title.shortened.Goals as goal

pub returns : goal.returns
returns c =
    let run = c.args.run.now in
    let trimmed = c.trim_ascii-trimmed.result.now in
    let is : trimmed ≡ end_trimmed (start_trimmed run) = trim_ascii_is run trimmed (start_trimmed run) refl c.trim_ascii-trimmed.ensures.value in
    ap (λ n. take n trimmed) c.min.ensures ∙ (take_min 24 trimmed ∙ ap (take 24) is)
