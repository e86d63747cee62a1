use Rattle.std.proofs.Common.{sym}
use Rattle.std.proofs.lemmas.List.{length-take-le}
use Rattle.screen_forms.proofs.links.link_codes.Goals as goal

pub slice_bounds-rows_codes-end : goal.slice_bounds-rows_codes-end
slice_bounds-rows_codes-end c = sym (length-take-le 1120 c.args.letters.now (c.has_link_size.ensures.long c.if-has_link_size.true))
