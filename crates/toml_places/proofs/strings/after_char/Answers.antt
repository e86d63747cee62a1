use Rattle.toml_places.proofs.StringTurns.{char_ends, after_char_step}
use Rattle.toml_places.proofs.strings.after_char.Goals as goal

pub split_at-requires : goal.split_at-requires
split_at-requires c =
    rw (c.tail_len-len.ensures.len, c.as_bytes.ensures.value, after_char_step c.args.text.now) (char_ends c.args.text.now c.requires)
