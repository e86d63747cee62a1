use Rattle.served_bytes.proofs.SevenBits.{seven_bits_do}
use Rattle.served_bytes.proofs.laws.seven_bits_do.Goals as goal

pub returns : goal.returns
returns c = seven_bits_do
