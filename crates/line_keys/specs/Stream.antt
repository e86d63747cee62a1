-- Telnet's commands among the bytes of a caller.
use Rattle.std.specs.Prelude.{ℕ, ◌==◌, ◌&&◌, Bool, false, not, nat_le, nat_lt, if◌then◌else◌}
use Rattle.line_keys.specs.declared.telnet.Telnet.{Telnet}
use Rattle.line_keys.specs.declared.telnet.Telnet.TheVariants.{Plain, Command, Choice, Block, BlockMark}

-- whether a byte is the caller's own: FF (255) begins a command
abbrev pub is_typed : Telnet → ℕ → Bool
is_typed Plain b = not (b == 255)
is_typed Command b = false
is_typed Choice b = false
is_typed Block b = false
is_typed BlockMark b = false

-- where a byte leads that isn't: after FF one byte, after FB to FE (251 to 254) one more, and after FA (250) all up to FF F0 (240)
abbrev pub telnet_after : Telnet → ℕ → Telnet
telnet_after Plain b = Command
telnet_after Command b = if b == 250 then Block else if nat_le 251 b && nat_lt b 255 then Choice else Plain
telnet_after Choice b = Plain
telnet_after Block b = if b == 255 then BlockMark else Block
telnet_after BlockMark b = if b == 240 then Plain else Block
