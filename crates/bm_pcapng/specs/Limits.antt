-- The limits of a capture of the pcapng form, in addition to those of every capture.
use Rattle.std.specs.Prelude.{ℕ}

-- the most interfaces of a section
abbrev pub most_interfaces : ℕ
most_interfaces = 1024

-- the most octets of a block, and the most that are read ahead
abbrev pub longest_block : ℕ
longest_block = 16777216
