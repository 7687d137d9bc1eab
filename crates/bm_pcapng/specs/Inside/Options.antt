-- What the contracts of private calls and the proofs of bodies use in addition to Options.
use Rattle.std.specs.Prelude.{ℕ, List}
use Rattle.std.specs.Prelude.{Bool, ◌==◌, ◌&&◌}
use Rattle.bm_pcap.specs.declared.form.Order.{Order}
use Rattle.bm_pcapng.specs.Options.{code_of, length_of}

-- the option at the front is of code 9 (if_tsresol) and has one octet
abbrev pub is_resolution : Order → List ℕ → Bool
is_resolution order octets = code_of order octets == 9 && length_of order octets == 1
