-- The two sinks of a call: `out` for what is asked for, and `faults` for faults.
use Rattle.std.specs.Prelude.{◌≡◌, ◌≢◌, ◌⊎◌, ℕ}
use Rattle.bm_cli.specs.Statuses.{SinkDid}

-- nothing was done to a sink
abbrev pub IsUnwritten : SinkDid → Type 0
IsUnwritten sink = (sink.now ≡ sink.before) × (sink.later ≡ sink.faults)

-- This holds of one of the two sinks, and nothing was done to the other. By the exit status it is
-- `out` with 0 and 9, `faults` with every other but 5 and 6, and with these it may be either.
abbrev pub HoldsOfOne : (SinkDid → Type 0) → SinkDid → SinkDid → ℕ → Type 0
HoldsOfOne holds out faults code =
    (holds out × IsUnwritten faults × ((code ≡ 0) ⊎ (code ≡ 9) ⊎ (code ≡ 5) ⊎ (code ≡ 6)))
    ⊎ (holds faults × IsUnwritten out × (code ≢ 0) × (code ≢ 9))
