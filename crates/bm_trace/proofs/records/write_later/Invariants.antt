use Rattle.std.proofs.Common.{◌≡◌, ◌++◌, take, string_bytes}
use Rattle.bm_trace.specs.Words as words
use Rattle.bm_trace.specs.Inside.Ends.{words_of_ends}
use Rattle.bm_trace.proofs.records.write_later.Given as goal

abbrev pub invariant-loop-end : goal.invariant-loop-end
invariant-loop-end l =
    string_bytes l.line ≡ string_bytes l.initial.line ++ words.spaced (words_of_ends (take l.end-index l.ends))
