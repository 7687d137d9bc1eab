use Rattle.std.proofs.Common.{◌≡◌, ◌++◌, flat_map, string_bytes, take}
use Rattle.bm_connections_cli.specs.Stories.{told}
use Rattle.bm_connections_cli.proofs.stories.write_all.Given as goal

abbrev pub invariant-loop-c : goal.invariant-loop-c
invariant-loop-c l = record {
  written : string_bytes l.text ≡ string_bytes l.initial.text
      ++ flat_map (told l.clock.0 l.h) (take l.c-index l.list);
}
