use Rattle.std.proofs.Common.{◌≡◌, map}
use Rattle.std.specs.List.{AllByRecursion}
use Rattle.bm_merge.specs.Rising.{IsRising}
use Rattle.bm_world.specs.Inside.Logged.{books_logs, log_events}
use Rattle.bm_world.proofs.run_logs.book_logs.Given as goal

abbrev pub invariant-loop-books : goal.invariant-loop-books
invariant-loop-books l = record {
  logs : map log_events l.logs.items ≡ books_logs l.yielded;
  rising : AllByRecursion IsRising (books_logs l.yielded);
}
