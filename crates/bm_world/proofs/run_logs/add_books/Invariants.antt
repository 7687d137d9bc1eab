use Rattle.std.proofs.Common.{◌≡◌, ◌++◌, map, take}
use Rattle.std.specs.List.{AllByRecursion}
use Rattle.bm_merge.specs.Rising.{IsRising}
use Rattle.bm_world.specs.Inside.Logged.{book_log, log_events}
use Rattle.bm_world.proofs.run_logs.add_books.Given as goal

abbrev pub invariant-loop-book : goal.invariant-loop-book
invariant-loop-book l = record {
  logs : map log_events l.logs.items ≡ map log_events l.fn.logs.items ++ map book_log (take l.book-index l.books);
  rising : AllByRecursion IsRising (map book_log (take l.book-index l.books));
}
