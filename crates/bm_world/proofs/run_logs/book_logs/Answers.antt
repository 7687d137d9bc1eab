use Rattle.bm_world.proofs.Rising.{books_listed, books_rising}
use Rattle.bm_world.proofs.run_logs.book_logs.Goals as goal

pub loop-books-preserved : goal.loop-books-preserved
loop-books-preserved c = record {
  logs = books_listed c.loop-books.yielded c.loop-books.logs.items c.add_books.new.logs.items _
      c.loop-books.invariant.logs c.in_ok-add_books.ensures.logs;
  rising = books_rising c.loop-books.yielded _ c.loop-books.invariant.rising c.in_ok-add_books.ensures.rising;
}
