use Rattle.std.proofs.Common.{◌≡◌, ◌<◌, List, get_or, length, subst}
use Rattle.bm_shard.specs.Books.{Book}
use Rattle.bm_world.proofs.Rising.{book_more, rising_more}
use Rattle.bm_world.proofs.run_logs.add_books.Goals as goal

pub loop-book-preserved : goal.loop-book-preserved
loop-book-preserved c =
    let same = c.items-book-items.ensures in
    let i = c.loop-book.book-index in
    let book = c.book-item.result in
    let lt = subst (λ (l : List Book). i < length l) same c.loop-book-test.true in
    let at = subst (λ (l : List Book). book ≡ get_or l i book) same c.book-item.is in
    record {
      logs = book_more c.args.books.now i c.args.logs.now.items c.loop-book.logs.items c.push.new.self.items book _
          c.loop-book.invariant.logs lt c.in_ok-push.ensures.items c.in_ok-log_of.ensures.events at;
      rising = rising_more c.args.books.now i book c.loop-book.invariant.rising lt at c.in_ok-log_of.ensures.rising;
    }
