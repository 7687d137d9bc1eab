use Rattle.std.proofs.Common.{string_bytes}
use Rattle.std.specs.Prelude.{codes}
use Rattle.bm_connections.specs.Answers.{count_text}
use Rattle.bm_connections.proofs.Lines.{four_more}
use Rattle.bm_connections.proofs.answer.write_counts.Goals as goal

pub returns : goal.returns
returns c =
    let a = c.args.answer.now in
    four_more (string_bytes c.args.text.now) (count_text (codes "connections") a.connections)
    (count_text (codes "broken") a.broken) (count_text (codes "by-the-change") a.by_the_change)
    (count_text (codes "losing-data") a.losing_data) (string_bytes c.write_count.new.text) (string_bytes c.write_count-2.new.text)
    (string_bytes c.write_count-3.new.text) (string_bytes c.write_count-4.new.text) c.in_ok-write_count.ensures
    c.in_ok-write_count-2.ensures c.in_ok-write_count-3.ensures c.in_ok-write_count-4.ensures
