use Rattle.std.proofs.Common.{Some, ap, sym}
use Rattle.bm_words.specs.declared.words.Form.{Form}
use Rattle.bm_words.specs.Form.{asked}
use Rattle.bm_cli.proofs.Ending.{load_ends, words_end}
use Rattle.bm_cli.proofs.Forms.{check_asks, replay_asks, run_asks, streams_asks}
use Rattle.bm_cli.proofs.top.answer_form.Goals as goal

pub returns-in-Load-clause-ends : goal.returns-in-Load-clause-ends
returns-in-Load-clause-ends g c =
    let told = g.F.Files.octets c.args.files.now in
    words_end _ _ told _ _ _ (sym (ap (λ (f : Form). Some (asked f)) c.in-Load.is))
    (load_ends c.in-Load.connections told (g.F.Files.asked c.args.files.now) (g.F.Files.faults c.args.files.now) _ _
    c.run_load.ensures)

pub returns-in-Replay-clause-unasked : goal.returns-in-Replay-clause-unasked
returns-in-Replay-clause-unasked g c = λ none.
    absurd (replay_asks _ _ (ap (λ (f : Form). Some (asked f)) c.in-Replay.is) none)

pub returns-in-Streams-clause-unasked : goal.returns-in-Streams-clause-unasked
returns-in-Streams-clause-unasked g c = λ none.
    absurd (streams_asks _ _ (ap (λ (f : Form). Some (asked f)) c.in-Streams.is) none)

pub returns-in-Run-clause-unasked : goal.returns-in-Run-clause-unasked
returns-in-Run-clause-unasked g c = λ none.
    absurd (run_asks _ _ _ (ap (λ (f : Form). Some (asked f)) c.in-Run.is) none)

pub returns-in-Check-clause-unasked : goal.returns-in-Check-clause-unasked
returns-in-Check-clause-unasked g c = λ none.
    absurd (check_asks _ _ _ _ (ap (λ (f : Form). Some (asked f)) c.in-Check.is) none)
