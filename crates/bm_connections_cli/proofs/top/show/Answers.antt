use Rattle.std.proofs.Common.{List, Option, ℕ, None, sym, ◌∙◌, ap, subst}
use Rattle.std.specs.Prelude.{option_map}
use Rattle.bm_cli.specs.Dues.{Shown}
use Rattle.bm_cli.specs.Statuses.{did}
use Rattle.bm_cli.specs.Telling.{Tells}
use Rattle.bm_connections_words.specs.declared.options.Chosen.{Chosen as ChosenWords}
use Rattle.bm_connections_words.specs.declared.options.Format.{Format}
use Rattle.bm_connections_words.specs.Options.{Chosen, chosen, format_in, said}
use Rattle.bm_connections_cli.specs.Dues.{shown_by}
use Rattle.bm_connections_cli.specs.Inside.Ends.{no_lines}
use Rattle.bm_connections_cli.proofs.top.show.Goals as goal

pub returns-in-None-Svg-false-clause-tells : goal.returns-in-None-Svg-false-clause-tells
returns-in-None-Svg-false-clause-tells g c =
    let options = said c.args.options in
    let of_format = subst (λ (f : Format). Tells no_lines
    (Shown (shown_by f None c.args.clock.0 c.args.named.verbs c.args.named.stage))
    (did g.K.Sink.written g.K.Sink.faults c.args.out.now c.show_drawing.new.out) c.show_drawing.result)
    (sym c.in-None-Svg-false.is-1 ∙ c.format.ensures) c.show_drawing.ensures in
    let of_choice = subst (λ (ch : Option Chosen). Tells no_lines
    (Shown (shown_by (format_in options.format) ch c.args.clock.0 c.args.named.verbs c.args.named.stage))
    (did g.K.Sink.written g.K.Sink.faults c.args.out.now c.show_drawing.new.out) c.show_drawing.result)
    (sym (ap (λ (o : Option ChosenWords). option_map chosen o) c.in-None-Svg-false.is-0)) of_format in
    rw c.of.ensures.status of_choice
