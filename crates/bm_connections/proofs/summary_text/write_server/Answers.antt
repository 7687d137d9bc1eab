use Rattle.std.proofs.Common.{◌∙◌, ◌++◌, ap, append_assoc, string_bytes}
use Rattle.bm_connections.specs.Text.{most_text, served_text}
use Rattle.bm_connections.proofs.summary_text.write_server.Goals as goal

pub returns : goal.returns
returns c =
    c.in_ok-write_most.ensures ∙ ap (λ l. l ++ most_text c.args.c.now) c.in_ok-write_served.ensures
    ∙ append_assoc (string_bytes c.args.text.now) (served_text c.args.c.now) (most_text c.args.c.now)
