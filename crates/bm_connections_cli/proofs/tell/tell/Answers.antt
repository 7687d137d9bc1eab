use Rattle.bm_connections_cli.proofs.tell.tell.Goals as goal

pub returns-in-Lines : goal.returns-in-Lines
returns-in-Lines g c = rw c.in-Lines.is c.tell_lines.ensures
