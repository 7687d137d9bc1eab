use Rattle.std.proofs.Common.{length, sym, ap, ◌∙◌, List}
use Rattle.bm_base.specs.declared.ids.ServerId.{ServerId}
use Rattle.bm_table.specs.Tables.{is_among}
use Rattle.bm_world.proofs.KnownServers.{known_among}
use Rattle.bm_world.proofs.known.is_known_at_last.Goals as goal

pub is_added-requires : goal.is_added-requires
is_added-requires c =
    ap (λ (l : List ServerId). is_among l c.args.id) (c.requires ∙ sym c.items.ensures)
    ∙ (sym c.is_one_of.ensures ∙ c.if-is_one_of.false)

pub returns-then-is_one_of : goal.returns-then-is_one_of
returns-then-is_one_of c =
    c.if-is_one_of.true ∙ sym (known_among c.args.script.now.plan c.args.id (length c.args.script.now.plan.changes)
    (ap (λ (l : List ServerId). is_among l c.args.id) (c.requires ∙ sym c.items.ensures)
    ∙ (sym c.is_one_of.ensures ∙ c.if-is_one_of.true)))
