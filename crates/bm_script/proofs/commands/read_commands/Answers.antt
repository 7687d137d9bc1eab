use Rattle.std.proofs.Common.{refl, rules}
use Rattle.bm_script.proofs.Racked.{policy_of}
use Rattle.bm_script.proofs.commands.read_commands.Goals as goal

pub new-policy-requires : goal.new-policy-requires
new-policy-requires c = policy_of _ _ _ (record {
  count = c.requires.setting.setting.racks;
  takes = λ s number. search rules;
  answers = λ s r number h. h.1;
  may = λ s number. (s, refl);
})

pub read_tables-requires-clause-rule : goal.read_tables-requires-clause-rule
read_tables-requires-clause-rule c = rw (c.new-policy.ensures.value.0, c.new-policy.ensures.value.1) (record {
  count = c.requires.setting.setting.racks;
  takes = λ s number. search rules;
  answers = λ s r number h. h.1;
  may = λ s number. (s, refl);
})
