-- What a plan's fault is as a refusal.
use Rattle.bm_quota.specs.declared.refusal.Refusal.{Refusal}
use Rattle.bm_quota.specs.declared.refusal.Refusal.TheVariants.{BadBucket, SameServer, StampFell}
use Rattle.bm_quota.specs.declared.refusal.Refusal.TheVariants.{TooMany, Memory}
use Rattle.bm_table.specs.declared.plan.PlanFault.{PlanFault}
use Rattle.bm_table.specs.declared.plan.PlanFault.TheVariants.{StampFell as stamp_fell}
use Rattle.bm_table.specs.declared.plan.PlanFault.TheVariants.{BadBucket as bad_bucket}
use Rattle.bm_table.specs.declared.plan.PlanFault.TheVariants.{SameServer as same_server}
use Rattle.bm_table.specs.declared.plan.PlanFault.TheVariants.{TooMany as too_many}
use Rattle.bm_table.specs.declared.plan.PlanFault.TheVariants.{Memory as memory}

abbrev pub refusal_of : PlanFault → Refusal
refusal_of stamp_fell = StampFell
refusal_of (bad_bucket b) = BadBucket
refusal_of (same_server b) = SameServer
refusal_of (too_many limit) = TooMany limit
refusal_of memory = Memory
