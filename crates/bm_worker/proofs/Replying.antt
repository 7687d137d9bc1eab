-- What a server replies to each kind of call, and when.
use Rattle.std.proofs.Common.{Some, ap, ◌∙◌, ◌≡◌, ℕ, ◌<◌, Bool, List, Option, Result, Ok, Err, sym, subst, arith, IfOk}
use Rattle.std.proofs.Common.{OnErr}
use Rattle.bm_base.specs.declared.flow.Flow.{Flow}
use Rattle.bm_base.specs.declared.flow.Segment.{Segment}
use Rattle.bm_base.specs.declared.ids.Moment.{Moment}
use Rattle.bm_base.specs.declared.ids.ServerId.{ServerId}
use Rattle.bm_base.specs.declared.label.Tag.{Tag}
use Rattle.bm_table.specs.declared.plan.Retirement.{Retirement}
use Rattle.bm_core.specs.declared.events.Verdict.{Verdict}
use Rattle.bm_core.specs.declared.events.Verdict.TheVariants.{Forward}
use Rattle.bm_core.specs.Verdicts.{entry_of}
use Rattle.bm_base.specs.Labels.{onward, server_of}
use Rattle.bm_core.proofs.Forwards.{forwarded}
use Rattle.bm_shard.specs.declared.book.Shard.{Shard}
use Rattle.bm_shard.specs.declared.calls.ShardCall.{ShardCall}
use Rattle.bm_shard.specs.declared.calls.ShardEntry.{ShardEntry}
use Rattle.bm_shard.specs.declared.calls.ShardCall.TheVariants.{Arrive, Close, Retire}
use Rattle.bm_shard.specs.declared.calls.ShardReply.{ShardReply}
use Rattle.bm_shard.specs.declared.calls.ShardReply.TheVariants.{Arrived, Closed, Retired}
use Rattle.bm_shard.specs.Books.{clock_after, knows_after, reply_after}
use Rattle.bm_shard.specs.Turns.{call_moment}
use Rattle.bm_server.specs.Seats.{IsReply}
use Rattle.bm_worker.specs.Inside.Answers.{IsArrived, IsClosed, IsRetired}

pub arrives : {M : Type 0} (packet : ℕ) (tag : Tag) (segment : Segment) (due : Moment) (r : Result ShardReply M)
    → IsReply (Arrive packet tag segment due) r → IfOk r IsArrived
arrives packet tag segment due (Ok reply) is = subst (λ (x : ShardReply). IsArrived x) (sym is.2) tt
arrives packet tag segment due (Err e) is = tt

pub closes : {M : Type 0} (flow : Flow) (at : Moment) (r : Result ShardReply M) → IsReply (Close flow at) r
    → IfOk r IsClosed
closes flow at (Ok reply) is = subst (λ (x : ShardReply). IsClosed x) (sym is.2) tt
closes flow at (Err e) is = tt

pub retires : {M : Type 0} (at : Moment) (outcome : Retirement) (r : Result ShardReply M)
    → IsReply (Retire at outcome) r → IfOk r IsRetired
retires at outcome (Ok reply) is = subst (λ (x : ShardReply). IsRetired x) (sym is.2) tt
retires at outcome (Err e) is = tt

pub on_err : {T E P : Type 0} (r : Result T E) → P → OnErr r P
on_err (Ok x) p = tt
on_err (Err e) p = p

abbrev clock_in : ShardReply → ℕ
clock_in (Arrived clock verdict reset) = clock.0
clock_in (Closed clock closed) = clock.0
clock_in (Retired clock) = clock.0

reply_later : (shard : Shard) (past : List ShardEntry) (call : ShardCall)
    → (call_moment call).0 < clock_in (reply_after shard past call)
reply_later shard past (Arrive packet tag segment due) = omega arith
reply_later shard past (Close flow at) = omega arith
reply_later shard past (Retire at outcome) = omega arith

-- a reply is later than its call's moment
later : {M : Type 0} (call : ShardCall) (reply : ShardReply) (r : Result ShardReply M) → r ≡ Ok reply → IsReply call r
    → (call_moment call).0 < clock_in reply
later {M = M} call reply r ok is =
    let x = subst (λ (x : Result ShardReply M). IsReply call x) ok is in
    subst (λ (x : ShardReply). (call_moment call).0 < clock_in x) (sym x.2) (reply_later x.0 x.1 call)

pub arrival_later : {M : Type 0} (packet : ℕ) (read : Tag × Segment) (due clock : Moment) (verdict : Verdict)
    (reset : Option (List ℕ))
    (r : Result ShardReply M) → r ≡ Ok (Arrived clock verdict reset) → IsReply (Arrive packet read.0 read.1 due) r
    → due.0 < clock.0
arrival_later packet read due clock verdict reset r ok is =
    later (Arrive packet read.0 read.1 due) (Arrived clock verdict reset) r ok is

pub close_later : {M : Type 0} (flow : Flow) (at clock : Moment) (closed : Bool)
    (r : Result ShardReply M) → r ≡ Ok (Closed clock closed) → IsReply (Close flow at) r → at.0 < clock.0
close_later flow at clock closed r ok is = later (Close flow at) (Closed clock closed) r ok is

pub retirement_later : {M : Type 0} (at clock : Moment) (outcome : Retirement) (r : Result ShardReply M)
    → r ≡ Ok (Retired clock)
    → IsReply (Retire at outcome) r → at.0 < clock.0
retirement_later at clock outcome r ok is = later (Retire at outcome) (Retired clock) r ok is

-- what is forwarded goes where its tag has it passed on to
pub goes_onward : {M : Type 0} (packet : ℕ) (read : Tag × Segment) (due clock : Moment) (verdict : Verdict)
    (reset : Option (List ℕ))
    (r : Result ShardReply M) → r ≡ Ok (Arrived clock verdict reset) → IsReply (Arrive packet read.0 read.1 due) r
    → (to : ServerId) → verdict ≡ Forward to → server_of (onward (entry_of read.0) read.0.hop) ≡ Some to
goes_onward {M = M} packet read due clock verdict reset r ok is to forward =
    let x = subst (λ (x : Result ShardReply M). IsReply (Arrive packet read.0 read.1 due) x) ok is in
    let same : verdict ≡ verdict_in (reply_after x.0 x.1 (Arrive packet read.0 read.1 due)) = ap verdict_in x.2 in
    (forwarded (knows_after x.0 x.1 read.1.flow) x.0.timeout (clock_after x.1 (Arrive packet read.0 read.1 due)).0
    (entry_of read.0)
    read.0.hop read.1 to (sym same ∙ forward)).onto where
      verdict_in : ShardReply → Verdict
      verdict_in (Arrived clock v reset) = v
      verdict_in (Closed clock closed) = verdict
      verdict_in (Retired clock) = verdict
