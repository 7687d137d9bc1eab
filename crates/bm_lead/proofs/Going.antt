-- Worker 0 is ready for the next command.
use Rattle.std.proofs.Common.{◌≡◌, ℕ, suc, ◌+◌, ◌≤◌, max, false, Option, List, [], ◌∷◌, ◌++◌, length, drop}
use Rattle.std.proofs.Common.{slice_get, Some, refl, sym, ap, ◌∙◌, subst, arith, append-nil, length-append}
use Rattle.std.proofs.lemmas.Option.{slice_get_within}
use Rattle.bm_table.specs.declared.script.Command.{Command}
use Rattle.bm_table.specs.declared.script.Command.TheVariants.{Change, Close, Retire, Sync}
use Rattle.bm_table.specs.Scripts.{NamesVersions}
use Rattle.bm_core.specs.declared.events.Stage.{Stage}
use Rattle.bm_core.specs.Stages.{IsSound}
use Rattle.bm_core.specs.Accounts.{is_sync}
use Rattle.bm_merge.specs.Notes.{Note, greatest}
use Rattle.bm_merge.proofs.Noting.{each_append}
use Rattle.bm_server.specs.Servings.{Serving}
use Rattle.bm_publish.specs.Posts.{Posted, last_or, last_post}
use Rattle.bm_worker.specs.WorkerNotes.{AreServersOf}
use Rattle.bm_lead.specs.declared.leader.Leader.{Leader}
use Rattle.bm_lead.specs.Commands.{control_log, posted_clocks}
use Rattle.bm_lead.specs.Leaders.{IsReady, IsSyncCommand}
use Rattle.bm_lead.specs.Leads.{HasLed, HaveNoSync, Leads}
use Rattle.bm_lead.specs.Inside.Steps.{AreOf, AreRetirings, HasDone, published_after}
use Rattle.bm_lead.proofs.Calling.{retirings_elsewhere, sits_kept}
use Rattle.bm_lead.proofs.Leading.{gone_on, leads_more, leads_none, leads_step}
use Rattle.bm_lead.proofs.Scripted.{command_known, drop_at, fewer_published, next_version}
use Rattle.bm_lead.proofs.Steps.{IsStep, change_step, close_step, retire_step, sync_step}

last_snoc : (low c : ℕ) (clocks : List ℕ) → last_or low (clocks ++ c ∷ []) ≡ c
last_snoc low c [] = refl
last_snoc low c (x ∷ clocks) = last_snoc x c clocks

-- what was posted; the last post may be new
record ArePosts (p : Posted) (b : Leader) (n : ℕ) : Type 0 where
  pub count : length p.clocks ≡ b.published.0
  pub below : last_post p ≤ b.caller.latest
  pub published : b.published.0 ≡ n

-- nothing was posted
quiet_posts : (stage : Stage) (servers : List Serving) (p q : Posted) (a b : Leader) (e : List Note)
    → IsReady stage servers p a → HasDone stage servers p q a b e → posted_clocks (control_log stage e) ≡ []
    → published_after (control_log stage e) a.published.0 ≡ a.published.0 → ArePosts q b a.published.0
quiet_posts stage servers p q a b e ready done none same =
    let clocks : q.clocks ≡ p.clocks =
    ap (λ (x : Posted). x.clocks) done.posted
    ∙ (ap (λ (l : List ℕ). p.clocks ++ l) none ∙ append-nil p.clocks) in
    let last : last_post q ≡ last_post p = ap (λ (l : List ℕ). last_or 0 l) clocks in
    let published : b.published.0 ≡ a.published.0 = done.published ∙ same in
    record {
      count = ap (λ l. length l) clocks ∙ (ready.posted_is.count ∙ sym published);
      below = (let low = ready.below in let high = done.called.latest in omega arith);
      published = published;
    }

-- after its command worker 0 is ready for the next one
ready_from : (stage : Stage) (servers : List Serving) (p q : Posted) (a b : Leader) (e : List Note) (c : Command) (n : ℕ)
    → slice_get stage.script.commands a.next ≡ Some c → IsReady stage servers p a → HasDone stage servers p q a b e
    → NamesVersions (n + 1) (length stage.script.plan.changes) (drop (suc a.next) stage.script.commands)
    → ArePosts q b n → IsReady stage servers q (gone_on b)
ready_from stage servers p q a b e c n at ready done names posts =
    let more : b.next + 1 ≡ suc a.next = (let e = done.next in omega arith) in
    let top = length stage.script.plan.changes in
    let left = drop (suc a.next) stage.script.commands in
    record {
      next = (let inside = slice_get_within stage.script.commands a.next c at in omega arith);
      versions = subst
          (λ (i : ℕ). NamesVersions (b.published.0 + 1) top (drop i stage.script.commands))
          (sym more)
          (subst (λ (v : ℕ). NamesVersions (v + 1) top left)
          (sym posts.published) names);
      posted_is = record {
        plan = ap (λ (x : Posted). x.plan) done.posted ∙ ready.posted_is.plan;
        count = posts.count;
        few =
            (let next = fewer_published (n + 1) top left names in let now = posts.published in omega arith);
      };
      below = posts.below;
      tries = (let few = ready.tries in let more = done.called.tries in let same = done.next in omega arith);
      number = done.called.same.number ∙ ready.number;
      has_seats = sits_kept servers a.caller b.caller ready.has_seats done.called.same;
    }

pub ready_more : (stage : Stage) (servers : List Serving) (p q : Posted) (a b : Leader) (c : Command) (e : List Note)
    → slice_get stage.script.commands a.next ≡ Some c → IsReady stage servers p a
    → AreOf stage a.caller.latest a.published.0 a.next c e → HasDone stage servers p q a b e
    → IsReady stage servers q (gone_on b)
ready_more stage servers p q a b c e at ready of done =
    go c at of (subst (λ (l : List Command). NamesVersions (a.published.0 + 1) (length stage.script.plan.changes) l)
    (drop_at stage.script.commands a.next c at) ready.versions) where
      go : (c : Command) → slice_get stage.script.commands a.next ≡ Some c
          → AreOf stage a.caller.latest a.published.0 a.next c e
          → NamesVersions (a.published.0 + 1) (length stage.script.plan.changes)
          (c ∷ drop (suc a.next) stage.script.commands)
          → IsReady stage servers q (gone_on b)
      go (Change v) at of names =
          let control = ap (λ (l : List Note). control_log stage l) of.1 in
          let clocks : q.clocks ≡ p.clocks ++ of.0.0 ∷ [] =
          ap (λ (x : Posted). x.clocks) done.posted ∙ ap (λ l. p.clocks ++ posted_clocks l) control in
          let last : last_post q ≡ of.0.0 =
          ap (λ (l : List ℕ). last_or 0 l) clocks ∙ last_snoc 0 of.0.0 p.clocks in
          let published : b.published.0 ≡ a.published.0 + 1 =
          done.published ∙ (ap (λ l. published_after l a.published.0) control ∙ names.0) in
          let top : greatest (λ n. n.event.clock.0) e ≡ max of.0.0 0 =
          ap (λ (l : List Note). greatest (λ n. n.event.clock.0) l) of.1 in
          ready_from stage servers p q a b e (Change v) (a.published.0 + 1) at ready done names.1 (record {
            count = ap (λ l. length l) clocks ∙ (length-append p.clocks (of.0.0 ∷ [])
                ∙ (let was = ready.posted_is.count in omega arith));
            below = (let high = done.called.latest in omega arith);
            published = published;
          })
      go (Close when server flow) at of names =
          let control = ap (λ (l : List Note). control_log stage l) of.2 in
          ready_from stage servers p q a b e (Close when server flow) a.published.0 at ready done names
          (quiet_posts stage servers p q a b e ready done (ap posted_clocks control)
          (ap (λ l. published_after l a.published.0) control))
      go (Retire when server) at of names =
          let control =
          retirings_elsewhere stage a.next stage.script.setting.shards server of.0 of.1 e of.4 in
          ready_from stage servers p q a b e (Retire when server) a.published.0 at ready done names
          (quiet_posts stage servers p q a b e ready done (ap posted_clocks control)
          (ap (λ l. published_after l a.published.0) control))
      go (Sync when) at of names =
          let control = ap (λ (l : List Note). control_log stage l) of.1 in
          ready_from stage servers p q a b e (Sync when) a.published.0 at ready done names
          (quiet_posts stage servers p q a b e ready done (ap posted_clocks control)
          (ap (λ l. published_after l a.published.0) control))

-- WHAT A COMMAND DOES

step_of : (stage : Stage) (servers : List Serving) (p : Posted) (a : Leader) (c : Command) (e : List Note) → IsSound stage
    → AreServersOf stage servers → IsReady stage servers p a → slice_get stage.script.commands a.next ≡ Some c
    → AreOf stage a.caller.latest a.published.0 a.next c e
    → IsStep stage servers a.caller.latest a.published.0 a.next c e
step_of stage servers p a (Change v) e sound servers_are ready at of =
    let next = next_version a.published.0 (length stage.script.plan.changes) a.next stage.script.commands v at
    ready.versions in change_step stage servers a.caller.latest a.published.0 a.next v e at next.0 next.1 of
step_of stage servers p a (Close when server flow) e sound servers_are ready at of =
    close_step stage servers a.caller.latest a.published.0 a.next when server flow e at
    (servers_are.known server (command_known stage a.next (Close when server flow) sound at)) of
step_of stage servers p a (Retire when server) e sound servers_are ready at of =
    retire_step stage servers a.caller.latest a.published.0 a.next when server e at
    (servers_are.known server (command_known stage a.next (Retire when server) sound at)) of
step_of stage servers p a (Sync when) e sound servers_are ready at of =
    sync_step stage servers a.caller.latest a.published.0 a.next when e at of

pub command_leads : (stage : Stage) (servers : List Serving) (p q : Posted) (a b : Leader) (c : Command) (e : List Note)
    → IsSound stage → AreServersOf stage servers → IsReady stage servers p a → slice_get stage.script.commands a.next ≡ Some c
    → AreOf stage a.caller.latest a.published.0 a.next c e → HasDone stage servers p q a b e
    → Leads stage servers p q a (gone_on b) e
command_leads stage servers p q a b c e sound servers_are ready at of done =
    leads_step stage servers p q a b c e at (step_of stage servers p a c e sound servers_are ready at of) done

-- a command that is no sync makes no Sync
pub no_sync_of : (stage : Stage) (latest published i : ℕ) (c : Command) (e : List Note) → (IsSyncCommand (Some c) → ⊥)
    → AreOf stage latest published i c e → HaveNoSync e
no_sync_of stage latest published i (Change v) e not of = subst HaveNoSync (sym of.1) (refl, tt)
no_sync_of stage latest published i (Close at server flow) e not of = subst HaveNoSync (sym of.2) (refl, tt)
no_sync_of stage latest published i (Retire at server) e not of = no_shard stage.script.setting.shards e of.4 where
  no_shard : (k : ℕ) (e : List Note) → AreRetirings i server of.0 of.1 k e → HaveNoSync e
  no_shard k [] are = tt
  no_shard k (n ∷ e) are = subst (λ (n : Note). HaveNoSync (n ∷ e)) (sym are.3) (refl, no_shard are.1 e are.5)
no_sync_of stage latest published i (Sync at) e not of = absurd (not tt)

-- SEVERAL COMMANDS

pub led_none : (stage : Stage) (servers : List Serving) (p : Posted) (a : Leader) → IsReady stage servers p a
    → HasLed stage servers p p a a
led_none stage servers p a ready = (ready, ([], leads_none stage servers p a, tt))

pub led_command : (stage : Stage) (servers : List Serving) (p q : Posted) (a b : Leader) (c : Command) → IsSound stage
    → AreServersOf stage servers → IsReady stage servers p a → slice_get stage.script.commands a.next ≡ Some c
    → (IsSyncCommand (slice_get stage.script.commands a.next) → ⊥)
    → ((e : List Note) × AreOf stage a.caller.latest a.published.0 a.next c e × HasDone stage servers p q a b e)
    → HasLed stage servers p q a (gone_on b)
led_command stage servers p q a b c sound servers_are ready at not made =
    let no_sync : IsSyncCommand (Some c) → ⊥ =
    subst (λ (o : Option Command). IsSyncCommand o → ⊥) at not in (
      ready_more stage servers p q a b c made.0 at ready made.1 made.2,
      (
        made.0,
        command_leads stage servers p q a b c made.0 sound servers_are ready at made.1 made.2,
        no_sync_of stage a.caller.latest a.published.0 a.next c made.0 no_sync made.1,
      ),
    )

pub led_more : (stage : Stage) (servers : List Serving) (p q r : Posted) (a b d : Leader) → HasLed stage servers p q a b
    → HasLed stage servers q r b d → HasLed stage servers p r a d
led_more stage servers p q r a b d first then = (
  then.0,
  (
    then.1.0 ++ first.1.0,
    leads_more stage servers p q r a b d first.1.0 then.1.0 first.1.1 then.1.1,
    each_append (λ n. is_sync n.event.what ≡ false) then.1.0 first.1.0 then.1.2 first.1.2,
  ),
)
