-- One command more.
use Rattle.std.proofs.Common.{◌≡◌, ℕ, suc, ◌+◌, ◌<◌, ◌≤◌, ◌==◌, Bool, true, false, cond, inl, inr}
use Rattle.std.proofs.Common.{List, [], ◌∷◌, ◌++◌, reverse, slice_get, Some, refl, sym, ap}
use Rattle.std.proofs.Common.{◌∙◌, subst, arith, eqb, leb, append_assoc, append-nil}
use Rattle.std.proofs.Math.Numerals.{add-one}
use Rattle.std.proofs.lemmas.Bool.{cases_lt, lt-leb, ne_eqb}
use Rattle.std.proofs.lemmas.List.{reverse-append}
use Rattle.std.specs.List.{AllByRecursion}
use Rattle.bm_table.specs.declared.script.Command.{Command}
use Rattle.bm_core.specs.declared.events.Event.{Event}
use Rattle.bm_core.specs.declared.events.Stage.{Stage}
use Rattle.bm_core.specs.declared.events.What.{What}
use Rattle.bm_core.specs.declared.events.What.TheVariants.{Publish, Switch, Steer, Lose, Arrive, Close, Retire, Sync}
use Rattle.bm_table.specs.Tables.{IsRetirement}
use Rattle.bm_core.specs.Accounts.{closes_flow, is_sync, retires_shard, wants_close, wants_retire, wants_sync}
use Rattle.bm_core.specs.Past.{newest, published_by, timeout}
use Rattle.bm_core.specs.Runs.{AtEach}
use Rattle.bm_core.specs.Runs.{Actor}
use Rattle.bm_core.specs.Runs.Actor.{Controller}
use Rattle.bm_merge.specs.Merges.{newest_until}
use Rattle.bm_merge.specs.Notes.{Note, events_of, many, size_of, total}
use Rattle.bm_merge.specs.Workers.{home_part, is_home}
use Rattle.bm_merge.proofs.Commanding.{all_kinds}
use Rattle.bm_merge.proofs.CopiesLeft.{all_under}
use Rattle.bm_merge.proofs.Noting.{each_append, each_so, each_two, events_append, greatest_append}
use Rattle.bm_merge.proofs.Noting.{total_append, total_none}
use Rattle.bm_server.specs.Servings.{Serving}
use Rattle.bm_publish.specs.Posts.{Posted}
use Rattle.bm_lead.specs.declared.leader.Leader.{Leader}
use Rattle.bm_lead.specs.Commands.{AreDone, IsControlStep, IsJudgedBy, control_log, is_publish, posted_clocks}
use Rattle.bm_worker.proofs.CallNotes.{gets_more, gets_none}
use Rattle.bm_lead.specs.Leads.{IsLed, IsPlaced, Leads}
use Rattle.bm_lead.specs.Inside.Steps.{HasDone, published_after}
use Rattle.bm_lead.proofs.Calling.{same_caller}
use Rattle.bm_lead.proofs.Scripted.{count_at}
use Rattle.bm_lead.proofs.Steps.{IsStep, Stands}

-- PARTS OF NOTES

pub home_append : (stage : Stage) (a : Actor) (x y : List Note)
    → home_part stage a (x ++ y) ≡ home_part stage a x ++ home_part stage a y
home_append stage a [] y = refl
home_append stage a (n ∷ x) y = go (is_home stage a n) (home_append stage a x y) where
  go : (b : Bool) → home_part stage a (x ++ y) ≡ home_part stage a x ++ home_part stage a y
      → cond b (n ∷ home_part stage a (x ++ y)) (home_part stage a (x ++ y))
      ≡ cond b (n ∷ home_part stage a x) (home_part stage a x) ++ home_part stage a y
  go true old = ap (λ (l : List Note). n ∷ l) old
  go false old = old

-- the controller's log after more notes
control_append : (stage : Stage) (x y : List Note)
    → control_log stage (x ++ y) ≡ control_log stage x ++ control_log stage y
control_append stage x y =
    ap (λ (l : List Note). events_of l) (home_append stage Controller x y)
    ∙ events_append (home_part stage Controller x) (home_part stage Controller y)

pub posted_append : (x y : List Event) → posted_clocks (x ++ y) ≡ posted_clocks y ++ posted_clocks x
posted_append [] y = sym (append-nil (posted_clocks y))
posted_append (e ∷ x) y = go (is_publish e.what) (posted_append x y) where
  go : (b : Bool) → posted_clocks (x ++ y) ≡ posted_clocks y ++ posted_clocks x
      → cond b (posted_clocks (x ++ y) ++ e.clock.0 ∷ []) (posted_clocks (x ++ y))
      ≡ posted_clocks y ++ cond b (posted_clocks x ++ e.clock.0 ∷ []) (posted_clocks x)
  go true old =
      ap (λ (l : List ℕ). l ++ e.clock.0 ∷ []) old ∙ append_assoc (posted_clocks y) (posted_clocks x) (e.clock.0 ∷ [])
  go false old = old

newest_after : (x y : List Event) → newest (x ++ y) ≡ published_after x (newest y)
newest_after [] y = refl
newest_after (e ∷ x) y = ap (λ (v : ℕ). published_by e.what v) (newest_after x y)

-- what holds of each note holds of each event of the controller's log
pub control_each : (P : Event → Type 0) (stage : Stage) (x : List Note) → AllByRecursion (λ n. P n.event) x
    → AllByRecursion P (control_log stage x)
control_each P stage [] all = tt
control_each P stage (n ∷ x) all = go (is_home stage Controller n) (control_each P stage x all.1) where
  go : (b : Bool) → AllByRecursion P (control_log stage x)
      → AllByRecursion P (events_of (cond b (n ∷ home_part stage Controller x) (home_part stage Controller x)))
  go true old = (all.0, old)
  go false old = old

until_below : (clock : ℕ) (x y : List Event) → AllByRecursion (λ e. clock < e.clock.0) x
    → newest_until clock (x ++ y) ≡ newest_until clock y
until_below clock [] y over = refl
until_below clock (e ∷ x) y over =
    let later : leb e.clock.0 clock ≡ false = lt-leb _ _ over.0 in rw later (until_below clock x y over.1)

-- what was judged stays so while the log grows above it
judged_later : (stage : Stage) (x y : List Event) (clock : ℕ) (what : What) → AllByRecursion (λ e. clock < e.clock.0) x
    → IsJudgedBy stage y clock what → IsJudgedBy stage (x ++ y) clock what
judged_later stage x y clock (Retire server h at result) over old =
    subst (λ (v : ℕ). IsRetirement stage.script.plan (timeout stage) v server at.0 result)
    (sym (until_below clock x y over)) old
judged_later stage x y clock (Publish v) over old = tt
judged_later stage x y clock (Switch m v) over old = tt
judged_later stage x y clock (Steer k m) over old = tt
judged_later stage x y clock (Lose k hop) over old = tt
judged_later stage x y clock (Arrive k hop server verdict) over old = tt
judged_later stage x y clock (Close server flow closed) over old = tt
judged_later stage x y clock Sync over old = tt

-- WHAT IS DONE

many_of : (j : ℕ) (x : List Note) → AllByRecursion (λ n. n.command ≡ j → ⊥) x → many (λ n. n.command == j) x ≡ 0
many_of j x apart =
    total_none (λ n. cond (eqb n.command j) 1 0) x
    (each_so (λ n. n.command ≡ j → ⊥) (λ n. cond (eqb n.command j) 1 0 ≡ 0) x
    (λ n h. let other : eqb n.command j ≡ false = ne_eqb _ _ h in rw other refl) apart)

done_more : (stage : Stage) (servers : List Serving) (latest published i : ℕ) (c : Command) (e before : List Note)
    → slice_get stage.script.commands i ≡ Some c → IsStep stage servers latest published i c e
    → AreDone stage i before → AreDone stage (suc i) (e ++ before)
done_more stage servers latest published i c e before at step old = record {
  earlier = each_append (λ n. n.command < suc i) e before
      (each_so (λ n. n.command ≡ i) (λ n. n.command < suc i) e (λ n same. omega arith) step.commands)
      (each_so (λ n. n.command < i) (λ n. n.command < suc i) before (λ n low. omega arith) old.earlier);
  complete = λ j low.
      let f : Note → ℕ = λ n. cond (eqb n.command j) 1 0 in
      let sum = total_append f e before in
      elim (cases_lt j i) [
        | inl less ↦
            let none : total f e ≡ 0 = many_of j e
            (each_so (λ n. n.command ≡ i) (λ n. n.command ≡ j → ⊥) e (λ n same other. omega arith) step.commands) in
            let was = old.complete j less in omega arith
        | inr high ↦
            let here : j ≡ i = omega arith in
            let none : total f before ≡ 0 = many_of j before
            (each_so (λ n. n.command < i) (λ n. n.command ≡ j → ⊥) before (λ n less other. omega arith) old.earlier) in
            let now : total f e ≡ size_of stage.script.setting.shards (slice_get stage.script.commands j) =
            rw (here, at) step.size in
            omega arith
      ];
  closes = λ s f.
      let sum = total_append (λ n. cond (closes_flow n.event.what s f) 1 0) e before in
      let was = old.closes s f in let now = step.closes s f in
      let more = count_at (λ c. wants_close c s f) stage.script.commands i c at in omega arith;
  retires = λ s h low.
      let sum = total_append (λ n. cond (retires_shard n.event.what s h) 1 0) e before in
      let was = old.retires s h low in let now = step.retires s h low in
      let more = count_at (λ c. wants_retire c s) stage.script.commands i c at in omega arith;
  no_other = λ s h high.
      let sum = total_append (λ n. cond (retires_shard n.event.what s h) 1 0) e before in
      let was = old.no_other s h high in let now = step.no_other s h high in omega arith;
  syncs =
      let sum = total_append (λ n. cond (is_sync n.event.what) 1 0) e before in
      let was = old.syncs in let now = step.syncs in
      let more = count_at wants_sync stage.script.commands i c at in omega arith;
}

-- worker 0, at the next command
abbrev pub gone_on : Leader → Leader
gone_on b = record b { next = b.next + 1 }

led_more : (stage : Stage) (servers : List Serving) (p q : Posted) (a b : Leader) (c : Command) (e before : List Note)
    → slice_get stage.script.commands a.next ≡ Some c
    → IsStep stage servers a.caller.latest a.published.0 a.next c e → HasDone stage servers p q a b e
    → IsLed stage p a before → IsLed stage q (gone_on b) (e ++ before)
led_more stage servers p q a b c e before at step done old =
    let stands : Stands a.caller.latest a.next before =
    record { earlier = old.done.earlier; kinds = all_kinds stage before old.each; clock = old.latest } in
    let here : List Event = control_log stage e in
    let control : control_log stage (e ++ before) ≡ here ++ control_log stage before = control_append stage e before in
    let low : AllByRecursion (λ y. y.event.clock.0 ≤ a.caller.latest) before =
    subst (λ (top : ℕ). AllByRecursion (λ y. y.event.clock.0 ≤ top) before) (sym old.latest) (all_under before) in
    let under : AllByRecursion (λ y. y.clock.0 ≤ a.caller.latest) (control_log stage before) =
    control_each (λ y. y.clock.0 ≤ a.caller.latest) stage before low in
    record {
      each = step.each before stands old.each;
      done = subst (λ (i : ℕ). AreDone stage i (e ++ before)) (sym (ap (λ (i : ℕ). i + 1) done.next ∙ add-one a.next))
          (done_more stage servers a.caller.latest a.published.0 a.next c e before at step old.done);
      seats = each_append (λ n. n.seat ≡ 0) e before step.seats old.seats;
      log = ap (λ l. reverse l) done.log ∙ (reverse-append a.log.items here
          ∙ (ap (λ (l : List Event). l ++ reverse a.log.items) step.home
          ∙ (ap (λ (l : List Event). here ++ l) old.log ∙ sym control)));
      steps = subst (λ (l : List Event). AtEach (IsControlStep stage) l) (sym control)
          (step.steps (control_log stage before) old.published under old.steps);
      judged = subst
          (λ (l : List Event). AllByRecursion (λ n. IsJudgedBy stage l n.event.clock.0 n.event.what) (e ++ before))
          (sym control)
          (each_append (λ n. IsJudgedBy stage (here ++ control_log stage before) n.event.clock.0 n.event.what) e before
          (step.judged (control_log stage before) old.published under)
          (each_two (λ n. n.event.clock.0 ≤ a.caller.latest)
          (λ n. IsJudgedBy stage (control_log stage before) n.event.clock.0 n.event.what)
          (λ n. IsJudgedBy stage (here ++ control_log stage before) n.event.clock.0 n.event.what) before
          (λ n top was. judged_later stage here (control_log stage before) n.event.clock.0 n.event.what
          (control_each (λ y. n.event.clock.0 < y.clock.0) stage e
          (each_so (λ y. a.caller.latest < y.event.clock.0) (λ y. n.event.clock.0 < y.event.clock.0) e
          (λ y high. omega arith) step.since)) was) low old.judged));
      latest = (let sum = greatest_append (λ n. n.event.clock.0) e before in
          let was = old.latest in let now = done.called.latest in omega arith);
      published = ap (λ (l : List Event). newest l) control ∙ (newest_after here (control_log stage before)
          ∙ (ap (λ (v : ℕ). published_after here v) old.published ∙ sym done.published));
      posts = ap (λ (x : Posted). x.clocks) done.posted ∙ (ap (λ (l : List ℕ). l ++ posted_clocks here) old.posts
          ∙ (sym (posted_append here (control_log stage before))
          ∙ ap (λ (l : List Event). posted_clocks l) (sym control)));
    }

-- by the notes of a command
pub leads_step : (stage : Stage) (servers : List Serving) (p q : Posted) (a b : Leader) (c : Command) (e : List Note)
    → slice_get stage.script.commands a.next ≡ Some c
    → IsStep stage servers a.caller.latest a.published.0 a.next c e → HasDone stage servers p q a b e
    → Leads stage servers p q a (gone_on b) e
leads_step stage servers p q a b c e at step done = record {
  led = λ before old. led_more stage servers p q a b c e before at step done old;
  board = ap (λ (x : Posted). x.board) done.posted;
  same = done.called.same;
  replies = done.called.replies;
  placed = step.placed;
  since = step.since;
  rises = let l = done.called.latest in omega arith;
}

-- SEVERAL COMMANDS

pub leads_none : (stage : Stage) (servers : List Serving) (p : Posted) (a : Leader) → Leads stage servers p p a a []
leads_none stage servers p a = record {
  led = λ before old. old;
  board = refl;
  same = record { number = refl; who_is = refl };
  replies = gets_none stage servers a.caller.seats;
  placed = tt;
  since = tt;
  rises = omega arith;
}

pub leads_more : (stage : Stage) (servers : List Serving) (p q r : Posted) (a b d : Leader) (x y : List Note)
    → Leads stage servers p q a b x → Leads stage servers q r b d y → Leads stage servers p r a d (y ++ x)
leads_more stage servers p q r a b d x y first then = record {
  led = λ before old. subst (λ (l : List Note). IsLed stage r d l) (sym (append_assoc y x before))
      (then.led (x ++ before) (first.led before old));
  board = then.board ∙ first.board;
  same = same_caller a.caller b.caller d.caller first.same then.same;
  replies = gets_more stage servers a.caller.seats b.caller.seats d.caller.seats x y first.replies then.replies;
  placed = each_append (λ n. IsPlaced stage servers n.event.what) y x then.placed first.placed;
  since = each_append (λ n. a.caller.latest < n.event.clock.0) y x
      (each_so (λ n. b.caller.latest < n.event.clock.0) (λ n. a.caller.latest < n.event.clock.0) y
      (λ n high. let low = first.rises in omega arith) then.since) first.since;
  rises = let low = first.rises in let high = then.rises in omega arith;
}
