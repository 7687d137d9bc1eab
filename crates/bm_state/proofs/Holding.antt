-- What is kept of holders stays right with each event, and says what servers hold.
use Rattle.std.proofs.Common.{◌≡◌, ℕ, suc, ◌==◌, Bool, true, false, ◌&&◌, ◌||◌, not, ◌⊎◌, inl, inr, List, [], ◌∷◌}
use Rattle.std.proofs.Common.{length, Option, Some, None, option_map, is_some, refl, sym, ap, ◌∙◌, arith, subst}
use Rattle.std.specs.Prelude.{if◌then◌else◌}
use Rattle.std.specs.Cmp.{both_ways}
use Rattle.std.proofs.lemmas.Bool.{cases_Bool, or_left, or_right}
use Rattle.std.proofs.lemmas.Bool.Decides.{nat_tests}
use Rattle.bm_base.specs.declared.flow.Flow.{Flow}
use Rattle.bm_base.specs.declared.flow.Segment.{Segment}
use Rattle.bm_base.specs.declared.ids.ServerId.{ServerId}
use Rattle.bm_base.specs.declared.ids.Moment.{Moment}
use Rattle.bm_base.specs.declared.label.Hop.{Hop}
use Rattle.bm_base.specs.Segments.{same_flow}
use Rattle.bm_core.specs.declared.events.Event.{Event}
use Rattle.bm_core.specs.declared.events.Stage.{Stage}
use Rattle.bm_core.specs.declared.events.Verdict.{Verdict}
use Rattle.bm_core.specs.declared.events.Verdict.TheVariants.{Accept, Process, Forward, Reset, Drop}
use Rattle.bm_base.specs.declared.receive.Taken.TheVariants.{Advance, Duplicate, Ahead, Outside, Challenge, Ended}
use Rattle.bm_core.specs.declared.events.What.{What}
use Rattle.bm_core.specs.declared.events.What.TheVariants.{Publish, Switch, Steer, Lose, Arrive, Close, Retire, Sync}
use Rattle.bm_core.specs.Causes.{accepts_elsewhere, is_elsewhere}
use Rattle.bm_core.specs.Past.{Holding, after_arrival, held, held_after, is_accept, is_done, is_of, retires, segment_of}
use Rattle.bm_core.specs.Past.{shard}
use Rattle.bm_core.proofs.Owned.{elsewhere_shows}
use Rattle.bm_table.specs.declared.plan.Retirement.{Retirement}
use Rattle.bm_table.specs.Tables.{same_server}
use Rattle.bm_table.proofs.Tables.{same_server-true, eq-same_server}
use Rattle.bm_state.specs.declared.holder_lists.HoldChange.{HoldChange}
use Rattle.bm_state.specs.declared.holder_lists.Holder.{Holder}
use Rattle.bm_state.specs.declared.shard_key.ShardKey.{ShardKey}
use Rattle.bm_state.specs.Holders.{AreHolders, AreHoldersOfAll, AreOnce, IsBelow, alive_place, is_alive, place_in}
use Rattle.bm_state.specs.Inside.HolderLists.{change_by, changed_by, without_server}
use Rattle.bm_state.specs.Inside.Retirements.{other_alive, same_key}
use Rattle.bm_state.specs.ShardKeys.{key_at}
use Rattle.bm_state.proofs.Listing.{after_change, once_changed, once_either, once_without, place_changed, place_either}
use Rattle.bm_state.proofs.Listing.{place_without}

-- WHAT AN EVENT CHANGES

-- the place of what a server holds after an event, retirements aside
abbrev pub place_next : Stage → ℕ → What → ServerId → Flow → Option ℕ → Option ℕ
place_next stage place (Arrive k hop server verdict) s f before =
    if is_of (segment_of stage k) f then after_change (same_server server s) (change_by place verdict) before else before
place_next stage place (Close server flow closed) s f before =
    if same_flow flow f && closed then (if same_server server s then None else before) else before
place_next stage place _ s f before = before

below_more : (o : Option ℕ) (n : ℕ) → IsBelow o n → IsBelow o (suc n)
below_more None n h = tt
below_more (Some p) n h = omega arith

below_either : (b : Bool) (o p : Option ℕ) (n : ℕ) → IsBelow o n → IsBelow p n → IsBelow (if b then o else p) n
below_either true o p n x y = x
below_either false o p n x y = y

below_change : (here : Bool) (place : ℕ) (verdict : Verdict) (before : Option ℕ) → IsBelow before place
    → IsBelow (after_change here (change_by place verdict) before) (suc place)
below_change here place Accept before h =
    below_either here (Some place) before (suc place) (omega arith) (below_more before place h)
below_change here place (Process Ended) before h =
    below_either here None before (suc place) tt (below_more before place h)
below_change here place (Process Advance) before h = below_more before place h
below_change here place (Process Duplicate) before h = below_more before place h
below_change here place (Process Ahead) before h = below_more before place h
below_change here place (Process Outside) before h = below_more before place h
below_change here place (Process Challenge) before h = below_more before place h
below_change here place (Forward to) before h = below_more before place h
below_change here place (Reset why) before h = below_more before place h
below_change here place (Drop why) before h = below_more before place h

below_next : (stage : Stage) (place : ℕ) (what : What) (s : ServerId) (f : Flow) (before : Option ℕ)
    → IsBelow before place → IsBelow (place_next stage place what s f before) (suc place)
below_next stage place (Arrive k hop server verdict) s f before h =
    below_either (is_of (segment_of stage k) f) _ _ (suc place)
    (below_change (same_server server s) place verdict before h) (below_more before place h)
below_next stage place (Close server flow closed) s f before h =
    below_either (same_flow flow f && closed) _ _ (suc place)
    (below_either (same_server server s) None before (suc place) tt (below_more before place h))
    (below_more before place h)
below_next stage place (Retire server i at result) s f before h = below_more before place h
below_next stage place (Publish v) s f before h = below_more before place h
below_next stage place (Switch m v) s f before h = below_more before place h
below_next stage place (Steer k m) s f before h = below_more before place h
below_next stage place (Lose k hop) s f before h = below_more before place h
below_next stage place Sync s f before h = below_more before place h

-- the step: the place of what is held is that in the list, where it is alive
abbrev pub place_held : Option Holding → Option ℕ
place_held o = option_map (λ h. h.place) o

alive_arrival : (place : ℕ) (here : Bool) (verdict : Verdict) (o : Option Segment) (f : Flow) (before : Option Holding)
    (r raw : Option ℕ)
    → IsBelow r place → place_held before ≡ alive_place r raw
    → place_held (after_arrival place here verdict o f before)
    ≡ alive_place r (if is_of o f then after_change here (change_by place verdict) raw else raw)
alive_arrival place here verdict o f before r raw below e = grind (arith, nat_tests)

alive_close : (a b c : Bool) (before : Option Holding) (r raw : Option ℕ) → place_held before ≡ alive_place r raw
    → place_held (if a && b && c then None else before)
    ≡ alive_place r (if b && c then (if a then None else raw) else raw)
alive_close a b c before r raw e = grind arith

alive_retire : (t : Bool) (place : ℕ) (before : Option Holding) (r raw : Option ℕ) → IsBelow raw place
    → place_held before ≡ alive_place r raw
    → place_held (if t then None else before) ≡ alive_place (if t then Some place else r) raw
alive_retire t place before r raw below e = grind (arith, nat_tests)

alive_next : (stage : Stage) (place : ℕ) (what : What) (s : ServerId) (f : Flow) (before : Option Holding)
    (r raw : Option ℕ)
    → IsBelow r place → IsBelow raw place → place_held before ≡ alive_place r raw
    → place_held (held_after stage place what s f before)
    ≡ alive_place (if retires what s (shard stage f) then Some place else r) (place_next stage place what s f raw)
alive_next stage place (Arrive k hop server verdict) s f before r raw rb b e =
    alive_arrival place (same_server server s) verdict (segment_of stage k) f before r raw rb e
alive_next stage place (Close server flow closed) s f before r raw rb b e =
    alive_close (same_server server s) (same_flow flow f) closed before r raw e
alive_next stage place (Retire server h at result) s f before r raw rb b e =
    alive_retire (same_server server s && h == shard stage f && is_done result) place before r raw b e
alive_next stage place (Publish v) s f before r raw rb b e = e
alive_next stage place (Switch m v) s f before r raw rb b e = e
alive_next stage place (Steer k m) s f before r raw rb b e = e
alive_next stage place (Lose k hop) s f before r raw rb b e = e
alive_next stage place Sync s f before r raw rb b e = e

-- what is kept after an event with these changes of each list and each retirement
kept_next : (stage : Stage) (past : List Event) (lists new : Flow → List Holder) (retired newly : ShardKey → Option ℕ)
    (e : Event) (what : What)
    → e.what ≡ what
    → ((f : Flow) (s : ServerId)
    → place_in (new f) s ≡ place_next stage (length past) what s f (place_in (lists f) s))
    → ((f : Flow) → AreOnce (lists f) → AreOnce (new f))
    → ((key : ShardKey) → newly key
    ≡ (if retires what (record { 0 = key.server }) key.shard then Some (length past) else retired key))
    → AreHoldersOfAll stage past lists retired → AreHoldersOfAll stage (e ∷ past) new newly
kept_next stage past lists new retired newly e what is places once retires_so k = record {
  of_each = λ f. record {
    held_of_each = λ s. let key = key_at s (shard stage f) in
        ap (λ o. alive_place (newly key) o) (places f s)
        ∙ ap (λ r. alive_place r (place_next stage (length past) what s f (place_in (lists f) s))) (retires_so key)
        ∙ sym (alive_next stage (length past) what s f (held stage past s f) (retired key) (place_in (lists f) s)
        (k.retirements key) (k.accepts f s) (sym ((k.of_each f).held_of_each s)))
        ∙ ap (λ (w : What). place_held (held_after stage (length past) w s f (held stage past s f))) (sym is);
    once = once f (k.of_each f).once;
  };
  accepts = λ f s. subst (λ o. IsBelow o (suc (length past))) (sym (places f s))
      (below_next stage (length past) what s f (place_in (lists f) s) (k.accepts f s));
  retirements = λ key. subst (λ o. IsBelow o (suc (length past))) (sym (retires_so key))
      (below_either (retires what (record { 0 = key.server }) key.shard) (Some (length past)) (retired key)
      (suc (length past)) (omega arith) (below_more (retired key) (length past) (k.retirements key)));
}

-- EVENTS

pub kept_arrival : (stage : Stage) (past : List Event) (lists new : Flow → List Holder) (retired : ShardKey → Option ℕ)
    (e : Event) (packet place : ℕ) (hop : Hop) (server : ServerId) (verdict : Verdict) (s : Option Segment)
    (change : Option HoldChange)
    → e.what ≡ Arrive packet hop server verdict → place ≡ length past → s ≡ segment_of stage packet
    → change ≡ change_by place verdict
    → ((q : Flow) → new q ≡ (if is_of s q then changed_by server change (lists q) else lists q))
    → AreHoldersOfAll stage past lists retired → AreHoldersOfAll stage (e ∷ past) new retired
kept_arrival stage past lists new retired e packet place hop server verdict s change is at of by changes k =
    kept_next stage past lists new retired retired e (Arrive packet hop server verdict) is
    (λ f t. ap (λ hs. place_in hs t) (changes f)
    ∙ place_either (is_of s f) (changed_by server change (lists f)) (lists f) t
    ∙ ap (λ o. if is_of s f then o else place_in (lists f) t) (place_changed server t change (lists f))
    ∙ rw (of, by, at) refl)
    (λ f o. subst AreOnce (sym (changes f))
    (once_either (is_of s f) (changed_by server change (lists f)) (lists f) (once_changed server change (lists f) o) o))
    (λ key. refl) k

with_true : (a b : Bool) → b ≡ true → a ≡ (a && b)
with_true true b t = sym t
with_true false b t = refl

pub kept_closed : (stage : Stage) (past : List Event) (lists new : Flow → List Holder) (retired : ShardKey → Option ℕ)
    (e : Event) (server : ServerId) (flow : Flow) (closed : Bool)
    → e.what ≡ Close server flow closed → closed ≡ true
    → ((q : Flow) → new q ≡ (if same_flow flow q then without_server server (lists q) else lists q))
    → AreHoldersOfAll stage past lists retired → AreHoldersOfAll stage (e ∷ past) new retired
kept_closed stage past lists new retired e server flow closed is t changes k =
    kept_next stage past lists new retired retired e (Close server flow closed) is
    (λ f s. ap (λ hs. place_in hs s) (changes f)
    ∙ place_either (same_flow flow f) (without_server server (lists f)) (lists f) s
    ∙ ap (λ o. if same_flow flow f then o else place_in (lists f) s) (place_without server s (lists f))
    ∙ ap (λ b. if b then (if same_server server s then None else place_in (lists f) s) else place_in (lists f) s)
    (with_true (same_flow flow f) closed t))
    (λ f o. subst AreOnce (sym (changes f))
    (once_either (same_flow flow f) (without_server server (lists f)) (lists f) (once_without server (lists f) o) o))
    (λ key. refl) k

-- an event that changes no list
kept_lists : (stage : Stage) (past : List Event) (lists : Flow → List Holder) (retired newly : ShardKey → Option ℕ)
    (e : Event) (what : What)
    → e.what ≡ what
    → ((s : ServerId) (f : Flow) (before : Option ℕ) → place_next stage (length past) what s f before ≡ before)
    → ((key : ShardKey) → newly key
    ≡ (if retires what (record { 0 = key.server }) key.shard then Some (length past) else retired key))
    → AreHoldersOfAll stage past lists retired → AreHoldersOfAll stage (e ∷ past) lists newly
kept_lists stage past lists retired newly e what is same retires_so k =
    kept_next stage past lists lists retired newly e what is (λ f s. sym (same s f (place_in (lists f) s))) (λ f o. o)
    retires_so k

pub kept_unclosed : (stage : Stage) (past : List Event) (lists : Flow → List Holder) (retired : ShardKey → Option ℕ)
    (e : Event) (server : ServerId) (flow : Flow) (closed : Bool)
    → e.what ≡ Close server flow closed → closed ≡ false
    → AreHoldersOfAll stage past lists retired → AreHoldersOfAll stage (e ∷ past) lists retired
kept_unclosed stage past lists retired e server flow closed is u k =
    kept_lists stage past lists retired retired e (Close server flow closed) is (λ s f before. rw u (grind arith))
    (λ key. refl) k

pub kept_retired : (stage : Stage) (past : List Event) (lists : Flow → List Holder) (retired new : ShardKey → Option ℕ)
    (e : Event) (server : ServerId) (shard place : ℕ) (at : Moment) (answer : Retirement) (key : ShardKey)
    → e.what ≡ Retire server shard at answer → is_done answer ≡ true → place ≡ length past
    → key ≡ key_at server shard
    → ((q : ShardKey) → new q ≡ (if same_key key q then Some place else retired q))
    → AreHoldersOfAll stage past lists retired → AreHoldersOfAll stage (e ∷ past) lists new
kept_retired stage past lists retired new e server shard place at answer key is t here of changes k =
    kept_lists stage past lists retired new e (Retire server shard at answer) is (λ s f before. refl)
    (λ q. changes q ∙ rw (of, here, t) (grind arith)) k

pub kept_unretired : (stage : Stage) (past : List Event) (lists : Flow → List Holder) (retired : ShardKey → Option ℕ)
    (e : Event) (server : ServerId) (shard : ℕ) (at : Moment) (answer : Retirement)
    → e.what ≡ Retire server shard at answer → is_done answer ≡ false
    → AreHoldersOfAll stage past lists retired → AreHoldersOfAll stage (e ∷ past) lists retired
kept_unretired stage past lists retired e server shard at answer is u k =
    kept_lists stage past lists retired retired e (Retire server shard at answer) is (λ s f before. refl)
    (λ q. rw u (grind arith)) k

abbrev pub changes_holders : What → Bool
changes_holders (Arrive k hop server verdict) = true
changes_holders (Close server flow closed) = true
changes_holders (Retire server h at result) = true
changes_holders _ = false

still_place : (stage : Stage) (place : ℕ) (what : What) (s : ServerId) (f : Flow) (before : Option ℕ)
    → changes_holders what ≡ false → place_next stage place what s f before ≡ before
still_place stage place (Arrive k hop server verdict) s f before h = absurd (cc)
still_place stage place (Close server flow closed) s f before h = absurd (cc)
still_place stage place (Retire server shard at result) s f before h = refl
still_place stage place (Publish v) s f before h = refl
still_place stage place (Switch m v) s f before h = refl
still_place stage place (Steer k m) s f before h = refl
still_place stage place (Lose k hop) s f before h = refl
still_place stage place Sync s f before h = refl

still_retires : (what : What) (s : ServerId) (shard : ℕ) → changes_holders what ≡ false → false ≡ retires what s shard
still_retires (Arrive k hop server verdict) s shard h = refl
still_retires (Close server flow closed) s shard h = refl
still_retires (Retire server i at result) s shard h = absurd (cc)
still_retires (Publish v) s shard h = refl
still_retires (Switch m v) s shard h = refl
still_retires (Steer k m) s shard h = refl
still_retires (Lose k hop) s shard h = refl
still_retires Sync s shard h = refl

pub kept_still : (stage : Stage) (past : List Event) (lists : Flow → List Holder) (retired : ShardKey → Option ℕ)
    (e : Event) (what : What)
    → e.what ≡ what → changes_holders what ≡ false
    → AreHoldersOfAll stage past lists retired → AreHoldersOfAll stage (e ∷ past) lists retired
kept_still stage past lists retired e what is still k =
    kept_lists stage past lists retired retired e what is
    (λ s f before. still_place stage (length past) what s f before still)
    (λ key. ap (λ b. if b then Some (length past) else retired key)
    (still_retires what (record { 0 = key.server }) key.shard still))
    k

-- ONE FLOW

pub flow_from : (stage : Stage) (past : List Event) (f : Flow) (lists : Flow → List Holder)
    (retired : ShardKey → Option ℕ) (list : List Holder) (h : ℕ)
    → list ≡ lists f
    → ((s : ServerId) → retired (key_at s h) ≡ retired (key_at s (shard stage f)))
    → AreHoldersOfAll stage past lists retired
    → AreHolders stage past f list (λ s. retired (key_at s h))
flow_from stage past f lists retired list h is same k = record {
  held_of_each = λ s. ap (λ hs. alive_place (retired (key_at s h)) (place_in hs s)) is
      ∙ ap (λ r. alive_place r (place_in (lists f) s)) (same s) ∙ (k.of_each f).held_of_each s;
  once = subst AreOnce (sym is) (k.of_each f).once;
}

-- ELSEWHERE

abbrev pub Elsewhere : (ServerId → Bool) → ServerId → Type 0
Elsewhere holds s = (t : ServerId) × (same_server t s ≡ false) × (holds t ≡ true)

not_true : (b : Bool) → not b ≡ true → b ≡ false
not_true true h = absurd (cc)
not_true false h = refl

or_split : (a b : Bool) → (a || b) ≡ true → (a ≡ true) ⊎ (b ≡ true)
or_split true b h = inl refl
or_split false b h = inr h

both : (a b : Bool) → (a && b) ≡ true → (a ≡ true) × (b ≡ true)
both true b h = (refl, h)
both false b h = absurd (cc)

accepts_holds : (stage : Stage) (all : List Event) (what : What) (f : Flow) (s : ServerId)
    → accepts_elsewhere stage all what f s ≡ true → Elsewhere (λ t. is_some (held stage all t f)) s
accepts_holds stage all (Arrive k hop server verdict) f s h =
    let p = both (is_accept verdict && is_of (segment_of stage k) f && not (same_server server s))
    (is_some (held stage all server f)) h
    in let q = both (is_accept verdict && is_of (segment_of stage k) f) (not (same_server server s)) p.0
    in (server, not_true (same_server server s) q.1, p.1)
accepts_holds stage all (Close server flow closed) f s h = absurd (cc)
accepts_holds stage all (Retire server i at result) f s h = absurd (cc)
accepts_holds stage all (Publish v) f s h = absurd (cc)
accepts_holds stage all (Switch m v) f s h = absurd (cc)
accepts_holds stage all (Steer k m) f s h = absurd (cc)
accepts_holds stage all (Lose k hop) f s h = absurd (cc)
accepts_holds stage all Sync f s h = absurd (cc)

elsewhere_holds : (stage : Stage) (all past : List Event) (f : Flow) (s : ServerId)
    → is_elsewhere stage all past f s ≡ true → Elsewhere (λ t. is_some (held stage all t f)) s
elsewhere_holds stage all [] f s h = absurd (cc)
elsewhere_holds stage all (e ∷ past) f s h =
    elim (or_split (accepts_elsewhere stage all e.what f s) (is_elsewhere stage all past f s) h) [
      | inl now ↦ accepts_holds stage all e.what f s now
      | inr old ↦ elsewhere_holds stage all past f s old
    ]

some_alive : (b : Bool) (p : ℕ) → is_some (if b then Some p else None) ≡ true → b ≡ true
some_alive true p h = refl
some_alive false p h = absurd (cc)

-- the list has it so
alive_listed : (retired : ServerId → Option ℕ) (hs : List Holder) (s t : ServerId) → same_server t s ≡ false
    → is_some (alive_place (retired t) (place_in hs t)) ≡ true → other_alive retired hs s ≡ true
alive_listed retired [] s t other h = absurd (cc)
alive_listed retired (x ∷ hs) s t other h =
    elim (cases_Bool (same_server x.server t)) [
      | inl here ↦
          let at : x.server ≡ t = same_server-true x.server t here
          in let o : same_server x.server s ≡ false = rw at other
          in let there : is_some (alive_place (retired t) (Some x.place)) ≡ true = rw here at h
          in let a : is_alive (retired x.server) x.place ≡ true =
          rw at (some_alive (is_alive (retired t) x.place) x.place there)
          in or_left (not (same_server x.server s) && is_alive (retired x.server) x.place) (other_alive retired hs s)
          (rw (o, a) refl)
      | inr elsewhere ↦ or_right (not (same_server x.server s) && is_alive (retired x.server) x.place) _
          (alive_listed retired hs s t other (rw elsewhere at h))
    ]

listed_alive : (retired : ServerId → Option ℕ) (hs : List Holder) (s : ServerId) → AreOnce hs
    → other_alive retired hs s ≡ true → Elsewhere (λ t. is_some (alive_place (retired t) (place_in hs t))) s
listed_alive retired [] s o h = absurd (cc)
listed_alive retired (x ∷ hs) s o h =
    elim (or_split (not (same_server x.server s) && is_alive (retired x.server) x.place) (other_alive retired hs s) h) [
      | inl now ↦
          let p = both (not (same_server x.server s)) (is_alive (retired x.server) x.place) now
          in let same : same_server x.server x.server ≡ true = eq-same_server x.server x.server refl
          in (x.server, not_true (same_server x.server s) p.0, rw (same, p.1) refl)
      | inr later ↦
          let e = listed_alive retired hs s o.1 later
          in elim (cases_Bool (same_server x.server e.0)) [
            | inl here ↦
                let at : x.server ≡ e.0 = same_server-true x.server e.0 here
                in let none : place_in hs e.0 ≡ None = subst (λ t. place_in hs t ≡ None) at o.0
                in let bad : is_some (alive_place (retired e.0) None) ≡ true =
                subst (λ o. is_some (alive_place (retired e.0) o) ≡ true) none e.2
                in absurd (cc)
            | inr elsewhere ↦ (e.0, e.1, rw elsewhere e.2)
          ]
    ]

some_held : (o : Option Holding) → is_some (place_held o) ≡ is_some o
some_held None = refl
some_held (Some h) = refl

pub elsewhere_from : (stage : Stage) (past : List Event) (f : Flow) (list : List Holder)
    (retired : ServerId → Option ℕ) (s : ServerId)
    → AreHolders stage past f list retired
    → other_alive retired list s ≡ is_elsewhere stage past past f s
elsewhere_from stage past f list retired s k = both_ways _ _
    (λ h. let e = listed_alive retired list s k.once h
    in let holds : is_some (held stage past e.0 f) ≡ true =
    sym (some_held (held stage past e.0 f)) ∙ ap is_some (sym (k.held_of_each e.0)) ∙ e.2
    in elsewhere_shows stage past past e.0 s f holds e.1 holds)
    (λ h. let e = elsewhere_holds stage past past f s h
    in alive_listed retired list s e.0 e.1
    (ap is_some (k.held_of_each e.0) ∙ some_held (held stage past e.0 f) ∙ e.2))
