-- Lists of events that are put in order by clock.
use Rattle.std.proofs.Common.{◌≡◌, ℕ, suc, ◌+◌, ◌<◌, ◌≤◌, Bool, true, false, cond, ◌||◌, List, [], ◌∷◌, Some, refl}
use Rattle.std.proofs.Common.{sym, ap, ◌∙◌, arith, leb}
use Rattle.std.specs.Prelude.{IfSome}
use Rattle.std.specs.List.{AllByRecursion}
use Rattle.std.proofs.lemmas.Bool.{leb-true, leb-false, le-leb}
use Rattle.bm_core.specs.declared.events.Event.{Event}
use Rattle.bm_core.specs.declared.events.Stage.{Stage}
use Rattle.bm_core.specs.Runs.{Actor, actor_of, is_by, own_clock}
use Rattle.bm_core.specs.Runs.Actor.{Controller}
use Rattle.bm_core.specs.Logs.{log_of}
use Rattle.bm_core.specs.Accounts.{count_of, steers_packet}
use Rattle.bm_merge.specs.Merges.{Log, gathered, place_in, by_clock, some_event, AtEach}

-- how many of the events pass the test
abbrev pub how_many : (Event → Bool) → List Event → ℕ
how_many test [] = 0
how_many test (e ∷ events) = cond (test e) (suc (how_many test events)) (how_many test events)

many_is : (test : Event → Bool) (events : List Event) → how_many test events ≡ count_of test events
many_is test [] = refl
many_is test (e ∷ events) = go (test e) (many_is test events) where
  go : (b : Bool) → how_many test events ≡ count_of test events
      → cond b (suc (how_many test events)) (how_many test events) ≡ cond b 1 0 + count_of test events
  go true old = omega arith
  go false old = omega arith

-- no packet has two Steers
pub agree_once : (logs : List Log) (k : ℕ) → count_of (λ e. steers_packet e.what k) (gathered logs) ≤ 1
    → how_many (λ e. steers_packet e.what k) (gathered logs) ≤ 1
agree_once logs k once = let is = many_is (λ e. steers_packet e.what k) (gathered logs) in omega arith

-- WHAT STANDS IN THE LIST STAYS IN IT

or_swap : (a b c : Bool) → (a || (b || c)) ≡ (b || (a || c))
or_swap true true c = refl
or_swap true false c = refl
or_swap false b c = refl

some_step : (test : Event → Bool) (e x : Event) (s placed : List Event) (b : Bool)
    → some_event test placed ≡ (test e || some_event test s)
    → some_event test (cond b (e ∷ x ∷ s) (x ∷ placed)) ≡ (test e || (test x || some_event test s))
some_step test e x s placed true old = refl
some_step test e x s placed false old = rw old (or_swap (test x) (test e) (some_event test s))

some_place : (test : Event → Bool) (e : Event) (s : List Event)
    → some_event test (place_in e s) ≡ (test e || some_event test s)
some_place test e [] = refl
some_place test e (x ∷ s) = some_step test e x s (place_in e s) (leb x.clock.0 e.clock.0) (some_place test e s)

pub some_by_clock : (test : Event → Bool) (es : List Event) → some_event test (by_clock es) ≡ some_event test es
some_by_clock test [] = refl
some_by_clock test (e ∷ es) = some_place test e (by_clock es) ∙ ap (λ (b : Bool). test e || b) (some_by_clock test es)

many_swap : (a b : Bool) (n : ℕ)
    → cond a (suc (cond b (suc n) n)) (cond b (suc n) n) ≡ cond b (suc (cond a (suc n) n)) (cond a (suc n) n)
many_swap true true n = refl
many_swap true false n = refl
many_swap false true n = refl
many_swap false false n = refl

many_step : (test : Event → Bool) (e x : Event) (s placed : List Event) (b : Bool)
    → how_many test placed ≡ how_many test (e ∷ s)
    → how_many test (cond b (e ∷ x ∷ s) (x ∷ placed)) ≡ how_many test (e ∷ x ∷ s)
many_step test e x s placed true old = refl
many_step test e x s placed false old = rw old (many_swap (test x) (test e) (how_many test s))

many_place : (test : Event → Bool) (e : Event) (s : List Event) → how_many test (place_in e s) ≡ how_many test (e ∷ s)
many_place test e [] = refl
many_place test e (x ∷ s) = many_step test e x s (place_in e s) (leb x.clock.0 e.clock.0) (many_place test e s)

pub many_by_clock : (test : Event → Bool) (es : List Event) → how_many test (by_clock es) ≡ how_many test es
many_by_clock test [] = refl
many_by_clock test (e ∷ es) =
    many_place test e (by_clock es) ∙ ap (λ (n : ℕ). cond (test e) (suc n) n) (many_by_clock test es)

all_step : (P : Event → Type 0) (e x : Event) (s placed : List Event) (b : Bool) → P e → AllByRecursion P (x ∷ s)
    → AllByRecursion P placed → AllByRecursion P (cond b (e ∷ x ∷ s) (x ∷ placed))
all_step P e x s placed true p ps old = (p, ps)
all_step P e x s placed false p ps old = (ps.0, old)

pub all_place : (P : Event → Type 0) (e : Event) (s : List Event) → P e → AllByRecursion P s
    → AllByRecursion P (place_in e s)
all_place P e [] p ps = (p, tt)
all_place P e (x ∷ s) p ps = all_step P e x s (place_in e s) (leb x.clock.0 e.clock.0) p ps (all_place P e s p ps.1)

pub all_by_clock : (P : Event → Type 0) (es : List Event) → AllByRecursion P es → AllByRecursion P (by_clock es)
all_by_clock P [] ps = tt
all_by_clock P (e ∷ es) ps = all_place P e (by_clock es) ps.0 (all_by_clock P es ps.1)

pub all_so : (P Q : Event → Type 0) (s : List Event) → ((x : Event) → P x → Q x) → AllByRecursion P s
    → AllByRecursion Q s
all_so P Q [] f ps = tt
all_so P Q (x ∷ s) f ps = (f x ps.0, all_so P Q s f ps.1)

-- ORDER

-- no event has a larger key than a newer one
abbrev pub IsFalling : (Event → ℕ) → List Event → Type 0
IsFalling key [] = Unit {0}
IsFalling key (e ∷ past) = AllByRecursion (λ x. key x ≤ key e) past × IsFalling key past

-- of one clock, the controller's events are the older ones
abbrev pub rank_by : Bool → ℕ
rank_by true = 0
rank_by false = 1

abbrev pub rank : Stage → Event → ℕ
rank stage e = rank_by (is_by (actor_of stage e.what) Controller)

abbrev pub key : Stage → Event → ℕ
key stage e = (e.clock.0 + e.clock.0) + rank stage e

pub rank_most : (b : Bool) → rank_by b ≤ 1
rank_most true = omega arith
rank_most false = omega arith

falls_step : (stage : Stage) (e x : Event) (s : List Event) (b : Bool) → leb x.clock.0 e.clock.0 ≡ b
    → IsFalling (key stage) (x ∷ s) → rank stage x ≤ rank stage e
    → IsFalling (key stage) (place_in e s) → IsFalling (key stage) (cond b (e ∷ x ∷ s) (x ∷ place_in e s))
falls_step stage e x s true is falls ranks old =
    let under : x.clock.0 ≤ e.clock.0 = leb-true _ _ is
    in let top : key stage x ≤ key stage e = omega arith
    in (
      (
        top,
        all_so (λ y. key stage y ≤ key stage x) (λ y. key stage y ≤ key stage e) s (λ y h. omega arith)
            falls.0,
      ),
      falls,
    )
falls_step stage e x s false is falls ranks old =
    let over : e.clock.0 < x.clock.0 = leb-false _ _ is
    in let most : rank stage e ≤ 1 = rank_most _
    in let top : key stage e ≤ key stage x = omega arith
    in (all_place (λ y. key stage y ≤ key stage x) e s top falls.0, old)

place_falls : (stage : Stage) (e : Event) (s : List Event) → IsFalling (key stage) s
    → AllByRecursion (λ x. rank stage x ≤ rank stage e) s → IsFalling (key stage) (place_in e s)
place_falls stage e [] falls ranks = (tt, tt)
place_falls stage e (x ∷ s) falls ranks =
    falls_step stage e x s (leb x.clock.0 e.clock.0) refl falls ranks.0 (place_falls stage e s falls.1 ranks.1)

pub by_clock_falls : (stage : Stage) (es : List Event) → IsFalling (rank stage) es
    → IsFalling (key stage) (by_clock es)
by_clock_falls stage [] ranks = tt
by_clock_falls stage (e ∷ es) ranks =
    place_falls stage e (by_clock es) (by_clock_falls stage es ranks.1)
    (all_by_clock (λ x. rank stage x ≤ rank stage e) es ranks.0)

-- a key that is not larger has a clock that is not later
pub key_clock : (stage : Stage) (x e : Event) → key stage x ≤ key stage e → x.clock.0 ≤ e.clock.0
key_clock stage x e h =
    let most : rank stage e ≤ 1 = rank_most _
    in omega arith

-- ONE ACTOR'S PART

-- what comes on top of the whole comes on top of the part
top_step : (stage : Stage) (a : Actor) (e x : Event) (part : List Event) (mine : Bool) → x.clock.0 ≤ e.clock.0
    → place_in e part ≡ e ∷ part
    → place_in e (cond mine (x ∷ part) part) ≡ e ∷ cond mine (x ∷ part) part
top_step stage a e x part true under old = let is : leb x.clock.0 e.clock.0 ≡ true = le-leb _ _ under in rw is refl
top_step stage a e x part false under old = old

place_top : (stage : Stage) (a : Actor) (e : Event) (s : List Event) → AllByRecursion (λ x. x.clock.0 ≤ e.clock.0) s
    → place_in e (log_of stage s a) ≡ e ∷ log_of stage s a
place_top stage a e [] under = refl
place_top stage a e (x ∷ s) under =
    top_step stage a e x (log_of stage s a) (is_by (actor_of stage x.what) a) under.0 (place_top stage a e s under.1)

-- the event is newer than the newest of the actor
own_step : (stage : Stage) (a : Actor) (e x : Event) (s part : List Event) (mine : Bool)
    → IfSome (cond mine (Some x.clock.0) (own_clock stage s a)) (λ c. c < e.clock.0)
    → (IfSome (own_clock stage s a) (λ c. c < e.clock.0) → place_in e part ≡ e ∷ part)
    → place_in e (cond mine (x ∷ part) part) ≡ e ∷ cond mine (x ∷ part) part
own_step stage a e x s part true own old =
    let is : leb x.clock.0 e.clock.0 ≡ true = le-leb _ _ (omega arith) in rw is refl
own_step stage a e x s part false own old = old own

place_own : (stage : Stage) (a : Actor) (e : Event) (s : List Event)
    → IfSome (own_clock stage s a) (λ c. c < e.clock.0) → place_in e (log_of stage s a) ≡ e ∷ log_of stage s a
place_own stage a e [] own = refl
place_own stage a e (x ∷ s) own =
    own_step stage a e x s (log_of stage s a) (is_by (actor_of stage x.what) a) own (place_own stage a e s)

over_step : (e x : Event) (placed part : List Event) (mine his : Bool) → leb x.clock.0 e.clock.0 ≡ false
    → placed ≡ cond mine (place_in e part) part
    → cond his (x ∷ placed) placed ≡ cond mine (place_in e (cond his (x ∷ part) part)) (cond his (x ∷ part) part)
over_step e x placed part true true is old = rw (is, old) refl
over_step e x placed part true false is old = old
over_step e x placed part false true is old = rw old refl
over_step e x placed part false false is old = old

under_step : (e : Event) (part : List Event) (mine : Bool) → place_in e part ≡ e ∷ part
    → cond mine (e ∷ part) part ≡ cond mine (place_in e part) part
under_step e part true is = sym is
under_step e part false is = refl

part_step : (stage : Stage) (a : Actor) (e x : Event) (s : List Event) (b : Bool) → leb x.clock.0 e.clock.0 ≡ b
    → IsFalling (key stage) (x ∷ s)
    → log_of stage (place_in e s) a
    ≡ cond (is_by (actor_of stage e.what) a) (place_in e (log_of stage s a)) (log_of stage s a)
    → log_of stage (cond b (e ∷ x ∷ s) (x ∷ place_in e s)) a
    ≡ cond (is_by (actor_of stage e.what) a) (place_in e (log_of stage (x ∷ s) a)) (log_of stage (x ∷ s) a)
part_step stage a e x s true is falls old =
    let under : x.clock.0 ≤ e.clock.0 = leb-true _ _ is
    in under_step e (log_of stage (x ∷ s) a) (is_by (actor_of stage e.what) a)
    (place_top stage a e (x ∷ s) (
      under,
      all_so (λ y. key stage y ≤ key stage x) (λ y. y.clock.0 ≤ e.clock.0) s
          (λ y h. let c : y.clock.0 ≤ x.clock.0 = key_clock stage y x h in omega arith) falls.0,
    ))
part_step stage a e x s false is falls old =
    over_step e x (log_of stage (place_in e s) a) (log_of stage s a) (is_by (actor_of stage e.what) a)
    (is_by (actor_of stage x.what) a) is old

part_place : (stage : Stage) (a : Actor) (e : Event) (s : List Event) → IsFalling (key stage) s
    → log_of stage (place_in e s) a
    ≡ cond (is_by (actor_of stage e.what) a) (place_in e (log_of stage s a)) (log_of stage s a)
part_place stage a e [] falls = refl
part_place stage a e (x ∷ s) falls =
    part_step stage a e x s (leb x.clock.0 e.clock.0) refl falls (part_place stage a e s falls.1)

own_in_log_step : (stage : Stage) (a : Actor) (e : Event) (past : List Event) (mine : Bool)
    → is_by (actor_of stage e.what) a ≡ mine → own_clock stage (log_of stage past a) a ≡ own_clock stage past a
    → own_clock stage (cond mine (e ∷ log_of stage past a) (log_of stage past a)) a
    ≡ cond mine (Some e.clock.0) (own_clock stage past a)
own_in_log_step stage a e past true is old = rw is refl
own_in_log_step stage a e past false is old = old

-- an actor's clock is that of its part
pub own_in_log : (stage : Stage) (a : Actor) (past : List Event)
    → own_clock stage (log_of stage past a) a ≡ own_clock stage past a
own_in_log stage a [] = refl
own_in_log stage a (e ∷ past) =
    own_in_log_step stage a e past (is_by (actor_of stage e.what) a) refl (own_in_log stage a past)

-- the clocks of the actor's events rise
abbrev pub Rises : Stage → Actor → List Event → Type 0
Rises stage a part = AtEach (λ rest e. IfSome (own_clock stage rest a) (λ c. c < e.clock.0)) part

put_step : (stage : Stage) (a : Actor) (e : Event) (es placed : List Event) (mine : Bool)
    → Rises stage a (cond mine (e ∷ log_of stage es a) (log_of stage es a))
    → (Rises stage a (log_of stage es a) → placed ≡ log_of stage es a)
    → cond mine (place_in e placed) placed ≡ cond mine (e ∷ log_of stage es a) (log_of stage es a)
put_step stage a e es placed true rises old =
    let own : IfSome (own_clock stage es a) (λ c. c < e.clock.0) = rw (own_in_log stage a es) at rises.0
    in rw (old rises.1) (place_own stage a e es own)
put_step stage a e es placed false rises old = old rises

-- putting events in order by clock leaves each actor's part, whose clocks rise, as it is
pub part_by_clock : (stage : Stage) (a : Actor) (es : List Event) → IsFalling (rank stage) es
    → Rises stage a (log_of stage es a) → log_of stage (by_clock es) a ≡ log_of stage es a
part_by_clock stage a [] ranks rises = refl
part_by_clock stage a (e ∷ es) ranks rises =
    part_place stage a e (by_clock es) (by_clock_falls stage es ranks.1)
    ∙ put_step stage a e es (log_of stage (by_clock es) a) (is_by (actor_of stage e.what) a) rises
    (part_by_clock stage a es ranks.1)
