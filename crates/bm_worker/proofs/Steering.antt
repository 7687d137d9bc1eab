-- What a mux logs and sends of a batch, among the notes of a phase.
use Rattle.std.proofs.Common.{◌≡◌, ℕ, ◌+◌, ◌<◌, ◌≤◌, ◌==◌, ◌&&◌, max, Bool, true}
use Rattle.std.proofs.Common.{false, cond, List, [], ◌∷◌, ◌++◌}
use Rattle.std.proofs.Common.{length, reverse, slice_get, Option, Some, None, inl, inr, refl, sym, ap, ◌∙◌, subst}
use Rattle.std.proofs.Common.{append_assoc, append-nil, arith, ltb}
use Rattle.std.specs.Prelude.{MatchBool, unwrap_or}
use Rattle.std.specs.List.{AllByRecursion}
use Rattle.std.proofs.lemmas.Bool.{cases_Bool, eq-eqb, ne_eqb, eqb-true, ltb-true}
use Rattle.std.proofs.lemmas.Bool.{lt-leb}
use Rattle.std.proofs.lemmas.List.{reverse-append}
use Rattle.bm_base.specs.declared.fate.Fate.{Fate}
use Rattle.bm_base.specs.declared.ids.MuxId.{MuxId}
use Rattle.bm_base.specs.declared.label.Label.{Label}
use Rattle.bm_core.specs.declared.events.Event.{Event}
use Rattle.bm_core.specs.declared.events.Stage.{Stage}
use Rattle.bm_core.specs.declared.events.What.{What}
use Rattle.bm_core.specs.declared.events.What.TheVariants.{Publish, Switch, Steer, Lose, Arrive, Close, Retire, Sync}
use Rattle.bm_core.specs.Accounts.{Rules, counts}
use Rattle.bm_core.specs.Past.{label_after, label_of, version_at}
use Rattle.bm_core.specs.Runs.{AtEach, actor_of, is_by, next_clock, own_clock}
use Rattle.bm_core.specs.Runs.Actor.{MuxOf, ShardOf}
use Rattle.bm_core.specs.Threads.{last_own, record_moment, steers_later}
use Rattle.bm_merge.specs.Notes.{Note, events_of, greatest, switched_since}
use Rattle.bm_merge.specs.Workers.{home_of, home_part, is_home}
use Rattle.bm_merge.proofs.Noting.{each_append, events_append, greatest_append}
use Rattle.bm_publish.specs.Posts.{Posted, last_or, last_post, last_version}
use Rattle.bm_mux.specs.declared.item.MuxItem.{MuxItem}
use Rattle.bm_mux.specs.declared.item.Steered.{Steered}
use Rattle.bm_mux.specs.Muxes.{IsOwn, post_clock}
use Rattle.bm_mux.specs.Steers.{at_clock, is_lose, sent, steer_clock, steering_clock, steers, switch_to}
use Rattle.bm_mux.specs.Steers.{switches}
use Rattle.bm_worker.specs.Inside.Batches.{AreDrawn, IsItemOf, IsLogged, IsSteerTo, Rise}
use Rattle.bm_worker.specs.Inside.Batches.{sent_notes, steering, switch_note, switch_notes}
use Rattle.bm_worker.specs.WorkerNotes.{clock_of, noted}
use Rattle.bm_worker.specs.Inside.Pending.{IsUpTo}
use Rattle.bm_worker.specs.Phases.{IsInOrder, IsMuxGiven}
use Rattle.bm_worker.proofs.Keeping.{at_append, at_so}

-- WORDS

-- the clock after the items
abbrev pub final : ℕ → List MuxItem → ℕ
final last [] = last
final last (i ∷ items) = final (steer_clock last i) items

-- a Steer or a Switch of the mux
abbrev pub IsSteeringOf : MuxId → What → Type 0
IsSteeringOf m (Steer k x) = x ≡ m
IsSteeringOf m (Switch x v) = x ≡ m
IsSteeringOf m _ = ⊥

-- a Steer is of a later packet
abbrev pub IsAbove : ℕ → What → Type 0
IsAbove low (Steer k m) = low < k
IsAbove low _ = Unit {0}

-- THE EVENTS OF THE NOTES

pub sent_events : (m : MuxId) (seen : Posted) (F : Rules) (last : ℕ) (items : List MuxItem) (fates : List Fate)
    → AreDrawn F items fates
    → events_of (sent_notes m (sent m seen last items) fates) ≡ reverse (steers m last items)
sent_events m seen F last [] [] drawn = refl
sent_events m seen F last [] (f ∷ fates) drawn = absurd drawn
sent_events m seen F last (i ∷ items) [] drawn = absurd drawn
sent_events m seen F last (i ∷ items) (f ∷ fates) drawn =
    let e = at_clock (steer_clock last i) (Steer i.packet m) in
    let es = steers m (steer_clock last i) items in
    events_append (sent_notes m (sent m seen (steer_clock last i) items) fates)
    (steering (record { 0 = steer_clock last i }) i.packet m f (m.0 + 1) ∷ [])
    ∙ (ap (λ (l : List Event). l ++ e ∷ []) (sent_events m seen F (steer_clock last i) items fates drawn.3)
    ∙ sym (reverse-append (e ∷ []) es))

pub switch_events : (m : MuxId) (seen : Posted) (past : List Event)
    → events_of (switch_notes m seen past) ≡ switches m seen past
switch_events m seen past = of_test (ltb (version_at past m).0 (last_version seen)) where
  of_test : (b : Bool)
      → events_of (cond b (switch_note m seen past (last_post seen) ∷ []) [])
      ≡ cond b (switch_to m seen past (last_post seen) ∷ []) []
  of_test true = refl
  of_test false = refl

-- THE KINDS OF THE NOTES

abbrev pub AreSteerings : MuxId → List Note → Type 0
AreSteerings m x = AllByRecursion (λ (n : Note). IsSteeringOf m n.event.what) x

pub sent_kinds : (m : MuxId) (sents : List Steered) (fates : List Fate) → AreSteerings m (sent_notes m sents fates)
sent_kinds m [] fates = tt
sent_kinds m (t ∷ sents) [] = tt
sent_kinds m (t ∷ sents) (f ∷ fates) =
    each_append (λ (n : Note). IsSteeringOf m n.event.what) (sent_notes m sents fates)
    (steering t.clock t.packet m f (m.0 + 1) ∷ [])
    (sent_kinds m sents fates) (refl, tt)

pub switch_kinds : (m : MuxId) (seen : Posted) (past : List Event) → AreSteerings m (switch_notes m seen past)
switch_kinds m seen past = of_test (ltb (version_at past m).0 (last_version seen)) where
  of_test : (b : Bool) → AreSteerings m (cond b (switch_note m seen past (last_post seen) ∷ []) [])
  of_test true = (refl, tt)
  of_test false = tt

-- they stand in the mux's log

mux_home : (stage : Stage) (m : MuxId) (n : Note) (what : What) → n.event.what ≡ what → IsSteeringOf m what
    → is_home stage (MuxOf m.0) n ≡ true
mux_home stage m n (Steer k x) is of =
    ap (λ (w : What). is_by (home_of stage n.seat w) (MuxOf m.0)) is ∙ eq-eqb x.0 m.0 (ap (λ (y : MuxId). y.0) of)
mux_home stage m n (Switch x v) is of =
    ap (λ (w : What). is_by (home_of stage n.seat w) (MuxOf m.0)) is ∙ eq-eqb x.0 m.0 (ap (λ (y : MuxId). y.0) of)
mux_home stage m n (Publish v) is of = absurd of
mux_home stage m n (Lose k hop) is of = absurd of
mux_home stage m n (Arrive k hop server verdict) is of = absurd of
mux_home stage m n (Close server flow closed) is of = absurd of
mux_home stage m n (Retire server h at result) is of = absurd of
mux_home stage m n Sync is of = absurd of

shard_home : (stage : Stage) (m : MuxId) (s h : ℕ) (n : Note) (what : What) → n.event.what ≡ what → IsSteeringOf m what
    → is_home stage (ShardOf s h) n ≡ false
shard_home stage m s h n (Steer k x) is of = ap (λ (w : What). is_by (home_of stage n.seat w) (ShardOf s h)) is
shard_home stage m s h n (Switch x v) is of = ap (λ (w : What). is_by (home_of stage n.seat w) (ShardOf s h)) is
shard_home stage m s h n (Publish v) is of = absurd of
shard_home stage m s h n (Lose k hop) is of = absurd of
shard_home stage m s h n (Arrive k hop server verdict) is of = absurd of
shard_home stage m s h n (Close server flow closed) is of = absurd of
shard_home stage m s h n (Retire server i at result) is of = absurd of
shard_home stage m s h n Sync is of = absurd of

pub steerings_home : (stage : Stage) (m : MuxId) (x : List Note) → AreSteerings m x → home_part stage (MuxOf m.0) x ≡ x
steerings_home stage m [] all = refl
steerings_home stage m (n ∷ x) all =
    ap (λ (b : Bool). cond b (n ∷ home_part stage (MuxOf m.0) x) (home_part stage (MuxOf m.0) x))
    (mux_home stage m n n.event.what refl all.0)
    ∙ ap (λ (l : List Note). n ∷ l) (steerings_home stage m x all.1)

pub steerings_noted : (stage : Stage) (m : MuxId) (s h : ℕ) (x : List Note) → AreSteerings m x
    → noted stage (ShardOf s h) x ≡ []
steerings_noted stage m s h [] all = refl
steerings_noted stage m s h (n ∷ x) all =
    ap (λ (b : Bool). noted stage (ShardOf s h) x ++ cond b ((n.event, n.due) ∷ []) [])
    (shard_home stage m s h n n.event.what refl all.0)
    ∙ (append-nil (noted stage (ShardOf s h) x) ∙ steerings_noted stage m s h x all.1)

steering_order : (rest : List Note) (m : MuxId) (what : What) → IsSteeringOf m what → IsInOrder rest what
steering_order rest m (Steer k x) of = tt
steering_order rest m (Switch x v) of = tt
steering_order rest m (Publish v) of = absurd of
steering_order rest m (Lose k hop) of = absurd of
steering_order rest m (Arrive k hop server verdict) of = absurd of
steering_order rest m (Close server flow closed) of = absurd of
steering_order rest m (Retire server h at result) of = absurd of
steering_order rest m Sync of = absurd of

pub steerings_order : (m : MuxId) (x d : List Note) → AreSteerings m x
    → AtEach (λ rest n. IsInOrder (rest ++ d) n.event.what) x
steerings_order m [] d all = tt
steerings_order m (n ∷ x) d all = (steering_order (x ++ d) m n.event.what all.0, steerings_order m x d all.1)

pub steering_up_to : (k : ℕ) (m : MuxId) (what : What) → IsSteeringOf m what → IsUpTo k what
steering_up_to k m (Steer j x) of = tt
steering_up_to k m (Switch x v) of = tt
steering_up_to k m (Publish v) of = absurd of
steering_up_to k m (Lose j hop) of = absurd of
steering_up_to k m (Arrive j hop server verdict) of = absurd of
steering_up_to k m (Close server flow closed) of = absurd of
steering_up_to k m (Retire server h at result) of = absurd of
steering_up_to k m Sync of = absurd of

-- THE MUX'S CLOCK

pub logged_more : (m : MuxId) (a b : ℕ) (past : List Event) → a ≤ b → AllByRecursion (IsLogged m a) past
    → AllByRecursion (IsLogged m b) past
logged_more m a b [] le all = tt
logged_more m a b (e ∷ past) le all =
    (record { own = all.0.own; packet = steer_more e.what all.0.packet }, logged_more m a b past le all.1) where
      steer_more : (what : What) → IsSteerTo a what → IsSteerTo b what
      steer_more (Steer k x) is = omega (arith, is, le)
      steer_more (Switch x v) is = tt
      steer_more (Publish v) is = tt
      steer_more (Lose k hop) is = tt
      steer_more (Arrive k hop server verdict) is = tt
      steer_more (Close server flow closed) is = tt
      steer_more (Retire server h at result) is = tt
      steer_more Sync is = tt

own_step : (stage : Stage) (m : MuxId) (e : Event) (past : List Event) (what : What) → e.what ≡ what → IsOwn m what
    → last_own stage past (Some (MuxOf m.0)) ≡ steering_clock past
    → last_own stage (e ∷ past) (Some (MuxOf m.0)) ≡ steering_clock (e ∷ past)
own_step stage m e past (Steer k x) is own old =
    let mine : is_by (Some (MuxOf x.0)) (MuxOf m.0) ≡ true = eq-eqb x.0 m.0 (ap (λ (y : MuxId). y.0) own) in
    ap (λ (w : What). unwrap_or
    (cond (is_by (actor_of stage w) (MuxOf m.0)) (Some e.clock.0) (own_clock stage past (MuxOf m.0))) 0) is
    ∙ (ap (λ (b : Bool). unwrap_or (cond b (Some e.clock.0) (own_clock stage past (MuxOf m.0))) 0) mine
    ∙ ap (λ (w : What). cond (is_lose w) (steering_clock past) e.clock.0) (sym is))
own_step stage m e past (Switch x v) is own old =
    let mine : is_by (Some (MuxOf x.0)) (MuxOf m.0) ≡ true = eq-eqb x.0 m.0 (ap (λ (y : MuxId). y.0) own) in
    ap (λ (w : What). unwrap_or
    (cond (is_by (actor_of stage w) (MuxOf m.0)) (Some e.clock.0) (own_clock stage past (MuxOf m.0))) 0) is
    ∙ (ap (λ (b : Bool). unwrap_or (cond b (Some e.clock.0) (own_clock stage past (MuxOf m.0))) 0) mine
    ∙ ap (λ (w : What). cond (is_lose w) (steering_clock past) e.clock.0) (sym is))
own_step stage m e past (Lose k hop) is own old =
    ap (λ (w : What). unwrap_or
    (cond (is_by (actor_of stage w) (MuxOf m.0)) (Some e.clock.0) (own_clock stage past (MuxOf m.0))) 0) is
    ∙ (old ∙ ap (λ (w : What). cond (is_lose w) (steering_clock past) e.clock.0) (sym is))
own_step stage m e past (Publish v) is own old = absurd own
own_step stage m e past (Arrive k hop server verdict) is own old = absurd own
own_step stage m e past (Close server flow closed) is own old = absurd own
own_step stage m e past (Retire server h at result) is own old = absurd own
own_step stage m e past Sync is own old = absurd own

-- the clock of a mux's last own event is that of its last Switch or Steer
pub own_steering : (stage : Stage) (m : MuxId) (low : ℕ) (past : List Event) → AllByRecursion (IsLogged m low) past
    → last_own stage past (Some (MuxOf m.0)) ≡ steering_clock past
own_steering stage m low [] all = refl
own_steering stage m low (e ∷ past) all =
    own_step stage m e past e.what refl all.0.own (own_steering stage m low past all.1)

not_later : (m : MuxId) (low k : ℕ) (what : What) → low < k → IsSteerTo low what
    → ◌≡◌ {A = ℕ} (cond (steers_later what m k) 1 0) 0
not_later m low k (Steer j x) lt is = rw (lt-leb k j (omega (arith, lt, is))) (both_no (x.0 == m.0)) where
  both_no : (b : Bool) → ◌≡◌ {A = ℕ} (cond (b && false) 1 0) 0
  both_no true = refl
  both_no false = refl
not_later m low k (Switch x v) lt is = refl
not_later m low k (Publish v) lt is = refl
not_later m low k (Lose j hop) lt is = refl
not_later m low k (Arrive j hop server verdict) lt is = refl
not_later m low k (Close server flow closed) lt is = refl
not_later m low k (Retire server h at result) lt is = refl
not_later m low k Sync lt is = refl

none_later : (m : MuxId) (low k : ℕ) (past : List Event) → low < k → AllByRecursion (IsLogged m low) past
    → counts past (λ what. steers_later what m k) ≡ 0
none_later m low k [] lt all = refl
none_later m low k (e ∷ past) lt all =
    let here = not_later m low k e.what lt all.0.packet in let old = none_later m low k past lt all.1 in omega arith

-- WHAT THE MUX GIVES

abbrev pub Given : Stage → ℕ → ℕ → List ℕ → List Event → List Event → Event → Type 0
Given stage after first posts past rest e = IsMuxGiven stage after first posts (rest ++ past) e.clock.0 e.what

pub steered_logged : (m : MuxId) (k clock : ℕ) → IsLogged m k (at_clock clock (Steer k m))
steered_logged m k clock = record { own = refl; packet = omega arith }

pub gives_steers : (stage : Stage) (routes : List (Option MuxId)) (m : MuxId) (after first : ℕ) (posts : List ℕ)
    (last low : ℕ) (items : List MuxItem) (past : List Event)
    → Rise low items → AllByRecursion (IsItemOf stage routes m.0) items → AllByRecursion (IsLogged m low) past
    → switched_since after m.0 past ≡ true → steering_clock past ≡ last
    → AtEach (Given stage after first posts past) (reverse (steers m last items))
gives_steers stage routes m after first posts last low [] past rise each logged switched clock = tt
gives_steers stage routes m after first posts last low (i ∷ items) past rise each logged switched clock =
    let next = steer_clock last i in
    let e = at_clock next (Steer i.packet m) in
    let es = steers m next items in
    let turned : reverse es ++ e ∷ [] ≡ reverse (e ∷ es) = sym (reverse-append (e ∷ []) es) in
    let own : last_own stage past (Some (MuxOf m.0)) ≡ last = own_steering stage m low past logged ∙ clock in
    let time : next ≡ next_clock (last_own stage past (Some (MuxOf m.0))) (record_moment stage i.packet) =
    (λ j. next_clock (sym own j) (each.0.moment j)) in
    let later = gives_steers stage routes m after first posts next i.packet items (e ∷ past) rise.1 each.1
    (steered_logged m i.packet next, logged_more m low i.packet past (let lt = rise.0 in omega (arith, lt)) logged)
    switched refl in
    subst (λ (l : List Event). AtEach (Given stage after first posts past) l) turned
    (at_append (Given stage after first posts past) (reverse es) (e ∷ [])
    (at_so (Given stage after first posts (e ∷ past)) (λ rest x. Given stage after first posts past (rest ++ e ∷ []) x)
    (reverse es)
    (λ rest x is. subst (λ (l : List Event). IsMuxGiven stage after first posts l x.clock.0 x.what)
    (sym (append_assoc rest (e ∷ []) past)) is) later)
    ((switched, none_later m low i.packet past rise.0 logged, time), tt))

-- the version of the last post has its clock
last_got : (low c : ℕ) (clocks : List ℕ) → slice_get (c ∷ clocks) (length clocks) ≡ Some (last_or low (c ∷ clocks))
last_got low c [] = refl
last_got low c (x ∷ clocks) = last_got c x clocks

pub last_posted : (seen : Posted) → post_clock seen.clocks (last_version seen) ≡ Some (last_post seen)
last_posted seen = of_clocks seen.clocks where
  of_clocks : (clocks : List ℕ) → post_clock clocks (length clocks) ≡ Some (last_or 0 clocks)
  of_clocks [] = refl
  of_clocks (c ∷ clocks) = last_got 0 c clocks

pub gives_switch : (stage : Stage) (m : MuxId) (after first low : ℕ) (seen : Posted) (past : List Event)
    → AllByRecursion (IsLogged m low) past
    → switched_since after m.0 past ≡ true → after < steering_clock past
    → AtEach (Given stage after first seen.clocks past) (switches m seen past)
gives_switch stage m after first low seen past logged switched begun =
    of_test (ltb (version_at past m).0 (last_version seen)) refl where
      of_test : (b : Bool) → ltb (version_at past m).0 (last_version seen) ≡ b
          → AtEach (Given stage after first seen.clocks past) (cond b (switch_to m seen past (last_post seen) ∷ []) [])
      of_test false is = tt
      of_test true is =
          let own = own_steering stage m low past logged in
          let newer = ltb-true (version_at past m).0 (last_version seen) is in
          let look : MatchBool (switched_since after m.0 past) ((version_at past m).0 < last_version seen)
          ((first ≤ last_version seen) × ((version_at past m).0 ≤ last_version seen)) =
          subst (λ (x : Bool). MatchBool x ((version_at past m).0 < last_version seen)
          ((first ≤ last_version seen) × ((version_at past m).0 ≤ last_version seen))) (sym switched) newer in
          ((look, (last_post seen, last_posted seen, (omega (arith, own, begun)))), tt)

-- LABELS

-- a label was given to a packet that the log has
pub label_low : (stage : Stage) (m : MuxId) (low k : ℕ) (l : Label) (past : List Event)
    → AllByRecursion (IsLogged m low) past → label_of stage past k ≡ Some l → k ≤ low
label_low stage m low k l [] all is = absurd (let bad : None ≡ Some l = is in cc)
label_low stage m low k l (e ∷ past) all is =
    of_what e.what all.0.packet (λ old. label_low stage m low k l past all.1 old) is where
      of_what : (what : What) → IsSteerTo low what → (label_of stage past k ≡ Some l → k ≤ low)
          → label_after stage past what k (label_of stage past k) ≡ Some l → k ≤ low
      of_what (Steer j x) le old is = elim (cases_Bool (j == k)) [
        | inl same ↦ let e : j ≡ k = eqb-true j k same in omega (arith, le, e)
        | inr other ↦ old (rw other at is)
      ]
      of_what (Switch x v) le old is = old is
      of_what (Publish v) le old is = old is
      of_what (Lose j hop) le old is = old is
      of_what (Arrive j hop server verdict) le old is = old is
      of_what (Close server flow closed) le old is = old is
      of_what (Retire server h at result) le old is = old is
      of_what Sync le old is = old is

above_label : (stage : Stage) (past : List Event) (low k : ℕ) (what : What) (before : Option Label) → k ≤ low
    → IsAbove low what
    → label_after stage past what k before ≡ before
above_label stage past low k (Steer j x) before le above = rw (ne_eqb j k (λ e. omega (arith, e, le, above))) refl
above_label stage past low k (Switch x v) before le above = refl
above_label stage past low k (Publish v) before le above = refl
above_label stage past low k (Lose j hop) before le above = refl
above_label stage past low k (Arrive j hop server verdict) before le above = refl
above_label stage past low k (Close server flow closed) before le above = refl
above_label stage past low k (Retire server h at result) before le above = refl
above_label stage past low k Sync before le above = refl

pub label_high : (stage : Stage) (low k : ℕ) (y past : List Event) → k ≤ low
    → AllByRecursion (λ (e : Event). IsAbove low e.what) y
    → label_of stage (y ++ past) k ≡ label_of stage past k
label_high stage low k [] past le all = refl
label_high stage low k (e ∷ y) past le all =
    above_label stage (y ++ past) low k e.what (label_of stage (y ++ past) k) le all.0
    ∙ label_high stage low k y past le all.1

pub event_snoc : (P : Event → Type 0) (xs : List Event) (e : Event) → AllByRecursion P xs → P e
    → AllByRecursion P (xs ++ e ∷ [])
event_snoc P [] e all is = (is, tt)
event_snoc P (x ∷ xs) e all is = (all.0, event_snoc P xs e all.1 is)

-- the Steers of a batch are of later packets
pub steers_above : (m : MuxId) (last low bottom : ℕ) (items : List MuxItem) → bottom ≤ low → Rise low items
    → AllByRecursion (λ (e : Event). IsAbove bottom e.what) (reverse (steers m last items))
steers_above m last low bottom [] le rise = tt
steers_above m last low bottom (i ∷ items) le rise =
    let e = at_clock (steer_clock last i) (Steer i.packet m) in let es = steers m (steer_clock last i) items in
    subst (λ (l : List Event). AllByRecursion (λ (x : Event). IsAbove bottom x.what) l)
    (sym (reverse-append (e ∷ []) es))
    (event_snoc (λ (x : Event). IsAbove bottom x.what) (reverse es) e
    (steers_above m (steer_clock last i) i.packet bottom items (let lt = rise.0 in omega (arith, lt, le)) rise.1)
    (let lt = rise.0 in omega (arith, lt, le)))

pub switches_above : (m : MuxId) (low : ℕ) (seen : Posted) (past : List Event)
    → AllByRecursion (λ (e : Event). IsAbove low e.what) (switches m seen past)
switches_above m low seen past = of_test (ltb (version_at past m).0 (last_version seen)) where
  of_test : (b : Bool)
      → AllByRecursion (λ (e : Event). IsAbove low e.what) (cond b (switch_to m seen past (last_post seen) ∷ []) [])
  of_test true = (tt, tt)
  of_test false = tt

-- CLOCKS

pub final_above : (last : ℕ) (items : List MuxItem) → last ≤ final last items
final_above last [] = omega arith
final_above last (i ∷ items) = let old = final_above (steer_clock last i) items in omega arith

pub steered_clock : (m : MuxId) (last : ℕ) (items : List MuxItem) (past : List Event) → steering_clock past ≡ last
    → steering_clock (reverse (steers m last items) ++ past) ≡ final last items
steered_clock m last [] past is = is
steered_clock m last (i ∷ items) past is =
    let e = at_clock (steer_clock last i) (Steer i.packet m) in let es = steers m (steer_clock last i) items in
    ap (λ (l : List Event). steering_clock (l ++ past)) (reverse-append (e ∷ []) es)
    ∙ (ap (λ (l : List Event). steering_clock l) (append_assoc (reverse es) (e ∷ []) past)
    ∙ steered_clock m (steer_clock last i) items (e ∷ past) refl)

pub greatest_sent : (F : Rules) (m : MuxId) (seen : Posted) (last : ℕ) (items : List MuxItem) (fates : List Fate)
    → AreDrawn F items fates
    → max last (greatest clock_of (sent_notes m (sent m seen last items) fates)) ≡ final last items
greatest_sent F m seen last [] [] drawn = omega arith
greatest_sent F m seen last [] (f ∷ fates) drawn = absurd drawn
greatest_sent F m seen last (i ∷ items) [] drawn = absurd drawn
greatest_sent F m seen last (i ∷ items) (f ∷ fates) drawn =
    let next = steer_clock last i in
    let s = sent_notes m (sent m seen next items) fates in
    let n = steering (record { 0 = next }) i.packet m f (m.0 + 1) in
    let old = greatest_sent F m seen next items fates drawn.3 in
    let a = greatest_append clock_of s (n ∷ []) in omega (arith, old, a)
