-- Where each log and each worker keeps its promises, they keep those of a threaded run together.
use Rattle.std.proofs.Common.{◌≡◌, ℕ, zero, suc, ◌+◌, ◌<◌, ◌≤◌, Bool, true, false, cond, ◌&&◌, inl, inr, List, []}
use Rattle.std.proofs.Common.{◌∷◌, ◌++◌, length, Option, Some, None, refl, sym, ap, ◌∙◌, subst, arith, leb, ltb, eqb}
use Rattle.std.specs.Prelude.{IfSome, is_some, slice_get, reverse}
use Rattle.std.specs.List.{AllByRecursion}
use Rattle.std.proofs.lemmas.Bool.{cases_Bool, cases_lt, eqb-true, eq-eqb, and_from}
use Rattle.bm_base.specs.declared.ids.MuxId.{MuxId}
use Rattle.bm_base.specs.declared.ids.ServerId.{ServerId}
use Rattle.bm_base.specs.declared.flow.Flow.{Flow}
use Rattle.bm_base.specs.declared.label.Hop.{Hop}
use Rattle.bm_base.specs.declared.label.Label.{Label}
use Rattle.bm_core.specs.declared.events.What.{What}
use Rattle.bm_core.specs.declared.events.What.TheVariants.{Publish, Switch, Steer, Lose, Arrive, Close, Retire, Sync}
use Rattle.bm_core.specs.declared.events.Event.{Event}
use Rattle.bm_core.specs.declared.events.History.{History}
use Rattle.bm_core.specs.declared.events.Stage.{Stage}
use Rattle.bm_core.specs.Past.{segment_of, sending_of, sends, newest, label_of}
use Rattle.bm_core.specs.Runs.{Actor, actor_of, next_clock, AtEach}
use Rattle.bm_core.specs.Runs.Actor.{MuxOf}
use Rattle.bm_core.specs.Accounts as acc
use Rattle.bm_core.specs.Accounts.{Routes, Rules, IsRouted, counts, steers_packet, arrives, loses, is_sync}
use Rattle.bm_core.specs.Threads.{IsThreadedRun}
use Rattle.bm_core.specs.Threads.{last_own, is_command, phase_of, packet_of}
use Rattle.bm_core.proofs.Pasts.{labelled_sent}
use Rattle.bm_merge.specs.Merges.{Log, gathered, merged, by_clock, named, stands_in, IsNextVersion, IsEntry, joined}
use Rattle.bm_merge.specs.Merges.{AreLogs}
use Rattle.bm_merge.proofs.Placed.{how_many}
use Rattle.bm_merge.specs.Notes.{Note, NotedLog, events_of, plain, all_notes, total, many, greatest, top_clock}
use Rattle.bm_merge.specs.Notes.{is_earlier, mark_of, controlled}
use Rattle.bm_merge.proofs.Promised.{is_part, is_due_by, IsPromised, IsTold, ArePromised}
use Rattle.bm_merge.specs.Workers.{notes_by, notes_of_all, IsGiven, IsMeant, carries, is_due_at, HasSending, IsCarrier}
use Rattle.bm_merge.specs.Workers.{IsMet, ArePromises}
use Rattle.bm_merge.proofs.Agreeing.{named_entries}
use Rattle.bm_merge.proofs.Joined.{gathered_joined}
use Rattle.bm_merge.proofs.Merging.{sent_counts}
use Rattle.bm_merge.proofs.Noting.{total_append, total_none, total_most, total_same, greatest_append, greatest_none}
use Rattle.bm_merge.proofs.Noting.{events_gathered, each_so, each_always, each_append}
use Rattle.bm_merge.proofs.Ordering.{named_fewer}
use Rattle.bm_merge.proofs.Reaching.{one_if, free}
use Rattle.bm_merge.proofs.Commanding.{IsMeantIn, all_meant, all_kinds, once_each}
use Rattle.bm_merge.proofs.Seating.{IsSteeredBy, IsKnown, in_order}
use Rattle.bm_merge.proofs.Sharing.{shared, seat_total, greatest_shared, notes_upto, all_by_seat, each_note_of}
use Rattle.bm_merge.proofs.Sharing.{sum_seats, of_seat}
use Rattle.bm_merge.proofs.Following.{threaded_law}

-- KINDS

carried_no_command : (m : ℕ) (what : What) → carries m what ≡ true → is_command what ≡ false
carried_no_command m (Switch x v) h = refl
carried_no_command m (Steer k x) h = refl
carried_no_command m (Arrive k hop server verdict) h = refl
carried_no_command m (Lose k hop) h = refl
carried_no_command m (Publish v) h = absurd (cc)
carried_no_command m (Close server flow closed) h = absurd (cc)
carried_no_command m (Retire server x at result) h = absurd (cc)
carried_no_command m Sync h = absurd (cc)

-- what a command's event isn't
pub record IsNoCarrying (R : Routes) (stage : Stage) (what : What) : Type 0 where
  pub packet : packet_of what ≡ None
  pub sending : sending_of what ≡ None
  pub steers : (k : ℕ) → steers_packet what k ≡ false
  pub arrives : (k : ℕ) (hop : Hop) → arrives what k hop ≡ false
  pub loses : (k : ℕ) (hop : Hop) → loses what k hop ≡ false
  pub sends : (k : ℕ) (hop : Hop) → sends what k hop ≡ false
  pub routed : IsRouted R stage what

command_carries_none : (R : Routes) (stage : Stage) (what : What) → is_command what ≡ true → IsNoCarrying R stage what
command_carries_none R stage (Publish v) h =
    record {
      packet = refl;
      sending = refl;
      steers = λ k. refl;
      arrives = λ k hop. refl;
      loses = λ k hop. refl;
      sends = λ k hop. refl;
      routed = tt;
    }
command_carries_none R stage (Close server flow closed) h =
    record {
      packet = refl;
      sending = refl;
      steers = λ k. refl;
      arrives = λ k hop. refl;
      loses = λ k hop. refl;
      sends = λ k hop. refl;
      routed = tt;
    }
command_carries_none R stage (Retire server x at result) h =
    record {
      packet = refl;
      sending = refl;
      steers = λ k. refl;
      arrives = λ k hop. refl;
      loses = λ k hop. refl;
      sends = λ k hop. refl;
      routed = tt;
    }
command_carries_none R stage Sync h =
    record {
      packet = refl;
      sending = refl;
      steers = λ k. refl;
      arrives = λ k hop. refl;
      loses = λ k hop. refl;
      sends = λ k hop. refl;
      routed = tt;
    }
command_carries_none R stage (Switch m v) h = absurd (cc)
command_carries_none R stage (Steer k m) h = absurd (cc)
command_carries_none R stage (Lose k hop) h = absurd (cc)
command_carries_none R stage (Arrive k hop server verdict) h = absurd (cc)

-- what a carried event isn't
no_command_of : (what : What) → is_command what ≡ false
    → ((s : ServerId) (f : Flow) → acc.closes_flow what s f ≡ false)
    × ((s : ServerId) (h : ℕ) → acc.retires_shard what s h ≡ false) × (is_sync what ≡ false)
no_command_of (Switch m v) not = ((λ s f. refl), (λ s h. refl), refl)
no_command_of (Steer k m) not = ((λ s f. refl), (λ s h. refl), refl)
no_command_of (Lose k hop) not = ((λ s f. refl), (λ s h. refl), refl)
no_command_of (Arrive k hop server verdict) not = ((λ s f. refl), (λ s h. refl), refl)
no_command_of (Publish v) not = absurd (cc)
no_command_of (Close server flow closed) not = absurd (cc)
no_command_of (Retire server x at result) not = absurd (cc)
no_command_of Sync not = absurd (cc)

-- THE WORKERS' FACTS

pub record IsCarried (R : Routes) (F : Rules) (stage : Stage) (logs : List Log) (m : ℕ) (notes : List Note)
    (n : Note) : Type 0 where
  pub kind : carries m n.event.what ≡ true
  pub has_sending : HasSending notes n n.event.what
  pub routed : IsRouted R stage n.event.what
  pub fate : IfSome (sending_of n.event.what) (λ s. F s.packet s.hop n.fate)
  pub phase : IfSome (packet_of n.event.what)
      (λ k. counts (controlled logs n.event.clock.0) is_sync ≡ phase_of stage k)

abbrev pub IsDone : Routes → Rules → Stage → List NotedLog → List Note → List (List Note) → ℕ → Note → Type 0
IsDone R F stage logs controller carriers zero n = IsMeantIn stage controller n
IsDone R F stage logs controller carriers (suc m) n = IsCarried R F stage (plain logs) m (notes_by carriers m) n

pub no_notes : (workers : List (List Note)) (w : ℕ) → length workers ≤ w → notes_by workers w ≡ []
no_notes [] w h = refl
no_notes (d ∷ workers) zero h = absurd (omega arith)
no_notes (d ∷ workers) (suc w) h = no_notes workers w (omega arith)

carrier_done : (R : Routes) (F : Rules) (stage : Stage) (logs : List Log) (m : ℕ) (whole notes : List Note)
    → AllByRecursion (λ n. carries m n.event.what ≡ true) notes
    → AllByRecursion (λ n. HasSending whole n n.event.what) notes
    → AllByRecursion
    (λ n. IsRouted R stage n.event.what × IfSome (sending_of n.event.what) (λ s. F s.packet s.hop n.fate)) notes
    → AllByRecursion
    (λ n. IfSome (packet_of n.event.what)
    (λ k. counts (controlled logs n.event.clock.0) is_sync ≡ phase_of stage k)) notes
    → AllByRecursion (IsCarried R F stage logs m whole) notes
carrier_done R F stage logs m whole [] a b c d = tt
carrier_done R F stage logs m whole (n ∷ notes) a b c d = (
  record { kind = a.0; has_sending = b.0; routed = c.0.0; fate = c.0.1; phase = d.0 },
  carrier_done R F stage logs m
      whole notes a.1 b.1 c.1 d.1,
)

all_done : (R : Routes) (F : Rules) (stage : Stage) (logs : List NotedLog) (controller : List Note)
    (carriers : List (List Note)) → ArePromises R F stage logs controller carriers
    → (w : ℕ) → AllByRecursion (IsDone R F stage logs controller carriers w) (notes_by (controller ∷ carriers) w)
all_done R F stage logs controller carriers p zero = all_meant stage controller p.controls.each
all_done R F stage logs controller carriers p (suc m) = elim (cases_lt m (length carriers)) [
  | inl low ↦
      let c = p.carried m low
      in carrier_done R F stage (plain logs) m (notes_by carriers m) (notes_by carriers m) c.kinds c.has_sending c.answers
      (each_note_of
      (λ n. IfSome (packet_of n.event.what)
      (λ k. counts (controlled (plain logs) n.event.clock.0) is_sync ≡ phase_of stage k)) carriers m p.phases)
  | inr high ↦ subst (λ (x : List Note). AllByRecursion (IsCarried R F stage (plain logs) m (notes_by carriers m)) x)
      (sym (no_notes carriers m high)) tt
]

-- SUMS

pub record AreShared (logs : List NotedLog) (controller : List Note) (carriers : List (List Note)) : Type 0 where
  pub sums : (f : Note → ℕ) → total f (all_notes logs) ≡ total f controller + total f (notes_of_all carriers)
  pub seat : (w : ℕ) (f : Note → ℕ)
      → total (of_seat w f) (all_notes logs) ≡ total f (notes_by (controller ∷ carriers) w)
  pub commands : AllByRecursion (λ n. is_command n.event.what ≡ true) controller
  pub others : AllByRecursion (λ n. is_command n.event.what ≡ false) (notes_of_all carriers)

all_carried : (R : Routes) (F : Rules) (stage : Stage) (more : ℕ) (carriers : List (List Note))
    → ((m : ℕ) → m < length carriers → IsCarrier R F stage (more + m) (notes_by carriers m))
    → AllByRecursion (λ n. is_command n.event.what ≡ false) (notes_of_all carriers)
all_carried R F stage more [] c = tt
all_carried R F stage more (d ∷ carriers) c =
    each_append (λ n. is_command n.event.what ≡ false) d (notes_of_all carriers)
    (each_so (λ n. carries (more + 0) n.event.what ≡ true) (λ n. is_command n.event.what ≡ false) d
    (λ n h. carried_no_command (more + 0) n.event.what h) (c 0 (omega arith)).kinds)
    (all_carried R F stage (suc more) carriers
    (λ m low. let same : more + suc m
    ≡ suc more + m =
    omega arith
    in subst (λ (k : ℕ). IsCarrier R F stage k (notes_by carriers m)) same (c (suc m) (omega arith))))

are_shared : (R : Routes) (F : Rules) (stage : Stage) (logs : List NotedLog) (controller : List Note)
    (carriers : List (List Note)) → ArePromises R F stage logs controller carriers
    → AreShared logs controller carriers
are_shared R F stage logs controller carriers p = record {
  sums =
      λ f. shared stage logs (controller ∷ carriers) p.agree.actors p.seated p.seats p.homes f
      ∙ total_append f controller (notes_of_all carriers);
  seat = λ w f. seat_total stage logs (controller ∷ carriers) p.agree.actors p.seated p.homes w f;
  commands = all_kinds stage controller p.controls.each;
  others =
      all_carried R F stage 0 carriers
      (λ m low. let same : m
      ≡ 0 + m = omega arith in subst (λ (k : ℕ). IsCarrier R F stage k (notes_by carriers m)) same (p.carried m low));
}

-- what only commands have is worker 0's
by_controller : (logs : List NotedLog) (controller : List Note) (carriers : List (List Note))
    → AreShared logs controller carriers → (f : Note → ℕ) → ((n : Note) → is_command n.event.what ≡ false → f n ≡ 0)
    → total f (all_notes logs) ≡ total f controller
by_controller logs controller carriers s f none =
    let zero_of : total f (notes_of_all carriers) ≡ 0 =
    total_none f (notes_of_all carriers)
    (each_so (λ n. is_command n.event.what ≡ false) (λ n. f n ≡ 0) (notes_of_all carriers) none s.others)
    in let sum = s.sums f
    in omega arith

-- what no command has is the other workers'
by_carriers : (logs : List NotedLog) (controller : List Note) (carriers : List (List Note))
    → AreShared logs controller carriers → (f : Note → ℕ) → ((n : Note) → is_command n.event.what ≡ true → f n ≡ 0)
    → total f (all_notes logs) ≡ total f (notes_of_all carriers)
by_carriers logs controller carriers s f none =
    let zero_of : total f controller ≡ 0 =
    total_none f controller
    (each_so (λ n. is_command n.event.what ≡ true) (λ n. f n ≡ 0) controller none s.commands)
    in let sum = s.sums f
    in omega arith

tops_by_controller : (logs : List NotedLog) (controller : List Note) (carriers : List (List Note))
    → AreShared logs controller carriers → (i : ℕ)
    → top_clock (is_earlier i) (all_notes logs) ≡ top_clock (is_earlier i) controller
tops_by_controller logs controller carriers s i =
    let f : Note → ℕ = λ n. cond (is_earlier i n) n.event.clock.0 0
    in let none : greatest f (notes_of_all carriers) ≡ 0 =
    greatest_none f (notes_of_all carriers)
    (each_so (λ n. is_command n.event.what ≡ false) (λ n. f n ≡ 0) (notes_of_all carriers) (λ n h. rw h refl)
    s.others)
    in let same : greatest f (all_notes logs) ≡ greatest f (controller ++ notes_of_all carriers) =
    greatest_shared f (all_notes logs) (controller ++ notes_of_all carriers)
    (λ g. s.sums g ∙ sym (total_append g controller (notes_of_all carriers)))
    in let split = greatest_append f controller (notes_of_all carriers)
    in omega arith

seats_equal : (g h : ℕ → ℕ) (n : ℕ) → ((w : ℕ) → w < n → g w ≡ h w) → sum_seats g n ≡ sum_seats h n
seats_equal g h zero same = refl
seats_equal g h (suc n) same =
    let old = seats_equal g h n (λ w low. same w (omega arith)) in let here = same n (omega arith) in omega arith

seats_most : (g h : ℕ → ℕ) (n : ℕ) → ((w : ℕ) → w < n → g w ≤ h w) → sum_seats g n ≤ sum_seats h n
seats_most g h zero most = omega arith
seats_most g h (suc n) most =
    let old = seats_most g h n (λ w low. most w (omega arith)) in let here = most n (omega arith) in omega arith

carriers_equal : (f g : Note → ℕ) (carriers : List (List Note))
    → ((m : ℕ) → m < length carriers → total f (notes_by carriers m) ≡ total g (notes_by carriers m))
    → total f (notes_of_all carriers) ≡ total g (notes_of_all carriers)
carriers_equal f g carriers same =
    notes_upto f carriers ∙ seats_equal _ _ (length carriers) same ∙ sym (notes_upto g carriers)

carriers_most : (f g : Note → ℕ) (carriers : List (List Note))
    → ((m : ℕ) → m < length carriers → total f (notes_by carriers m) ≤ total g (notes_by carriers m))
    → total f (notes_of_all carriers) ≤ total g (notes_of_all carriers)
carriers_most f g carriers most =
    let a = notes_upto f carriers
    in let b = notes_upto g carriers
    in let c =
    seats_most (λ m. total f (notes_by carriers m)) (λ m. total g (notes_by carriers m)) (length carriers) most
    in omega arith

pub within : (b : Bool) (k : ℕ) → cond b k 0 ≤ k
within true k = omega arith
within false k = omega arith

-- what one worker has the logs have
seat_most : (logs : List NotedLog) (controller : List Note) (carriers : List (List Note))
    → AreShared logs controller carriers → (m : ℕ) (f : Note → ℕ)
    → total f (notes_by carriers m) ≤ total f (all_notes logs)
seat_most logs controller carriers s m f =
    let same : total (of_seat (suc m) f) (all_notes logs) ≡ total f (notes_by carriers m) = s.seat (suc m) f
    in let most : total (of_seat (suc m) f) (all_notes logs) ≤ total f (all_notes logs) =
    total_most (of_seat (suc m) f) f (all_notes logs)
    (each_always (λ n. of_seat (suc m) f n ≤ f n) (λ n. within (eqb n.seat (suc m)) (f n)) (all_notes logs))
    in omega arith

-- STEERS AND SEATS

-- a Steer is by its mux's worker
steer_seat : (R : Routes) (F : Rules) (stage : Stage) (logs : List NotedLog) (controller : List Note)
    (carriers : List (List Note)) (n : Note) (seat k : ℕ) (x : MuxId) → n.event.what ≡ Steer k x
    → IsDone R F stage logs controller carriers seat n → seat ≡ suc x.0
steer_seat R F stage logs controller carriers n zero k x is done =
    let bad : is_command (Steer k x) ≡ true = subst (λ (w : What). is_command w ≡ true) is done.kind in absurd (cc)
steer_seat R F stage logs controller carriers n (suc m) k x is done =
    let at : x.0 ≡ m = eqb-true _ _ (subst (λ (w : What). carries m w ≡ true) is done.kind)
    in omega arith

abbrev steers_at : ℕ → ℕ → What → Bool
steers_at k m (Steer packet x) = eqb packet k && eqb x.0 m
steers_at k m _ = false

steered_here : (stage : Stage) (k m : ℕ) (what : What) → stands_in stage what (MuxOf m) ≡ true
    → steers_packet what k ≡ true → steers_at k m what ≡ true
steered_here stage k m (Steer packet x) stands is = and_from _ _ is stands
steered_here stage k m (Publish v) stands is = absurd (cc)
steered_here stage k m (Switch x v) stands is = absurd (cc)
steered_here stage k m (Lose packet hop) stands is = absurd (cc)
steered_here stage k m (Arrive packet hop server verdict) stands is = absurd (cc)
steered_here stage k m (Close server flow closed) stands is = absurd (cc)
steered_here stage k m (Retire server h at result) stands is = absurd (cc)
steered_here stage k m Sync stands is = absurd (cc)

more_if : (p q : Bool) (a b : ℕ) → (p ≡ true → q ≡ true) → a ≤ b → cond p (suc a) a ≤ cond q (suc b) b
more_if true q a b so h = let is = so refl in rw is (omega arith)
more_if false true a b so h = omega arith
more_if false false a b so h = h

steers_in_log : (stage : Stage) (logs : List Log) (k m : ℕ) (log : List Event)
    → AtEach (IsEntry stage logs (MuxOf m)) log
    → how_many (λ e. steers_packet e.what k) log ≤ how_many (λ e. steers_at k m e.what) log
steers_in_log stage logs k m [] each = omega arith
steers_in_log stage logs k m (e ∷ log) each =
    more_if (steers_packet e.what k) (steers_at k m e.what) _ _ (steered_here stage k m e.what each.0.stands)
    (steers_in_log stage logs k m log each.1)

how_many_notes : (test : What → Bool) (x : List Note)
    → how_many (λ e. test e.what) (events_of x) ≡ many (λ n. test n.event.what) x
how_many_notes test [] = refl
how_many_notes test (n ∷ x) = go (test n.event.what) (how_many_notes test x) where
  go : (b : Bool) → how_many (λ e. test e.what) (events_of x) ≡ many (λ n. test n.event.what) x
      → cond b (suc (how_many (λ e. test e.what) (events_of x))) (how_many (λ e. test e.what) (events_of x))
      ≡ one_if b + many (λ n. test n.event.what) x
  go true old = omega arith
  go false old = omega arith

by_seat : (R : Routes) (F : Rules) (stage : Stage) (logs : List NotedLog) (controller : List Note)
    (carriers : List (List Note)) (k m : ℕ) (n : Note) (what : What) → n.event.what ≡ what
    → IsDone R F stage logs controller carriers n.seat n
    → one_if (steers_at k m what) ≤ one_if (steers_packet what k && eqb n.seat (suc m))
by_seat R F stage logs controller carriers k m n (Steer packet x) is done =
    let seat : n.seat ≡ suc x.0 = steer_seat R F stage logs controller carriers n n.seat packet x is done
    in go (eqb packet k) (eqb x.0 m) refl seat where
      go : (a b : Bool) → eqb x.0 m ≡ b → n.seat ≡ suc x.0 → one_if (a && b) ≤ one_if (a && eqb n.seat (suc m))
      go true true same seat =
          let at : x.0 ≡ m = eqb-true _ _ same
          in let yes : eqb n.seat (suc m) ≡ true = eq-eqb _ _ (omega arith)
          in rw yes (omega arith)
      go true false same seat = omega arith
      go false b same seat = omega arith
by_seat R F stage logs controller carriers k m n (Publish v) is done = omega arith
by_seat R F stage logs controller carriers k m n (Switch x v) is done = omega arith
by_seat R F stage logs controller carriers k m n (Lose packet hop) is done = omega arith
by_seat R F stage logs controller carriers k m n (Arrive packet hop server verdict) is done = omega arith
by_seat R F stage logs controller carriers k m n (Close server flow closed) is done = omega arith
by_seat R F stage logs controller carriers k m n (Retire server h at result) is done = omega arith
by_seat R F stage logs controller carriers k m n Sync is done = omega arith

all_joined : (P : Note → Type 0) (logs : List NotedLog) → AllByRecursion (λ l. AllByRecursion P l.notes) logs
    → AllByRecursion P (all_notes logs)
all_joined P [] all = tt
all_joined P (l ∷ logs) all = each_append P (all_notes logs) l.notes (all_joined P logs all.1) all.0

labelled_some : (stage : Stage) (log : List Event) (k : ℕ) (o : Option Label) → label_of stage log k ≡ o
    → is_some o ≡ true → 1 ≤ how_many (λ e. steers_packet e.what k) log
labelled_some stage log k None is h = absurd (cc)
labelled_some stage log k (Some l) is h = sent_counts log k (labelled_sent stage log k l is)

-- what a mux's log labels its worker steered
labelled_by : (R : Routes) (F : Rules) (stage : Stage) (logs : List NotedLog) (controller : List Note)
    (carriers : List (List Note)) → ArePromises R F stage logs controller carriers
    → (m : MuxId) (k : ℕ) → is_some (label_of stage (named (plain logs) (MuxOf m.0)) k) ≡ true
    → IsSteeredBy (all_notes logs) k (suc m.0)
labelled_by R F stage logs controller carriers p m k h =
    let log = named (plain logs) (MuxOf m.0)
    in let one : 1 ≤ how_many (λ e. steers_packet e.what k) (named (plain logs) (MuxOf m.0)) =
    labelled_some stage (named (plain logs) (MuxOf m.0)) k (label_of stage (named (plain logs) (MuxOf m.0)) k)
    refl h
    in let a : how_many (λ e. steers_packet e.what k) (named (plain logs) (MuxOf m.0))
    ≤ how_many (λ e. steers_at k m.0 e.what) (named (plain logs) (MuxOf m.0)) =
    steers_in_log stage (plain logs) k m.0 (named (plain logs) (MuxOf m.0))
    (named_entries stage (plain logs) (plain logs) (MuxOf m.0) p.agree.entries)
    in let b : how_many (λ e. steers_at k m.0 e.what) (named (plain logs) (MuxOf m.0))
    ≤ how_many (λ e. steers_at k m.0 e.what) (gathered (plain logs)) =
    named_fewer (λ e. steers_at k m.0 e.what) (plain logs) (MuxOf m.0)
    in let c : how_many (λ e. steers_at k m.0 e.what) (gathered (plain logs))
    ≡ many (λ n. steers_at k m.0 n.event.what) (all_notes logs) =
    ap (λ (x : List Event). how_many (λ e. steers_at k m.0 e.what) x) (sym (events_gathered logs))
    ∙ how_many_notes (steers_at k m.0) (all_notes logs)
    in let d : many (λ n. steers_at k m.0 n.event.what) (all_notes logs)
    ≤ many (λ y. steers_packet y.event.what k && eqb y.seat (suc m.0)) (all_notes logs) =
    total_most (λ n. one_if (steers_at k m.0 n.event.what))
    (λ y. one_if (steers_packet y.event.what k && eqb y.seat (suc m.0))) (all_notes logs)
    (each_so (λ n. IsDone R F stage logs controller carriers n.seat n)
    (λ n. one_if (steers_at k m.0 n.event.what) ≤ one_if (steers_packet n.event.what k && eqb n.seat (suc m.0)))
    (all_notes logs)
    (λ n done. by_seat R F stage logs controller carriers k m.0 n n.event.what refl done)
    (all_joined (λ n. IsDone R F stage logs controller carriers n.seat n) logs
    (all_by_seat (IsDone R F stage logs controller carriers) stage logs (controller ∷ carriers) p.seated
    (all_done R F stage logs controller carriers p))))
    in omega arith

turned : (t b : Bool) → cond b (one_if t) 0 ≡ one_if (t && b)
turned true true = refl
turned true false = refl
turned false true = refl
turned false false = refl

-- what a worker's own notes steer, it steered
steered_own : (logs : List NotedLog) (controller : List Note) (carriers : List (List Note))
    → AreShared logs controller carriers → (m k : ℕ)
    → 1 ≤ many (λ y. steers_packet y.event.what k) (notes_by carriers m)
    → IsSteeredBy (all_notes logs) k (suc m)
steered_own logs controller carriers s m k h =
    let f : Note → ℕ = λ y. one_if (steers_packet y.event.what k)
    in let same : total (of_seat (suc m) f) (all_notes logs) ≡ total f (notes_by carriers m) = s.seat (suc m) f
    in let is : total (of_seat (suc m) f) (all_notes logs)
    ≡ many (λ y. steers_packet y.event.what k && eqb y.seat (suc m)) (all_notes logs) =
    total_same (of_seat (suc m) f) (λ y. one_if (steers_packet y.event.what k && eqb y.seat (suc m))) (all_notes logs)
    (each_always (λ y. of_seat (suc m) f y ≡ one_if (steers_packet y.event.what k && eqb y.seat (suc m)))
    (λ y. turned (steers_packet y.event.what k) (eqb y.seat (suc m))) (all_notes logs))
    in omega arith

known_of : (R : Routes) (F : Rules) (stage : Stage) (logs : List NotedLog) (controller : List Note)
    (carriers : List (List Note)) → AreShared logs controller carriers → (n : Note) (seat : ℕ) (what : What)
    → n.event.what ≡ what
    → n.seat ≡ seat → IsDone R F stage logs controller carriers seat n → IsKnown (all_notes logs) n what
known_of R F stage logs controller carriers s n zero (Arrive k hop server verdict) is at done =
    let bad : is_command (Arrive k hop server verdict) ≡ true =
    subst (λ (w : What). is_command w ≡ true) is done.kind in absurd (cc)
known_of R F stage logs controller carriers s n (suc m) (Arrive k hop server verdict) is at done =
    let has_sending : HasSending (notes_by carriers m) n (Arrive k hop server verdict) =
    subst (λ (w : What). HasSending (notes_by carriers m) n w) is done.has_sending
    in subst (λ (w : ℕ). IsSteeredBy (all_notes logs) k w) (sym at)
    (steered_own logs controller carriers s m k has_sending.0)
known_of R F stage logs controller carriers s n seat (Publish v) is at done = tt
known_of R F stage logs controller carriers s n seat (Switch m v) is at done = tt
known_of R F stage logs controller carriers s n seat (Steer k m) is at done = tt
known_of R F stage logs controller carriers s n seat (Lose k hop) is at done = tt
known_of R F stage logs controller carriers s n seat (Close server flow closed) is at done = tt
known_of R F stage logs controller carriers s n seat (Retire server h m result) is at done = tt
known_of R F stage logs controller carriers s n seat Sync is at done = tt

-- WHAT IS TOLD

due_by : (k own clock due : ℕ) (hop : Hop) (x : List Note) → clock ≡ next_clock own due
    → many (is_due_at k hop due) x ≤ many (is_due_by k hop own clock) x
due_by k own clock due hop x is =
    total_most (λ y. one_if (is_due_at k hop due y)) (λ y. one_if (is_due_by k hop own clock y)) x
    (each_always (λ y. one_if (is_due_at k hop due y) ≤ one_if (is_due_by k hop own clock y))
    (λ y. one (sends y.event.what k hop) due (y.event.clock.0 + y.fate.delay) is) x) where
      one : (t : Bool) (d e : ℕ) → clock ≡ next_clock own d
          → one_if (t && eqb d e) ≤ one_if (t && eqb clock (next_clock own e))
      one false d e at = omega arith
      one true d e at = elim (cases_Bool (eqb d e)) [
        | inl same ↦
            let is : d ≡ e = eqb-true _ _ same
            in let yes : eqb clock (next_clock own e) ≡ true = eq-eqb _ _ (at ∙ ap (λ (j : ℕ). next_clock own j) is)
            in rw (same, yes) (omega arith)
        | inr not ↦ rw not (omega arith)
      ]

pub record AreTelling (R : Routes) (F : Rules) (stage : Stage) (logs : List NotedLog) (controller : List Note)
    (carriers : List (List Note)) : Type 0 where
  pub shared : AreShared logs controller carriers
  pub once : (k : ℕ) → many (λ y. steers_packet y.event.what k) (all_notes logs) ≤ 1
  pub labelled : (m : MuxId) (k : ℕ) → is_some (label_of stage (named (plain logs) (MuxOf m.0)) k) ≡ true
      → IsSteeredBy (all_notes logs) k (suc m.0)

-- what stands in a log beside the others of it
pub record IsBeside (R : Routes) (F : Rules) (stage : Stage) (logs : List NotedLog) (controller : List Note)
    (carriers : List (List Note)) (rest : List Note) (n : Note) : Type 0 where
  pub given : IsGiven stage (plain logs) rest (last_own stage (events_of rest) (actor_of stage n.event.what)) n
      n.event.what
  pub met : IsMet stage (all_notes logs) (events_of rest) n n.event.what
  pub actor : Actor
  pub entry : IsEntry stage (plain logs) actor (events_of rest) n.event
  pub done : IsDone R F stage logs controller carriers n.seat n
  pub known : IsKnown (all_notes logs) n n.event.what
  pub others : AllByRecursion (λ y. IsKnown (all_notes logs) y y.event.what) rest

-- what agreement says of a Publish
abbrev IsVersion : Stage → List Note → What → Type 0
IsVersion stage rest what = IsNextVersion stage (events_of rest) what

promised_command : (R : Routes) (F : Rules) (stage : Stage) (logs : List NotedLog) (controller : List Note)
    (carriers : List (List Note)) (rest : List Note) (n : Note) (own : ℕ) (what : What)
    → AreTelling R F stage logs controller carriers → IsVersion stage rest what
    → IsGiven stage (plain logs) rest own n what → IsMet stage (all_notes logs) (events_of rest) n what
    → IsMeant stage controller n what
    → IsPromised stage (plain logs) (all_notes logs) (events_of rest) n.command own n.event.clock.0 what
promised_command R F stage logs controller carriers rest n own (Publish v) t may given met m =
    let top = tops_by_controller logs controller carriers t.shared n.command
    in let before : newest (events_of rest) ≡ m.0 =
    (let a : v.0 ≡ suc (newest (events_of rest)) = may.0 in let b : v.0 ≡ suc m.0 = m.1 in omega arith)
    in rw (top, before) m.2
promised_command R F stage logs controller carriers rest n own (Close server flow closed) t may given met m =
    let top = tops_by_controller logs controller carriers t.shared n.command
    in rw top (given ∙ ap (λ (d : ℕ). next_clock own d) m.0)
promised_command R F stage logs controller carriers rest n own (Retire server h at result) t may given met m =
    let top = tops_by_controller logs controller carriers t.shared n.command
    in (rw top m.0, given)
promised_command R F stage logs controller carriers rest n own Sync t may given met m = met
promised_command R F stage logs controller carriers rest n own (Switch k v) t may given met m = absurd m
promised_command R F stage logs controller carriers rest n own (Steer k v) t may given met m = absurd m
promised_command R F stage logs controller carriers rest n own (Lose k hop) t may given met m = absurd m
promised_command R F stage logs controller carriers rest n own (Arrive k hop server verdict) t may given met m =
    absurd m

promised_carried : (R : Routes) (F : Rules) (stage : Stage) (logs : List NotedLog) (controller : List Note)
    (carriers : List (List Note)) (rest : List Note) (n : Note) (own m : ℕ) (what : What)
    → AreTelling R F stage logs controller carriers → IsGiven stage (plain logs) rest own n what
    → carries m what ≡ true → HasSending (notes_by carriers m) n what → IsKnown (all_notes logs) n what
    → AllByRecursion (λ y. IsKnown (all_notes logs) y y.event.what) rest
    → IsPromised stage (plain logs) (all_notes logs) (events_of rest) n.command own n.event.clock.0 what
promised_carried R F stage logs controller carriers rest n own m (Switch k v) t given kind has_sending known others = given
promised_carried R F stage logs controller carriers rest n own m (Steer k v) t given kind has_sending known others = given
promised_carried R F stage logs controller carriers rest n own m (Lose k hop) t given kind has_sending known others = tt
promised_carried R F stage logs controller carriers rest n own m (Arrive k hop server verdict) t given kind has_sending
    known others =
    let due : many (is_due_at k hop n.due) (notes_by carriers m) ≤ many (is_due_at k hop n.due) (all_notes logs) =
    seat_most logs controller carriers t.shared m (λ y. one_if (is_due_at k hop n.due y))
    in let by : many (is_due_at k hop n.due) (all_notes logs)
    ≤ many (is_due_by k hop own n.event.clock.0) (all_notes logs) =
    due_by k own n.event.clock.0 n.due hop (all_notes logs) given.0
    in (
      in_order stage (plain logs) (all_notes logs) rest k server n.seat t.once t.labelled others known given.1,
      omega (arith, has_sending.1),
    )
promised_carried R F stage logs controller carriers rest n own m (Publish v) t given kind has_sending known others =
    absurd (cc)
promised_carried R F stage logs controller carriers rest n own m (Close server flow closed) t given kind has_sending known
    others = absurd (cc)
promised_carried R F stage logs controller carriers rest n own m (Retire server h at result) t given kind has_sending known
    others = absurd (cc)
promised_carried R F stage logs controller carriers rest n own m Sync t given kind has_sending known others = absurd (cc)

told_done : (R : Routes) (F : Rules) (stage : Stage) (logs : List NotedLog) (controller : List Note)
    (carriers : List (List Note)) (rest : List Note) (n : Note) (seat : ℕ)
    → AreTelling R F stage logs controller carriers
    → IsBeside R F stage logs controller carriers rest n → IsDone R F stage logs controller carriers seat n
    → IsTold R F stage (plain logs) (all_notes logs) (events_of rest) n
told_done R F stage logs controller carriers rest n zero t b d =
    let none = command_carries_none R stage n.event.what d.kind
    in let late : Note → ℕ = λ y. one_if (is_earlier n.command y && leb n.event.clock.0 y.event.clock.0)
    in record {
      command = d.command;
      order = λ is. by_controller logs controller carriers t.shared late (λ y h. rw h refl) ∙ d.order;
      phase = (let no = none.packet in rw no tt);
      timed =
          promised_command R F stage logs controller carriers rest n _ n.event.what t b.entry.version b.given b.met
          d.meant;
      routed = none.routed;
      fate = (let no = none.sending in rw no tt);
    }
told_done R F stage logs controller carriers rest n (suc m) t b d =
    let not : is_command n.event.what ≡ false = carried_no_command m n.event.what d.kind
    in record {
      command = free (slice_get stage.script.commands n.command) [] n.event.what not;
      order = λ is. absurd (let bad : true ≡ false = sym is ∙ not in cc);
      phase = d.phase;
      timed =
          promised_carried R F stage logs controller carriers rest n _ m n.event.what t b.given d.kind d.has_sending b.known
          b.others;
      routed = d.routed;
      fate = d.fate;
    }

all_beside : (R : Routes) (F : Rules) (stage : Stage) (logs : List NotedLog) (controller : List Note)
    (carriers : List (List Note)) (a : Actor) (notes : List Note) → AreShared logs controller carriers
    → AtEach (λ rest n. IsGiven stage (plain logs) rest
    (last_own stage (events_of rest) (actor_of stage n.event.what)) n n.event.what) notes
    → AtEach (λ rest n. IsMet stage (all_notes logs) (events_of rest) n n.event.what) notes
    → AtEach (IsEntry stage (plain logs) a) (events_of notes)
    → AllByRecursion (λ n. IsDone R F stage logs controller carriers n.seat n) notes
    → AtEach (IsBeside R F stage logs controller carriers) notes
    × AllByRecursion (λ y. IsKnown (all_notes logs) y y.event.what) notes
all_beside R F stage logs controller carriers a [] s given met entries done = (tt, tt)
all_beside R F stage logs controller carriers a (n ∷ notes) s given met entries done =
    let old = all_beside R F stage logs controller carriers a notes s given.1 met.1 entries.1 done.1
    in let known = known_of R F stage logs controller carriers s n n.seat n.event.what refl refl done.0
    in (
      (
        record {
          given = given.0;
          met = met.0;
          actor = a;
          entry = entries.0;
          done = done.0;
          known = known;
          others = old.1;
        },
        old.0,
      ),
      (known, old.1),
    )

told_log : (R : Routes) (F : Rules) (stage : Stage) (logs : List NotedLog) (controller : List Note)
    (carriers : List (List Note)) (notes : List Note) → AreTelling R F stage logs controller carriers
    → AtEach (IsBeside R F stage logs controller carriers) notes
    → AtEach (λ rest n. IsTold R F stage (plain logs) (all_notes logs) (events_of rest) n) notes
told_log R F stage logs controller carriers [] t each = tt
told_log R F stage logs controller carriers (n ∷ notes) t each = (
  told_done R F stage logs controller carriers notes n n.seat t each.0 each.0.done,
  told_log R F stage logs
      controller carriers notes t each.1,
)

told_logs : (R : Routes) (F : Rules) (stage : Stage) (logs some : List NotedLog) (controller : List Note)
    (carriers : List (List Note)) → AreTelling R F stage logs controller carriers
    → AllByRecursion
    (λ l. AtEach
    (λ rest n. IsGiven stage (plain logs) rest (last_own stage (events_of rest) (actor_of stage n.event.what)) n
    n.event.what) l.notes) some
    → AllByRecursion (λ l. AtEach (λ rest n. IsMet stage (all_notes logs) (events_of rest) n n.event.what) l.notes)
    some
    → AllByRecursion (λ l. AtEach (λ rest e. IsEntry stage (plain logs) l.actor rest e) l.events) (plain some)
    → AllByRecursion (λ l. AllByRecursion (λ n. IsDone R F stage logs controller carriers n.seat n) l.notes) some
    → AllByRecursion
    (λ l. AtEach (λ rest n. IsTold R F stage (plain logs) (all_notes logs) (events_of rest) n) l.notes) some
told_logs R F stage logs [] controller carriers t given met entries done = tt
told_logs R F stage logs (l ∷ some) controller carriers t given met entries done = (
  told_log R F stage logs controller carriers l.notes t
      (all_beside R F stage logs controller carriers l.actor l.notes t.shared given.0 met.0 entries.0 done.0).0,
  told_logs R F stage logs some controller carriers t given.1 met.1 entries.1 done.1,
)

-- TOGETHER

all_same_part : (i : ℕ) (x : List Note) → AllByRecursion (λ n. is_command n.event.what ≡ true) x
    → many (is_part i) x ≡ many (λ n. eqb n.command i) x
all_same_part i [] all = refl
all_same_part i (n ∷ x) all = let is = all.0 in let old = all_same_part i x all.1 in rw is (omega arith)

at_most_one : (b : Bool) → one_if b ≤ 1
at_most_one true = omega arith
at_most_one false = omega arith

-- where each log and each worker keeps its promises, they are kept together
pub promises_kept : (R : Routes) (F : Rules) (stage : Stage) (logs : List NotedLog) (controller : List Note)
    (carriers : List (List Note)) → ArePromises R F stage logs controller carriers → ArePromised R F stage logs
promises_kept R F stage logs controller carriers p =
    let s = are_shared R F stage logs controller carriers p
    in let steered : (k : ℕ)
    → many (λ n. steers_packet n.event.what k) (all_notes logs) ≡ cond (is_some (segment_of stage k)) 1 0 =
    λ k. by_carriers logs controller carriers s (λ n. one_if (steers_packet n.event.what k))
    (λ n h. let none = (command_carries_none R stage n.event.what h).steers k in rw none refl) ∙ p.steered k
    in let t : AreTelling R F stage logs controller carriers = record {
      shared = s;
      once = λ k. let is = steered k in let few = at_most_one (is_some (segment_of stage k)) in omega arith;
      labelled = λ m k h. labelled_by R F stage logs controller carriers p m k h;
    }
    in record {
      agree = p.agree;
      told = told_logs R F stage logs logs controller carriers t p.given p.met p.agree.entries
          (all_by_seat (IsDone R F stage logs controller carriers) stage logs (controller ∷ carriers) p.seated
          (all_done R F stage logs controller carriers p));
      steered = steered;
      lost = λ k hop clock.
          by_carriers logs controller carriers s
          (λ n. one_if (loses n.event.what k hop && eqb n.event.clock.0 (suc clock)))
          (λ n h. let none = (command_carries_none R stage n.event.what h).loses k hop in rw none refl)
          ∙ carriers_equal _ _ carriers (λ m low. (p.carried m low).lost k hop clock)
          ∙ sym (by_carriers logs controller carriers s
          (λ n. one_if (sends n.event.what k hop && (eqb n.fate.copies 0 && eqb n.event.clock.0 clock)))
          (λ n h. let none = (command_carries_none R stage n.event.what h).sends k hop in rw none refl));
      sent = λ k hop clock.
          let a =
          by_carriers logs controller carriers s
          (λ n. one_if (arrives n.event.what k hop && leb n.event.clock.0 clock))
          (λ n h. let none = (command_carries_none R stage n.event.what h).arrives k hop in rw none refl)
          in let b =
          by_carriers logs controller carriers s
          (λ n. cond (sends n.event.what k hop && ltb n.event.clock.0 clock) n.fate.copies 0)
          (λ n h. let none = (command_carries_none R stage n.event.what h).sends k hop in rw none refl)
          in let c =
          carriers_most (λ n. one_if (arrives n.event.what k hop && leb n.event.clock.0 clock))
          (λ n. cond (sends n.event.what k hop && ltb n.event.clock.0 clock) n.fate.copies 0) carriers
          (λ m low. (p.carried m low).sent k hop clock)
          in omega arith;
      arrived = λ k hop.
          by_carriers logs controller carriers s (λ n. one_if (arrives n.event.what k hop))
          (λ n h. let none = (command_carries_none R stage n.event.what h).arrives k hop in rw none refl)
          ∙ carriers_equal _ _ carriers (λ m low. (p.carried m low).arrived k hop)
          ∙ sym (by_carriers logs controller carriers s (λ n. cond (sends n.event.what k hop) n.fate.copies 0)
          (λ n h. let none = (command_carries_none R stage n.event.what h).sends k hop in rw none refl));
      complete = λ i low.
          by_controller logs controller carriers s (λ n. one_if (is_part i n)) (λ n h. rw h refl)
          ∙ all_same_part i controller s.commands
          ∙ p.controls.complete i low;
      shards = λ i h.
          let a =
          by_controller logs controller carriers s (λ n. one_if (is_part i n && eqb (mark_of n.event.what) h))
          (λ n c. rw c refl)
          in let b = once_each stage i h controller p.controls.each
          in omega arith;
      changes = p.changes;
      closes = λ c f.
          by_controller logs controller carriers s (λ n. one_if (acc.closes_flow n.event.what c f))
          (λ n h. let none = (no_command_of n.event.what h).0 c f in rw none refl) ∙ p.controls.closes c f;
      retires = λ c h low.
          by_controller logs controller carriers s (λ n. one_if (acc.retires_shard n.event.what c h))
          (λ n is. let none = (no_command_of n.event.what is).1 c h in rw none refl) ∙ p.controls.retires c h low;
      no_other = λ c h over.
          by_controller logs controller carriers s (λ n. one_if (acc.retires_shard n.event.what c h))
          (λ n is. let none = (no_command_of n.event.what is).1 c h in rw none refl)
          ∙ p.controls.no_other c h over;
      syncs =
          by_controller logs controller carriers s (λ n. one_if (is_sync n.event.what))
          (λ n is. let none = (no_command_of n.event.what is).2 in rw none refl) ∙ p.controls.syncs;
      looked = p.looked;
    }

-- logs whose workers keep their promises merge to a threaded run
pub workers_law : (R : Routes) (F : Rules) (h : History) (logs : List NotedLog) (controller : List Note)
    (carriers : List (List Note)) → ArePromises R F h.stage logs controller carriers
    → h.events ≡ reverse (merged (plain logs)) → IsThreadedRun R F h
workers_law R F h logs controller carriers p is =
    threaded_law R F h logs (promises_kept R F h.stage logs controller carriers p) is

-- the same of the logs as the program has them, the oldest event first
pub joined_run : (R : Routes) (F : Rules) (h : History) (logs : List NotedLog) (lists : List (List Event))
    (controller : List Note) (carriers : List (List Note)) → ArePromises R F h.stage logs controller carriers
    → AreLogs (plain logs) lists → h.events ≡ reverse (by_clock (reverse (joined lists))) → IsThreadedRun R F h
joined_run R F h logs lists controller carriers p are is =
    workers_law R F h logs controller carriers p
    (is ∙ ap (λ (l : List Event). reverse (by_clock l)) (sym (gathered_joined (plain logs) lists are)))
