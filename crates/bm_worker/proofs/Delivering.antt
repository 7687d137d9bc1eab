-- The packets of a batch, one after the other.
use Rattle.std.proofs.Common.{◌≡◌, ℕ, zero, suc, ◌+◌, ◌*◌, ◌<◌, ◌≤◌, true, List, [], ◌∷◌, ◌++◌}
use Rattle.std.proofs.Common.{length, map, take, get_or}
use Rattle.std.proofs.Common.{slice_get, Some, None, Result, Ok, Err, refl, sym, ap, ◌∙◌, subst, append_assoc}
use Rattle.std.proofs.Common.{arith}
use Rattle.std.specs.Prelude.{All, IsErrAnd}
use Rattle.std.specs.List.{AllByRecursion}
use Rattle.std.proofs.lemmas.List.{length-append}
use Rattle.std.proofs.lemmas.Option.{same_Some, slice_get-get_or}
use Rattle.bm_base.specs.declared.fate.Fate.{Fate}
use Rattle.bm_base.specs.declared.ids.Moment.{Moment}
use Rattle.bm_base.specs.declared.ids.MuxId.{MuxId}
use Rattle.bm_base.specs.declared.label.Hop.TheVariants.{Direct}
use Rattle.bm_base.specs.declared.label.Tag.{Tag}
use Rattle.bm_core.specs.declared.events.Stage.{Stage}
use Rattle.bm_core.specs.declared.events.What.{What}
use Rattle.bm_core.specs.declared.events.What.TheVariants.{Publish, Switch, Steer, Lose, Arrive, Close, Retire, Sync}
use Rattle.bm_core.specs.Accounts.{Rules, steers_packet}
use Rattle.bm_merge.specs.Notes.{Note}
use Rattle.bm_merge.proofs.Noting.{each_append, each_so, total_append}
use Rattle.bm_mux.specs.declared.item.Steered.{Steered}
use Rattle.bm_mux.specs.Muxes.{MuxState}
use Rattle.bm_server.specs.Servings.{Serving}
use Rattle.bm_worker.specs.declared.stop.Stop.{Stop}
use Rattle.bm_worker.specs.declared.worker.MuxWorker.{MuxWorker}
use Rattle.bm_worker.specs.Inside.Batches.{HaveSendings, Delivers, IsDelivery, HasSending, IsSent, CompletesAll, last_sent}
use Rattle.bm_worker.specs.Inside.Batches.{sent_notes}
use Rattle.bm_worker.specs.Inside.Batches.{steering}
use Rattle.bm_worker.specs.WorkerNotes.{HasServer}
use Rattle.bm_worker.specs.Inside.Pending.{Carries, Pending, GrowsByLosses, IsCopyOf, IsOf, IsUpTo, AwaitsCopies, Completes, comes}
use Rattle.bm_worker.specs.Inside.Pending.{comes_by}
use Rattle.bm_worker.specs.Inside.Pending.{copyless_at, pending, gives, gives_by, lost_at}
use Rattle.bm_worker.specs.Phases.{IsStopOf, Kept, Task, mux_for}
use Rattle.bm_worker.specs.Callers.{CallerState}
use Rattle.bm_worker.specs.SeatCalls.{calls_there}
use Rattle.bm_turnstile.specs.Sittings.{who}
use Rattle.bm_worker.proofs.Carrying.{ended}
use Rattle.bm_worker.proofs.Keeping.{more_many}
use Rattle.bm_worker.proofs.Labels.{label_kept}
use Rattle.bm_worker.proofs.Steps.{among_more, kept_no_call}

-- SUMS

pub completes_all_none : CompletesAll [] []
completes_all_none = record { lost = λ k hop c. refl; sent = λ k hop c. omega arith; arrived = λ k hop. refl }

completes_all_more : (clock : Moment) (k : ℕ) (m : MuxId) (fate : Fate) (w : ℕ) (s x y : List Note) → CompletesAll s x
    → Completes true (pending k Direct clock.0 fate) y
    → CompletesAll (steering clock k m fate w ∷ s) (y ++ x)
completes_all_more clock k m fate w s x y p q = record {
  lost = λ j hop c.
      let a = total_append (lost_at j hop c) y x in let b = total_append (copyless_at j hop c) y x in
      let one = p.lost j hop c in let two = q.lost j hop c in omega arith;
  sent = λ j hop c.
      let a = total_append (comes_by j hop c) y x in let b = total_append (gives_by j hop c) y x in
      let one = p.sent j hop c in let two = q.sent j hop c in omega arith;
  arrived = λ j hop.
      let a = total_append (comes j hop) y x in let b = total_append (gives j hop) y x in
      let one = p.arrived j hop in let two = q.arrived j hop in omega arith;
}

-- WHAT HAS A SENDING

-- the packet at a place, and those before it
has_sending_at : (task : Task) (d : List Note) (low : ℕ) (sents : List Steered) (fates : List Fate) (i : ℕ) (t : Steered)
    (f : Fate)
    → HaveSendings task d low sents fates → slice_get sents i ≡ Some t → slice_get fates i ≡ Some f
    → (low ≤ last_sent low (take i sents)) × (last_sent low (take i sents) < t.packet)
    × (last_sent low (take (suc i) sents) ≡ t.packet)
    × HasSending task d (pending t.packet Direct t.clock.0 f)
has_sending_at task d low [] fates i t f has_sending at fate = absurd (let bad : None ≡ Some t = at in cc)
has_sending_at task d low (x ∷ sents) [] i t f has_sending at fate = absurd has_sending
has_sending_at task d low (x ∷ sents) (g ∷ fates) zero t f has_sending at fate =
    let same : x ≡ t = same_Some x t at in let drawn : g ≡ f = same_Some g f fate in (
      omega arith,
      subst (λ (z : Steered). low < z.packet) same has_sending.0,
      ap (λ (z : Steered). z.packet) same,
      subst (λ (z : Steered). HasSending task d (pending z.packet Direct z.clock.0 f)) same
          (subst (λ (z : Fate). HasSending task d (pending x.packet Direct x.clock.0 z)) drawn has_sending.1),
    )
has_sending_at task d low (x ∷ sents) (g ∷ fates) (suc i) t f has_sending at fate =
    let old = has_sending_at task d x.packet sents fates i t f has_sending.2 at fate in
    (let a = has_sending.0 in let b = old.0 in omega arith, old.1, old.2, old.3)

-- the notes of what was steered up to a place
notes_at : (m : MuxId) (sents : List Steered) (fates : List Fate) (i : ℕ) (t : Steered) (f : Fate)
    → slice_get sents i ≡ Some t → slice_get fates i ≡ Some f
    → sent_notes m (take (suc i) sents) (take (suc i) fates)
    ≡ steering t.clock t.packet m f (m.0 + 1) ∷ sent_notes m (take i sents) (take i fates)
notes_at m [] fates i t f at fate = absurd (let bad : None ≡ Some t = at in cc)
notes_at m (x ∷ sents) [] i t f at fate = absurd (let bad : None ≡ Some f = fate in cc)
notes_at m (x ∷ sents) (g ∷ fates) zero t f at fate =
    λ i. steering (same_Some x t at i).clock (same_Some x t at i).packet m (same_Some g f fate i) (m.0 + 1) ∷ []
notes_at m (x ∷ sents) (g ∷ fates) (suc i) t f at fate =
    ap (λ (l : List Note). l ++ steering x.clock x.packet m g (m.0 + 1) ∷ []) (notes_at m sents fates i t f at fate)

up_to_more : (a b : ℕ) (what : What) → a ≤ b → IsUpTo a what → IsUpTo b what
up_to_more a b (Arrive j hop server verdict) le is = omega (arith, le, is)
up_to_more a b (Lose j hop) le is = tt
up_to_more a b (Publish v) le is = tt
up_to_more a b (Switch y v) le is = tt
up_to_more a b (Steer j y) le is = tt
up_to_more a b (Close server flow closed) le is = tt
up_to_more a b (Retire server h at result) le is = tt
up_to_more a b Sync le is = tt

pub ups_to_more : (a b : ℕ) (x : List Note) → a ≤ b → AllByRecursion (λ y. IsUpTo a y.event.what) x
    → AllByRecursion (λ y. IsUpTo b y.event.what) x
ups_to_more a b x le all =
    each_so (λ y. IsUpTo a y.event.what) (λ y. IsUpTo b y.event.what) x (λ y is. up_to_more a b y.event.what le is) all

of_up_to : (k : ℕ) (what : What) → IsOf k what → IsUpTo k what
of_up_to k (Arrive j hop server verdict) is = omega (arith, is)
of_up_to k (Lose j hop) is = tt
of_up_to k (Publish v) is = tt
of_up_to k (Switch y v) is = tt
of_up_to k (Steer j y) is = tt
of_up_to k (Close server flow closed) is = tt
of_up_to k (Retire server h at result) is = tt
of_up_to k Sync is = tt

of_delivery : (k : ℕ) (what : What) → IsOf k what → IsDelivery what
of_delivery k (Arrive j hop server verdict) is = tt
of_delivery k (Lose j hop) is = tt
of_delivery k (Publish v) is = is
of_delivery k (Switch y v) is = is
of_delivery k (Steer j y) is = is
of_delivery k (Close server flow closed) is = is
of_delivery k (Retire server h at result) is = is
of_delivery k Sync is = is

awaits_now : (task : Task) (x d : List Note) (e : Pending) → HasSending task d e
    → AllByRecursion (λ y. IsUpTo e.packet y.event.what) (x ++ d) → AwaitsCopies task (x ++ d) e
awaits_now task x d e is first = record {
  note = is.note;
  among = among_more is.note x d is.among;
  sending = is.sending;
  clock = is.clock;
  fate = is.fate;
  steered = let a = is.steered in let le = more_many (λ y. steers_packet y.event.what e.packet) x d in omega arith;
  later = is.later;
  within = is.within;
  first = first;
}

-- THE LOOP

-- the first i packets are delivered
abbrev pub HasDelivered : Rules → Stage → List Serving → List Steered → List Fate → ℕ → MuxWorker → MuxWorker → Type 0
HasDelivered F stage servers sents fates i old now =
    (task : Task) (notes : List Note) (low : ℕ) → Kept F stage servers task old notes
    → HaveSendings task notes low sents fates → AllByRecursion (λ y. IsUpTo low y.event.what) notes
    → (x : List Note) × Kept F stage servers task now (x ++ notes) × (length x ≤ 39 * i)
    × AllByRecursion (λ y. IsDelivery y.event.what) x
    × CompletesAll (sent_notes (mux_for task) (take i sents) (take i fates)) x
    × AllByRecursion (λ y. IsUpTo (last_sent low (take i sents)) y.event.what) x

pub delivered_none : (F : Rules) (stage : Stage) (servers : List Serving) (sents : List Steered) (fates : List Fate)
    (w : MuxWorker)
    → HasDelivered F stage servers sents fates 0 w w
delivered_none F stage servers sents fates w =
    λ task notes low kept has_sending first. ([], kept, omega arith, tt, completes_all_none, tt)

-- the worker's count of steps is no part of the record
pub kept_steps : (F : Rules) (stage : Stage) (servers : List Serving) (task : Task) (now next : MuxWorker)
    (d : List Note) → next.mux ≡ now.mux → next.caller ≡ now.caller → Kept F stage servers task now d
    → Kept F stage servers task next d
kept_steps F stage servers task now next d mux caller kept =
    kept_no_call F stage servers task now next d mux (λ s h. ap (λ (p : CallerState). calls_there p.seats s h) caller)
    (ap (λ (p : CallerState). p.latest) caller)
    (record {
      number = ap (λ (p : CallerState). p.number) caller;
      who_is =
          ap (λ (p : CallerState). map (map who) p.seats) caller;
    }) kept

pub delivered_more : (F : Rules) (stage : Stage) (servers : List Serving) (sents : List Steered) (fates : List Fate)
    (i : ℕ) (t : Steered) (f : Fate)
    (old now step next : MuxWorker) → slice_get sents i ≡ Some t → slice_get fates i ≡ Some f → step.mux ≡ now.mux
    → step.caller ≡ now.caller
    → HasDelivered F stage servers sents fates i old now
    → Carries F stage servers (pending t.packet Direct t.clock.0 f) 39 step next (Ok tt)
    → HasDelivered F stage servers sents fates (i + 1) old next
delivered_more F stage servers sents fates i t f old now step next at fate mux caller done carries =
    λ task notes low kept has_sending first.
    let o = done task notes low kept has_sending first in let x = o.0 in
    let here = has_sending_at task notes low sents fates i t f has_sending at fate in
    let m = mux_for task in
    let ups = each_append (λ y. IsUpTo t.packet y.event.what) x notes
    (ups_to_more (last_sent low (take i sents)) t.packet x (let lt = here.1 in omega (arith, lt)) o.5)
    (ups_to_more low t.packet notes (let le = here.0 in let lt = here.1 in omega (arith, le, lt)) first) in
    let c = carries task (x ++ notes) (kept_steps F stage servers task now step (x ++ notes) mux caller o.1)
    (awaits_now task x notes (pending t.packet Direct t.clock.0 f) here.3 ups) in
    let y = c.0 in
    let next_place : i + 1 ≡ suc i = omega arith in (
      y ++ x,
      subst (λ (l : List Note). Kept F stage servers task next l) (sym (append_assoc y x notes)) c.1.kept,
      (let e = length-append y x in let a = c.1.few in let b = o.2 in omega arith),
      each_append (λ n. IsDelivery n.event.what) y x
          (each_so (λ n. IsOf t.packet n.event.what) (λ n. IsDelivery n.event.what) y
          (λ n is. of_delivery t.packet n.event.what is) c.1.packets) o.3,
      subst (λ (j : ℕ). CompletesAll (sent_notes m (take j sents) (take j fates)) (y ++ x)) (sym next_place)
          (subst (λ (l : List Note). CompletesAll l (y ++ x)) (sym (notes_at m sents fates i t f at fate))
          (completes_all_more t.clock t.packet m f (m.0 + 1) (sent_notes m (take i sents) (take i fates)) x y o.4 c.2)),
      subst (λ (j : ℕ). AllByRecursion (λ n. IsUpTo (last_sent low (take j sents)) n.event.what) (y ++ x))
          (sym next_place)
          (subst (λ (k : ℕ). AllByRecursion (λ n. IsUpTo k n.event.what) (y ++ x)) (sym here.2)
          (each_append (λ n. IsUpTo t.packet n.event.what) y x
          (each_so (λ n. IsOf t.packet n.event.what) (λ n. IsUpTo t.packet n.event.what) y
          (λ n is. of_up_to t.packet n.event.what is) c.1.packets)
          (ups_to_more (last_sent low (take i sents)) t.packet x (let lt = here.1 in omega (arith, lt)) o.5))),
    )

-- the worker gave up at a packet
pub delivers_stop : (F : Rules) (stage : Stage) (servers : List Serving) (sents : List Steered) (fates : List Fate)
    (i : ℕ) (t : Steered) (f : Fate)
    (old now step next : MuxWorker) (stop : Stop) (r : Result (Unit {0}) Stop) → i < length sents
    → slice_get sents i ≡ Some t → slice_get fates i ≡ Some f
    → step.mux ≡ now.mux → step.caller ≡ now.caller → IsErrAnd r (λ e. e ≡ stop)
    → HasDelivered F stage servers sents fates i old now
    → Carries F stage servers (pending t.packet Direct t.clock.0 f) 39 step next (Err stop)
    → Delivers F stage servers sents fates old next r
delivers_stop F stage servers sents fates i t f old now step next stop r inside at fate mux caller is done carries =
    λ task notes low kept has_sending first.
    let o = done task notes low kept has_sending first in let x = o.0 in
    let here = has_sending_at task notes low sents fates i t f has_sending at fate in
    let m = mux_for task in
    let ups = each_append (λ y. IsUpTo t.packet y.event.what) x notes
    (ups_to_more (last_sent low (take i sents)) t.packet x (let lt = here.1 in omega (arith, lt)) o.5)
    (ups_to_more low t.packet notes (let le = here.0 in let lt = here.1 in omega (arith, le, lt)) first) in
    let c = carries task (x ++ notes) (kept_steps F stage servers task now step (x ++ notes) mux caller o.1)
    (awaits_now task x notes (pending t.packet Direct t.clock.0 f) here.3 ups) in
    let y = c.0 in
    let all : (y ++ x) ++ notes ≡ y ++ (x ++ notes) = append_assoc y x notes in (
      y ++ x,
      subst (λ (l : List Note). Kept F stage servers task next l) (sym all) c.1.kept,
      (let e = length-append y x in let a = c.1.few in let b = o.2 in omega (arith, e, a, b, inside)),
      each_append (λ n. IsDelivery n.event.what) y x
          (each_so (λ n. IsOf t.packet n.event.what) (λ n. IsDelivery n.event.what) y
          (λ n is. of_delivery t.packet n.event.what is) c.1.packets) o.3,
      ended (λ _. CompletesAll (sent_notes m sents fates) (y ++ x)
          × AllByRecursion (λ n. IsUpTo (last_sent low sents) n.event.what) (y ++ x))
          (λ e. e ≡ stop) (λ e. IsStopOf ((y ++ x) ++ notes) e) r is
          (λ e same. subst (λ (z : Stop). IsStopOf ((y ++ x) ++ notes) z) (sym same)
          (subst (λ (l : List Note). IsStopOf l stop) (sym all) c.2)),
    )

take_all : {X : Type 0} (xs : List X) → take (length xs) xs ≡ xs
take_all [] = refl
take_all (x ∷ xs) = ap (λ l. x ∷ l) (take_all xs)

-- all are delivered
pub delivers_all : (F : Rules) (stage : Stage) (servers : List Serving) (sents : List Steered) (fates : List Fate)
    (i : ℕ) (old now : MuxWorker)
    → i ≡ length sents → length fates ≡ length sents → HasDelivered F stage servers sents fates i old now
    → Delivers F stage servers sents fates old now (Ok tt)
delivers_all F stage servers sents fates i old now all long done = λ task notes low kept has_sending first.
    let o = done task notes low kept has_sending first in let x = o.0 in
    let every : take i sents ≡ sents = ap (λ (n : ℕ). take n sents) all ∙ take_all sents in
    let each : take i fates ≡ fates = ap (λ (n : ℕ). take n fates) (all ∙ sym long) ∙ take_all fates in (
      x,
      o.1,
      (let b = o.2 in omega (arith, b, all)),
      o.3,
      (
        subst (λ (l : List Steered). CompletesAll (sent_notes (mux_for task) l fates) x) every
            (subst (λ (l : List Fate). CompletesAll (sent_notes (mux_for task) (take i sents) l) x) each o.4),
        subst (λ (l : List Steered). AllByRecursion (λ n. IsUpTo (last_sent low l) n.event.what) x) every o.5,
      ),
    )

-- THE COPIES

-- it goes on to the server of its tag
pub sent_copy : (stage : Stage) (servers : List Serving) (n : ℕ) (a b : MuxState) (t : Steered) (place : ℕ)
    → b.id ≡ a.id → GrowsByLosses n a.log b.log
    → IsSent stage servers a t
    → ((server : Serving) × (slice_get servers place ≡ Some server) × (server.id ≡ t.tag.dest))
    → IsCopyOf stage servers b place t.packet Direct t.octets
sent_copy stage servers n a b t place id grows sent at =
    let copy = sent.1 in
    record {
      segment = copy.segment;
      is_segment = copy.is_segment;
      label = copy.label;
      by = copy.by ∙ sym id;
      is_label = label_kept stage n a.log b.log t.packet grows ∙ copy.is_label;
      tag = copy.tag;
      tagged = copy.tagged;
      valid = copy.valid;
      fits = copy.fits;
      inner = copy.inner;
      spelled = copy.spelled;
      reads = copy.reads;
      short = copy.short;
      server = at.0;
      is_server = at.1;
      mine = ap (λ (x : Tag). x.dest) sent.2 ∙ sym at.2;
    }

pub sent_server : (stage : Stage) (servers : List Serving) (mux : MuxState) (t : Steered) → IsSent stage servers mux t
    → HasServer servers t.tag.dest
sent_server stage servers mux t sent =
    (sent.0, sent.1.server, sent.1.is_server, sym sent.1.mine ∙ ap (λ (x : Tag). x.dest) sent.2)

pub each_at : {X : Type 0} (P : X → Type 0) (xs : List X) (i : ℕ) (x : X) → AllByRecursion P xs
    → slice_get xs i ≡ Some x → P x
each_at P [] i x all at = absurd (let bad : None ≡ Some x = at in cc)
each_at P (y ∷ xs) zero x all at = subst P (same_Some y x at) all.0
each_at P (y ∷ xs) (suc i) x all at = each_at P xs i x all.1 at

pub all_at : {X : Type 0} (P : X → Type 0) (xs : List X) (i : ℕ) (x : X) → All P xs → slice_get xs i ≡ Some x → P x
all_at P xs i x all at =
    let inside = place_of_item xs i x at in
    subst P (same_Some (get_or xs i x) x (sym (slice_get-get_or xs i x inside) ∙ at)) (all i x inside) where
      place_of_item : {X : Type 0} (xs : List X) (i : ℕ) (x : X) → slice_get xs i ≡ Some x → i < length xs
      place_of_item [] i x at = absurd (let bad : None ≡ Some x = at in cc)
      place_of_item (y ∷ xs) zero x at = omega arith
      place_of_item (y ∷ xs) (suc i) x at = let old = place_of_item xs i x at in omega arith
