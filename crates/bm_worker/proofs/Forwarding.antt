-- A copy that is forwarded, and the copies of a steered packet.
use Rattle.std.proofs.Common.{◌≡◌, ◌≢◌, ℕ, suc, ◌+◌, ◌<◌, ◌≤◌, max, true, false}
use Rattle.std.proofs.Common.{List, [], ◌∷◌, ◌++◌}
use Rattle.std.proofs.Common.{slice_get, reverse, Option, Some, None, Result, Ok, Err, refl, sym, ap, ◌∙◌, subst}
use Rattle.std.proofs.Common.{append_assoc, arith, option_map}
use Rattle.std.specs.Prelude.{IsErrAnd, IsOk, IfSome}
use Rattle.std.proofs.lemmas.Bool.{eq-eqb, and_from}
use Rattle.std.proofs.lemmas.List.{length-append}
use Rattle.bm_base.specs.declared.fate.Fate.{Fate}
use Rattle.bm_base.specs.declared.ids.Moment.{Moment}
use Rattle.bm_base.specs.declared.ids.ServerId.{ServerId}
use Rattle.bm_base.specs.declared.label.Entry.{Entry}
use Rattle.bm_base.specs.declared.label.Hop.{Hop}
use Rattle.bm_base.specs.declared.label.Hop.TheVariants.{Direct, Chained, Twice}
use Rattle.bm_base.specs.declared.label.Tag.{Tag}
use Rattle.bm_base.specs.Labels.{arrives_at, entry_of, hop_after, onward, server_of}
use Rattle.bm_base.proofs.Entries.{onward_by_label, stops_there, tag_passed, tag_turned}
use Rattle.bm_base.proofs.Hops.{has_past, same_hop_refl}
use Rattle.bm_encap.specs.declared.fault.EncapFault.{EncapFault}
use Rattle.bm_encap.specs.Faults.{chained, chained_from, next_hop, spelling_of}
use Rattle.bm_encap.specs.Spellings.{spelling}
use Rattle.bm_encap.proofs.Spelled.{spelling_read}
use Rattle.bm_core.specs.Inside.Weights.{hop_weight}
use Rattle.bm_core.specs.declared.events.Stage.{Stage}
use Rattle.bm_core.specs.declared.events.Verdict.{Verdict}
use Rattle.bm_core.specs.declared.events.Verdict.TheVariants.{Accept, Process, Forward, Reset, Drop}
use Rattle.bm_core.specs.declared.events.What.TheVariants.{Arrive}
use Rattle.bm_core.specs.Accounts.{Rules, steers_packet}
use Rattle.bm_core.specs.Past.{Sending, is_forward, is_sending, sending_of}
use Rattle.bm_core.specs.Stages.{IsSound}
use Rattle.bm_merge.specs.Notes.{Note}
use Rattle.bm_merge.proofs.Noting.{each_append}
use Rattle.bm_mux.specs.Muxes.{MuxState}
use Rattle.bm_server.specs.Servings.{Serving}
use Rattle.bm_worker.specs.declared.stop.Stop.{Stop}
use Rattle.bm_worker.specs.declared.stop.Stop.TheVariants.{Memory}
use Rattle.bm_worker.specs.declared.worker.MuxWorker.{MuxWorker}
use Rattle.bm_worker.specs.Arrivals.{HasCome, IsCopy}
use Rattle.bm_worker.specs.WorkerNotes.{HasServer, IsSameCaller, AreServersOf, no_fate}
use Rattle.bm_worker.specs.Inside.WorkerNotes.{arrival}
use Rattle.bm_worker.specs.Inside.Pending.{Carries, CarriesOne, Pending, HasCarried, IsCopyOf, IsForwarded, IsOf}
use Rattle.bm_worker.specs.Inside.Pending.{AwaitsCopies, Completes}
use Rattle.bm_worker.specs.Inside.Pending.{pending, most_tries, with_copies}
use Rattle.bm_worker.specs.Phases.{IsStopOf, Kept, Task, mux_for}
use Rattle.bm_worker.specs.SeatCalls.{AddsNoCall}
use Rattle.bm_worker.proofs.Carrying.{answered, ended, stop_of_memory}
use Rattle.bm_worker.proofs.Copying.{copy_reads, tag_hop}
use Rattle.bm_worker.proofs.Keeping.{more_many}
use Rattle.bm_worker.proofs.Known.{known_stop}
use Rattle.bm_worker.proofs.Labels.{label_entry}
use Rattle.bm_worker.proofs.Completing.{completes_forward, completes_more, completes_one}
use Rattle.bm_worker.proofs.Steps.{kept_arrival, kept_no_call, copies_left_more}

-- THE OCTETS

pub turns_to : (stage : Stage) (servers : List Serving) (mux : MuxState) (place k : ℕ) (hop next : Hop) (octets : List ℕ)
    (to : ServerId) → (copy : IsCopyOf stage servers mux place k hop octets) → hop_after hop ≡ Some next
    → server_of (onward (entry_of copy.tag) copy.tag.hop) ≡ Some to
    → chained octets ≡ Ok (spelling (record copy.tag { hop = next; dest = to }) copy.inner)
turns_to stage servers mux place k hop next octets to copy after onto =
    let tag = copy.tag in
    let p = has_past (onward (entry_of tag) tag.hop) to onto in
    let after' : hop_after tag.hop ≡ Some next = ap hop_after (tag_hop copy.label hop tag copy.tagged) ∙ after in
    let turned : next_hop tag ≡ Ok (record tag { hop = next; dest = to }) =
    rw (after', p.1) (ap (λ (s : ServerId). Ok (record tag { hop = next; dest = s })) p.2) in
    ap chained copy.spelled
    ∙ (ap chained_from (spelling_read tag copy.inner copy.valid copy.fits copy.short)
    ∙ ap (λ (r : Result Tag EncapFault). spelling_of r copy.inner) turned)

pub is_turned : (stage : Stage) (servers : List Serving) (mux : MuxState) (place k : ℕ) (hop next : Hop) (octets : List ℕ)
    (to : ServerId) → hop_after hop ≡ Some next
    → IsForwarded stage servers mux place k hop octets to → IsOk (chained octets)
is_turned stage servers mux place k hop next octets to after passed =
    subst (λ (r : Result (List ℕ) EncapFault). IsOk r)
    (sym (turns_to stage servers mux place k hop next octets to passed.0 after passed.1)) refl

same_Ok : {A E : Type 0} (x y : A) → ◌≡◌ {A = Result A E} (Ok x) (Ok y) → x ≡ y
same_Ok x y h = ap (of_ok x) h where
  of_ok : {A E : Type 0} → A → Result A E → A
  of_ok d (Ok x) = x
  of_ok d (Err e) = d

-- where the tag has a copy passed on, the label has one of the next hop arrive
stop_of_label : (stage : Stage) (servers : List Serving) (mux : MuxState) (place k : ℕ) (hop next : Hop)
    (octets : List ℕ) (to : ServerId) → (copy : IsCopyOf stage servers mux place k hop octets)
    → hop_after hop ≡ Some next → server_of (onward (entry_of copy.tag) copy.tag.hop) ≡ Some to
    → arrives_at copy.label.entry next ≡ Some to
stop_of_label stage servers mux place k hop next octets to copy after onto =
    let same = tag_hop copy.label hop copy.tag copy.tagged in
    let onto' : server_of (onward (entry_of copy.tag) hop) ≡ Some to =
    subst (λ (h : Hop). server_of (onward (entry_of copy.tag) h) ≡ Some to) same onto in
    stops_there copy.label.entry hop next to after
    (ap server_of (sym (onward_by_label copy.label hop copy.tag copy.tagged)) ∙ onto')

-- the next hop's copy
pub turned_copy : (stage : Stage) (servers : List Serving) (mux : MuxState) (place k : ℕ) (hop next : Hop)
    (octets turned : List ℕ) (to : ServerId) (where_to : ℕ)
    → hop_after hop ≡ Some next → IsForwarded stage servers mux place k hop octets to → chained octets ≡ Ok turned
    → ((server : Serving) × (slice_get servers where_to ≡ Some server) × (server.id ≡ to))
    → IsCopyOf stage servers mux where_to k next turned
turned_copy stage servers mux place k hop next octets turned to where_to after passed is at =
    let copy = passed.0 in
    let tag = record copy.tag { hop = next; dest = to } in
    let stop = stop_of_label stage servers mux place k hop next octets to copy after passed.1 in
    let tagged = tag_passed copy.label hop next copy.tag to stop copy.tagged in
    let after' : hop_after copy.tag.hop ≡ Some next =
    ap hop_after (tag_hop copy.label hop copy.tag copy.tagged) ∙ after in
    record {
      segment = copy.segment;
      is_segment = copy.is_segment;
      label = copy.label;
      by = copy.by;
      is_label = copy.is_label;
      tag = tag;
      tagged = tagged;
      valid = tag_turned copy.tag next to copy.valid after' passed.1;
      fits = copy.fits;
      inner = copy.inner;
      spelled =
          sym (same_Ok {A = List ℕ} {E = EncapFault} (spelling tag copy.inner) turned
          (sym (turns_to stage servers mux place k hop next octets to copy after passed.1) ∙ is));
      reads = copy.reads;
      short = copy.short;
      server = at.0;
      is_server = at.1;
      mine = sym at.2;
    }

-- the server that it goes to is one of the run's
pub has_onward : (stage : Stage) (servers : List Serving) (mux : MuxState) (place k : ℕ) (hop next : Hop)
    (octets : List ℕ) (to : ServerId) → IsSound stage
    → AreServersOf stage servers → hop_after hop ≡ Some next → IsForwarded stage servers mux place k hop octets to
    → HasServer servers to
has_onward stage servers mux place k hop next octets to sound servers_are after passed =
    let copy = passed.0 in
    let l = label_entry stage (reverse mux.log) k copy.label copy.is_label in
    let stop = stop_of_label stage servers mux place k hop next octets to copy after passed.1 in
    servers_are.known to
    (known_stop stage.script sound.script l.version l.bucket next to
    (ap (λ (e : Entry). arrives_at e next) (sym l.entry) ∙ stop))

-- a copy that is passed on has a next hop
has_next : (e : Entry) (hop : Hop) (to : ServerId) → server_of (onward e hop) ≡ Some to → hop_after hop ≡ None → ⊥
has_next e Direct to is none = let bad : Some Chained ≡ None = none in cc
has_next e Chained to is none = let bad : Some Twice ≡ None = none in cc
has_next e Twice to is none = let bad : None ≡ Some to = is in cc

pub goes_further : (stage : Stage) (servers : List Serving) (mux : MuxState) (place k : ℕ) (hop : Hop) (octets : List ℕ)
    (to : ServerId) → IsForwarded stage servers mux place k hop octets to → hop_after hop ≡ None → ⊥
goes_further stage servers mux place k hop octets to passed none =
    let copy = passed.0 in let same = tag_hop copy.label hop copy.tag copy.tagged in
    has_next (entry_of copy.tag) copy.tag.hop to passed.1 (ap hop_after same ∙ none)

pub has_place : (servers : List Serving) (to : ServerId) → HasServer servers to
    → ((s : ℕ) (server : Serving) → slice_get servers s ≡ Some server → server.id ≢ to) → ⊥
has_place servers to has none = none has.0 has.1 has.2 has.3

-- ONE COPY

pub not_forward : (v : Verdict) → ((to : ServerId) → v ≡ Forward to → ⊥) → is_forward v ≡ false
not_forward Accept no_to = refl
not_forward (Process t) no_to = refl
not_forward (Forward s) no_to = absurd (no_to s refl)
not_forward (Reset w) no_to = refl
not_forward (Drop w) no_to = refl

-- a copy that is not forwarded
pub carries_one : (F : Rules) (stage : Stage) (servers : List Serving) (d : Pending) (most : ℕ) (now next : MuxWorker)
    (place : ℕ) (octets : List ℕ) (due : Moment) (r : Moment × Verdict) → 1 ≤ most → AreServersOf stage servers
    → (copy : IsCopyOf stage servers now.mux place d.packet d.hop octets)
    → due.0 ≡ d.clock + d.fate.delay → due.0 < r.0.0
    → ((server : ServerId) → sending_of (Arrive d.packet d.hop server r.1) ≡ None)
    → ((server : Serving) (read : _) → slice_get servers place ≡ Some server → IsCopy server octets read
    → HasCome place server d.packet read due r now.caller.seats next.caller.seats)
    → next.mux ≡ now.mux → next.caller.latest ≡ max now.caller.latest r.0.0 → IsSameCaller now.caller next.caller
    → CarriesOne F stage servers d most now next (Ok tt)
carries_one F stage servers d most now next place octets due r some servers_are copy is lt none come mux latest caller =
    λ task notes kept awaits.
    let w = (mux_for task).0 + 1 in
    let n = arrival r.0 d.packet d.hop copy.server.id r.1 no_fate due.0 w in (
      n ∷ [],
      record {
        kept = kept_arrival F stage servers task now next notes d place octets due r no_fate servers_are copy is lt
            (subst (λ o. IfSome o (λ s. F s.packet s.hop no_fate)) (sym (none copy.server.id)) tt)
            (come copy.server (copy.tag, copy.segment) copy.is_server
            (copy_reads stage servers now.mux place d.packet d.hop octets copy))
            mux latest caller awaits kept;
        packets = (refl, tt);
        few = omega (arith, some);
      },
      completes_one w d r.0 copy.server.id r.1 no_fate due.0 (none copy.server.id) is lt,
    )

-- a copy that didn't come for want of memory
pub carries_one_stop : (F : Rules) (stage : Stage) (servers : List Serving) (d : Pending) (most : ℕ) (now next : MuxWorker)
    (r : Result (Unit {0}) Stop) → next.mux ≡ now.mux → AddsNoCall now.caller.seats next.caller.seats
    → next.caller.latest ≡ now.caller.latest → IsSameCaller now.caller next.caller
    → IsErrAnd r (λ stop. stop ≡ Memory) → CarriesOne F stage servers d most now next r
carries_one_stop F stage servers d most now next r mux no_call latest caller memory = λ task notes kept awaits. (
  [],
  record {
    kept =
        kept_no_call F stage servers task now next notes mux no_call latest caller kept;
    packets = tt;
    few = omega arith;
  },
  ended (λ _. Completes false (with_copies d 1) []) (λ stop. stop ≡ Memory) (λ stop. IsStopOf notes stop) r memory
      (stop_of_memory notes),
)

-- a copy of a hop weighs what a sending of the next one does, and one more
pub weight_of : (hop next : Hop) → hop_after hop ≡ Some next → hop_weight hop ≡ suc (most_tries next)
weight_of hop next after = grind arith

-- the forward is to be completed once it was made
awaits_forward : (task : Task) (d : List Note) (k : ℕ) (hop next : Hop) (at : ℕ) (before fate : Fate) (clock : Moment)
    (server to : ServerId) (due w : ℕ)
    → hop_after hop ≡ Some next → at < clock.0 → AwaitsCopies task d (pending k hop at before)
    → AwaitsCopies task (arrival clock k hop server (Forward to) fate due w ∷ d) (pending k next clock.0 fate)
awaits_forward task d k hop next at before fate clock server to due w after lt awaits =
    let n = arrival clock k hop server (Forward to) fate due w in
    record {
      note = n;
      among = λ f. omega arith;
      sending = ap (λ (o : Option Hop). is_sending (option_map (λ x. record { packet = k; hop = x }) o) k next) after
          ∙ and_from _ _ (eq-eqb k k refl) (same_hop_refl next);
      clock = refl;
      fate = refl;
      steered =
          let a = awaits.steered in let le = more_many (λ y. steers_packet y.event.what k) (n ∷ []) d in omega arith;
      later = let a = awaits.later in omega (arith, a, lt);
      within = awaits.within;
      first = (omega arith, awaits.first);
    }

-- a copy that is forwarded, and what came of the forward
pub carries_forward : (F : Rules) (stage : Stage) (servers : List Serving) (k at : ℕ) (hop onto : Hop) (before fate : Fate)
    (now next last : MuxWorker)
    (place : ℕ) (octets : List ℕ) (due : Moment) (r : Moment × Verdict) (to : ServerId)
    (result : Result (Unit {0}) Stop) → hop_after hop ≡ Some onto → AreServersOf stage servers
    → (copy : IsCopyOf stage servers now.mux place k hop octets)
    → due.0 ≡ at + before.delay → due.0 < r.0.0 → r.1 ≡ Forward to → F k onto fate
    → ((server : Serving) (read : _) → slice_get servers place ≡ Some server → IsCopy server octets read
    → HasCome place server k read due r now.caller.seats next.caller.seats)
    → next.mux ≡ now.mux → next.caller.latest ≡ max now.caller.latest r.0.0 → IsSameCaller now.caller next.caller
    → Carries F stage servers (pending k onto r.0.0 fate) (most_tries onto) next last result
    → CarriesOne F stage servers (pending k hop at before) (hop_weight hop) now last result
carries_forward F stage servers k at hop onto before fate now next last place octets due r to result after servers_are
    copy is lt forward drawn come mux latest caller carries =
    λ task notes kept awaits.
    let w = (mux_for task).0 + 1 in
    let d = pending k hop at before in
    let n = arrival r.0 k hop copy.server.id (Forward to) fate due.0 w in
    let came =
    subst (λ (v : Verdict). HasCome place copy.server k (copy.tag, copy.segment) due (r.0, v) now.caller.seats
    next.caller.seats) forward
    (come copy.server (copy.tag, copy.segment) copy.is_server
    (copy_reads stage servers now.mux place k hop octets copy)) in
    let sent : IfSome (sending_of (Arrive k hop copy.server.id (Forward to))) (λ s. F s.packet s.hop fate) =
    subst (λ (o : Option Hop). IfSome {T = Sending} (option_map (λ x. record { packet = k; hop = x }) o) (λ s. F s.packet s.hop fate))
    (sym after) drawn in
    let one =
    kept_arrival F stage servers task now next notes d place octets due (r.0, Forward to) fate servers_are copy is lt
    sent came mux latest caller awaits kept in
    let c = carries task (n ∷ notes) one
    (awaits_forward task notes k hop onto at before fate r.0 copy.server.id to due.0 w after (omega (arith, is, lt)) awaits) in
    let y = c.0 in
    let all : (y ++ n ∷ []) ++ notes ≡ y ++ n ∷ notes = append_assoc y (n ∷ []) notes in (
      y ++ n ∷ [],
      record {
        kept = subst (λ (l : List Note). Kept F stage servers task last l) (sym all) c.1.kept;
        packets = each_append (λ x. IsOf k x.event.what) y (n ∷ []) c.1.packets (refl, tt);
        few = let e = length-append y (n ∷ []) in let f = c.1.few in let w = weight_of hop onto after in omega arith;
      },
      answered (λ _. Completes true (pending k onto r.0.0 fate) y) (λ _. Completes false (with_copies d 1) (y ++ n ∷ []))
          (λ stop. IsStopOf (y ++ n ∷ notes) stop) (λ stop. IsStopOf ((y ++ n ∷ []) ++ notes) stop) result
          (λ _ is_completed. completes_forward w d onto r.0 copy.server.id to fate due.0 y after is lt is_completed)
          (λ stop is. subst (λ (l : List Note). IsStopOf l stop) (sym all) is) c.2,
    )

-- THE LOOP OVER COPIES

pub carried_copy : (F : Rules) (stage : Stage) (servers : List Serving) (d : Pending) (i few most : ℕ)
    (old now next : MuxWorker)
    → HasCarried F stage servers d i few old now → CarriesOne F stage servers d most now next (Ok tt)
    → HasCarried F stage servers d (i + 1) (few + most) old next
carried_copy F stage servers d i few most old now next carried one = λ task notes kept awaits.
    let c = carried task notes kept awaits in let x = c.0 in
    let o = one task (x ++ notes) c.1.kept (copies_left_more task x notes d c.1.packets awaits) in let y = o.0 in (
      y ++ x,
      record {
        kept = subst (λ (l : List Note). Kept F stage servers task next l) (sym (append_assoc y x notes)) o.1.kept;
        packets = each_append (λ n. IsOf d.packet n.event.what) y x o.1.packets c.1.packets;
        few = let e = length-append y x in let a = c.1.few in let b = o.1.few in omega arith;
      },
      completes_more d i x y c.2 o.2,
    )

pub carried_copy_stop : (F : Rules) (stage : Stage) (servers : List Serving) (d : Pending) (i few more most : ℕ)
    (old now next : MuxWorker)
    (stop : Stop) (r : Result (Unit {0}) Stop) → few + more ≤ most → IsErrAnd r (λ e. e ≡ stop)
    → HasCarried F stage servers d i few old now → CarriesOne F stage servers d more now next (Err stop)
    → Carries F stage servers d most old next r
carried_copy_stop F stage servers d i few more most old now next stop r top is carried one = λ task notes kept awaits.
    let c = carried task notes kept awaits in let x = c.0 in
    let o = one task (x ++ notes) c.1.kept (copies_left_more task x notes d c.1.packets awaits) in let y = o.0 in
    let all : (y ++ x) ++ notes ≡ y ++ (x ++ notes) = append_assoc y x notes in (
      y ++ x,
      record {
        kept = subst (λ (l : List Note). Kept F stage servers task next l) (sym all) o.1.kept;
        packets = each_append (λ n. IsOf d.packet n.event.what) y x o.1.packets c.1.packets;
        few = let e = length-append y x in let a = c.1.few in let b = o.1.few in omega (arith, e, a, b, top);
      },
      ended (λ _. Completes true d (y ++ x)) (λ e. e ≡ stop) (λ e. IsStopOf ((y ++ x) ++ notes) e) r is
          (λ e same. subst (λ (z : Stop). IsStopOf ((y ++ x) ++ notes) z) (sym same)
          (subst (λ (l : List Note). IsStopOf l stop) (sym all) o.2)),
    )
