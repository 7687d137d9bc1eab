-- A batch among the notes of a phase.
use Rattle.std.proofs.Common.{◌≡◌, ℕ, ◌+◌, ◌*◌, ◌^◌, ◌<◌, ◌≤◌, ◌==◌, Bool, true, false}
use Rattle.std.proofs.Common.{cond, List, [], ◌∷◌, ◌++◌}
use Rattle.std.proofs.Common.{reverse, Option, Some, refl, sym, ap, ◌∙◌}
use Rattle.std.proofs.Common.{append_assoc, arith, ltb}
use Rattle.std.specs.List.{AllByRecursion}
use Rattle.std.proofs.lemmas.Bool.{eq-eqb, ltb-false, lt-ltb}
use Rattle.std.proofs.lemmas.Bool.{le-leb, and_from}
use Rattle.std.proofs.lemmas.List.{reverse-append}
use Rattle.bm_base.specs.declared.fate.Fate.{Fate}
use Rattle.bm_base.specs.declared.flow.Segment.{Segment}
use Rattle.bm_base.specs.declared.ids.Moment.{Moment}
use Rattle.bm_base.specs.declared.ids.MuxId.{MuxId}
use Rattle.bm_base.specs.declared.label.Hop.TheVariants.{Direct}
use Rattle.bm_base.specs.declared.label.Label.{Label}
use Rattle.bm_base.specs.declared.label.Tag.{Tag}
use Rattle.bm_base.specs.Labels.{tag_for}
use Rattle.bm_base.specs.Tags.{IsTag}
use Rattle.bm_hash.specs.Buckets.{bucket_of}
use Rattle.bm_table.specs.Tables.{table}
use Rattle.bm_encap.specs.Spellings.{spelling}
use Rattle.bm_core.specs.declared.events.Event.{Event}
use Rattle.bm_core.specs.declared.events.Stage.{Stage}
use Rattle.bm_core.specs.declared.events.What.TheVariants.{Steer}
use Rattle.bm_core.specs.Accounts.{Rules, steers_packet}
use Rattle.bm_core.specs.Past.{bucket, label_of, labelled, segment_of, version_at}
use Rattle.bm_core.specs.Stages.{IsSound}
use Rattle.bm_merge.specs.Notes.{Note, total}
use Rattle.bm_merge.proofs.Noting.{each_append, total_append}
use Rattle.bm_publish.specs.Posts.{Posted, last_post, last_version}
use Rattle.bm_mux.specs.declared.item.MuxItem.{MuxItem}
use Rattle.bm_mux.specs.Muxes.{MuxState}
use Rattle.bm_mux.specs.Steers.{at_clock, label_by, sent, sent_for, steer_clock, steering_clock, steers, switch_to}
use Rattle.bm_mux.specs.Steers.{switches, tag_by}
use Rattle.bm_server.specs.Servings.{Serving}
use Rattle.bm_worker.specs.Inside.Batches.{AreDrawn, HaveSendings, IsItemOf, IsSent, Rise, last_packet}
use Rattle.bm_worker.specs.Inside.Batches.{sent_notes, steering, switch_note, switch_notes}
use Rattle.bm_worker.specs.WorkerNotes.{AreServersOf}
use Rattle.bm_worker.specs.Inside.Pending.{IsAmong}
use Rattle.bm_worker.specs.Phases.{IsPhaseNote, Task, mux_for}
use Rattle.bm_worker.specs.Assigned.{is_mux, is_assigned, assigned_mux}
use Rattle.bm_base.proofs.Entries.{tag_valid}
use Rattle.bm_table.proofs.Tables.{early_entry}
use Rattle.bm_encap.proofs.Spelled.{early_fits}
use Rattle.bm_core.proofs.Moments.{change_early}
use Rattle.bm_worker.proofs.Known.{known_cur, numbered_entry}
use Rattle.bm_worker.proofs.Steering.{label_high}
use Rattle.bm_worker.proofs.Steering.{steers_above}

-- THE NOTES

rise_last : (low : ℕ) (items : List MuxItem) → Rise low items → low ≤ last_packet low items
rise_last low [] rise = omega arith
rise_last low (i ∷ items) rise = let old = rise_last i.packet items rise.1 in let lt = rise.0 in omega (arith, old, lt)

-- a packet of the phase is one that the mux is assigned
is_one_assigned : (routes : List (Option MuxId)) (m from until k : ℕ) → from < k → k ≤ until → assigned_mux routes k ≡ Some m
    → is_assigned routes m from until k ≡ true
is_one_assigned routes m from until k low high is =
    and_from _ _ (and_from _ _ (lt-ltb from k low) (le-leb k until high))
    (ap (λ (o : Option ℕ). is_mux o m) is ∙ eq-eqb m m refl)

pub sent_notes_are : (F : Rules) (stage : Stage) (servers : List Serving) (task : Task) (seen : Posted) (all : List Note)
    (last low : ℕ)
    (items : List MuxItem) (fates : List Fate) → task.after ≤ last → task.from ≤ low
    → last_packet low items ≤ task.until → Rise low items
    → AllByRecursion (IsItemOf stage task.routes (mux_for task).0) items → AreDrawn F items fates
    → AllByRecursion (IsPhaseNote F stage servers task all)
    (sent_notes (mux_for task) (sent (mux_for task) seen last items) fates)
sent_notes_are F stage servers task seen all last low [] fates after from until rise each drawn = tt
sent_notes_are F stage servers task seen all last low (i ∷ items) [] after from until rise each drawn = absurd drawn
sent_notes_are F stage servers task seen all last low (i ∷ items) (f ∷ fates) after from until rise each drawn =
    let m = mux_for task in let next = steer_clock last i in
    let above : task.from < i.packet = (let lt = rise.0 in omega (arith, lt, from)) in
    let below : i.packet ≤ task.until = (let le = rise_last i.packet items rise.1 in omega (arith, le, until)) in
    each_append (IsPhaseNote F stage servers task all) (sent_notes m (sent m seen next items) fates)
    (steering (record { 0 = next }) i.packet m f (m.0 + 1) ∷ [])
    (sent_notes_are F stage servers task seen all next i.packet items fates (omega (arith, after)) (omega (arith, above))
    until rise.1 each.1 drawn.3) (
      record {
        kind = eq-eqb m.0 m.0 refl;
        seat = refl;
        later = omega (arith, after);
        within = (above, below);
        assigned = is_one_assigned task.routes m.0 task.from task.until i.packet above below each.0.assigned;
        has_sending = tt;
        lost = tt;
        drawn = drawn.0;
        placed = tt;
      },
      tt,
    )

pub switch_notes_are : (F : Rules) (stage : Stage) (servers : List Serving) (task : Task) (seen : Posted)
    (all : List Note) (past : List Event)
    → task.after < steering_clock past
    → AllByRecursion (IsPhaseNote F stage servers task all) (switch_notes (mux_for task) seen past)
switch_notes_are F stage servers task seen all past begun =
    of_test (ltb (version_at past (mux_for task)).0 (last_version seen)) where
      of_test : (b : Bool)
          → AllByRecursion (IsPhaseNote F stage servers task all)
          (cond b (switch_note (mux_for task) seen past (last_post seen) ∷ []) [])
      of_test true = (
        record {
          kind = eq-eqb (mux_for task).0 (mux_for task).0 refl;
          seat = refl;
          later = omega (arith, begun);
          within = tt;
          assigned = tt;
          has_sending = tt;
          lost = tt;
          drawn = tt;
          placed = tt;
        },
        tt,
      )
      of_test false = tt

-- WHAT HAS A SENDING

pub sent_has_sending : (F : Rules) (stage : Stage) (task : Task) (seen : Posted) (all : List Note) (last low : ℕ)
    (items : List MuxItem) (fates : List Fate) → task.after ≤ last → task.from ≤ low
    → last_packet low items ≤ task.until → Rise low items
    → AreDrawn F items fates
    → ((f : Note → ℕ) → total f (sent_notes (mux_for task) (sent (mux_for task) seen last items) fates) ≤ total f all)
    → HaveSendings task all low (sent (mux_for task) seen last items) fates
sent_has_sending F stage task seen all last low [] fates after from until rise drawn among = tt
sent_has_sending F stage task seen all last low (i ∷ items) [] after from until rise drawn among = absurd drawn
sent_has_sending F stage task seen all last low (i ∷ items) (f ∷ fates) after from until rise drawn among =
    let m = mux_for task in let next = steer_clock last i in
    let n = steering (record { 0 = next }) i.packet m f (m.0 + 1) in
    let rest = sent_notes m (sent m seen next items) fates in
    let above : task.from < i.packet = (let lt = rise.0 in omega (arith, lt, from)) in
    let below : i.packet ≤ task.until = (let le = rise_last i.packet items rise.1 in omega (arith, le, until)) in
    let here : IsAmong n all = λ g. (let a = among g in let b = total_append g rest (n ∷ []) in omega (arith, a, b)) in
    let self : (i.packet == i.packet) ≡ true = eq-eqb i.packet i.packet refl in (
      rise.0,
      record {
        note = n;
        among = here;
        sending = and_from _ _ self refl;
        clock = refl;
        fate = refl;
        steered = let a = here (λ y. cond (steers_packet y.event.what i.packet) 1 0) in
            let one : ◌≡◌ {A = ℕ} (cond (i.packet == i.packet) 1 0) 1 = rw self refl in omega (arith, a, one);
        later = omega (arith, after);
        within = (above, below);
      },
      sent_has_sending F stage task seen all next i.packet items fates (omega (arith, after)) (omega (arith, above)) until
          rise.1 drawn.3
          (λ g. (let a = among g in let b = total_append g rest (n ∷ []) in omega (arith, a, b))),
    )

-- LABELS

steers_version : (m x : MuxId) (clock : Moment) (k : ℕ) (past : List Event)
    → version_at (record { clock = clock; what = Steer k x } ∷ past) m ≡ version_at past m
steers_version m x clock k past = refl

-- the version that the mux has for the batch
pub batch_version : (m : MuxId) (seen : Posted) (past : List Event) → (version_at past m).0 ≤ last_version seen
    → (version_at (switches m seen past ++ past) m).0 ≡ last_version seen
batch_version m seen past newer = of_test (ltb (version_at past m).0 (last_version seen)) refl where
  of_test : (b : Bool) → ltb (version_at past m).0 (last_version seen) ≡ b
      → (version_at (cond b (switch_to m seen past (last_post seen) ∷ []) [] ++ past) m).0 ≡ last_version seen
  of_test true is = rw (eq-eqb m.0 m.0 refl) refl
  of_test false is = let le = ltb-false (version_at past m).0 (last_version seen) is in omega (arith, le, newer)

-- what the mux writes on a packet, as the stage has it
abbrev label_now : Stage → MuxId → ℕ → Segment → Label
label_now stage m v s = record {
  mux = m;
  version = record { 0 = v };
  entry = table stage.script.plan v (bucket stage s.flow);
}

-- it is what the mux's table says
same_label : (stage : Stage) (m : MuxId) (seen : Posted) (s : Segment) → IsSound stage → seen.plan ≡ stage.script.plan
    → label_by m seen s ≡ label_now stage m (last_version seen) s
same_label stage m seen s sound plan =
    (λ i. record {
      mux = m;
      version = record { 0 = last_version seen };
      entry =
          table (plan i) (last_version seen) (bucket_of ((plan i).buckets) s.flow);
    })
    ∙ (λ i. record {
      mux = m;
      version = record { 0 = last_version seen };
      entry = table stage.script.plan (last_version seen) (bucket_of (sound.script.buckets i) s.flow);
    })

label_made : (stage : Stage) (m : MuxId) (v clock k : ℕ) (s : Segment) (past : List Event) → (version_at past m).0 ≡ v
    → segment_of stage k ≡ Some s
    → label_of stage (at_clock clock (Steer k m) ∷ past) k ≡ Some (label_now stage m v s)
label_made stage m v clock k s past version is =
    rw (eq-eqb k k refl) (ap (labelled stage past m) is
    ∙ (λ i. Some
    (record {
      mux = m;
      version = record { 0 = version i };
      entry =
          table stage.script.plan (version i) (bucket stage s.flow);
    })))

-- WHAT IS SENT

-- a tag of the mux for its bucket's server
now_valid : (stage : Stage) (m : MuxId) (v : ℕ) (s : Segment) → IsSound stage → m.0 < 64
    → IsTag (tag_for (label_now stage m v s) Direct (label_now stage m v s).entry.cur)
now_valid stage m v s sound few =
    tag_valid (label_now stage m v s) Direct _ (numbered_entry stage.script sound.script v (bucket stage s.flow)) few refl

sent_one : (stage : Stage) (servers : List Serving) (mux : MuxState) (routes : List (Option MuxId)) (seen : Posted)
    (clock : ℕ) (i : MuxItem)
    → IsSound stage → AreServersOf stage servers → mux.id.0 < 64 → seen.plan ≡ stage.script.plan → last_version seen ≤ 4096
    → IsItemOf stage routes mux.id.0 i
    → label_of stage (reverse mux.log) i.packet ≡ Some (label_now stage mux.id (last_version seen) i.segment)
    → IsSent stage servers mux (sent_for mux.id seen clock i)
sent_one stage servers mux routes seen clock i sound servers_are few plan early item labelled_now =
    let v = last_version seen in
    let l = label_now stage mux.id v i.segment in
    let tag = tag_for l Direct l.entry.cur in
    let same : tag ≡ tag_by mux.id seen i.segment =
    ap (λ (x : Label). tag_for x Direct x.entry.cur) (sym (same_label stage mux.id seen i.segment sound plan)) in
    let has = servers_are.known l.entry.cur (known_cur stage.script sound.script v (bucket stage i.segment.flow)) in (
      has.0,
      record {
        segment = i.segment;
        is_segment = item.segment;
        label = l;
        by = refl;
        is_label = labelled_now;
        tag = tag;
        tagged = refl;
        valid = now_valid stage mux.id v i.segment sound few;
        fits = early_fits l Direct l.entry.cur (4 * 10 ^ 18) (omega arith)
            (early_entry stage.script.plan (4 * 10 ^ 18) (change_early stage.script sound.script) v
            (bucket stage i.segment.flow)) (omega (arith, early));
        inner = i.inner.now;
        spelled = ap (λ (t : Tag). spelling t i.inner.now) (sym same);
        reads = item.reads;
        short = item.short;
        server = has.1;
        is_server = has.2;
        mine = sym has.3;
      },
      same,
    )

pub all_sent : (stage : Stage) (servers : List Serving) (mux : MuxState) (routes : List (Option MuxId)) (seen : Posted)
    (last low : ℕ)
    (items : List MuxItem) (past : List Event) → IsSound stage → AreServersOf stage servers → mux.id.0 < 64
    → seen.plan ≡ stage.script.plan → last_version seen ≤ 4096
    → AllByRecursion (IsItemOf stage routes mux.id.0) items → Rise low items
    → (version_at past mux.id).0 ≡ last_version seen
    → reverse mux.log ≡ reverse (steers mux.id last items) ++ past
    → AllByRecursion (IsSent stage servers mux) (sent mux.id seen last items)
all_sent stage servers mux routes seen last low [] past sound servers_are few plan early each rise version log = tt
all_sent stage servers mux routes seen last low (i ∷ items) past sound servers_are few plan early each rise version log =
    let m = mux.id in let next = steer_clock last i in
    let e = at_clock next (Steer i.packet m) in let es = steers m next items in
    let log' : reverse mux.log ≡ reverse es ++ (e ∷ past) =
    log ∙ (ap (λ (l : List Event). l ++ past) (reverse-append (e ∷ []) es) ∙ append_assoc (reverse es) (e ∷ []) past) in
    let here : label_of stage (reverse mux.log) i.packet ≡ Some (label_now stage m (last_version seen) i.segment) =
    ap (λ (l : List Event). label_of stage l i.packet) log'
    ∙ (label_high stage i.packet i.packet (reverse es) (e ∷ past) (omega arith)
    (steers_above m next i.packet i.packet items (omega arith) rise.1)
    ∙ label_made stage m (last_version seen) next i.packet i.segment past version each.0.segment) in (
      sent_one stage servers mux routes seen next i sound servers_are few plan early each.0 here,
      all_sent stage servers mux routes seen next i.packet items (e ∷ past) sound servers_are few plan early each.1 rise.1
          version log',
    )
