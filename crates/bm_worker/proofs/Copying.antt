-- The copies of a packet, as their servers read them and as they stand in the seats' calls.
use Rattle.std.proofs.Common.{◌≡◌, ℕ, ◌==◌, ◌&&◌, Bool, true, false, cond, List, [], ◌∷◌, ◌++◌, Option, Some}
use Rattle.std.proofs.Common.{None}
use Rattle.std.proofs.Common.{slice_get, reverse, refl, sym, ap, ◌∙◌, subst, option_map}
use Rattle.std.specs.List.{AllByRecursion}
use Rattle.std.proofs.lemmas.Bool.{eqb-true}
use Rattle.std.proofs.lemmas.Option.{same_Some}
use Rattle.bm_base.specs.declared.ids.Moment.{Moment}
use Rattle.bm_base.specs.declared.ids.MuxId.{MuxId}
use Rattle.bm_base.specs.declared.ids.ServerId.{ServerId}
use Rattle.bm_base.specs.declared.label.Hop.{Hop}
use Rattle.bm_base.specs.declared.label.Label.{Label}
use Rattle.bm_base.specs.declared.label.Tag.{Tag}
use Rattle.bm_base.specs.Labels.{arrives_at, tag_for, tag_of}
use Rattle.bm_encap.specs.Spellings.{spelling}
use Rattle.bm_core.specs.declared.events.Event.{Event}
use Rattle.bm_core.specs.declared.events.Stage.{Stage}
use Rattle.bm_core.specs.declared.events.Verdict.{Verdict}
use Rattle.bm_core.specs.Past.{label_of, shard}
use Rattle.bm_mux.specs.Muxes.{MuxState}
use Rattle.bm_shard.specs.declared.calls.ShardCall.{ShardCall}
use Rattle.bm_shard.specs.declared.calls.ShardCall.TheVariants.{Arrive, Close, Retire}
use Rattle.bm_shard.specs.declared.calls.ShardReply.TheVariants.{Arrived}
use Rattle.bm_shard.specs.Copies.{copy_in}
use Rattle.bm_shard.proofs.Copies.{copy_spelled}
use Rattle.bm_server.specs.Seats.{Answered, Seated}
use Rattle.bm_server.specs.Servings.{Serving, shard_for}
use Rattle.bm_worker.specs.Arrivals.{HasCome, IsCopy}
use Rattle.bm_worker.specs.WorkerNotes.{AreServersOf}
use Rattle.bm_worker.specs.Inside.Pending.{IsCopyOf}
use Rattle.bm_worker.specs.Phases.{AreCopies, IsCopyCall}
use Rattle.bm_worker.specs.SeatCalls.{AddsNoCall, calls_there}
use Rattle.bm_worker.proofs.CallNotes.{same_shard}

-- the hop of a label's tag
pub tag_hop : (l : Label) (hop : Hop) (tag : Tag) → tag_of l hop ≡ Some tag → tag.hop ≡ hop
tag_hop l hop tag is = of_hop (arrives_at l.entry hop) is where
  of_hop : (o : Option ServerId) → option_map (tag_for l hop) o ≡ Some tag → tag.hop ≡ hop
  of_hop None none = absurd (let bad : None ≡ Some tag = none in cc)
  of_hop (Some s) some = ap (λ (t : Tag). t.hop) (sym (same_Some (tag_for l hop s) tag some))

-- what its server reads
pub copy_reads : (stage : Stage) (servers : List Serving) (mux : MuxState) (place k : ℕ) (hop : Hop) (octets : List ℕ)
    (copy : IsCopyOf stage servers mux place k hop octets) → IsCopy copy.server octets (copy.tag, copy.segment)
copy_reads stage servers mux place k hop octets copy =
    ap (copy_in copy.server.id) copy.spelled
    ∙ (ap (λ (s : ServerId). copy_in s (spelling copy.tag copy.inner)) (sym copy.mine)
    ∙ copy_spelled copy.tag copy.inner copy.segment copy.valid copy.fits copy.short copy.reads)

-- MORE CALLS

each_plus : {X : Type 0} (P : X → Type 0) (xs ys : List X) → AllByRecursion P xs → AllByRecursion P ys
    → AllByRecursion P (xs ++ ys)
each_plus P [] ys a b = b
each_plus P (x ∷ xs) ys a b = (a.0, each_plus P xs ys a.1 b)

each_as : {X : Type 0} (P Q : X → Type 0) (xs : List X) → ((x : X) → P x → Q x) → AllByRecursion P xs
    → AllByRecursion Q xs
each_as P Q [] f all = tt
each_as P Q (x ∷ xs) f all = (f x all.0, each_as P Q xs f all.1)

one_cond : (P : Answered → Type 0) (b : Bool) (a : Answered) → (b ≡ true → P a) → AllByRecursion P (cond b (a ∷ []) [])
one_cond P true a is = (is refl, tt)
one_cond P false a is = tt

both_true : (a b : Bool) → a && b ≡ true → (a ≡ true) × (b ≡ true)
both_true true true e = (refl, refl)
both_true true false e = absurd (cc)
both_true false b e = absurd (cc)

-- a copy that came is one of the mux's
pub copies_come : (stage : Stage) (servers : List Serving) (mux : MuxState) (place k : ℕ) (hop : Hop) (octets : List ℕ)
    (due : Moment)
    (r : Moment × Verdict) (a b : List (List Seated)) → AreServersOf stage servers
    → (copy : IsCopyOf stage servers mux place k hop octets)
    → HasCome place copy.server k (copy.tag, copy.segment) due r a b
    → AreCopies stage mux.id servers (reverse mux.log) a → AreCopies stage mux.id servers (reverse mux.log) b
copies_come stage servers mux place k hop octets due r a b servers_are copy come are s h server at =
    let here = (s == place) && (h == shard_for copy.server copy.segment.flow) in
    let call : Answered = (Arrive k copy.tag copy.segment due, Arrived r.0 r.1 come.reset) in
    let P : Answered → Type 0 = λ x. IsCopyCall stage (reverse mux.log) mux.id server h x.0 in
    let mine : here ≡ true → P call = λ yes.
    let both = both_true (s == place) (h == shard_for copy.server copy.segment.flow) yes in
    let same : server ≡ copy.server =
    same_Some server copy.server (sym at ∙ (ap (slice_get servers) (eqb-true s place both.0) ∙ copy.is_server)) in
    let shard_is : shard stage copy.segment.flow ≡ h =
    sym (eqb-true h (shard_for copy.server copy.segment.flow) both.1
    ∙ same_shard stage servers place copy.server copy.segment.flow servers_are copy.is_server) in (
      copy.is_segment,
      shard_is,
      (
        copy.label,
        copy.by,
        copy.is_label,
        ap (tag_of copy.label) (tag_hop copy.label hop copy.tag copy.tagged) ∙ copy.tagged,
        copy.mine ∙ ap (λ (x : Serving). x.id) (sym same),
      ),
    ) in
    subst (λ (l : List Answered). AllByRecursion P l) (sym (come.adds s h))
    (each_plus P (calls_there a s h) (cond here (call ∷ []) []) (are s h server at) (one_cond P here call mine))

pub copies_stay : (stage : Stage) (servers : List Serving) (m : MuxId) (past : List Event) (a b : List (List Seated))
    → AddsNoCall a b
    → AreCopies stage m servers past a → AreCopies stage m servers past b
copies_stay stage servers m past a b same are s h server at =
    subst (λ (l : List Answered). AllByRecursion (λ x. IsCopyCall stage past m server h x.0) l) (sym (same s h))
    (are s h server at)

-- labels that stay
call_as : (stage : Stage) (m : MuxId) (server : Serving) (h : ℕ) (past past' : List Event)
    → ((k : ℕ) (l : Label) → label_of stage past k ≡ Some l → label_of stage past' k ≡ Some l)
    → (x : Answered) → IsCopyCall stage past m server h x.0 → IsCopyCall stage past' m server h x.0
call_as stage m server h past past' kept x is = of_call x.0 is where
  of_call : (call : ShardCall) → IsCopyCall stage past m server h call → IsCopyCall stage past' m server h call
  of_call (Arrive packet tag segment due) c = (c.0, c.1, (c.2.0, c.2.1, kept packet c.2.0 c.2.2, c.2.3, c.2.4))
  of_call (Close flow at) c = absurd c
  of_call (Retire at outcome) c = absurd c

pub copies_as : (stage : Stage) (servers : List Serving) (m : MuxId) (past past' : List Event) (a : List (List Seated))
    → ((k : ℕ) (l : Label) → label_of stage past k ≡ Some l → label_of stage past' k ≡ Some l)
    → AreCopies stage m servers past a → AreCopies stage m servers past' a
copies_as stage servers m past past' a kept are s h server at =
    each_as (λ x. IsCopyCall stage past m server h x.0) (λ x. IsCopyCall stage past' m server h x.0) (calls_there a s h)
    (call_as stage m server h past past' kept) (are s h server at)
