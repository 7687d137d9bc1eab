-- What the turns of a shard say of a history, and of a shard that is retired.
use Rattle.std.proofs.Common.{◌≡◌, ℕ, Bool, true, false, cond, ◌&&◌, List, [], ◌∷◌, Option, Some, None, is_some, inl}
use Rattle.std.proofs.Common.{inr, refl, sym, ap, subst, ◌∙◌}
use Rattle.std.proofs.lemmas.Bool.{cases_Bool}
use Rattle.bm_base.specs.declared.flow.Flow.{Flow}
use Rattle.bm_base.specs.declared.flow.Segment.{Segment}
use Rattle.bm_base.specs.declared.ids.Moment.{Moment}
use Rattle.bm_base.specs.declared.label.Hop.{Hop}
use Rattle.bm_base.specs.declared.label.Label.{Label}
use Rattle.bm_base.specs.declared.label.Tag.{Tag}
use Rattle.bm_base.specs.Labels.{tag_of}
use Rattle.bm_base.specs.Segments.{same_flow}
use Rattle.bm_seq.specs.declared.receiver.Receiver.{Receiver}
use Rattle.bm_core.specs.declared.events.Event.{Event}
use Rattle.bm_core.specs.declared.events.Local.{Local}
use Rattle.bm_core.specs.declared.events.Stage.{Stage}
use Rattle.bm_core.specs.declared.events.Verdict.{Verdict}
use Rattle.bm_core.specs.declared.events.Verdict.TheVariants.{Drop}
use Rattle.bm_core.specs.declared.events.What.{What}
use Rattle.bm_core.specs.declared.events.Why.TheVariants.{Retired as BecauseRetired}
use Rattle.bm_core.specs.Books.{Turn, Took, add_turn, book_held, book_local, book_of, book_retired, turn_held}
use Rattle.bm_core.specs.Past.{held, shard, is_done, Holding}
use Rattle.bm_core.specs.Verdicts.{receiver_of, local_at, verdict_at, verdict_on}
use Rattle.bm_core.proofs.Books.{local_in_book}
use Rattle.bm_core.proofs.Tagged.{verdict_by_tag}
use Rattle.bm_shard.specs.declared.book.Shard.{Shard}
use Rattle.bm_shard.specs.declared.calls.ShardCall.{ShardCall}
use Rattle.bm_shard.specs.declared.calls.ShardCall.TheVariants.{Arrive, Close, Retire}
use Rattle.bm_shard.specs.declared.calls.ShardEntry.{ShardEntry}
use Rattle.bm_shard.specs.Books.{Replays, clock_after, knows_after}
use Rattle.bm_shard.specs.Replies.{is_held_by, turn_of, verdict_by, what_of}
use Rattle.bm_shard.specs.Turns.{turn_kept, turns}
use Rattle.bm_shard.proofs.Keeping.{turn_is_kept}

-- A HISTORY

-- what the shard's turns say is what the history says
known : (stage : Stage) (past : List Event) (about : Shard) (book : List Turn) (f : Flow)
    → about.capacity ≡ stage.script.setting.capacity → book ≡ book_of stage past about.server about.number
    → shard stage f ≡ about.number
    → book_local about.capacity book f ≡ local_at stage past about.server f
known stage past about book f capacity are here =
    let there : book ≡ book_of stage past about.server (shard stage f) =
    are ∙ ap (λ (h : ℕ). book_of stage past about.server h) (sym here)
    in (λ i. book_local (capacity i) (there i) f) ∙ sym (local_in_book stage past about.server f)

pub verdict_same : (stage : Stage) (past : List Event) (about : Shard) (book : List Turn)
    → about.capacity ≡ stage.script.setting.capacity → about.timeout ≡ stage.script.setting.timeout
    → book ≡ book_of stage past about.server about.number
    → (label : Label) (hop : Hop) (tag : Tag) (s : Segment) (clock : Moment) → tag_of label hop ≡ Some tag
    → shard stage s.flow ≡ about.number
    → verdict_by about (book_local about.capacity book) clock tag s
    ≡ verdict_at stage past clock.0 label hop about.server s
verdict_same stage past about book capacity time are label hop tag s clock tagged here =
    let same : book_local about.capacity book s.flow ≡ local_at stage past about.server s.flow =
    known stage past about book s.flow capacity are here
    in (λ i. verdict_on (same i) (time i) clock.0 tag s)
    ∙ verdict_by_tag (local_at stage past about.server s.flow) stage.script.setting.timeout clock.0 label hop tag s
    tagged

some_same : (o : Option Holding) → is_some (receiver_of o) ≡ is_some o
some_same None = refl
some_same (Some h) = refl

pub held_same : (stage : Stage) (past : List Event) (about : Shard) (book : List Turn)
    → about.capacity ≡ stage.script.setting.capacity → book ≡ book_of stage past about.server about.number
    → (f : Flow) → shard stage f ≡ about.number
    → is_held_by (book_local about.capacity book) f ≡ is_some (held stage past about.server f)
held_same stage past about book capacity are f here =
    let same : book_local about.capacity book f ≡ local_at stage past about.server f =
    known stage past about book f capacity are here
    in ap (λ (l : Local). is_some l.held) same ∙ some_same (held stage past about.server f)

-- A RETIRED SHARD

pub dropped : (about : Shard) (entries : List ShardEntry) (clock : Moment) (tag : Tag) (s : Segment)
    → book_retired (turns entries) ≡ true
    → verdict_by about (knows_after about entries) clock tag s ≡ Drop BecauseRetired
dropped about entries clock tag s retired = rw retired refl

no_choice : (b : Bool) (o : Option Receiver) → o ≡ None → cond b o o ≡ None
no_choice true o none = none
no_choice false o none = none

cut : (b : Bool) (o : Option Receiver) → o ≡ None → cond b None o ≡ None
cut true o none = refl
cut false o none = none

-- a retired shard holds nothing after one call more
after_call : (about : Shard) (past : List ShardEntry) (clock : Moment) (call : ShardCall) (f : Flow)
    → (book_retired (turns past) ≡ true → book_held (turns past) f ≡ None)
    → book_retired (turn_of about (knows_after about past) clock call ∷ turns past) ≡ true
    → book_held (turn_of about (knows_after about past) clock call ∷ turns past) f ≡ None
after_call about past clock (Arrive packet tag segment due) f none retired =
    let verdict : verdict_by about (knows_after about past) clock tag segment ≡ Drop BecauseRetired =
    dropped about past clock tag segment retired
    in subst (λ (v : Verdict). turn_held (Took segment v) f (book_held (turns past) f) ≡ None) (sym verdict)
    (no_choice (same_flow segment.flow f) (book_held (turns past) f) (none retired))
after_call about past clock (Close flow at) f none retired =
    cut (same_flow flow f && is_held_by (knows_after about past) flow) (book_held (turns past) f) (none retired)
after_call about past clock (Retire at result) f none retired = elim (cases_Bool (is_done result)) [
  | inl done ↦ rw done refl
  | inr stays ↦
      let before : book_retired (turns past) ≡ true = rw stays at retired
      in rw stays (none before)
]

pub none_held : (about : Shard) (past : List ShardEntry) → Replays about past → book_retired (turns past) ≡ true
    → (f : Flow) → book_held (turns past) f ≡ None
none_held about [] replays retired f = refl
none_held about (e ∷ past) replays retired f =
    let what : e.event.what ≡ what_of about (knows_after about past) (clock_after past e.call) e.call =
    ap (λ (x : Event). x.what) replays.0
    in let kept : turn_kept e.call e.event.what
    ≡ Some (turn_of about (knows_after about past) (clock_after past e.call) e.call) =
    ap (λ (w : What). turn_kept e.call w) what
    ∙ turn_is_kept about (knows_after about past) (clock_after past e.call) e.call
    in let so : book_retired (turn_of about (knows_after about past) (clock_after past e.call) e.call ∷ turns past)
    ≡ true =
    subst (λ (o : Option Turn). book_retired (add_turn o (turns past)) ≡ true) kept retired
    in subst (λ (o : Option Turn). book_held (add_turn o (turns past)) f ≡ None) (sym kept)
    (after_call about past (clock_after past e.call) e.call f (λ was. none_held about past replays.1 was f) so)
