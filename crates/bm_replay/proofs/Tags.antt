-- The tag of each copy under way is valid.
use Rattle.std.proofs.Common.{◌≡◌, ℕ, ◌*◌, ◌^◌, ◌<◌, ◌≤◌, inl, inr, List, [], ◌∷◌, Option, Some, None}
use Rattle.std.proofs.Common.{length, eqb, sym, ap, subst, arith}
use Rattle.std.proofs.lemmas.Bool.{cases_Bool}
use Rattle.std.proofs.lemmas.Option.{same_Some}
use Rattle.bm_base.specs.declared.ids.MuxId.{MuxId}
use Rattle.bm_base.specs.declared.flow.Segment.{Segment}
use Rattle.bm_base.specs.declared.label.Entry.{Entry}
use Rattle.bm_base.specs.declared.label.Label.{Label}
use Rattle.bm_base.specs.Labels.{tag_of}
use Rattle.bm_base.specs.Tags.{IsTag}
use Rattle.bm_fault.specs.declared.wire.Flight.{Flight}
use Rattle.bm_table.specs.Scripts.{IsSoundScript}
use Rattle.bm_core.specs.declared.events.Event.{Event}
use Rattle.bm_core.specs.declared.events.Stage.{Stage}
use Rattle.bm_core.specs.declared.events.What.{What}
use Rattle.bm_core.specs.declared.events.What.TheVariants.{Publish, Switch, Steer, Lose, Arrive, Close, Retire, Sync}
use Rattle.bm_core.specs.Past.{bucket, label_after, label_of, labelled, segment_of}
use Rattle.bm_core.specs.Runs.{MayCome, Run}
use Rattle.bm_core.proofs.Pasts.{IsLabel, label_is, newest_within}
use Rattle.bm_replay.proofs.Flights.{HasStopAt, tag_stop}
use Rattle.bm_core.proofs.Moments.{change_early}
use Rattle.bm_base.proofs.Entries.{AreEarly, IsEntry, tag_valid}
use Rattle.bm_table.proofs.Tables.{early_entry}
use Rattle.bm_encap.specs.Inside.Spellings.{FitsFields}
use Rattle.bm_encap.proofs.Spelled.{early_fits}
use Rattle.bm_replay.proofs.KnownServers.{table_entry}

-- THE MUX OF A LABEL

new_mux : (stage : Stage) (past : List Event) (m : MuxId) (l : Label) (o : Option Segment)
    → labelled stage past m o ≡ Some l → l.mux ≡ m
new_mux stage past m l None is = absurd (cc)
new_mux stage past m l (Some s) is = ap (λ (x : Label). x.mux) (sym (same_Some _ _ is))

mux_step : (stage : Stage) (past : List Event) (clock k : ℕ) (l : Label) (what : What) → MayCome stage past clock what
    → label_after stage past what k (label_of stage past k) ≡ Some l
    → (label_of stage past k ≡ Some l → l.mux.0 < stage.script.setting.muxes) → l.mux.0 < stage.script.setting.muxes
mux_step stage past clock k l (Steer packet m) may is old = elim (cases_Bool (eqb packet k)) [
  | inl same ↦ let e : l.mux ≡ m = new_mux stage past m l (segment_of stage k) (rw same at is) in rw e may.0
  | inr other ↦ old (rw other at is)
]
mux_step stage past clock k l (Publish v) may is old = old is
mux_step stage past clock k l (Switch x v) may is old = old is
mux_step stage past clock k l (Lose packet hop) may is old = old is
mux_step stage past clock k l (Arrive packet hop server verdict) may is old = old is
mux_step stage past clock k l (Close server flow closed) may is old = old is
mux_step stage past clock k l (Retire server x at result) may is old = old is
mux_step stage past clock k l Sync may is old = old is

-- a label is of one of the setting's muxes
pub label_mux : (stage : Stage) (past : List Event) → Run stage past → (k : ℕ) (l : Label)
    → label_of stage past k ≡ Some l → l.mux.0 < stage.script.setting.muxes
label_mux stage [] run k l is = absurd (cc)
label_mux stage (e ∷ past) run k l is =
    mux_step stage past e.clock.0 k l e.what run.0.may is (label_mux stage past run.1 k l)

-- TAGS

-- the tag of a copy with what its packet's label says
pub landing_tag : (stage : Stage) (past : List Event) (flight : Flight) (label : Label) → IsSoundScript stage.script
    → Run stage past
    → label_of stage past flight.packet ≡ Some label → tag_of label flight.tag.hop ≡ Some flight.tag → IsTag flight.tag
landing_tag stage past flight label sound run is tag =
    let l : IsLabel stage past flight.packet label = label_is stage past run flight.packet label is
    in let entry : IsEntry label.entry =
    subst IsEntry (sym l.entry) (table_entry stage.script sound label.version.0 (bucket stage l.segment.flow))
    in let mux : label.mux.0 < 64 =
    (let h = label_mux stage past run flight.packet label is in let most = sound.setting.muxes.1 in omega arith)
    in tag_valid label flight.tag.hop flight.tag entry mux tag

-- WHAT FITS THE FIELDS OF A TAG

-- the stamps and the version of a copy's tag are of 64 and of 32 bits
pub landing_fits : (stage : Stage) (past : List Event) (flight : Flight) (label : Label) → IsSoundScript stage.script
    → length stage.script.plan.changes ≤ 4096 → Run stage past
    → label_of stage past flight.packet ≡ Some label → tag_of label flight.tag.hop ≡ Some flight.tag
    → FitsFields flight.tag
landing_fits stage past flight label sound few run is tag =
    let l : IsLabel stage past flight.packet label = label_is stage past run flight.packet label is
    in let early : AreEarly (4 * 10 ^ 18) label.entry =
    subst (λ (e : Entry). AreEarly (4 * 10 ^ 18) e) (sym l.entry)
    (early_entry stage.script.plan (4 * 10 ^ 18) (change_early stage.script sound) label.version.0
    (bucket stage l.segment.flow))
    in let at : HasStopAt label flight.tag.hop flight.tag = tag_stop label flight.tag.hop flight.tag tag
    in let published = l.published
    in let within = newest_within stage past run
    in subst FitsFields at.is_tag
    (early_fits label flight.tag.hop flight.tag.dest (4 * 10 ^ 18) (omega arith) early (omega arith))
