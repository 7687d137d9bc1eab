-- Labels: what the log of a mux says of its packets, and what stays of it.
use Rattle.std.proofs.Common.{◌≡◌, ℕ, ◌==◌, true, List, [], ◌∷◌, ◌++◌, Option, Some, None}
use Rattle.std.proofs.Common.{reverse, inl, inr, refl, sym, ap}
use Rattle.std.proofs.Common.{◌∙◌, append_assoc}
use Rattle.std.specs.List.{AllByRecursion}
use Rattle.std.proofs.lemmas.Bool.{cases_Bool}
use Rattle.std.proofs.lemmas.List.{reverse-append}
use Rattle.std.proofs.lemmas.Option.{same_Some}
use Rattle.bm_base.specs.declared.ids.MuxId.{MuxId}
use Rattle.bm_base.specs.declared.flow.Segment.{Segment}
use Rattle.bm_base.specs.declared.label.Label.{Label}
use Rattle.bm_table.specs.Tables.{table}
use Rattle.bm_core.specs.declared.events.Event.{Event}
use Rattle.bm_core.specs.declared.events.Stage.{Stage}
use Rattle.bm_core.specs.declared.events.What.{What}
use Rattle.bm_core.specs.declared.events.What.TheVariants.{Publish, Switch, Steer, Lose, Arrive, Close, Retire, Sync}
use Rattle.bm_core.specs.Past.{label_after, label_of, labelled, segment_of}
use Rattle.bm_mux.specs.Muxes.{MuxState}
use Rattle.bm_mux.specs.Steers.{is_lose}
use Rattle.bm_server.specs.Servings.{Serving}
use Rattle.bm_worker.specs.Inside.Pending.{GrowsByLosses, IsCopyOf}

-- LOSSES CHANGE NO LABEL

lost_label : (stage : Stage) (past : List Event) (what : What) (k : ℕ) (before : Option Label) → is_lose what ≡ true
    → label_after stage past what k before ≡ before
lost_label stage past (Lose packet hop) k before is = refl
lost_label stage past (Publish v) k before is = absurd (cc)
lost_label stage past (Switch m v) k before is = absurd (cc)
lost_label stage past (Steer packet m) k before is = absurd (cc)
lost_label stage past (Arrive packet hop server verdict) k before is = absurd (cc)
lost_label stage past (Close server flow closed) k before is = absurd (cc)
lost_label stage past (Retire server h at result) k before is = absurd (cc)
lost_label stage past Sync k before is = absurd (cc)

losses_label : (stage : Stage) (more past : List Event) (k : ℕ)
    → AllByRecursion (λ (e : Event). is_lose e.what ≡ true) more
    → label_of stage (reverse more ++ past) k ≡ label_of stage past k
losses_label stage [] past k all = refl
losses_label stage (e ∷ more) past k all =
    ap (λ (l : List Event). label_of stage (l ++ past) k) (reverse-append (e ∷ []) more)
    ∙ (ap (λ (l : List Event). label_of stage l k) (append_assoc (reverse more) (e ∷ []) past)
    ∙ (losses_label stage more (e ∷ past) k all.1 ∙ lost_label stage past e.what k (label_of stage past k) all.0))

pub label_kept : (stage : Stage) (n : ℕ) (a b : List Event) (k : ℕ) → GrowsByLosses n a b
    → label_of stage (reverse b) k ≡ label_of stage (reverse a) k
label_kept stage n a b k grows =
    ap (λ (l : List Event). label_of stage (reverse l) k) grows.1
    ∙ (ap (λ (l : List Event). label_of stage l k) (reverse-append a grows.0)
    ∙ losses_label stage grows.0 (reverse a) k grows.2)

pub copy_on : (stage : Stage) (servers : List Serving) (n : ℕ) (a b : MuxState) (place k : ℕ)
    (hop : Rattle.bm_base.specs.declared.label.Hop.Hop) (octets : List ℕ)
    → b.id ≡ a.id → GrowsByLosses n a.log b.log → IsCopyOf stage servers a place k hop octets
    → IsCopyOf stage servers b place k hop octets
copy_on stage servers n a b place k hop octets id grows copy = record {
  segment = copy.segment;
  is_segment = copy.is_segment;
  label = copy.label;
  by = copy.by ∙ sym id;
  is_label = label_kept stage n a.log b.log k grows ∙ copy.is_label;
  tag = copy.tag;
  tagged = copy.tagged;
  valid = copy.valid;
  fits = copy.fits;
  inner = copy.inner;
  spelled = copy.spelled;
  reads = copy.reads;
  short = copy.short;
  server = copy.server;
  is_server = copy.is_server;
  mine = copy.mine;
}

-- A LABEL HAS AN ENTRY OF THE PLAN

pub record IsLabelled (stage : Stage) (l : Label) : Type 0 where
  pub version : ℕ
  pub bucket : ℕ
  pub entry : l.entry ≡ table stage.script.plan version bucket

labelled_entry : (stage : Stage) (past : List Event) (m : MuxId) (o : Option Segment) (l : Label)
    → labelled stage past m o ≡ Some l → IsLabelled stage l
labelled_entry stage past m None l is = absurd (let bad : None ≡ Some l = is in cc)
labelled_entry stage past m (Some s) l is = record {
  version = _;
  bucket = _;
  entry = ap (λ (x : Label). x.entry) (sym (same_Some _ _ is));
}

label_step : (stage : Stage) (past : List Event) (what : What) (k : ℕ) (before : Option Label) (l : Label)
    → (before ≡ Some l → IsLabelled stage l) → label_after stage past what k before ≡ Some l → IsLabelled stage l
label_step stage past (Steer packet m) k before l old is = elim (cases_Bool (packet == k)) [
  | inl same ↦ labelled_entry stage past m (segment_of stage k) l (rw same at is)
  | inr other ↦ old (rw other at is)
]
label_step stage past (Publish v) k before l old is = old is
label_step stage past (Switch m v) k before l old is = old is
label_step stage past (Lose packet hop) k before l old is = old is
label_step stage past (Arrive packet hop server verdict) k before l old is = old is
label_step stage past (Close server flow closed) k before l old is = old is
label_step stage past (Retire server h at result) k before l old is = old is
label_step stage past Sync k before l old is = old is

pub label_entry : (stage : Stage) (past : List Event) (k : ℕ) (l : Label) → label_of stage past k ≡ Some l
    → IsLabelled stage l
label_entry stage [] k l is = absurd (let bad : None ≡ Some l = is in cc)
label_entry stage (e ∷ past) k l is =
    label_step stage past e.what k (label_of stage past k) l (label_entry stage past k l) is
