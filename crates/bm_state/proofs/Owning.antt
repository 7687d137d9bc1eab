-- What is kept of owners stays right with each event.
use Rattle.std.proofs.Common.{◌≡◌, ℕ, ◌==◌, true, false, inl, inr, List, ◌∷◌, length, set, Bool}
use Rattle.std.proofs.Common.{Option, Some, None, option_map, refl, sym, ap, ◌∙◌, arith}
use Rattle.std.specs.Prelude.{if◌then◌else◌}
use Rattle.std.proofs.lemmas.Bool.{cases_Bool, cases_lt, cases_eq, eq-eqb, ne_eqb}
use Rattle.std.proofs.lemmas.Grind.{common_steps}
use Rattle.std.proofs.Math.ListN.{length-set}
use Rattle.bm_base.specs.declared.flow.Flow.{Flow}
use Rattle.bm_base.specs.declared.flow.Segment.{Segment}
use Rattle.bm_base.specs.declared.ids.MuxId.{MuxId}
use Rattle.bm_base.specs.declared.ids.ServerId.{ServerId}
use Rattle.bm_base.specs.declared.label.Hop.{Hop}
use Rattle.bm_core.specs.declared.events.Event.{Event}
use Rattle.bm_core.specs.declared.events.Stage.{Stage}
use Rattle.bm_core.specs.declared.events.Verdict.TheVariants.{Accept}
use Rattle.bm_core.specs.declared.events.What.{What}
use Rattle.bm_core.specs.declared.events.What.TheVariants.{Publish, Switch, Steer, Lose, Arrive, Close, Retire, Sync}
use Rattle.bm_core.specs.Past.{Accepted, accept_after, accept_before, accept_of, is_accept, is_of, label_of, owner}
use Rattle.bm_core.specs.Past.{owner_after, segment_of, version_of}
use Rattle.bm_state.specs.declared.owners.Owner.{Owner}
use Rattle.bm_state.specs.declared.owners.Owners.{Owners}
use Rattle.bm_state.specs.Owners.{KeepsOwners, accept_in, as_accepted, owner_in}
use Rattle.bm_state.specs.Inside.Owners.{accept_for}
use Rattle.bm_state.proofs.Labelling.{no_segment}

-- A STEER

accepted_before : (stage : Stage) (past : List Event) (accepts : Flow → Option Owner) (s : Option Segment)
    → ((f : Flow) → option_map as_accepted (accepts f) ≡ accept_of stage past f)
    → option_map as_accepted (accept_for accepts s) ≡ accept_before stage past s
accepted_before stage past accepts None k = refl
accepted_before stage past accepts (Some s) k = k s.flow

-- a packet without a segment has no owner
none_before : (stage : Stage) (past : List Event) (s : Option Segment) → s ≡ None → accept_before stage past s ≡ None
none_before stage past s none = rw none refl

pub owners_steer : (stage : Stage) (past : List Event) (e : Event) (old new : Owners) (packet : ℕ) (m : MuxId)
    (found : Option Owner) → e.what ≡ Steer packet m
    → found ≡ accept_for (accept_in old.accepts) (segment_of stage packet)
    → new.owners.items ≡ set old.owners.items packet found → new.accepts ≡ old.accepts → KeepsOwners stage past old
    → KeepsOwners stage (e ∷ past) new
owners_steer stage past e old new packet m found is of puts same keeps = record {
  count = ap length puts ∙ length-set old.owners.items packet found ∙ keeps.count;
  accept_of_each = λ f. rw (is, same) (keeps.accept_of_each f);
  owner_of_each = λ k. rw is (elim (cases_eq packet k) [
    | inl here ↦
        let t : (packet == k) ≡ true = eq-eqb packet k here
        in elim (cases_lt k (length old.owners.items)) [
          | inl within ↦
              let kept : owner_in new k ≡ found = (let i = puts in rw i (grind (arith, common_steps)))
              in rw (t, kept) (ap (λ o. option_map as_accepted o) of
              ∙ accepted_before stage past (accept_in old.accepts) (segment_of stage packet) keeps.accept_of_each
              ∙ ap (λ n. accept_before stage past (segment_of stage n)) here)
          | inr beyond ↦
              let count = keeps.count
              in let none : segment_of stage k ≡ None = no_segment stage k (omega (arith, count, beyond))
              in let kept : owner_in new k ≡ None = (let i = puts in rw i (grind (arith, common_steps)))
              in rw (t, kept) (sym (none_before stage past (segment_of stage k) none))
        ]
    | inr other ↦
        let t : (packet == k) ≡ false = ne_eqb packet k other
        in let kept : owner_in new k ≡ owner_in old k = (let i = puts in rw i (grind (arith, common_steps)))
        in rw (t, kept) (keeps.owner_of_each k)
  ]);
}

-- AN ACCEPT

accept_observed : (stage : Stage) (past : List Event) (packet : ℕ) (hop : Hop) (server : ServerId) (f : Flow)
    (found : Owner) (before : Option Accepted) (old : Option Owner)
    → found.server ≡ server → found.version ≡ version_of (label_of stage past packet) → found.place ≡ length past
    → option_map as_accepted old ≡ before
    → option_map as_accepted (if is_of (segment_of stage packet) f then Some found else old)
    ≡ accept_after stage past (Arrive packet hop server Accept) f before
accept_observed stage past packet hop server f found before old s v p is =
    elim (cases_Bool (is_of (segment_of stage packet) f)) [
      | inl here ↦ rw (here, s, v, p) refl
      | inr elsewhere ↦ rw elsewhere is
    ]

pub owners_accept : (stage : Stage) (past : List Event) (e : Event) (old new : Owners) (packet : ℕ) (hop : Hop)
    (server : ServerId) (found : Owner) → e.what ≡ Arrive packet hop server Accept → found.server ≡ server
    → found.version ≡ version_of (label_of stage past packet) → found.place ≡ length past
    → ((q : Flow) → accept_in new.accepts q
    ≡ (if is_of (segment_of stage packet) q then Some found else accept_in old.accepts q))
    → new.owners ≡ old.owners → KeepsOwners stage past old → KeepsOwners stage (e ∷ past) new
owners_accept stage past e old new packet hop server found is s v p puts same keeps = record {
  count = rw same keeps.count;
  accept_of_each =
      λ f. ap (λ o. option_map as_accepted o) (puts f)
      ∙ rw is (accept_observed stage past packet hop server f found (accept_of stage past f) (accept_in old.accepts f) s v
      p (keeps.accept_of_each f));
  owner_of_each = λ k. rw (is, same) (keeps.owner_of_each k);
}

-- ANOTHER EVENT

abbrev pub changes_owners : What → Bool
changes_owners (Steer k m) = true
changes_owners (Arrive k hop server verdict) = is_accept verdict
changes_owners _ = false

same_accept : (stage : Stage) (past : List Event) (what : What) (f : Flow) (before : Option Accepted)
    → changes_owners what ≡ false → accept_after stage past what f before ≡ before
same_accept stage past (Publish v) f before other = refl
same_accept stage past (Switch m v) f before other = refl
same_accept stage past (Steer p m) f before other = absurd (cc)
same_accept stage past (Lose p hop) f before other = refl
same_accept stage past (Arrive p hop server verdict) f before other = rw other refl
same_accept stage past (Close server flow closed) f before other = refl
same_accept stage past (Retire server h at result) f before other = refl
same_accept stage past Sync f before other = refl

same_owner : (stage : Stage) (past : List Event) (what : What) (k : ℕ) (before : Option Accepted)
    → changes_owners what ≡ false → owner_after stage past what k before ≡ before
same_owner stage past (Publish v) k before other = refl
same_owner stage past (Switch m v) k before other = refl
same_owner stage past (Steer p m) k before other = absurd (cc)
same_owner stage past (Lose p hop) k before other = refl
same_owner stage past (Arrive p hop server verdict) k before other = refl
same_owner stage past (Close server flow closed) k before other = refl
same_owner stage past (Retire server h at result) k before other = refl
same_owner stage past Sync k before other = refl

pub owners_same : (stage : Stage) (past : List Event) (e : Event) (what : What) (o : Owners) → e.what ≡ what
    → changes_owners what ≡ false → KeepsOwners stage past o → KeepsOwners stage (e ∷ past) o
owners_same stage past e what o is other keeps = record {
  count = keeps.count;
  accept_of_each = λ f. keeps.accept_of_each f
      ∙ sym (ap (λ (w : What). accept_after stage past w f (accept_of stage past f)) is
      ∙ same_accept stage past what f (accept_of stage past f) other);
  owner_of_each = λ k. keeps.owner_of_each k
      ∙ sym (ap (λ (w : What). owner_after stage past w k (owner stage past k)) is
      ∙ same_owner stage past what k (owner stage past k) other);
}
