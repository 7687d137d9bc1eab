-- At each shard the packets of one mux come in their order.
use Rattle.std.proofs.Common.{◌≡◌, ℕ, suc, ◌+◌, ◌≤◌, Bool, true, false, cond, ◌&&◌, List, [], ◌∷◌, ◌++◌, Option}
use Rattle.std.proofs.Common.{Some, None, refl, sym, ap, ◌∙◌, subst, arith, ltb}
use Rattle.std.specs.Prelude.{IfSome}
use Rattle.std.proofs.lemmas.Bool.{and_parts, and_from, eqb-true}
use Rattle.bm_base.specs.declared.ids.ServerId.{ServerId}
use Rattle.bm_base.specs.declared.flow.Segment.{Segment}
use Rattle.bm_base.specs.declared.label.Label.{Label}
use Rattle.bm_core.specs.declared.events.What.{What}
use Rattle.bm_core.specs.declared.events.What.TheVariants.{Publish, Switch, Steer, Lose, Arrive, Close, Retire, Sync}
use Rattle.bm_core.specs.declared.events.Event.{Event}
use Rattle.bm_core.specs.declared.events.Stage.{Stage}
use Rattle.bm_table.specs.Tables.{same_server}
use Rattle.bm_core.specs.Past.{segment_of, shard, label_of}
use Rattle.bm_core.specs.Runs.{Actor}
use Rattle.bm_core.specs.Runs.Actor.{MuxOf}
use Rattle.bm_core.specs.Accounts.{counts, steers_packet}
use Rattle.bm_core.specs.Threads.{is_in, is_from, arrives_later, ArrivesInOrder}
use Rattle.bm_core.specs.Logs.{log_of}
use Rattle.bm_core.proofs.Pasts.{labelled_sent}
use Rattle.bm_core.proofs.Logs.{label_in_log}
use Rattle.bm_merge.specs.Merges.{Log, gathered, named, Agree}
use Rattle.bm_merge.proofs.Placed.{how_many, agree_once}
use Rattle.bm_merge.proofs.Promised.{AreInOrder}
use Rattle.bm_merge.proofs.Merging.{IsWhole, label_down, label_from_log, many_more, moved_over}

many_first : (test : Event → Bool) (z x : List Event) → how_many test z ≤ how_many test (z ++ x)
many_first test [] x = omega arith
many_first test (e ∷ z) x = go (test e) (many_first test z x) where
  go : (b : Bool) → how_many test z ≤ how_many test (z ++ x)
      → cond b (suc (how_many test z)) (how_many test z)
      ≤ cond b (suc (how_many test (z ++ x))) (how_many test (z ++ x))
  go true h = omega arith
  go false h = h

named_step : (test : Event → Bool) (x y z : List Event) (mine : Bool) → how_many test y ≤ how_many test z
    → how_many test (cond mine x y) ≤ how_many test (z ++ x)
named_step test x y z true old = many_more test z x
named_step test x y z false old =
    let more : how_many test z ≤ how_many test (z ++ x) = many_first test z x in omega arith

-- an actor's log is among all events
pub named_fewer : (test : Event → Bool) (logs : List Log) (a : Actor)
    → how_many test (named logs a) ≤ how_many test (gathered logs)
named_fewer test [] a = omega arith
named_fewer test (l ∷ logs) a = named_step test l.events (named logs a) (gathered logs) _ (named_fewer test logs a)

-- a label that a packet has is that of its mux's log
pub label_named : (stage : Stage) (logs : List Log) (x past : List Event) (e : Event) (k : ℕ) (l : Label)
    → Agree stage logs → IsWhole stage logs (x ++ e ∷ past) → label_of stage past k ≡ Some l
    → label_of stage (named logs (MuxOf l.mux.0)) k ≡ Some l
label_named stage logs x past e k l agree whole is =
    let moved : (x ++ e ∷ []) ++ past ≡ x ++ e ∷ past = moved_over x past e
    in let few : how_many (λ y. steers_packet y.what k) ((x ++ e ∷ []) ++ past) ≤ 1 =
    subst (λ (z : List Event). how_many (λ y. steers_packet y.what k) z ≤ 1) (sym moved) (whole.once k)
    in let down : label_of stage ((x ++ e ∷ []) ++ past) k ≡ label_of stage past k =
    label_down stage (x ++ e ∷ []) past k (labelled_sent stage past k l is) few
    in let all : label_of stage (x ++ e ∷ past) k ≡ Some l =
    ap (λ (z : List Event). label_of stage z k) (sym moved) ∙ down ∙ is
    in let part : label_of stage (log_of stage (x ++ e ∷ past) (MuxOf l.mux.0)) k ≡ Some l =
    label_in_log stage (x ++ e ∷ past) k l all
    in let logged : label_of stage (log_of stage (named logs (MuxOf l.mux.0)) (MuxOf l.mux.0)) k ≡ Some l =
    ap (λ (z : List Event). label_of stage z k) (sym (whole.part (MuxOf l.mux.0))) ∙ part
    in let fewer : how_many (λ y. steers_packet y.what k) (named logs (MuxOf l.mux.0))
    ≤ how_many (λ y. steers_packet y.what k) (gathered logs) =
    named_fewer (λ y. steers_packet y.what k) logs (MuxOf l.mux.0)
    in let once : how_many (λ y. steers_packet y.what k) (gathered logs) ≤ 1 = agree_once logs k (agree.once k)
    in label_from_log stage (named logs (MuxOf l.mux.0)) l.mux k l (omega arith) logged

from_named : (stage : Stage) (logs : List Log) (x past : List Event) (e : Event) (k m : ℕ) (o : Option Label)
    → Agree stage logs → IsWhole stage logs (x ++ e ∷ past) → label_of stage past k ≡ o → is_from o m ≡ true
    → is_from (label_of stage (named logs (MuxOf m)) k) m ≡ true
from_named stage logs x past e k m None agree whole is h = absurd (cc)
from_named stage logs x past e k m (Some l) agree whole is h =
    let at : l.mux.0 ≡ m = eqb-true _ _ h
    in let labelled : label_of stage (named logs (MuxOf m)) k ≡ Some l =
    subst (λ (n : ℕ). label_of stage (named logs (MuxOf n)) k ≡ Some l) at
    (label_named stage logs x past e k l agree whole is)
    in rw labelled h

later_named : (stage : Stage) (logs : List Log) (x past : List Event) (e : Event) (s : ServerId) (h m packet : ℕ)
    (what : What) → Agree stage logs → IsWhole stage logs (x ++ e ∷ past)
    → arrives_later stage past what s h m packet ≡ true
    → arrives_later stage (named logs (MuxOf m)) what s h m packet ≡ true
later_named stage logs x past e s h m packet (Arrive k hop server verdict) agree whole is =
    let a =
    and_parts ((same_server server s && is_in (segment_of stage k) stage h) && is_from (label_of stage past k) m)
    (ltb packet k) is
    in let b =
    and_parts (same_server server s && is_in (segment_of stage k) stage h) (is_from (label_of stage past k) m) a.0
    in and_from _ _
    (and_from _ _ b.0 (from_named stage logs x past e k m (label_of stage past k) agree whole refl b.1)) a.1
later_named stage logs x past e s h m packet (Publish v) agree whole is = absurd (cc)
later_named stage logs x past e s h m packet (Switch n v) agree whole is = absurd (cc)
later_named stage logs x past e s h m packet (Steer k n) agree whole is = absurd (cc)
later_named stage logs x past e s h m packet (Lose k hop) agree whole is = absurd (cc)
later_named stage logs x past e s h m packet (Close server flow closed) agree whole is = absurd (cc)
later_named stage logs x past e s h m packet (Retire server n at result) agree whole is = absurd (cc)
later_named stage logs x past e s h m packet Sync agree whole is = absurd (cc)

counts_weaker : (p q : What → Bool) (past : List Event) → ((what : What) → p what ≡ true → q what ≡ true)
    → counts past p ≤ counts past q
counts_weaker p q [] so = omega arith
counts_weaker p q (e ∷ past) so = go (p e.what) refl (counts_weaker p q past so) where
  go : (b : Bool) → p e.what ≡ b → counts past p ≤ counts past q
      → cond b 1 0 + counts past p ≤ cond (q e.what) 1 0 + counts past q
  go true is old = let h = so e.what is in rw h (omega arith)
  go false is old = omega arith

pub order_here : (stage : Stage) (logs : List Log) (x past : List Event) (e : Event) (k : ℕ) (server : ServerId)
    → Agree stage logs → IsWhole stage logs (x ++ e ∷ past)
    → AreInOrder stage logs past k server → ArrivesInOrder stage past k server
order_here stage logs x past e k server agree whole order = go (label_of stage past k) refl where
  inner : (l : Label) (o : Option Segment)
      → IfSome o
      (λ s. counts past
      (λ what. arrives_later stage (named logs (MuxOf l.mux.0)) what server (shard stage s.flow) l.mux.0 k) ≡ 0)
      → IfSome o (λ s. counts past (λ what. arrives_later stage past what server (shard stage s.flow) l.mux.0 k) ≡ 0)
  inner l None h = tt
  inner l (Some s) h =
      let most : counts past (λ what. arrives_later stage past what server (shard stage s.flow) l.mux.0 k)
      ≤ counts past
      (λ what. arrives_later stage (named logs (MuxOf l.mux.0)) what server (shard stage s.flow) l.mux.0 k) =
      counts_weaker _ _ past
      (λ what is. later_named stage logs x past e server (shard stage s.flow) l.mux.0 k what agree whole is)
      in omega arith

  go : (o : Option Label) → label_of stage past k ≡ o
      → IfSome o
      (λ l. IfSome (segment_of stage k)
      (λ s. counts past (λ what. arrives_later stage past what server (shard stage s.flow) l.mux.0 k) ≡ 0))
  go None is = tt
  go (Some l) is =
      let labelled : label_of stage (named logs (MuxOf l.mux.0)) k ≡ Some l =
      label_named stage logs x past e k l agree whole is
      in inner l (segment_of stage k) (order l.mux (rw labelled refl))
