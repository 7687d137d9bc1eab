-- What follows of the entries of a table, and of the moment at which a server may retire.
use Rattle.std.proofs.Common.{◌≡◌, ℕ, zero, suc, ◌+◌, ◌<◌, ◌≤◌, true, false, ◌&&◌, ◌⊎◌, inl, inr, Option, Some, None}
use Rattle.std.proofs.Common.{is_some, length, refl, ap, sym, ◌∙◌, arith, leb}
use Rattle.std.proofs.lemmas.Bool.{cases_Bool, cases_lt, or_parts, leb-false, le-leb, lt-leb}
use Rattle.std.proofs.lemmas.Bool.Decides.{nat_tests}
use Rattle.bm_base.specs.declared.ids.ServerId.{ServerId}
use Rattle.bm_base.specs.declared.label.Entry.{Entry}
use Rattle.bm_base.specs.declared.label.Hop.{Hop}
use Rattle.bm_base.specs.declared.label.Hop.TheVariants.{Direct, Chained, Twice}
use Rattle.bm_base.specs.declared.label.Past.{Past}
use Rattle.bm_base.specs.Labels.{arrives_at, hop_after, hop_number, onward, server_of}
use Rattle.bm_base.proofs.Hops.{hop_back, numbered, same_number}
use Rattle.bm_base.proofs.Entries.{AreEarly, IsEntry}
use Rattle.bm_base.specs.Tags.{IsServer}
use Rattle.std.specs.Prelude.{◌≢◌, IfSome}
use Rattle.std.proofs.lemmas.Option.{same_Some}
use Rattle.std.specs.Option.{option_map_or}
use Rattle.bm_table.specs.Planned.{Planned}
use Rattle.bm_table.specs.declared.plan.Retirement.TheVariants.{Done}
use Rattle.bm_table.specs.Tables.{same_server, brings, next_change, moves_next, change_moment, moved, table, moves}
use Rattle.bm_table.specs.Tables.{leaves_late, IsRetirement, IsOrderly}

pub same_server-true : (a b : ServerId) → same_server a b ≡ true → a ≡ b
same_server-true a b h = grind (arith, nat_tests)

pub eq-same_server : (a b : ServerId) → a ≡ b → same_server a b ≡ true
eq-same_server a b h = grind (arith, nat_tests)

moved_none : (old : Entry) (at : ℕ) (to : Option ServerId) → is_some to ≡ false → moved old at to ≡ old
moved_none old at None h = refl
moved_none old at (Some s) h = absurd (cc)

-- a move makes the bucket's server the previous one, and the previous the older one
moved_back : (old : Entry) (at : ℕ) (to : Option ServerId) (hop next : Hop) → is_some to ≡ true
    → hop_after hop ≡ Some next → arrives_at (moved old at to) next ≡ arrives_at old hop
moved_back old at None hop next h after = absurd (cc)
moved_back old at (Some s) Direct next h after = rw (sym (same_Some _ _ after)) refl
moved_back old at (Some s) Chained next h after = rw (sym (same_Some _ _ after)) refl
moved_back old at (Some s) Twice next h after = absurd (cc)

-- and a copy of the hop after goes on to where one of the hop before went on to
onward_back : (old : Entry) (at : ℕ) (s : ServerId) (hop next : Hop) (p : Past) → hop_after hop ≡ Some next
    → onward (moved old at (Some s)) next ≡ Some p → onward old hop ≡ Some p
onward_back old at s Direct Chained p after e = e
onward_back old at s Direct Direct p after e = absurd (cc)
onward_back old at s Direct Twice p after e = absurd (cc)
onward_back old at s Chained Twice p after e = absurd (cc)
onward_back old at s Chained Direct p after e = absurd (cc)
onward_back old at s Chained Chained p after e = absurd (cc)
onward_back old at s Twice next p after e = absurd (cc)

-- no change from w on is counted before w
pub moves_before : (plan : Planned) (b w v : ℕ) → v ≤ w → moves plan b w v ≡ 0
moves_before plan b w zero h = refl
moves_before plan b w (suc v) h =
    let e : leb w v ≡ false = lt-leb w v (omega arith)
    in let r : v ≤ w = omega arith
    in rw e (moves_before plan b w v r)

-- an entry that no change moved is the same
pub same_entry : (plan : Planned) (b w v : ℕ) → w ≤ v → moves plan b w v ≡ 0 → table plan v b ≡ table plan w b
same_entry plan b w zero h e = let r : 0 ≡ w = omega arith in ap (λ x. table plan x b) r
same_entry plan b w (suc v) h e =
    elim (cases_lt v w) [
      | inl below ↦ let r : suc v ≡ w = omega arith in ap (λ x. table plan x b) r
      | inr above ↦ elim (cases_Bool (moves_next plan v b)) [
        | inl goes ↦
            let l : leb w v ≡ true = le-leb w v above
            in let e' : suc (moves plan b w v) ≡ 0 = rw (l, goes) at e
            in absurd (omega arith)
        | inr stays ↦
            let l : leb w v ≡ true = le-leb w v above
            in let e' : moves plan b w v ≡ 0 = rw (l, stays) at e
            in moved_none (table plan v b) (change_moment (next_change plan v)) (brings (next_change plan v) b) stays
            ∙ same_entry plan b w v above e'
      ]
    ]

-- if changes moved the bucket as often as the hop goes back, the hop arrives at the server that had the bucket before
-- them
pub server_back : (plan : Planned) (b w v : ℕ) (hop : Hop) → w ≤ v → moves plan b w v ≡ hop_number hop
    → arrives_at (table plan v b) hop ≡ Some (table plan w b).cur
server_back plan b w zero hop h e =
    let r : 0 ≡ w = omega arith
    in rw (same_number hop Direct (sym e)) (ap (λ x. Some (table plan x b).cur) r)
server_back plan b w (suc v) hop h e =
    elim (cases_lt v w) [
      | inl below ↦
          let z : moves plan b w (suc v) ≡ 0 = moves_before plan b w (suc v) (omega arith)
          in let r : suc v ≡ w = omega arith
          in rw (same_number hop Direct (sym e ∙ z)) (ap (λ x. Some (table plan x b).cur) r)
      | inr above ↦
          let l : leb w v ≡ true = le-leb w v above
          in elim (cases_Bool (moves_next plan v b)) [
            | inl goes ↦
                let e' : suc (moves plan b w v) ≡ hop_number hop = rw (l, goes) at e
                in let back = hop_back hop (moves plan b w v) (sym e')
                in moved_back (table plan v b) (change_moment (next_change plan v)) (brings (next_change plan v) b)
                back.0 hop goes back.1
                ∙ server_back plan b w v back.0 above (sym back.2)
            | inr stays ↦
                let e' : moves plan b w v ≡ hop_number hop = rw (l, stays) at e
                in ap (λ (x : Entry). arrives_at x hop)
                (moved_none (table plan v b) (change_moment (next_change plan v)) (brings (next_change plan v) b) stays)
                ∙ server_back plan b w v hop above e'
          ]
    ]

-- so it is the hop of that number, where they are at most two
pub stands_back : (plan : Planned) (b w v : ℕ) → w ≤ v → moves plan b w v ≤ 2
    → (home : Hop) × (hop_number home ≡ moves plan b w v)
    × (arrives_at (table plan v b) home ≡ Some (table plan w b).cur)
stands_back plan b w v h few =
    let home = numbered (moves plan b w v) few
    in (home.0, home.1, server_back plan b w v home.0 h (sym home.1))

-- an older server comes only with a previous one
pub no_older : (plan : Planned) (b v : ℕ) → (table plan v b).prev ≡ None → (table plan v b).older ≡ None
no_older plan b zero e = refl
no_older plan b (suc v) e = step (table plan v b) (brings (next_change plan v) b) e (no_older plan b v) where
  step : (old : Entry) (to : Option ServerId) → (moved old (change_moment (next_change plan v)) to).prev ≡ None
      → (old.prev ≡ None → old.older ≡ None) → (moved old (change_moment (next_change plan v)) to).older ≡ None
  step old None e before = before e
  step old (Some s) e before = absurd (cc)

-- a version at which the server where a copy of this hop arrives had the bucket; the copy goes on to the server that was
-- the previous one then
pub record IsVisit (plan : Planned) (b v : ℕ) (e : Entry) (hop : Hop) (server : ServerId) : Type 0 where
  pub version : ℕ
  pub earlier : version ≤ v
  pub cur : (table plan version b).cur ≡ server
  pub onto : (p : Past) → onward e hop ≡ Some p → (table plan version b).prev ≡ Some p

visit_step : (plan : Planned) (b v at : ℕ) (before hop : Hop) (server : ServerId) (to : Option ServerId)
    → hop_after before ≡ Some hop → arrives_at (moved (table plan v b) at to) hop ≡ Some server
    → ((h : Hop) → arrives_at (table plan v b) h ≡ Some server → IsVisit plan b v (table plan v b) h server)
    → IsVisit plan b (suc v) (moved (table plan v b) at to) hop server
visit_step plan b v at before hop server None after here old =
    let i = old hop here
    in record {
      version = i.version;
      earlier = let h : i.version ≤ v = i.earlier in omega arith;
      cur = i.cur;
      onto = i.onto;
    }
visit_step plan b v at before hop server (Some s) after here old =
    let i = old before (sym (moved_back (table plan v b) at (Some s) before hop refl after) ∙ here)
    in record {
      version = i.version;
      earlier = let h : i.version ≤ v = i.earlier in omega arith;
      cur = i.cur;
      onto = λ p onto. i.onto p (onward_back (table plan v b) at s before hop p after onto);
    }

pub visited : (plan : Planned) (b v : ℕ) (hop : Hop) (server : ServerId)
    → arrives_at (table plan v b) hop ≡ Some server → IsVisit plan b v (table plan v b) hop server
visited plan b v Direct server at = record {
  version = v;
  earlier = omega arith;
  cur = same_Some _ _ at;
  onto = λ p onto. onto;
}
visited plan b zero Chained server at = absurd (cc)
visited plan b zero Twice server at = absurd (cc)
visited plan b (suc v) Chained server at =
    visit_step plan b v (change_moment (next_change plan v)) Direct Chained server (brings (next_change plan v) b) refl
    at
    (λ h. visited plan b v h server)
visited plan b (suc v) Twice server at =
    visit_step plan b v (change_moment (next_change plan v)) Chained Twice server (brings (next_change plan v) b) refl
    at
    (λ h. visited plan b v h server)

-- a move to another server
pub moved_entry : (e : Entry) (at : ℕ) (to : Option ServerId) → IsEntry e → IfSome to IsServer
    → IfSome to (λ s. s ≢ e.cur) → IsEntry (moved e at to)
moved_entry e at None is server other = is
moved_entry e at (Some s) is server other = record {
  cur = server;
  prev = is.cur;
  apart = λ same. other (sym (same_Some _ _ same));
  older = previous e.prev is.prev is.apart;
} where
  previous : (past : Option Past) → IfSome past (λ p. IsServer p.server) → server_of past ≢ Some e.cur
      → IfSome past (λ o. IsServer o.server × (o.server ≢ e.cur))
  previous None known apart = tt
  previous (Some p) known apart = (known, λ same. apart (ap (λ (x : ServerId). Some x) same))

-- the stamps of a table are no later than this, where no change is
pub early_entry : (plan : Planned) (top : ℕ) → ((v : ℕ) → change_moment (next_change plan v) ≤ top) → (v b : ℕ)
    → AreEarly top (table plan v b)
early_entry plan top early zero b = record { prev = tt; older = tt }
early_entry plan top early (suc v) b =
    step (table plan v b) (brings (next_change plan v) b) (early_entry plan top early v b) where
      step : (e : Entry) (to : Option ServerId) → AreEarly top e
          → AreEarly top (moved e (change_moment (next_change plan v)) to)
      step e None is = is
      step e (Some s) is = record { prev = early v; older = is.prev }

-- since when a bucket is at its server, or 0
abbrev pub since : Entry → ℕ
since e = option_map_or (λ p. p.stamp.0) e.prev 0

stamp_of_moved : (old : Entry) (at top : ℕ) (to : Option ServerId) → since old ≤ top → at ≤ top
    → since (moved old at to) ≤ top
stamp_of_moved old at top None h k = h
stamp_of_moved old at top (Some s) h k = k

-- a stamp is no later than the changes that come after
pub stamp_before : (plan : Planned) → IsOrderly plan → (b v x : ℕ) → v ≤ x → x < length plan.changes
    → since (table plan v b) ≤ change_moment (next_change plan x)
stamp_before plan o b zero x h l = omega arith
stamp_before plan o b (suc v) x h l =
    let r : v ≤ x = omega arith
    in stamp_of_moved (table plan v b) (change_moment (next_change plan v)) (change_moment (next_change plan x))
    (brings (next_change plan v) b)
    (stamp_before plan o b v x r l) (o.stamps v x r l)

-- while no late leave is there, the bucket is still at its server, or it left early enough
pub still_there : (plan : Planned) → IsOrderly plan → (timeout at b v : ℕ) (s : ServerId) → (table plan v b).cur ≡ s
    → (n : ℕ) → v ≤ n → n ≤ length plan.changes → leaves_late plan timeout n s at b ≡ false → ((table plan n b).cur ≡ s)
    ⊎ (since (table plan v b) + timeout < at)
still_there plan o timeout at b v s here zero h l late = let r : v ≡ 0 = omega arith in inl (rw r at here)
still_there plan o timeout at b v s here (suc n) h l late =
    elim (cases_lt n v) [
      | inl below ↦ let r : v ≡ suc n = omega arith in inl (rw r at here)
      | inr above ↦
          let parts =
          or_parts (moves_next plan n b && same_server (table plan n b).cur s
          && leb at (change_moment (next_change plan n) + timeout)) (leaves_late plan timeout n s at b) late
          in let r : n < length plan.changes = omega arith
          in elim (still_there plan o timeout at b v s here n above (omega arith) parts.1) [
            | inr early ↦ inr early
            | inl there ↦ elim (cases_Bool (moves_next plan n b)) [
              | inl goes ↦
                  let same : same_server (table plan n b).cur s ≡ true = eq-same_server _ _ there
                  in let t : leb at (change_moment (next_change plan n) + timeout) ≡ false = rw (goes, same) at parts.0
                  in let st : since (table plan v b) ≤ change_moment (next_change plan n) =
                  stamp_before plan o b v n above r
                  in let lt : change_moment (next_change plan n) + timeout < at = leb-false _ _ t
                  in inr (omega arith)
              | inr stays ↦ inl
                  (ap (λ (x : Entry). x.cur)
                  (moved_none (table plan n b) (change_moment (next_change plan n)) (brings (next_change plan n) b)
                  stays) ∙ there)
            ]
          ]
    ]

-- where a server may retire, each version that has a bucket at it is older than the newest, and its stamp is old enough
pub retirement_late : (plan : Planned) → IsOrderly plan → (timeout n b v at : ℕ) (s : ServerId)
    → IsRetirement plan timeout n s at Done → n ≤ length plan.changes → v ≤ length plan.changes → b < plan.buckets
    → (table plan v b).cur ≡ s → (v < n) × (since (table plan v b) + timeout < at)
retirement_late plan o timeout n b v at s done l m r here =
    elim (cases_lt v n) [
      | inr above ↦ absurd (o.drained n v b s done.0 above m r here)
      | inl below ↦ elim (still_there plan o timeout at b v s here n (omega arith) l (done.1 b)) [
        | inl there ↦ absurd (o.drained n n b s done.0 (omega arith) l r there)
        | inr early ↦ (below, early)
      ]
    ]
