-- Where a bucket moved from a version on: the stamps in its entry, how often, and when its server may retire.
use Rattle.std.proofs.Common.{◌≡◌, ℕ, zero, suc, ◌+◌, ◌<◌, ◌≤◌, true, false, ◌&&◌, ◌⊎◌, inl, inr, Option, Some, None}
use Rattle.std.proofs.Common.{is_some, length, refl, ap, sym, ◌∙◌, arith, leb}
use Rattle.std.proofs.lemmas.Bool.{cases_Bool, cases_lt, or_parts, leb-false, le-leb}
use Rattle.std.proofs.lemmas.Option.{same_Some}
use Rattle.bm_base.specs.declared.ids.ServerId.{ServerId}
use Rattle.bm_base.specs.declared.label.Entry.{Entry}
use Rattle.bm_base.specs.declared.label.Hop.{Hop}
use Rattle.bm_base.specs.declared.label.Hop.TheVariants.{Direct, Chained, Twice}
use Rattle.bm_base.specs.declared.label.Past.{Past}
use Rattle.bm_base.specs.Labels.{hop_number, onward}
use Rattle.bm_table.proofs.Tables.{eq-same_server, moves_before}
use Rattle.bm_table.specs.Planned.{Planned}
use Rattle.bm_table.specs.declared.plan.Retirement.TheVariants.{Done}
use Rattle.bm_table.specs.Tables.{IsOrderly, IsRetirement, brings, change_moment, leaves_late, moved, moves, moves_next}
use Rattle.bm_table.specs.Tables.{next_change, same_server, table}

moved_none : (old : Entry) (at : ℕ) (to : Option ServerId) → is_some to ≡ false → moved old at to ≡ old
moved_none old at None h = refl
moved_none old at (Some s) h = absurd (cc)

moved_stamp : (old : Entry) (at : ℕ) (to : Option ServerId) (p : Past) → is_some to ≡ true
    → (moved old at to).prev ≡ Some p → p.stamp.0 ≡ at
moved_stamp old at None p h e = absurd (cc)
moved_stamp old at (Some s) p h e = ap (λ (x : Past). x.stamp.0) (sym (same_Some _ _ e))

moved_older : (old : Entry) (at : ℕ) (to : Option ServerId) (p : Past) → is_some to ≡ true
    → (moved old at to).older ≡ Some p → old.prev ≡ Some p
moved_older old at None p h e = absurd (cc)
moved_older old at (Some s) p h e = e

-- one of the changes w + 1 to v moves the bucket
pub record IsMove (plan : Planned) (b w v : ℕ) : Type 0 where
  pub change : ℕ
  pub from : w ≤ change
  pub below : change < v
  pub moves : moves_next plan change b ≡ true

abbrev more : (plan : Planned) (b w v : ℕ) → IsMove plan b w v → IsMove plan b w (suc v)
more plan b w v m =
    record { change = m.change; from = m.from; below = (let h = m.below in omega arith); moves = m.moves }

-- the last of them, and how many come before it
pub last_move : (plan : Planned) (b w v : ℕ) → 1 ≤ moves plan b w v
    → (m : IsMove plan b w v) × (suc (moves plan b w m.change) ≡ moves plan b w v)
last_move plan b w zero few = absurd (omega arith)
last_move plan b w (suc v) few = elim (cases_lt v w) [
  | inl below ↦ absurd (let none = moves_before plan b w (suc v) (omega arith) in omega arith)
  | inr above ↦
      let l : leb w v ≡ true = le-leb w v above
      in elim (cases_Bool (moves_next plan v b)) [
        | inl goes ↦ (
          record { change = v; from = above; below = omega arith; moves = goes },
          rw (l, goes) refl,
        )
        | inr stays ↦
            let same : moves plan b w (suc v) ≡ moves plan b w v = rw (l, stays) refl
            in let old = last_move plan b w v (omega arith)
            in (more plan b w v old.0, old.1 ∙ sym same)
      ]
]

-- the stamp is that of such a move
pub record IsStamped (plan : Planned) (b w v stamp : ℕ) : Type 0 where
  pub move : IsMove plan b w v
  pub stamp_is : change_moment (next_change plan move.change) ≡ stamp

later_stamp : (plan : Planned) (b w v stamp : ℕ) → IsStamped plan b w v stamp → IsStamped plan b w (suc v) stamp
later_stamp plan b w v stamp s = record { move = more plan b w v s.move; stamp_is = s.stamp_is }

-- where the bucket moved, the previous server's stamp is of such a move
prev_stamped : (plan : Planned) (b w v : ℕ) (p : Past) → 1 ≤ moves plan b w v → (table plan v b).prev ≡ Some p
    → IsStamped plan b w v p.stamp.0
prev_stamped plan b w zero p few is = absurd (omega arith)
prev_stamped plan b w (suc v) p few is = elim (cases_lt v w) [
  | inl below ↦ absurd (let none = moves_before plan b w (suc v) (omega arith) in omega arith)
  | inr above ↦
      let l : leb w v ≡ true = le-leb w v above
      in elim (cases_Bool (moves_next plan v b)) [
        | inl goes ↦ record {
          move = record { change = v; from = above; below = omega arith; moves = goes };
          stamp_is = sym (moved_stamp (table plan v b) (change_moment (next_change plan v))
              (brings (next_change plan v) b) p goes is);
        }
        | inr stays ↦
            let same : moves plan b w (suc v) ≡ moves plan b w v = rw (l, stays) refl
            in let is' : (table plan v b).prev ≡ Some p =
            ap (λ (x : Entry). x.prev)
            (sym (moved_none (table plan v b) (change_moment (next_change plan v)) (brings (next_change plan v) b) stays))
            ∙ is
            in later_stamp plan b w v p.stamp.0 (prev_stamped plan b w v p (omega arith) is')
      ]
]

-- where it moved twice, the older server's is
older_stamped : (plan : Planned) (b w v : ℕ) (p : Past) → 2 ≤ moves plan b w v → (table plan v b).older ≡ Some p
    → IsStamped plan b w v p.stamp.0
older_stamped plan b w zero p few is = absurd (omega arith)
older_stamped plan b w (suc v) p few is = elim (cases_lt v w) [
  | inl below ↦ absurd (let none = moves_before plan b w (suc v) (omega arith) in omega arith)
  | inr above ↦
      let l : leb w v ≡ true = le-leb w v above
      in elim (cases_Bool (moves_next plan v b)) [
        | inl goes ↦
            let one : moves plan b w (suc v) ≡ suc (moves plan b w v) = rw (l, goes) refl
            in later_stamp plan b w v p.stamp.0
            (prev_stamped plan b w v p (omega arith)
            (moved_older (table plan v b) (change_moment (next_change plan v)) (brings (next_change plan v) b) p goes
            is))
        | inr stays ↦
            let same : moves plan b w (suc v) ≡ moves plan b w v = rw (l, stays) refl
            in let is' : (table plan v b).older ≡ Some p =
            ap (λ (x : Entry). x.older)
            (sym (moved_none (table plan v b) (change_moment (next_change plan v)) (brings (next_change plan v) b) stays))
            ∙ is
            in later_stamp plan b w v p.stamp.0 (older_stamped plan b w v p (omega arith) is')
      ]
]

-- a copy that has gone back less often than the bucket moved may go on, by the stamp of such a move
pub onward_stamped : (plan : Planned) (b w v : ℕ) (hop : Hop) (p : Past) → hop_number hop < moves plan b w v
    → onward (table plan v b) hop ≡ Some p → IsStamped plan b w v p.stamp.0
onward_stamped plan b w v Direct p less onto = prev_stamped plan b w v p (omega arith) onto
onward_stamped plan b w v Chained p less onto = older_stamped plan b w v p (omega arith) onto
onward_stamped plan b w v Twice p less onto = absurd (cc)

-- WHERE A SERVER MAY RETIRE

-- a bucket that left the server long before
pub record HasLeft (plan : Planned) (timeout at b w n : ℕ) : Type 0 where
  pub move : IsMove plan b w n
  pub long : change_moment (next_change plan move.change) + timeout < at

-- the bucket is still at its server, or left it long before
there_or_left : (plan : Planned) (timeout at b w : ℕ) (s : ServerId) → (table plan w b).cur ≡ s → (n : ℕ) → w ≤ n
    → leaves_late plan timeout n s at b ≡ false → ((table plan n b).cur ≡ s) ⊎ HasLeft plan timeout at b w n
there_or_left plan timeout at b w s here zero order late = let r : w ≡ 0 = omega arith in inl (rw r at here)
there_or_left plan timeout at b w s here (suc n) order late = elim (cases_lt n w) [
  | inl below ↦ let r : w ≡ suc n = omega arith in inl (rw r at here)
  | inr above ↦
      let parts =
      or_parts (moves_next plan n b && same_server (table plan n b).cur s
      && leb at (change_moment (next_change plan n) + timeout)) (leaves_late plan timeout n s at b) late
      in elim (there_or_left plan timeout at b w s here n above parts.1) [
        | inr left ↦ inr (record { move = more plan b w n left.move; long = left.long })
        | inl there ↦ elim (cases_Bool (moves_next plan n b)) [
          | inl goes ↦
              let same : same_server (table plan n b).cur s ≡ true = eq-same_server _ _ there
              in let t : leb at (change_moment (next_change plan n) + timeout) ≡ false = rw (goes, same) at parts.0
              in inr (record {
                move = record { change = n; from = above; below = omega arith; moves = goes };
                long = leb-false _ _ t;
              })
          | inr stays ↦ inl
              (ap (λ (x : Entry). x.cur)
              (moved_none (table plan n b) (change_moment (next_change plan n)) (brings (next_change plan n) b) stays)
              ∙ there)
        ]
      ]
]

-- where a server may retire, a bucket that it had at a version has left it long before
pub retirement_left : (plan : Planned) → IsOrderly plan → (timeout n b w at : ℕ) (s : ServerId)
    → IsRetirement plan timeout n s at Done → n ≤ length plan.changes → w ≤ length plan.changes → b < plan.buckets
    → (table plan w b).cur ≡ s → HasLeft plan timeout at b w n
retirement_left plan orderly timeout n b w at s done top own inside here = elim (cases_lt w n) [
  | inr above ↦ absurd (orderly.drained n w b s done.0 above own inside here)
  | inl below ↦ elim (there_or_left plan timeout at b w s here n (omega arith) (done.1 b)) [
    | inl there ↦ absurd (orderly.drained n n b s done.0 (omega arith) top inside there)
    | inr left ↦ left
  ]
]
