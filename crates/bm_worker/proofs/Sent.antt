-- What a worker may send, and how much it has sent.
use Rattle.std.proofs.Common.{◌≡◌, ℕ, ◌+◌, ◌≤◌, refl, sym, ap, ◌∙◌, arith, List, Result, Some}
use Rattle.std.specs.Prelude.{MatchResult}
use Rattle.bm_base.specs.declared.ids.MuxId.{MuxId}
use Rattle.bm_base.specs.declared.label.Hop.{Hop}
use Rattle.bm_base.specs.Labels.{hop_after}
use Rattle.bm_server.specs.Servings.{Serving}
use Rattle.bm_worker.specs.declared.stop.Stop.{Stop}
use Rattle.bm_worker.specs.declared.stop.Stop.TheVariants.{Memory}
use Rattle.bm_worker.specs.declared.worker.MuxWorker.{MuxWorker}
use Rattle.bm_worker.specs.WorkerNotes.{IsSameCaller}
use Rattle.bm_worker.specs.Callers.{CallerState}
use Rattle.bm_worker.specs.Inside.Pending.{CanSend, HasSent, copy_lost, most_lost}
use Rattle.bm_worker.specs.Inside.Lost.{with_loss}
use Rattle.bm_worker.proofs.Carrying.{grows_by_loss, losses_on, no_losses, same_by_loss, same_by_caller, same_worker}
use Rattle.bm_worker.proofs.Carrying.{same_worker_on, sits_on}

pub sent_nothing : (losses tries : ℕ) (w : MuxWorker) → HasSent losses tries w w
sent_nothing losses tries w = record {
  same = same_worker w;
  grows = no_losses losses w.mux.log;
  tries = omega arith;
}

pub sent_on : (n m p i j k : ℕ) (a b c : MuxWorker) → n + m ≤ p → i + j ≤ k → HasSent n i a b → HasSent m j b c
    → HasSent p k a c
sent_on n m p i j k a b c losses tries one two = record {
  same = same_worker_on a b c one.same two.same;
  grows = losses_on n m p a.mux.log b.mux.log c.mux.log losses one.grows two.grows;
  tries = let x = one.tries in let y = two.tries in omega arith;
}

-- one loss
pub sent_loss : (losses tries k clock : ℕ) (hop : Hop) (w next : MuxWorker) (r : Result (Unit {0}) Stop)
    → 1 ≤ losses → MatchResult r (λ _. next ≡ with_loss k hop clock w) (λ stop. (stop ≡ Memory) × (next ≡ w))
    → HasSent losses tries w next
sent_loss losses tries k clock hop w next r some lost =
    let same = same_by_loss k clock hop w next r lost in
    record {
      same = same.0;
      grows = grows_by_loss losses k clock hop w next r some lost;
      tries = let t = same.1 in omega arith;
    }

-- at most one call
pub sent_call : (losses tries : ℕ) (w : MuxWorker) (caller : CallerState) → 1 ≤ tries → IsSameCaller w.caller caller
    → caller.tries ≤ w.caller.tries + 1 → HasSent losses tries w (record w { caller = caller })
sent_call losses tries w caller some same call = record {
  same = same_by_caller w w caller refl refl (record { number = refl; who_is = refl }) same;
  grows = no_losses losses w.mux.log;
  tries = omega arith;
}

-- what a copy of a hop is forwarded as
pub lost_of : (hop next : Hop) → hop_after hop ≡ Some next → copy_lost hop ≡ most_lost next
lost_of hop next after = grind arith

pub can_on : (servers : List Serving) (losses used need all : ℕ) (a b : MuxWorker) → used + need ≤ all
    → CanSend servers all a → HasSent losses used a b → CanSend servers need b
can_on servers losses used need all a b most can sent = record {
  has_seats = sits_on servers a.caller b.caller sent.same.caller can.has_seats;
  number = sent.same.caller.number ∙ (can.number ∙ ap (λ (m : MuxId). m.0 + 1) (sym sent.same.id));
  few = let x = can.few in let y = sent.tries in omega arith;
}

-- the same, whatever the count of steps is
pub sent_same_steps : (losses tries : ℕ) (a b : MuxWorker) (steps : ℕ) → HasSent losses tries a b
    → HasSent losses tries (record a { steps = steps }) (record b { steps = steps })
sent_same_steps losses tries a b steps sent = record {
  same = record { id = sent.same.id; seen = sent.same.seen; caller = sent.same.caller; steps = refl };
  grows = sent.grows;
  tries = sent.tries;
}
