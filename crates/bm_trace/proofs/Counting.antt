-- Counts of the first events, one event more at a time.
use Rattle.std.proofs.Common.{◌≡◌, ℕ, ◌+◌, ◌<◌, ◌≤◌, ◌^◌, Bool, true, false, List, [], ◌∷◌, length}
use Rattle.std.proofs.Common.{take, get_or, arith, refl, sym, subst}
use Rattle.std.specs.Prelude.{count_by, not}
use Rattle.std.proofs.lemmas.List.Sums.{count_by-le-length, sum_by-cons, sum_by_more}
use Rattle.std.proofs.lemmas.Grind.{common_steps}
use Rattle.bm_base.specs.declared.capture.Record.{Record}
use Rattle.bm_core.specs.declared.events.Event.{Event}
use Rattle.bm_core.specs.Causes.{is_process}
use Rattle.bm_core.specs.Past.{is_accept, is_forward}
use Rattle.bm_trace.specs.declared.counts.Counts.{Counts}
use Rattle.bm_trace.specs.Inside.Counts.{HasRoom, counts_of, one_if, with_event}
use Rattle.bm_trace.specs.Totals.{arrives, is_drop, is_lost, is_reset, is_steered}

pub counts_more : (events : List Event) (i : ℕ) (d : Event) → i < length events
    → counts_of (take (i + 1) events) ≡ with_event (get_or events i d).what (counts_of (take i events))
counts_more events i d below = λ k. record {
  accepted = sum_by_more (λ e. one_if (arrives is_accept e.what)) events i d below k;
  processed = sum_by_more (λ e. one_if (arrives is_process e.what)) events i d below k;
  forwarded = sum_by_more (λ e. one_if (arrives is_forward e.what)) events i d below k;
  reset = sum_by_more (λ e. one_if (arrives is_reset e.what)) events i d below k;
  dropped = sum_by_more (λ e. one_if (arrives is_drop e.what)) events i d below k;
  lost = sum_by_more (λ e. one_if (is_lost e.what)) events i d below k;
}

few : (events : List Event) (i : ℕ) (p : Event → Bool) → i < length events → count_by p (take i events) ≤ i
few events i p below =
    let a = count_by-le-length p (take i events)
    in let e : length (take i events) ≡ i = grind (arith, common_steps)
    in omega (arith, a, e)

-- before each event there is room for one more
pub room : (events : List Event) (i : ℕ) (c : Counts) → i < length events → i + 1 < 2 ^ 64
    → c ≡ counts_of (take i events) → HasRoom c
room events i c below low is =
    subst HasRoom (sym is) (record {
      accepted = let h = few events i (λ e. arrives is_accept e.what) below in omega (arith, h, low);
      processed = let h = few events i (λ e. arrives is_process e.what) below in omega (arith, h, low);
      forwarded = let h = few events i (λ e. arrives is_forward e.what) below in omega (arith, h, low);
      reset = let h = few events i (λ e. arrives is_reset e.what) below in omega (arith, h, low);
      dropped = let h = few events i (λ e. arrives is_drop e.what) below in omega (arith, h, low);
      lost = let h = few events i (λ e. is_lost e.what) below in omega (arith, h, low);
    })

both : (b : Bool) → one_if b + one_if (not b) ≡ 1
both true = refl
both false = refl

-- a record is steered, or it is not
pub steered_or_not : (records : List Record) → count_by (λ r. is_steered r) records
    + count_by (λ r. not (is_steered r)) records ≡ length records
steered_or_not [] = refl
steered_or_not (r ∷ records) =
    let rest = steered_or_not records
    in let one = both (is_steered r)
    in let yes = sum_by-cons (λ x. one_if (is_steered x)) r records
    in let no = sum_by-cons (λ x. one_if (not (is_steered x))) r records
    in omega (arith, rest, one, yes, no)
