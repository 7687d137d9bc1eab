use Rattle.std.proofs.Common.{◌≡◌, ◌+◌, ◌<◌, [], ◌∷◌, ◌++◌, List, length, length-append, length-set, get_or, set}
use Rattle.std.proofs.Common.{sym, ap, ◌∙◌, subst, arith}
use Rattle.bm_turnstile.specs.Sittings.{Sitting}
use Rattle.bm_turnstile.specs.Views.{NewFrom, AllIn, given_of}
use Rattle.bm_turnstile.proofs.Seats.{all_head, all_set, all_snoc, given_set, given_snoc, new_given, new_head, new_snoc}
use Rattle.bm_turnstile.proofs.turnstile.Turnstile.seated.Goals as goal

pub loop-number-init : goal.loop-number-init
loop-number-init g c =
    let S : Type 0 = Sitting g.row.T-Fixed.Denot g.row.T-Entry.Denot in
    let P : S → Type 0 = λ s. s.table ≡ c.in_ok-tickets.tickets.table.shared.table_id in
    let e = c.in_ok-all.ensures in
    let v = c.in_ok-tickets.ensures.view in
    record {
      count = ap length e;
      given = ap given_of e ∙ ap (λ m. m.0.given) v;
      all = subst (AllIn P) (sym e) (c.in_ok-tickets.ensures.own, tt);
      new = subst (NewFrom (g.T.Booked.fixed c.args.state) 0) (sym e)
          (ap (λ m. m.0.number) v, ap (λ m. m.0.fixed) v, ap (λ m. m.0.turns) v, ap (λ m. m.0.seen) v, tt);
    }

pub loop-number-preserved : goal.loop-number-preserved
loop-number-preserved g c =
    let S : Type 0 = Sitting g.row.T-Fixed.Denot g.row.T-Entry.Denot in
    let about = g.T.Booked.fixed c.args.state in
    let P : S → Type 0 = λ s. s.table ≡ c.in_ok-tickets.tickets.table.shared.table_id in
    let i = c.loop-number.invariant in
    let all : List S = c.loop-number.all.items in
    let number = c.loop-number.number in
    let old : S = c.index_mut.result.now in
    let first : S = c.another-seat.new.first in
    let x : S = c.another-seat.result in
    let made = c.another-seat.ensures in
    let at : old ≡ get_or all 0 old = c.index_mut.ensures.value in
    let now : List S = set all 0 first in
    let e : c.push.new.self.items ≡ now ++ x ∷ [] = c.in_ok-push.ensures.items in
    let count = i.count in
    let long = length-set all 0 first in
    let some : 0 < length now = omega arith in
    let head = new_head about 0 all old (omega arith) i.new in
    let table : old.table ≡ c.in_ok-tickets.tickets.table.shared.table_id =
    ap (λ (s : S). s.table) at ∙ all_head P all old (omega arith) i.all in
    let new = new_given about 0 (number + 1) all first old i.new
    (made.first ∙ ap (λ (s : S). record s { given = number + 1 }) at) in
    record {
      count = omega (arith, ap length e, length-append now (x ∷ []), long, count);
      given = ap given_of e ∙ (given_snoc now x some ∙ (given_set all first (omega arith)
          ∙ ap (λ (s : S). s.given) made.first));
      all = subst (AllIn P) (sym e) (all_snoc P now x (all_set P all first i.all (ap (λ (s : S). s.table) made.first ∙ table))
          (ap (λ (s : S). s.table) made.seat ∙ table));
      new = subst (NewFrom about 0) (sym e)
          (new_snoc about 0 now x new (ap (λ (s : S). s.number) made.seat ∙ omega arith)
          (ap (λ (s : S). s.fixed) made.seat ∙ (ap (λ (s : S). s.fixed) at ∙ head))
          (ap (λ (s : S). s.turns) made.seat) (ap (λ (s : S). s.seen) made.seat));
    }
