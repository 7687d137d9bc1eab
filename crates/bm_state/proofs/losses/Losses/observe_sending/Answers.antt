use Rattle.std.proofs.Common.{◌≡◌, ◌<◌, ◌^◌, subst, sym, ap, refl}
use Rattle.std.specs.Prelude.{if◌then◌else◌}
use Rattle.bm_base.specs.declared.ids.Moment.{Moment}
use Rattle.bm_state.specs.declared.losses.SentAt.{SentAt}
use Rattle.bm_state.specs.Losses.{losses_in, sent_at}
use Rattle.bm_state.specs.Inside.Losses.{same_sent}
use Rattle.bm_state.proofs.Losing.{few_sent, one_sent, sent_more}
use Rattle.bm_state.proofs.losses.Losses.observe_sending.Goals as goal

pub returns : goal.returns
returns c sent lost e few sends_it clock keeps =
    let old = c.args.self.now
    in let a = c.args.sending.packet
    in let h = c.args.sending.hop
    in let at = c.args.clock.0
    in let of = c.of.ensures
    in let small = few_sent sent lost old a h at few keeps
    in let puts : (q : SentAt) → losses_in c.add_sending.new.self q
    ≡ (if same_sent (sent_at a h at) q then one_sent (losses_in old (sent_at a h at)) else losses_in old q) =
    subst (λ (x : SentAt). (q : SentAt) → losses_in c.add_sending.new.self q
    ≡ (if same_sent x q then one_sent (losses_in old x) else losses_in old q)) of
    (c.in_ok-add_sending.ensures.tallies (subst (λ (x : SentAt). (losses_in old x).sendings < 2 ^ 63) (sym of) small))
    in sent_more sent lost e old c.add_sending.new.self a h at (one_sent (losses_in old (sent_at a h at))) few sends_it
    (ap (λ (m : Moment). m.0) clock) (λ few_here. refl) puts c.add_sending.ensures.count c.add_sending.ensures.direct keeps
