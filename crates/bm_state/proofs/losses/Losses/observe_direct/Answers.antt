use Rattle.std.proofs.Common.{◌≡◌, ◌<◌, ◌^◌, subst, sym, refl}
use Rattle.std.specs.Prelude.{if◌then◌else◌}
use Rattle.bm_base.specs.declared.label.Hop.TheVariants.{Direct}
use Rattle.bm_state.specs.declared.losses.SentAt.{SentAt}
use Rattle.bm_state.specs.Losses.{losses_in, sent_at}
use Rattle.bm_state.specs.Inside.Losses.{same_sent}
use Rattle.bm_state.proofs.Losing.{few_sent, one_sent, sent_more}
use Rattle.bm_state.proofs.losses.Losses.observe_direct.Goals as goal

pub returns-in_ok-add_sending-in-Some : goal.returns-in_ok-add_sending-in-Some
returns-in_ok-add_sending-in-Some c sent lost e few sends_it clock keeps =
    let old = c.args.self.now
    in let a = c.args.packet
    in let at = c.args.clock
    in let of = c.of.ensures
    in let small = few_sent sent lost old a Direct at few keeps
    in let puts : (q : SentAt) → losses_in c.add_sending.new.self q
    ≡ (if same_sent (sent_at a Direct at) q then one_sent (losses_in old (sent_at a Direct at)) else losses_in old q) =
    subst (λ (x : SentAt). (q : SentAt) → losses_in c.add_sending.new.self q
    ≡ (if same_sent x q then one_sent (losses_in old x) else losses_in old q)) of
    (c.in_ok-add_sending-in-Some.ensures.tallies (subst (λ (x : SentAt). (losses_in old x).sendings < 2 ^ 63) (sym of) small))
    in sent_more sent lost e old c.add_sending.new.self a Direct at (one_sent (losses_in old (sent_at a Direct at))) few
    sends_it clock (λ few_here. refl) puts c.add_sending.ensures.count c.add_sending.ensures.direct keeps
