use Rattle.std.proofs.Common.{◌≡◌, subst}
use Rattle.bm_turnstile.specs.Sittings.{Sitting, who}
use Rattle.bm_turnstile.specs.Replies.{AddsReply}
use Rattle.bm_turnstile.specs.Views.{sitting}
use Rattle.bm_turnstile.proofs.Places.{same_who}
use Rattle.bm_turnstile.proofs.ReplyLemmas.{adds_reply}
use Rattle.bm_turnstile.proofs.turnstile.Turnstile.turn.Goals as goal

pub returns-clause-replies : goal.returns-clause-replies
returns-clause-replies g c =
    let b = g.T.Booked in
    let S : Type 0 = Sitting g.row.T-Fixed.Denot g.row.T-Entry.Denot in
    let turned = c.turn.ensures in
    let place = c.seat.inside.place in
    let old : S = sitting place.table_id place.me.0 in
    let new : S = sitting c.turn.new.seat.table_id c.turn.new.seat.me.0 in
    let same : who new ≡ who old =
    same_who place.table_id c.turn.new.seat.table_id place.me.0 c.turn.new.seat.me.0 turned.own turned.same in
    let P : S → Type 0 = λ s. AddsReply b.seat_of b.call_of b.reply s new c.args.call c.turn.result in
    subst P c.seat.view_is
    (adds_reply b.seat_of b.call_of b.reply old new c.args.call c.turn.result same turned.ok turned.memory)
