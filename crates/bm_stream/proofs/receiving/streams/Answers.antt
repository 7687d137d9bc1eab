use Rattle.std.proofs.Common.{◌≡◌, ◌≤◌, ◌∙◌, ◌++◌, List, length, reverse, get_or, sym, subst, ap, arith}
use Rattle.std.proofs.lemmas.List.{length-reverse}
use Rattle.bm_core.specs.declared.events.Event.{Event}
use Rattle.bm_stream.specs.Accepts.{packets_of}
use Rattle.bm_stream.specs.Inside.Found.{HasFound, list_in}
use Rattle.bm_stream.specs.Inside.Lines.{received_line}
use Rattle.bm_stream.specs.Text.{line_at}
use Rattle.bm_stream.proofs.Walking.{few_packets, lines_more, part_left}
use Rattle.bm_stream.proofs.receiving.streams.Goals as goal

pub receive-received-requires-clause-few : goal.receive-received-requires-clause-few
receive-received-requires-clause-few c =
    let all : List Event = reverse c.args.h.now.events in
    let count : length all ≡ length c.args.h.now.events = length-reverse c.args.h.now.events in
    let few : length (packets_of c.args.h.now.stage c.loop-place.place all) ≤ length all =
    few_packets c.args.h.now.stage c.loop-place.place all
    in
    let same : length (list_in c.in_ok-found.found.packets c.loop-place.place)
    ≡ length (packets_of c.args.h.now.stage c.loop-place.place all) =
    ap length (c.in_ok-found.ensures.packets c.loop-place.place)
    in
    omega (arith, c.requires.few)

pub loop-place-preserved : goal.loop-place-preserved
loop-place-preserved c =
    let below = c.loop-place-test.true in
    let events = c.items-events.result.now in
    let same : reverse c.args.h.now.events ≡ reverse events = ap reverse (sym c.items-events.ensures) in
    let stage = c.args.h.now.stage in
    let found : received_line c.receive-received.result ≡ line_at stage c.args.octets.now (reverse events) c.loop-place.place
    (get_or events c.loop-place.place _).clock (get_or events c.loop-place.place _).what =
    c.receive-received.ensures (reverse events)
    (subst (λ (l : List Event). HasFound stage l c.in_ok-found.found) same c.in_ok-found.ensures)
    in
    lines_more stage c.args.octets.now (reverse events) events c.loop-place.place _ _ _ _ _ below found
    c.loop-place.invariant c.in_ok-append_line.ensures.ok

pub returns-in_err-append_line-clause-part : goal.returns-in_err-append_line-clause-part
returns-in_err-append_line-clause-part c =
    part_left c.from_residual-in_err-append_line.result c.args.h.now c.args.octets.now c.items-events.result.now
    c.loop-place.place c.args.out.now.items c.loop-place.out.items c.append_line.new.out.items c.items-events.ensures
    c.loop-place.invariant c.in_err-append_line.ensures.err
