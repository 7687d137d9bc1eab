use Rattle.std.proofs.Common.{arith, ◌<◌, ◌≤◌, ◌+◌, length, take, ◌∙◌, ap}
use Rattle.std.proofs.KnownBytes.{Keeps-trans}
use Rattle.bm_pcap.specs.Window.{buffered}
use Rattle.bm_pcapng.specs.Blocks.{head_size}
use Rattle.bm_pcapng.specs.Inside.Parts.{stated}
use Rattle.bm_pcapng.proofs.Heads.{ahead_old, begins_old, eight, head_end, head_short, kind_later, kind_told}
use Rattle.bm_pcapng.proofs.Heads.{open_head, some_read, states_given, states_buffered}
use Rattle.bm_pcapng.proofs.step.read_head.Goals as goal

pub returns-in_err-count-clause-open : goal.returns-in_err-count-clause-open
returns-in_err-count-clause-open g c why =
    open_head c.args.section.now.order c.args.section.now.interfaces.items c.args.place.now 8 _ _ (eight _)
    c.min.ensures c.in_err-count.ensures.short

pub returns-then-count-eq0-clause-gives : goal.returns-then-count-eq0-clause-gives
returns-then-count-eq0-clause-gives g c =
    head_end _ c.args.section.now.order c.args.section.now.interfaces.items c.args.place.now _ _ _ c.min.ensures
    c.in_ok-count.ensures.ahead c.if-count-eq0.true

pub returns-then-count-lt8-clause-gives : goal.returns-then-count-lt8-clause-gives
returns-then-count-lt8-clause-gives g c =
    let some : 0 < c.in_ok-count.count = omega (arith, c.if-count-eq0.false) in
    head_short _ c.args.section.now.order c.args.section.now.interfaces.items c.args.place.now 8 _ _ _ _
    (λ octets is. eight _) (λ octets is. some_read _ _ _ _ octets c.in_ok-count.ensures.ahead some is) c.min.ensures
    c.in_ok-count.ensures.ahead c.if-count-lt8.true c.short.ensures

pub returns-in_err-count-2-clause-open : goal.returns-in_err-count-2-clause-open
returns-in_err-count-2-clause-open g c why =
    let kind = kind_told c.args.section.now.order _ _ _ c.buffered.ensures c.at-kind.ensures in
    let there : 8 ≤ length (buffered c.want.new.self) = omega (arith, c.in_ok-count.ensures.bound, c.if-count-lt8.false) in
    let later = kind_later c.args.section.now.order _ _ _ kind there c.in_err-count-2.ensures.grows in
    open_head c.args.section.now.order c.args.section.now.interfaces.items c.args.place.now c.head_size-most.result _ _
    (omega (arith, c.head_size-most.ensures, ap head_size later)) c.min-2.ensures c.in_err-count-2.ensures.short

pub returns-then-count-most-clause-gives : goal.returns-then-count-most-clause-gives
returns-then-count-most-clause-gives g c =
    let kind = kind_told c.args.section.now.order _ _ _ c.buffered.ensures c.at-kind.ensures in
    let there : 8 ≤ length (buffered c.want.new.self) = omega (arith, c.in_ok-count.ensures.bound, c.if-count-lt8.false) in
    let some : 0 < c.in_ok-count.count = omega (arith, c.if-count-eq0.false) in
    head_short _ c.args.section.now.order c.args.section.now.interfaces.items c.args.place.now c.head_size-most.result _
    _ _ _
    (λ octets is.
    omega (
      arith,
      c.head_size-most.ensures,
      ap head_size
          (kind_later c.args.section.now.order _ octets _ kind there
          (begins_old _ _ octets _ is c.in_ok-count.ensures.keeps)),
    ))
    (λ octets is. some_read _ _ _ _ octets c.in_ok-count.ensures.ahead some is) c.min-2.ensures
    (ahead_old _ _ _ _ _ c.in_ok-count.ensures.keeps c.in_ok-count-2.ensures.ahead) c.if-count-most.true
    c.short-then-count-most.ensures

pub returns-clause-gives : goal.returns-clause-gives
returns-clause-gives g c =
    let kind = kind_told c.args.section.now.order _ _ _ c.buffered.ensures c.at-kind.ensures in
    let there : 8 ≤ length (buffered c.want.new.self) = omega (arith, c.in_ok-count.ensures.bound, c.if-count-lt8.false) in
    let later = kind_later c.args.section.now.order _ _ _ kind there c.in_ok-count-2.ensures.grows in
    let long : head_size c.at-kind.result ≤ length (buffered c.want-2.new.self) =
    omega (arith, c.in_ok-count-2.ensures.bound, c.if-count-most.false, c.head_size-most.ensures) in
    let wide : head_size c.at-kind.result ≤ c.args.place.now.room + 1 =
    omega (arith, c.in_ok-count-2.ensures.bound, c.if-count-most.false, c.head_size-most.ensures, c.min-2.ensures) in
    states_given _ (g.S.Source.left c.want-2.new.self.src) c.args.section.now.order
    c.args.section.now.interfaces.items c.args.place.now (buffered c.want-2.new.self) c.at-kind.result c.states.result later
    long wide (Keeps-trans _ _ _ c.in_ok-count.ensures.keeps c.in_ok-count-2.ensures.keeps)
    (c.states.ensures.stated
    ∙ ap (λ n. stated c.at-kind.result c.args.section.now.order c.args.place.now (take n c.buffered-2.result.now))
    c.head_size-most.ensures
    ∙ ap (λ xs. stated c.at-kind.result c.args.section.now.order c.args.place.now
    (take (head_size c.at-kind.result) xs)) c.buffered-2.ensures)

pub returns-clause-buffered : goal.returns-clause-buffered
returns-clause-buffered g c =
    let kind = kind_told c.args.section.now.order _ _ _ c.buffered.ensures c.at-kind.ensures in
    let there : 8 ≤ length (buffered c.want.new.self) = omega (arith, c.in_ok-count.ensures.bound, c.if-count-lt8.false) in
    let later = kind_later c.args.section.now.order _ _ _ kind there c.in_ok-count-2.ensures.grows in
    let long : head_size c.at-kind.result ≤ length (buffered c.want-2.new.self) =
    omega (arith, c.in_ok-count-2.ensures.bound, c.if-count-most.false, c.head_size-most.ensures) in
    let wide : head_size c.at-kind.result ≤ c.args.place.now.room + 1 =
    omega (arith, c.in_ok-count-2.ensures.bound, c.if-count-most.false, c.head_size-most.ensures, c.min-2.ensures) in
    states_buffered c.args.section.now.order
    c.args.section.now.interfaces.items c.args.place.now (buffered c.want-2.new.self) c.at-kind.result c.states.result later
    long wide
    (c.states.ensures.stated
    ∙ ap (λ n. stated c.at-kind.result c.args.section.now.order c.args.place.now (take n c.buffered-2.result.now))
    c.head_size-most.ensures
    ∙ ap (λ xs. stated c.at-kind.result c.args.section.now.order c.args.place.now
    (take (head_size c.at-kind.result) xs)) c.buffered-2.ensures)
