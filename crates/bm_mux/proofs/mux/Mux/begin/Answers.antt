use Rattle.std.proofs.Common.{◌≡◌, max, ◌∷◌, ◌++◌, [], reverse, ap, sym, ◌∙◌, subst}
use Rattle.std.specs.Prelude.{OnErr, OnOk}
use Rattle.std.specs.Option.{IsSome}
use Rattle.bm_publish.specs.Posts.{Continues, Posted, last_post, last_version}
use Rattle.bm_publish.proofs.HistoryLemmas.{continues_trans}
use Rattle.bm_mux.specs.Inside.Keeping.{IsKept, seen_by}
use Rattle.bm_mux.specs.Muxes.{HasBegun, IsSameMux, MuxState}
use Rattle.bm_mux.specs.Steers.{switch_to}
use Rattle.bm_mux.proofs.Kept.{kept_later}
use Rattle.bm_mux.proofs.Batches.{has_looked, on_err_then, on_ok_both}
use Rattle.bm_mux.proofs.mux.Mux.begin.Goals as goal

pub invariant_of-self : goal.invariant_of-self
invariant_of-self c =
    let n = c.self.inside.notes in
    let known = c.learn.new.look in
    let kept : IsKept n.id n.buckets n.version.0 n.clock.0 n.log.items (seen_by known) =
    kept_later n.id n.buckets n.version.0 n.clock.0 n.log.items (seen_by c.self.inside.look) c.self.invariant.1
    (seen_by known) c.learn.ensures.seen in
    subst (λ l. IsSome l × IsKept n.id n.buckets n.version.0 n.clock.0 n.log.items (seen_by l))
    (sym c.in_err-guard.ensures.err) (c.learn.ensures.some, kept)

pub switch-done-requires-clause-kept : goal.switch-done-requires-clause-kept
switch-done-requires-clause-kept c =
    let n = c.self.inside.notes in
    let was = seen_by c.self.inside.look in
    let known = seen_by c.learn.new.look in
    kept_later n.id n.buckets n.version.0 n.clock.0 n.log.items was c.self.invariant.1 c.in_ok-guard.guard
    (continues_trans was known c.in_ok-guard.guard c.learn.ensures.seen c.in_ok-guard.ensures.ok)

pub returns-clause-ok : goal.returns-clause-ok
returns-clause-ok c =
    let n = c.self.inside.notes in
    let was = seen_by c.self.inside.look in
    let known = seen_by c.learn.new.look in
    let seen = c.in_ok-guard.guard in
    let left = c.leave.result in
    let m = c.switch-done.new.self in
    let done = c.switch-done.ensures in
    let back : left ≡ seen = c.leave.ensures.seen in
    let more = continues_trans was known seen c.learn.ensures.seen c.in_ok-guard.ensures.ok in
    let continues = continues_trans c.args.snapshot known seen c.learn.ensures.learned c.in_ok-guard.ensures.ok in
    let old : MuxState = record { id = n.id; seen = was; log = n.log.items } in
    let new : MuxState = record { id = m.id; seen = left; log = m.log.items } in
    let cause : c.max.result ≡ max c.args.after.0 (last_post seen) =
    c.max.ensures ∙ ap (max c.args.after.0) c.clock.ensures.clock in
    subst (λ (o : MuxState). OnOk c.switch-done.result (HasBegun o c.args.snapshot c.args.after.0 new)) c.self.view_is
    (on_ok_both c.switch-done.result
    (m.log.items ≡ n.log.items ++ switch_to n.id seen (reverse n.log.items) c.max.result ∷ [])
    (m.version.0 ≡ last_version seen)
    (HasBegun old c.args.snapshot c.args.after.0 new)
    (λ log version. record {
      looked = has_looked n.id m.id n.buckets n.version.0 n.clock.0 m.buckets m.version.0 m.clock.0 n.log.items
          m.log.items was seen left
          c.self.invariant.1 more back c.leave.ensures.posted done.same.0 done.kept version;
      learned = subst (Continues c.args.snapshot) (sym back) continues;
      log = log ∙ ap (λ k. n.log.items ++ switch_to n.id seen (reverse n.log.items) k ∷ []) cause
          ∙ ap (λ (p : Posted). n.log.items
          ++ switch_to n.id p (reverse n.log.items) (max c.args.after.0 (last_post p)) ∷ []) (sym back);
    })
    done.ok done.version)

pub returns-clause-err : goal.returns-clause-err
returns-clause-err c =
    let n = c.self.inside.notes in
    let was = seen_by c.self.inside.look in
    let known = seen_by c.learn.new.look in
    let seen = c.in_ok-guard.guard in
    let left = c.leave.result in
    let m = c.switch-done.new.self in
    let back : left ≡ seen = c.leave.ensures.seen in
    let more = continues_trans was known seen c.learn.ensures.seen c.in_ok-guard.ensures.ok in
    let continues = continues_trans c.args.snapshot known seen c.learn.ensures.learned c.in_ok-guard.ensures.ok in
    let old : MuxState = record { id = n.id; seen = was; log = n.log.items } in
    let new : MuxState = record { id = m.id; seen = left; log = m.log.items } in
    subst (λ (o : MuxState). OnErr c.switch-done.result
    (IsSameMux o new × Continues c.args.snapshot left × (m.log.items ≡ o.log))) c.self.view_is
    (on_err_then c.switch-done.result (m.log.items ≡ n.log.items)
    (IsSameMux old new × Continues c.args.snapshot left × (m.log.items ≡ n.log.items))
    (λ log. (
      record { id = c.switch-done.ensures.same.0; later = subst (Continues was) (sym back) more },
      subst
          (Continues c.args.snapshot) (sym back) continues,
      log,
    ))
    c.switch-done.ensures.err)
