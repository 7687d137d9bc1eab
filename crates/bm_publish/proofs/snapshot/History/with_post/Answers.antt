use Rattle.std.proofs.Common.{◌≡◌, ◌<◌, ◌∙◌, ◌∷◌, ◌++◌, [], ap, sym, subst, length, List}
use Rattle.bm_publish.specs.declared.snapshot.Line.{Line}
use Rattle.bm_publish.specs.Inside.Histories.{clocks_in, head_of, plan_in, posted_in, permit_in}
use Rattle.bm_publish.specs.Posts.{Posted, last_post, last_version}
use Rattle.bm_publish.proofs.HistoryLemmas.{add_moves, more_posts}
use Rattle.bm_publish.proofs.snapshot.History.with_post.Goals as goal

pub compare_exchange-requires : goal.compare_exchange-requires
compare_exchange-requires c =
    let mine = c.self.inside in
    let h = c.self.invariant.4 in
    let offer = c.plain-offer.ensures in (
      ap (λ w. w.tracked) h,
      sym (ap (λ w. w.book) h),
      c.self.invariant.5 ∙ sym (ap (λ w. w.book) h),
      offer.0,
      rw (ap (λ w. w.key) h, offer.1, offer.3)
          (add_moves mine.seen.log c.args.clock c.new_permit-next.result.0.nib.key mine.pen.nib c.self.invariant.6
          c.self.invariant.7),
    )

pub invariant_of-result : goal.invariant_of-result
invariant_of-result c =
    let mine = c.self.inside in
    let came = c.compare_exchange.ensures in
    let seen = c.compare_exchange.new.seen in
    let next = c.new_permit-next.ensures in
    let ask = c.plain-offer.ensures.1 in
    let more : clocks_in seen.log ≡ clocks_in mine.seen.log ++ c.args.clock.0 ∷ [] =
    came.7.0 ∙ ap (λ (e : Line). clocks_in mine.seen.log ++ clocks_in (e ∷ [])) ask in
    let right : permit_in 1 seen.log ≡ c.new_permit-next.result.0.nib.key =
    came.7.1 ∙ ap (λ (e : Line). permit_in 0 (e ∷ [])) ask in
    let few : last_version (posted_in mine.seen.book mine.seen.log) < length (plan_in mine.seen.log).changes =
    subst (λ (p : Posted). last_version p < length p.plan.changes) (sym c.self.view_is) c.requires.next in
    let later : last_post (posted_in mine.seen.book mine.seen.log) < c.args.clock.0 =
    subst (λ (p : Posted). last_post p < c.args.clock.0) (sym c.self.view_is) c.requires.later in
    let all = more_posts mine.seen.book seen.book mine.seen.log seen.log c.args.clock.0 mine.version.0
    c.self.invariant.0 c.self.invariant.1 came.6 more c.self.invariant.2 few later c.requires.last in (
      all.0,
      all.1,
      all.2,
      all.3,
      c.self.invariant.4 ∙ ap head_of (sym came.0),
      next.pen.0 ∙ (ap (λ s. s.book) c.again.ensures ∙ sym came.0),
      next.pen.1,
      sym right,
    )
