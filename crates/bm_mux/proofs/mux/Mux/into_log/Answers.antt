use Rattle.std.proofs.Common.{◌≡◌, sym, ap, subst}
use Rattle.bm_publish.specs.Posts.{Continues, Posted}
use Rattle.bm_mux.specs.Inside.Keeping.{seen_by}
use Rattle.bm_mux.specs.Muxes.{IsLogOf, MuxState}
use Rattle.bm_mux.proofs.Kept.{are_shown_later}
use Rattle.bm_mux.proofs.mux.Mux.into_log.Goals as goal

pub returns-clause-log : goal.returns-clause-log
returns-clause-log c =
    let me = c.self.inside in
    let was = seen_by me.look in
    let posted = c.args.poster.now in
    let all : Continues was posted =
    subst (λ (p : Posted). Continues p posted) (sym (ap seen_by c.in-Some.is)) c.posted_all.ensures.posted in
    let log_is : c.of.result ≡ me.notes.log.items = c.of.ensures in
    subst (λ (m : MuxState). IsLogOf m posted c.of.result) c.self.view_is (record {
      log_is = log_is;
      posted_is = all;
      shown = rw log_is
          (are_shown_later me.notes.id was.clocks posted.clocks all.posts me.notes.log.items c.self.invariant.1.shown);
    })
