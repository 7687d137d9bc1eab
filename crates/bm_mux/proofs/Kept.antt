-- What a mux keeps, from event to event.
use Rattle.std.proofs.Common.{◌≡◌, ℕ, zero, suc, ◌+◌, ◌*◌, ◌^◌, ◌<◌, ◌≤◌, true, eqb, List, [], ◌∷◌, ◌++◌, length}
use Rattle.std.proofs.Common.{reverse, Some, slice_get, refl, ap, sym, ◌∙◌, subst, arith, length-append}
use Rattle.std.specs.List.{AllByRecursion}
use Rattle.std.proofs.lemmas.Bool.{eq-eqb}
use Rattle.std.proofs.lemmas.List.{reverse-append}
use mathlib.Core.List.{IsPrefix}
use Rattle.bm_base.specs.declared.ids.MuxId.{MuxId}
use Rattle.bm_base.specs.declared.ids.Version.{Version}
use Rattle.bm_base.specs.declared.label.Hop.{Hop}
use Rattle.bm_core.specs.declared.events.Event.{Event}
use Rattle.bm_core.specs.declared.events.What.{What}
use Rattle.bm_core.specs.declared.events.What.TheVariants.{Publish, Switch, Steer, Lose, Arrive, Close, Retire, Sync}
use Rattle.bm_core.specs.Past.{version_at}
use Rattle.bm_core.specs.Runs.{next_clock}
use Rattle.bm_table.specs.Planned.{Planned}
use Rattle.bm_publish.specs.Posts.{Continues, Posted, last_or, last_post, last_version}
use Rattle.bm_publish.proofs.Prefixes.{prefix_get, prefix_length}
use Rattle.bm_mux.specs.Steers.{at_clock, steering_clock}
use Rattle.bm_mux.specs.Muxes.{AreShown, HasServers, IsOwn, IsShown, post_clock}
use Rattle.bm_mux.specs.Inside.Keeping.{IsKept}

pub reverse-snoc : (log : List Event) (e : Event) → reverse (log ++ e ∷ []) ≡ e ∷ reverse log
reverse-snoc log e = reverse-append log (e ∷ [])

all-snoc : {X : Type 0} (P : X → Type 0) (xs : List X) (x : X) → AllByRecursion P xs → P x
    → AllByRecursion P (xs ++ x ∷ [])
all-snoc P [] x all here = (here, tt)
all-snoc P (y ∷ xs) x all here = (all.0, all-snoc P xs x all.1 here)

all_map : {X : Type 0} (P Q : X → Type 0) → ((x : X) → P x → Q x) → (xs : List X) → AllByRecursion P xs
    → AllByRecursion Q xs
all_map P Q f [] all = tt
all_map P Q f (x ∷ xs) all = (f x all.0, all_map P Q f xs all.1)

-- POSTS

-- the last clock is that of the last version
get_last : (low : ℕ) (clocks : List ℕ) (c : ℕ) → slice_get (c ∷ clocks) (length clocks) ≡ Some (last_or c clocks)
get_last low [] c = refl
get_last low (d ∷ clocks) c = get_last low clocks d

pub post_of_last : (clocks : List ℕ) → post_clock clocks (length clocks) ≡ Some (last_or 0 clocks)
post_of_last [] = refl
post_of_last (c ∷ clocks) = get_last 0 clocks c

post_prefix : (xs ys : List ℕ) (v post : ℕ) → IsPrefix xs ys → post_clock xs v ≡ Some post → post_clock ys v ≡ Some post
post_prefix xs ys zero post p is = is
post_prefix xs ys (suc v) post p is = prefix_get xs ys v post p is

shown_prefix : (xs ys : List ℕ) → IsPrefix xs ys → (clock : ℕ) (what : What) → IsShown xs clock what
    → IsShown ys clock what
shown_prefix xs ys p clock (Switch m v) h = (h.0, post_prefix xs ys v.0 h.0 p h.1, h.2)
shown_prefix xs ys p clock (Publish v) h = tt
shown_prefix xs ys p clock (Steer k m) h = tt
shown_prefix xs ys p clock (Lose k hop) h = tt
shown_prefix xs ys p clock (Arrive k hop server verdict) h = tt
shown_prefix xs ys p clock (Close server flow closed) h = tt
shown_prefix xs ys p clock (Retire server h at result) _ = tt
shown_prefix xs ys p clock Sync h = tt

pub are_shown_later : (m : MuxId) (xs ys : List ℕ) → IsPrefix xs ys → (log : List Event) → AreShown m xs log
    → AreShown m ys log
are_shown_later m xs ys p log all =
    all_map (λ e. IsOwn m e.what × IsShown xs e.clock.0 e.what) (λ e. IsOwn m e.what × IsShown ys e.clock.0 e.what)
    (λ e h. (h.0, shown_prefix xs ys p e.clock.0 e.what h.1)) log all

-- WHAT IS KEPT

module _ (id : MuxId) (buckets version clock : ℕ) (log : List Event) (seen : Posted)
    (h : IsKept id buckets version clock log seen) where
  -- one event more
  pub kept_more : (version' clock' : ℕ) (e : Event) → IsOwn id e.what → IsShown seen.clocks e.clock.0 e.what
      → version' ≡ (version_at (e ∷ reverse log) id).0 → version' ≤ last_version seen
      → clock' ≡ steering_clock (e ∷ reverse log) → clock' ≤ 9 * 10 ^ 18 + length log + 1
      → IsKept id buckets version' clock' (log ++ e ∷ []) seen
  kept_more version' clock' e own shown v newest c bound = record {
    mux = h.mux;
    buckets_are = h.buckets_are;
    servers = h.servers;
    version_is = v ∙ sym (ap (λ past. (version_at past id).0) (reverse-snoc log e));
    clock_is = c ∙ sym (ap steering_clock (reverse-snoc log e));
    bound = omega (arith, length-append log (e ∷ []));
    newest = newest;
    shown = all-snoc (λ x. IsOwn id x.what × IsShown seen.clocks x.clock.0 x.what) log e h.shown (own, shown);
  }

  -- the version of a Switch of the mux
  pub switch_version : (v : Version) (c : ℕ) → (version_at (at_clock c (Switch id v) ∷ reverse log) id).0 ≡ v.0
  switch_version v c = let e : eqb id.0 id.0 ≡ true = eq-eqb _ _ refl in rw e refl

  pub kept_switch : (v : Version) (cause : ℕ) → v.0 ≡ last_version seen → last_post seen ≤ cause → cause ≤ 9 * 10 ^ 18
      → IsKept id buckets v.0 (next_clock clock cause) (log ++ at_clock (next_clock clock cause) (Switch id v) ∷ [])
      seen
  kept_switch v cause is low high =
      let shown : IsShown seen.clocks (next_clock clock cause) (Switch id v) =
      (last_post seen, ap (post_clock seen.clocks) is ∙ post_of_last seen.clocks, omega arith) in
      kept_more v.0 (next_clock clock cause) (at_clock (next_clock clock cause) (Switch id v)) refl shown
      (sym (switch_version v (next_clock clock cause))) (omega (arith, is)) refl (let b = h.bound in omega arith)

  pub kept_steer : (packet moment : ℕ) → moment ≤ 9 * 10 ^ 18
      → IsKept id buckets version (next_clock clock moment)
      (log ++ at_clock (next_clock clock moment) (Steer packet id) ∷ []) seen
  kept_steer packet moment high =
      kept_more version (next_clock clock moment) (at_clock (next_clock clock moment) (Steer packet id)) refl tt
      h.version_is h.newest refl (let b = h.bound in omega arith)

  pub kept_lose : (packet c : ℕ) (hop : Hop)
      → IsKept id buckets version clock (log ++ at_clock c (Lose packet hop) ∷ []) seen
  kept_lose packet c hop =
      kept_more version clock (at_clock c (Lose packet hop)) tt tt h.version_is h.newest h.clock_is (let b =
      h.bound in omega arith)

  -- what is seen goes on
  pub kept_later : (seen' : Posted) → Continues seen seen' → IsKept id buckets version clock log seen'
  kept_later seen' more = record {
    mux = h.mux;
    buckets_are = h.buckets_are ∙ ap (λ (p : Planned). p.buckets) (sym more.plan);
    servers = subst HasServers (sym more.plan) h.servers;
    version_is = h.version_is;
    clock_is = h.clock_is;
    bound = h.bound;
    newest = (let a = h.newest in let b = prefix_length seen.clocks seen'.clocks more.posts in omega arith);
    shown = are_shown_later id seen.clocks seen'.clocks more.posts log h.shown;
  }

-- nothing is logged yet
pub kept_new : (id : MuxId) (buckets : ℕ) (seen : Posted) → id.0 < 64 → buckets ≡ seen.plan.buckets
    → HasServers seen.plan → IsKept id buckets 0 0 [] seen
kept_new id buckets seen mux same servers = record {
  mux = mux;
  buckets_are = same;
  servers = servers;
  version_is = refl;
  clock_is = refl;
  bound = omega arith;
  newest = omega arith;
  shown = tt;
}
