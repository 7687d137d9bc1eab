-- The rule at the start, as seats are made and given back, and at the end.
use Rattle.std.proofs.Common.{◌≡◌, ◌≢◌, ◌⊎◌, ℕ, zero, suc, ◌+◌, ◌-◌, ◌<◌, ◌≤◌, Bool, true, false, List, [], ◌∷◌, ◌++◌}
use Rattle.std.proofs.Common.{length, length-set, length-append, set, Option, Some, refl, sym, ap, ◌∙◌, subst}
use Rattle.std.proofs.Common.{⊎_elim, inl, arith}
use mathlib.Core.Logic.{dite}
use mathlib.Core.Option.{some, some-injective, some-ne-none}
use native.Mathlib.Decide.{ℕ_discrete}
use lib.ListN.{get_elem?}
use Rattle.atomic_table.specs.Table.{State, Splits, Joins, opening}
use Rattle.atomic_table.proofs.Lists.{set_else, set_here, at_longer}
use Rattle.bm_turnstile.specs.declared.view.View.{View}
use Rattle.bm_turnstile.specs.declared.view.Old.{Old}
use Rattle.bm_turnstile.specs.declared.view.Stage.TheVariants.{Idle}
use Rattle.bm_turnstile.specs.Seen.{Covers, AllBelow}
use Rattle.bm_turnstile.specs.Views.{IsIdle, gave, new_view, joined, spent_view, first_view}
use Rattle.bm_turnstile.specs.Inside.Rule.{updated, OldsFit, IsServed, Fits, Kept, NumberedFrom, OldsCover, Closes}
use Rattle.bm_turnstile.proofs.Sums.{sum_next, snoc_each, updated_here, updated_else, at_inside, set_each, sum_same}
use Rattle.bm_turnstile.proofs.Entries.{own_none, below_wider}
use Rattle.bm_turnstile.proofs.Steps.{live_or_spent, idle_is_not_served, still}

module _ {T X E : Type 0} (entries : T → List E) (fixed : T → X) (replays : X → List E → Type 0)
    (seat_of : E → ℕ) (about : X) where
  abbrev V : Type 0
  V = View X E

  abbrev Rule : State (Option T) V → Type 0
  Rule = Kept entries fixed replays seat_of about

  -- THE START

  opened : (j : ℕ) (v : V) → get_elem? (first_view about ∷ []) j ≡ some v
      → Fits seat_of about 0 0 1 0 (λ _. 0) (λ _. 0) (λ _. false) [] j v
  opened zero v e =
      let P : V → Type 0 = Fits seat_of about 0 0 1 0 (λ _. 0) (λ _. 0) (λ _. false) [] 0 in
      subst P (some-injective (first_view about) v e) record {
        first = λ _. (refl, refl);
        live = λ _. (refl, refl, refl, ([], refl, refl));
        turns = λ _ _. refl;
        idle = λ _. refl;
        stage = tt;
        olds = tt;
      }
  opened (suc j) v e = absurd (some-ne-none v (sym e))

  pub opens : (t : T) → entries t ≡ [] → fixed t ≡ about → replays about []
      → Rule (opening (0 ∷ 0 ∷ []) (Some t ∷ []) (first_view about))
  opens t empty kind replay = record {
    next = 0;
    serving = 0;
    given = 1;
    holder = 0;
    counts = λ _. 0;
    owner = λ _. 0;
    dead = λ _. false;
    log = [];
    words = refl;
    order = omega arith;
    sum = refl;
    counted = λ _. omega arith;
    few = omega arith;
    made = refl;
    alive = λ _ _. refl;
    replay = replay;
    numbered = tt;
    short = omega arith;
    each = λ j v e. opened j v e;
    home = λ _. (t, refl, empty, kind);
    held = λ i e. absurd (omega arith);
  }

  -- A NEW SEAT

  pub splits : (id : ℕ) (v : V) → v.spent ≡ false → v.number ≡ 0 → v.given < 65535 → v.olds ≡ []
      → Splits Rule id v (gave v) (new_view v)
  splits id v live_ zero_ few alone s r at =
      let mine = r.each id v at in
      let f = mine.live live_ in
      let id_is : id ≡ 0 = sym f.0 ∙ zero_ in
      let given_is : v.given ≡ r.given = (mine.first id_is).1 in
      let inside : id < r.given = let a = at_inside s.views id v at in let b = r.made in omega arith in
      let g : ℕ = r.given in
      let counts : ℕ → ℕ = updated r.counts g 0 in
      let views : List V = set s.views id (gave v) in
      let len : length views ≡ g = length-set s.views id (gave v) ∙ r.made in
      let P : ℕ → V → Type 0 = λ j u.
      Fits seat_of about r.serving r.next (g + 1) r.holder counts r.owner r.dead r.log j u in
      record {
        next = r.next;
        serving = r.serving;
        given = g + 1;
        holder = r.holder;
        counts = counts;
        owner = r.owner;
        dead = r.dead;
        log = r.log;
        words = r.words;
        order = r.order;
        sum = (let a = sum_same g g 0 r.counts (omega arith) in
            let b = updated_here r.counts g 0 in
            let c = r.sum in
            let d = sum_next g counts in
            omega arith);
        counted = λ k. dite (ℕ_discrete k g)
            (λ e.
            let b : counts k ≡ 0 =
            subst (λ (z : ℕ). counts z ≡ 0) (sym e) (updated_here r.counts g 0) in
            omega arith)
            (λ ne. let b = updated_else r.counts g k 0 ne in let c = r.counted k in omega arith);
        few = omega arith;
        made = length-append views (new_view v ∷ []) ∙ ap (λ (n : ℕ). n + 1) len;
        alive = λ k h. r.alive k (omega arith);
        replay = r.replay;
        numbered = below_wider seat_of g r.log r.numbered;
        short = r.short;
        each = snoc_each P views g (new_view v) len
            record {
              first = λ e. absurd (omega arith);
              live = λ _. (given_is, f.1, r.alive g (omega arith), (r.log, refl, own_none seat_of g r.log r.numbered));
              turns = λ _ _. sym (updated_here r.counts g 0);
              idle = λ _. refl;
              stage = tt;
              olds = tt;
            }
            (set_each P s.views id (gave v)
            record {
              first = λ e. ((mine.first e).0, ap (λ (n : ℕ). n + 1) given_is);
              live = mine.live;
              turns = λ a b. mine.turns a b ∙ sym (updated_else r.counts g id 0 (λ e. omega arith));
              idle = mine.idle;
              stage = mine.stage;
              olds = mine.olds;
            }
            (λ j u ne e.
            let q = r.each j u e in
            let there = at_inside s.views j u e in
            let made = r.made in
            record {
              first = λ z. absurd (ne (z ∙ sym id_is));
              live = q.live;
              turns = λ a b. q.turns a b ∙ sym (updated_else r.counts g j 0 (λ z. omega arith));
              idle = q.idle;
              stage = q.stage;
              olds = q.olds;
            }));
        home = r.home;
        held = λ i h.
            let q = r.held i h in
            let there : i < g = let a = at_inside s.views i q.1 q.2 in let b = r.made in omega arith in
            dite (ℕ_discrete i id)
            (λ e.
            let same : v ≡ q.1 =
            some-injective v q.1 (sym at ∙ subst (λ (z : ℕ). get_elem? s.views z ≡ some q.1) e q.2) in (
              q.0,
              gave v,
              ap (get_elem? (views ++ new_view v ∷ [])) e
                  ∙ at_longer views (new_view v ∷ []) id (gave v)
                  (set_here s.views id (gave v) (at_inside s.views id v at)),
              subst (λ (z : V). IsServed z.stage) (sym same) q.3,
            ))
            (λ ne. (
              q.0,
              q.1,
              at_longer views (new_view v ∷ []) i q.1 (set_else s.views id i (gave v) ne ∙ q.2),
              q.3,
            ));
      }

  -- A SEAT IS GIVEN BACK TO THE FIRST

  olds_dead : (dead : ℕ → Bool) (k : ℕ) (log : List E) (os : List (Old E)) → OldsFit seat_of dead log os
      → OldsFit seat_of (updated dead k true) log os
  olds_dead dead k log [] h = tt
  olds_dead dead k log (o ∷ os) h =
      let gone : updated dead k true o.number ≡ true = dite (ℕ_discrete o.number k)
      (λ e. subst (λ (z : ℕ). updated dead k true z ≡ true) (sym e) (updated_here dead k true))
      (λ ne. updated_else dead k o.number true ne ∙ h.0) in
      (gone, h.1, olds_dead dead k log os h.2)

  pub joins : (id other : ℕ) (v w : V) → IsIdle v → v.number ≡ 0 → IsIdle w
      → Joins Rule id v other w (joined v w) spent_view
  joins id other v w free zero_ theirs_free s r at apart there =
      let live_ = free.live in
      let live' = theirs_free.live in
      let mine = r.each id v at in
      let f = mine.live live_ in
      let id_is : id ≡ 0 = sym f.0 ∙ zero_ in
      let at' : get_elem? s.views other ≡ some w = sym (set_else s.views id other (joined v w) apart) ∙ there in
      let theirs = r.each other w at' in
      let q = theirs.live live' in
      let inside : other < r.given = let a = at_inside s.views other w at' in let b = r.made in omega arith in
      let dead : ℕ → Bool = updated r.dead other true in
      let views : List V = set s.views id (joined v w) in
      let P : ℕ → V → Type 0 = λ j u.
      Fits seat_of about r.serving r.next r.given r.holder r.counts r.owner dead r.log j u in
      record {
        next = r.next;
        serving = r.serving;
        given = r.given;
        holder = r.holder;
        counts = r.counts;
        owner = r.owner;
        dead = dead;
        log = r.log;
        words = r.words;
        order = r.order;
        sum = r.sum;
        counted = r.counted;
        few = r.few;
        made = length-set views other spent_view ∙ (length-set s.views id (joined v w) ∙ r.made);
        alive = λ k h. updated_else r.dead other k true (λ e. omega arith) ∙ r.alive k h;
        replay = r.replay;
        numbered = r.numbered;
        short = r.short;
        each = set_each P views other spent_view
            record {
              first = λ e. absurd (apart (e ∙ sym id_is));
              live = λ e. absurd (cc);
              turns = λ e. absurd (cc);
              idle = λ _. refl;
              stage = tt;
              olds = tt;
            }
            (λ j u ne e. set_each (λ i x. i ≢ other → P i x) s.views id (joined v w)
            (λ ne'. record {
              first = mine.first;
              live = λ a. (f.0, f.1, updated_else r.dead other id true ne' ∙ f.2, f.3);
              turns = λ a b. absurd (cc);
              idle = λ _. free.stage;
              stage = mine.stage;
              olds = (let Q : ℕ → Type 0 = λ n. (dead n ≡ true) × Covers seat_of n w.seen r.log in
                  let both : Q w.number = subst Q (sym q.0) (updated_here r.dead other true, q.3) in
                  (both.0, both.1, olds_dead r.dead other r.log v.olds mine.olds));
            })
            (λ i x apart' e ne'.
            let h = r.each i x e in
            record {
              first = h.first;
              live = λ a.
                  let b = h.live a in
                  (b.0, b.1, updated_else r.dead other i true ne' ∙ b.2, b.3);
              turns = h.turns;
              idle = h.idle;
              stage = h.stage;
              olds = olds_dead r.dead other r.log x.olds h.olds;
            }) j u e ne);
        home = r.home;
        held = λ i h.
            let k = r.held i h in
            let mine_idle = idle_is_not_served v.stage free.stage in
            let theirs_idle = idle_is_not_served w.stage theirs_free.stage in
            let first =
            still entries fixed replays seat_of about s.views id i v k.1 (joined v w) at k.2 mine_idle k.3 in (
              k.0,
              k.1,
              still entries fixed replays seat_of about views other i w k.1 spent_view there first theirs_idle k.3,
              k.3,
            );
      }

  -- THE END

  olds_cover : (dead : ℕ → Bool) (log : List E) (os : List (Old E)) → OldsFit seat_of dead log os
      → OldsCover seat_of log os
  olds_cover dead log [] h = tt
  olds_cover dead log (o ∷ os) h = (h.1, olds_cover dead log os h.2)

  olds_are_dead : (dead : ℕ → Bool) (log : List E) (m : ℕ) (os : List (Old E)) → OldsFit seat_of dead log os
      → NumberedFrom m os → (i : ℕ) → m ≤ i → i < m + length os → dead i ≡ true
  olds_are_dead dead log m [] h n i low high = absurd (omega arith)
  olds_are_dead dead log m (o ∷ os) h n i low high = dite (ℕ_discrete i m)
      (λ e. ap dead (e ∙ sym n.0) ∙ h.0)
      (λ ne. olds_are_dead dead log (suc m) os h.2 n.1 i (omega arith) (omega arith))

  live_of : (v : V) → ((v.spent ≡ true) ⊎ (v.olds ≢ []) → v.stage ≡ Idle) → IsServed v.stage → v.spent ≡ false
  live_of v idle served = ⊎_elim
      (λ (e : v.spent ≡ false). e)
      (λ (e : v.spent ≡ true). absurd (idle_is_not_served v.stage (idle (inl e)) served))
      (live_or_spent v.spent)

  -- where all seats are given back, the state is in its slot
  all_idle : (s : State (Option T) V) (r : Rule s) (id : ℕ) (v : V) → get_elem? s.views id ≡ some v → id ≡ 0
      → v.stage ≡ Idle → NumberedFrom 1 v.olds → r.given ≡ length v.olds + 1 → r.holder ≡ 0
  all_idle s r id v at id_is idle_ numbers all = dite (ℕ_discrete r.holder 0) (λ z. z) (λ nz. absurd (
      let mine = r.each id v at in
      let i : ℕ = r.holder - 1 in
      let is : r.holder ≡ suc i = omega arith in
      let q = r.held i is in
      let theirs = r.each i q.1 q.2 in
      let inside : i < r.given = let a = at_inside s.views i q.1 q.2 in let b = r.made in omega arith in
      let alive : r.dead i ≡ false = (theirs.live (live_of q.1 theirs.idle q.3)).2 in
      dite (ℕ_discrete i id)
      (λ e.
      let same : v ≡ q.1 =
      some-injective v q.1 (sym at ∙ subst (λ (z : ℕ). get_elem? s.views z ≡ some q.1) e q.2) in
      idle_is_not_served v.stage idle_ (subst (λ (z : V). IsServed z.stage) (sym same) q.3))
      (λ ne.
      let gone = olds_are_dead r.dead r.log 1 v.olds mine.olds numbers i (omega arith) (omega arith) in
      absurd (cc))))

  pub closes : (s : State (Option T) V) (id : ℕ) (v : V) → Rule s → get_elem? s.views id ≡ some v → IsIdle v
      → v.number ≡ 0 → NumberedFrom 1 v.olds → v.given ≡ length v.olds + 1
      → (t : T) × (s.homes ≡ some (Some t) ∷ []) × Closes entries fixed replays seat_of v t
  closes s id v r at free zero_ numbers all =
      let mine = r.each id v at in
      let f = mine.live free.live in
      let id_is : id ≡ 0 = sym f.0 ∙ zero_ in
      let given_is : v.given ≡ r.given = (mine.first id_is).1 in
      let home = r.home (all_idle s r id v at id_is free.stage numbers (sym given_is ∙ all)) in
      let t : T = home.0 in
      let log : r.log ≡ entries t = sym home.2 in (
        t,
        home.1,
        record {
          about = f.1 ∙ ap Some (sym home.3);
          replay = subst (λ (x : X). replays x (entries t)) (sym home.3) (subst (replays about) log r.replay);
          below = subst (λ (n : ℕ). AllBelow seat_of n (entries t)) (sym given_is)
              (subst (AllBelow seat_of r.given) log r.numbered);
          mine = subst (λ (n : ℕ). Covers seat_of n v.seen (entries t)) id_is
              (subst (Covers seat_of id v.seen) log f.3);
          olds = subst (λ (l : List E). OldsCover seat_of l v.olds) log (olds_cover r.dead r.log v.olds mine.olds);
        },
      )
