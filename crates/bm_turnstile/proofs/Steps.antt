-- Each step of a turn keeps the rule.
use Rattle.std.proofs.Common.{◌≡◌, ◌≢◌, ◌⊎◌, ℕ, get_or, suc, ◌+◌, ◌-◌, ◌*◌, ◌%◌, ◌^◌, ◌<◌, ◌≤◌, Bool, true, false}
use Rattle.std.proofs.Common.{List, [], ◌∷◌, length, length-set, set, Option, Some, None, Result, Ok, Err, IfOk, OnErr}
use Rattle.std.proofs.Common.{refl, sym, ap, ◌∙◌, subst, ⊎_elim, inl, inr, arith}
use mathlib.Core.Logic.{dite}
use mathlib.Core.Option.{some, some-injective}
use mathlib.Core.Option as maybe
use native.Mathlib.Decide.{ℕ_discrete}
use lib.ListN.{get_elem?}
use Rattle.atomic_table.specs.Table.{State, Me, rest, Act, Valid, homes_after, carried_after, step}
use Rattle.atomic_table.specs.Table.{keeps, takes, gives, Allows}
use Rattle.atomic_table.proofs.Lists.{set_else, set_here, set_again}
use Rattle.bm_turnstile.specs.declared.view.View.{View}
use Rattle.bm_turnstile.specs.declared.view.Stage.{Stage}
use Rattle.bm_turnstile.specs.declared.view.Stage.TheVariants.{Idle, Waiting, Served}
use Rattle.bm_turnstile.specs.Seen.{Adds, Covers}
use Rattle.bm_turnstile.specs.Inside.Rule.{sum_below, updated, most, Stands, IsServed, Fits, Kept, Finds, Grows}
use Rattle.bm_turnstile.specs.Inside.Rule.{Hands, Draws, Looks, Takes, Advances, has_drawn, has_handed_on}
use Rattle.bm_turnstile.proofs.Sums.{updated_here, updated_else, at_inside, set_each}
use Rattle.bm_turnstile.proofs.Sums.{sum_updated, sum_bound, counted_more}
use Rattle.bm_turnstile.proofs.Entries.{below_grows, covers_self, covers_grows, olds_grow, length_grows}

pub live_or_spent : (b : Bool) → (b ≡ false) ⊎ (b ≡ true)
live_or_spent true = inr refl
live_or_spent false = inl refl

abbrev pub some_or : {T : Type 0} → T → Option T → T
some_or d (Some x) = x
some_or d None = d

abbrev pub slot_or : {T : Type 0} → T → List (ℕ × Option T) → T
slot_or d [] = d
slot_or d (p ∷ ps) = some_or d p.1

pub idle_is_not_served : {E : Type 0} (g : Stage E) → g ≡ Idle → ¬ IsServed g
idle_is_not_served g e h = subst IsServed e h

module _ {T X E : Type 0} (entries : T → List E) (fixed : T → X) (replays : X → List E → Type 0)
    (seat_of : E → ℕ) (about : X) where
  abbrev V : Type 0
  V = View X E

  abbrev Rule : State (Option T) V → Type 0
  Rule = Kept entries fixed replays seat_of about

  -- a served seat stays where it was, as another that is not served changes
  pub still : (vs : List V) (id i : ℕ) (v u w : V) → get_elem? vs id ≡ some v → get_elem? vs i ≡ some u
      → ¬ IsServed v.stage → IsServed u.stage → get_elem? (set vs id w) i ≡ some u
  still vs id i v u w at there not_served served =
      let other : i ≢ id = λ e.
      let same : v ≡ u = some-injective v u (sym at ∙ (ap (get_elem? vs) (sym e) ∙ there)) in
      not_served (subst (λ (z : V). IsServed z.stage) (sym same) served) in
      set_else vs id i w other ∙ there

  -- a seat with a ticket, or without olds, is not spent
  live_with : (v : V) → ((v.spent ≡ true) ⊎ (v.olds ≢ []) → v.stage ≡ Idle) → v.stage ≢ Idle → v.spent ≡ false
  live_with v idle busy = ⊎_elim
      (λ (e : v.spent ≡ false). e)
      (λ (e : v.spent ≡ true). absurd (busy (idle (inl e))))
      (live_or_spent v.spent)

  -- A TICKET IS DRAWN

  -- where a seat stands stays so
  stands_drawn : (serving next holder : ℕ) (owner : ℕ → ℕ) (log : List E) (id j : ℕ) (g : Stage E)
      → Stands seat_of serving next holder owner log j g
      → Stands seat_of serving (next + 1) holder (updated owner next id) log j g
  stands_drawn serving next holder owner log id j Idle h = tt
  stands_drawn serving next holder owner log id j (Waiting n) h =
      let a = h.1 in
      (h.0, omega arith, updated_else owner next n id (λ e. omega arith) ∙ h.2)
  stands_drawn serving next holder owner log id j (Served n note) h =
      let a = h.1 in
      (h.0, omega arith, updated_else owner next n id (λ e. omega arith) ∙ h.2, h.3, h.4)

  pub draws : (slots id : ℕ) (v : V) (cs : List (ℕ × Option T)) → v.spent ≡ false → v.olds ≡ [] → v.stage ≡ Idle
      → v.turns < most
      → Allows Rule slots id (v, cs) 0 (λ n. (n + 1) % 2 ^ 64) (Draws (step slots 0 1 0 maybe.none) (v, cs))
  draws slots id v cs live alone idle few s r _ at _ =
      let next : ℕ = r.next in
      let w : V = has_drawn v next in
      let mine = r.each id v at in
      let inside : id < r.given = let a = at_inside s.views id v at in let b = r.made in omega arith in
      let turns : v.turns ≡ r.counts id = mine.turns live alone in
      let counts : ℕ → ℕ = updated r.counts id (r.counts id + 1) in
      let owner : ℕ → ℕ = updated r.owner next id in
      let counted : (k : ℕ) → counts k ≤ most = counted_more r.counts id r.counted (omega arith) in
      let sum : sum_below r.given counts ≡ next + 1 =
      let a = sum_updated r.given id (r.counts id + 1) r.counts inside in let b = r.sum in omega arith in
      let bound : next + 1 ≤ 65535 * 4294967295 =
      let a = sum_bound r.given counts counted in let b = r.few in omega arith in
      let plain : (next + 1) % 2 ^ 64 ≡ next + 1 = omega arith in
      let G : List ℕ → Type 0 = λ ws. Rule record {
        words = set ws 0 ((get_or ws 0 0 + 1) % 2 ^ 64);
        homes = s.homes;
        views = set s.views id w;
      } in
      let H : List ℕ → Type 0 = λ ws. Draws (step slots 0 1 0 maybe.none) (v, cs) (get_or ws 0 0) (w, cs) in (
        w,
        keeps,
        tt,
        subst G (sym r.words) record {
          next = next + 1;
          serving = r.serving;
          given = r.given;
          holder = r.holder;
          counts = counts;
          owner = owner;
          dead = r.dead;
          log = r.log;
          words = ap (λ (n : ℕ). n ∷ r.serving ∷ []) plain;
          order = (let a = r.order in omega arith);
          sum = sym sum;
          counted = counted;
          few = r.few;
          made = length-set s.views id w ∙ r.made;
          alive = r.alive;
          replay = r.replay;
          numbered = r.numbered;
          short = r.short;
          each = set_each
              (λ j u. Fits seat_of about r.serving (next + 1) r.given r.holder counts owner r.dead r.log j u)
              s.views id w
              record {
                first = mine.first;
                live = mine.live;
                turns = λ a b.
                    let c = updated_here r.counts id (r.counts id + 1) in
                    ap (λ (z : ℕ). z + 1) turns ∙ sym c;
                idle = λ h. ⊎_elim (λ (a : v.spent ≡ true). absurd (cc)) (λ (n : v.olds ≢ []). absurd (n alone)) h;
                stage = (r.order, omega arith, updated_here r.owner next id);
                olds = mine.olds;
              }
              (λ j u ne e.
              let f = r.each j u e in
              record {
                first = f.first;
                live = f.live;
                turns = λ a b. f.turns a b ∙ sym (updated_else r.counts id j (r.counts id + 1) ne);
                idle = f.idle;
                stage = stands_drawn r.serving next r.holder r.owner r.log id j u.stage f.stage;
                olds = f.olds;
              });
          home = r.home;
          held = λ i h.
              let q = r.held i h in
              (q.0, q.1, still s.views id i v q.1 w at q.2 (idle_is_not_served v.stage idle) q.3, q.3);
        },
        subst H (sym r.words) (refl, omega arith),
      )

  -- THE TICKET THAT IS SERVED IS READ

  abbrev holding : V → ℕ → T → List (ℕ × Option T) → Me (Option T) V
  holding v n t cs = (record v { stage = Served n (entries t) }, (0, Some t) ∷ cs)

  served_stands : (serving next holder : ℕ) (owner : ℕ → ℕ) (log : List E) (j : ℕ) (g : Stage E) → IsServed g
      → Stands seat_of serving next holder owner log j g → owner serving ≡ j
  served_stands serving next holder owner log j Idle h st = absurd h
  served_stands serving next holder owner log j (Waiting n) h st = absurd h
  served_stands serving next holder owner log j (Served n note) h st =
      subst (λ (z : ℕ). owner z ≡ j) st.0 st.2

  -- where a seat stands stays so when another takes the slot
  stands_taken : (serving next holder holder' : ℕ) (owner : ℕ → ℕ) (log : List E) (j : ℕ) (g : Stage E)
      → holder ≡ 0 → Stands seat_of serving next holder owner log j g
      → Stands seat_of serving next holder' owner log j g
  stands_taken serving next holder holder' owner log j Idle z h = tt
  stands_taken serving next holder holder' owner log j (Waiting n) z h = h
  stands_taken serving next holder holder' owner log j (Served n note) z h =
      let a = h.3 in absurd (omega arith)

  -- where a seat waits for the ticket that is served, the state is in its slot
  nobody_holds : (s : State (Option T) V) (r : Rule s) (id : ℕ) (v : V) (n : ℕ) → get_elem? s.views id ≡ some v
      → v.stage ≡ Waiting n → r.serving ≡ n → r.owner n ≡ id → r.holder ≡ 0
  nobody_holds s r id v n at waits now own_it = dite (ℕ_discrete r.holder 0) (λ z. z) (λ nz. absurd (
      let i : ℕ = r.holder - 1 in
      let is : r.holder ≡ suc i = omega arith in
      let q = r.held i is in
      let theirs = r.each i q.1 q.2 in
      let owned : r.owner r.serving ≡ i =
      served_stands r.serving r.next r.holder r.owner r.log i q.1.stage q.3 theirs.stage in
      let both : id ≡ i = sym own_it ∙ (ap r.owner (sym now) ∙ owned) in
      let same : v ≡ q.1 = some-injective v q.1 (sym at ∙ (ap (get_elem? s.views) both ∙ q.2)) in
      let served : IsServed v.stage = subst (λ (z : V). IsServed z.stage) (sym same) q.3 in
      subst IsServed waits served))

  pub looks : (slots id : ℕ) (v : V) (cs : List (ℕ × Option T)) (n : ℕ) → v.stage ≡ Waiting n
      → Allows Rule slots id (v, cs) 1 (λ n. n)
      (Looks entries fixed replays seat_of (step slots 1 0 0 maybe.none) (v, cs))
  looks slots id v cs n waits s r _ at _ =
      let mine = r.each id v at in
      let live : v.spent ≡ false = live_with v mine.idle (λ e. let a = sym waits ∙ e in absurd (cc)) in
      let stands : Stands seat_of r.serving r.next r.holder r.owner r.log id (Waiting n) =
      subst (Stands seat_of r.serving r.next r.holder r.owner r.log id) waits mine.stage in
      let G : List ℕ → Type 0 = λ ws. (w : V) × (a : Act (Option T)) × Valid s.homes cs a
      × Rule record { words = set ws 1 (get_or ws 1 0); homes = homes_after s.homes cs a; views = set s.views id w }
      × Looks entries fixed replays seat_of (step slots 1 0 0 maybe.none) (v, cs) (get_or ws 1 0)
      (w, carried_after cs a) in
      subst G (sym r.words) (dite (ℕ_discrete r.serving n)
      (λ now.
      let free : r.holder ≡ 0 = nobody_holds s r id v n at waits now stands.2 in
      let h = r.home free in
      let t : T = h.0 in
      let w : V = record v { stage = Served n (entries t) } in
      let f = mine.live live in
      let finds : Finds entries fixed replays seat_of v n t = record {
        about = f.1 ∙ ap Some (sym h.3);
        covers = subst (λ (k : ℕ). Covers seat_of k v.seen (entries t)) (sym f.0)
            (subst (λ (l : List E). Covers seat_of id v.seen l) (sym h.2) f.3);
        replay = subst (λ (x : X). replays x (entries t)) (sym h.3) (subst (replays about) (sym h.2) r.replay);
        short = (let a = r.short in let b = ap length h.2 in omega arith);
      } in (
        w,
        takes 0 (Some t),
        ap (λ (hs : List (maybe.Option (Option T))). get_elem? hs 0) h.1,
        record {
          next = r.next;
          serving = r.serving;
          given = r.given;
          holder = suc id;
          counts = r.counts;
          owner = r.owner;
          dead = r.dead;
          log = r.log;
          words = refl;
          order = r.order;
          sum = r.sum;
          counted = r.counted;
          few = r.few;
          made = length-set s.views id w ∙ r.made;
          alive = r.alive;
          replay = r.replay;
          numbered = r.numbered;
          short = r.short;
          each = set_each
              (λ j u. Fits seat_of about r.serving r.next r.given (suc id) r.counts r.owner r.dead r.log j u)
              s.views id w
              record {
                first = mine.first;
                live = mine.live;
                turns = mine.turns;
                idle = λ a. absurd (let b : v.stage ≡ Idle = mine.idle a in cc);
                stage = (sym now, stands.1, stands.2, refl, h.2);
                olds = mine.olds;
              }
              (λ j u ne e.
              let g = r.each j u e in
              record {
                first = g.first;
                live = g.live;
                turns = g.turns;
                idle = g.idle;
                stage = stands_taken r.serving r.next r.holder (suc id) r.owner r.log j u.stage free g.stage;
                olds = g.olds;
              });
          home = λ z. absurd (omega arith);
          held = λ i e.
              let same : i ≡ id = omega arith in (
                ap (λ (hs : List (maybe.Option (Option T))). set hs 0 maybe.none) h.1,
                w,
                ap (get_elem? (set s.views id w)) same ∙ set_here s.views id w (at_inside s.views id v at),
                tt,
              );
        },
        (λ m is.
            let known : n ≡ m = cc in (
              (λ e.
                  let F : ℕ → Type 0 = λ z. Takes entries fixed replays seat_of (v, cs) z (holding v n t cs) in
                  subst F known (t, finds, refl)),
              (λ ne. absurd (ne (now ∙ known))),
            )),
      ))
      (λ later. (
        v,
        keeps,
        tt,
        (let P : List V → Type 0 = λ vs. Rule record {
          words = r.next ∷ r.serving ∷ [];
          homes = s.homes;
          views = vs;
        } in
            let Q : List ℕ → Type 0 = λ ws. Rule record { words = ws; homes = s.homes; views = s.views } in
            subst P (sym (set_again s.views id v at)) (subst Q r.words r)),
        (λ m is.
            let known : n ≡ m = cc in
            ((λ e. absurd (later (e ∙ sym known))), (λ _. refl))),
      )))

  -- THE NEXT TICKET IS SERVED

  -- where another seat stands
  stands_advanced : (serving next : ℕ) (owner : ℕ → ℕ) (log log' : List E) (id j : ℕ) (g : Stage E) → j ≢ id
      → owner serving ≡ id → Stands seat_of serving next (suc id) owner log j g
      → Stands seat_of (serving + 1) next 0 owner log' j g
  stands_advanced serving next owner log log' id j Idle ne own_it h = tt
  stands_advanced serving next owner log log' id j (Waiting n) ne own_it h =
      let later : serving + 1 ≤ n = dite (ℕ_discrete n serving)
      (λ e. absurd (ne (sym h.2 ∙ (ap owner e ∙ own_it))))
      (λ other. let a = h.0 in omega arith) in
      (later, h.1, h.2)
  stands_advanced serving next owner log log' id j (Served n note) ne own_it h =
      absurd (ne (let a = h.3 in omega arith))

  pub advances : (slots id new : ℕ) (v : V) (n : ℕ) (note : List E) (t : T) → new ≡ n + 1
      → v.stage ≡ Served n note → v.fixed ≡ Some (fixed t) → Grows seat_of v.number note (entries t)
      → replays (fixed t) (entries t)
      → Allows Rule slots id (v, (0, Some t) ∷ []) 1 (λ _. new)
      (λ _. Advances entries (step slots 1 new 0 maybe.none) (v, (0, Some t) ∷ []) new)
  advances slots id new v n note t one served kind grows replay s r _ at _ =
      let mine = r.each id v at in
      let live : v.spent ≡ false = live_with v mine.idle (λ e. let a = sym served ∙ e in absurd (cc)) in
      let stands : Stands seat_of r.serving r.next r.holder r.owner r.log id (Served n note) =
      subst (Stands seat_of r.serving r.next r.holder r.owner r.log id) served mine.stage in
      let f = mine.live live in
      let about_is : fixed t ≡ about = let a : Some about ≡ Some (fixed t) = sym f.1 ∙ kind in cc in
      let grows' : Grows seat_of id r.log (entries t) = subst (λ (l : List E). Grows seat_of id l (entries t)) stands.4
      (subst (λ (k : ℕ). Grows seat_of k note (entries t)) f.0 grows) in
      let own_it : r.owner r.serving ≡ id = subst (λ (z : ℕ). r.owner z ≡ id) stands.0 stands.2 in
      let inside : id < r.given = let a = at_inside s.views id v at in let b = r.made in omega arith in
      let plain : new ≡ r.serving + 1 = one ∙ ap (λ (k : ℕ). k + 1) stands.0 in
      let w : V = has_handed_on v (entries t) in
      let gone = (r.held id stands.3).0 in
      let G : List ℕ → Type 0 = λ ws. Rule record {
        words = set ws 1 new;
        homes = set s.homes 0 (some (Some t));
        views = set s.views id w;
      } in (
        w,
        gives,
        tt,
        subst G (sym r.words) record {
          next = r.next;
          serving = r.serving + 1;
          given = r.given;
          holder = 0;
          counts = r.counts;
          owner = r.owner;
          dead = r.dead;
          log = entries t;
          words = ap (λ (k : ℕ). r.next ∷ k ∷ []) plain;
          order = (let a = stands.0 in let b = stands.1 in omega arith);
          sum = r.sum;
          counted = r.counted;
          few = r.few;
          made = length-set s.views id w ∙ r.made;
          alive = r.alive;
          replay = subst (λ (x : X). replays x (entries t)) about_is replay;
          numbered = below_grows seat_of id r.given r.log (entries t) inside grows' r.numbered;
          short = (let a = length_grows seat_of id r.log (entries t) grows' in let b = r.short in omega arith);
          each = set_each
              (λ j u. Fits seat_of about (r.serving + 1) r.next r.given 0 r.counts r.owner r.dead (entries t) j u)
              s.views id w
              record {
                first = mine.first;
                live = λ a. (f.0, f.1, f.2, covers_self seat_of id (entries t));
                turns = mine.turns;
                idle = λ _. refl;
                stage = tt;
                olds = olds_grow seat_of id r.dead r.log (entries t) v.olds f.2 grows' mine.olds;
              }
              (λ j u ne e.
              let q = r.each j u e in
              let stood = subst (λ (z : ℕ). Stands seat_of r.serving r.next z r.owner r.log j u.stage) stands.3
              q.stage in
              record {
                first = q.first;
                live = λ a.
                    let h = q.live a in
                    (h.0, h.1, h.2, covers_grows seat_of id j u.seen r.log (entries t) ne grows' h.3);
                turns = q.turns;
                idle = q.idle;
                stage = stands_advanced r.serving r.next r.owner r.log (entries t) id j u.stage ne own_it stood;
                olds = olds_grow seat_of id r.dead r.log (entries t) u.olds f.2 grows' q.olds;
              });
          home = λ _.
              (t, ap (λ (hs : List (maybe.Option (Option T))). set hs 0 (some (Some t))) gone, refl, about_is);
          held = λ i e. absurd (omega arith);
        },
        (λ x e.
            let same : t ≡ x = ap (slot_or t) e in
            ap (λ (y : T). (has_handed_on v (entries y), [])) same),
      )

  pub advances_at : (slots id new : ℕ) (m : Me (Option T) V) (n : ℕ) (note : List E) (t : T) → new ≡ n + 1
      → m.1 ≡ (0, Some t) ∷ [] → m.0.stage ≡ Served n note → m.0.fixed ≡ Some (fixed t)
      → Grows seat_of m.0.number note (entries t) → replays (fixed t) (entries t)
      → Allows Rule slots id m 1 (λ _. new) (λ _. Advances entries (step slots 1 new 0 maybe.none) m new)
  advances_at slots id new m n note t one is served kind grows replay =
      let P : List (ℕ × Option T) → Type 0 = λ cs.
      Allows Rule slots id (m.0, cs) 1 (λ _. new)
      (λ _. Advances entries (step slots 1 new 0 maybe.none) (m.0, cs) new) in
      subst P (sym is) (advances slots id new m.0 n note t one served kind grows replay)

-- WHAT IS TAKEN AND GIVEN BACK

pub rest_is : {A : Type 0} (l xs : List (ℕ × A)) (x : ℕ × A) → l ≡ x ∷ xs → l ≡ x ∷ rest l
rest_is {A} l xs x e =
    let P : List (ℕ × A) → Type 0 = λ z. z ≡ x ∷ rest z in
    subst P (sym e) refl

module _ {T E C R M : Type 0} (entries : T → List E) (seat_of : E → ℕ) (call_of : E → C) where
  -- what a call does to the state's book
  pub grown : (s s' : T) (n : ℕ) (call : C) (r : Result R M)
      → IfOk r (λ _. Adds seat_of call_of n call (entries s) (entries s')) → OnErr r (entries s' ≡ entries s)
      → Grows seat_of n (entries s) (entries s')
  grown s s' n call (Ok x) a b = inr (a.0, a.1, a.2)
  grown s s' n call (Err x) a b = inl b

module _ {T X E : Type 0} (entries : T → List E) (fixed : T → X) (replays : X → List E → Type 0)
    (seat_of : E → ℕ) where
  pub hands : (v w : View X E) (t s' : T) (n : ℕ) → w ≡ record v { stage = Served n (entries t) }
      → Finds entries fixed replays seat_of v n t → fixed s' ≡ fixed t
      → Grows seat_of v.number (entries t) (entries s')
      → (replays (fixed t) (entries t) → replays (fixed s') (entries s'))
      → Hands entries fixed replays seat_of w n s'
  hands v w t s' n is finds kept grows replay =
      let P : View X E → Type 0 = λ z. Hands entries fixed replays seat_of z n s' in
      subst P (sym is) record {
        note = entries t;
        stage = refl;
        about = finds.about ∙ ap Some (sym kept);
        grows = grows;
        replay = replay finds.replay;
      }
