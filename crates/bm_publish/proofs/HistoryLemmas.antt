-- What follows of a board's history, and the step that adds a post to it.
use Rattle.std.proofs.Common.{◌≡◌, ℕ, ◌+◌, ◌*◌, ◌^◌, ◌<◌, ◌≤◌, ◌==◌, Bool, true, false, List, [], ◌∷◌, ◌++◌, length}
use Rattle.std.proofs.Common.{refl, ap, sym, ◌∙◌, subst, arith, inl, length-append, None}
use Rattle.std.specs.Prelude.{zero, suc, slice_set}
use Rattle.std.proofs.lemmas.List.{append-nil}
use Rattle.std.proofs.lemmas.Bool.Decides.{nat_tests}
use mathlib.Core.List.{IsPrefix}
use prog.Atomic.{either}
use Rattle.bm_base.specs.declared.ids.Moment.{Moment}
use Rattle.logbook.specs.Pages.{Book, Cell, Nib, cell, keeps, adds, gives, may_write, nib, no_nib, step, Moves, Goes}
use Rattle.bm_table.specs.Planned.{Planned}
use Rattle.bm_table.specs.Plans.{IsPlan}
use Rattle.bm_publish.specs.declared.snapshot.Line.{Line}
use Rattle.bm_publish.specs.declared.snapshot.Line.TheVariants.{Opens, Posts}
use Rattle.bm_publish.specs.Inside.Histories.{plan_in, clocks_in, posted_in, IsOpened, IsCounted, IsSpent, permit_in, Grants, Adds, Checks}
use Rattle.bm_publish.specs.Posts.{Posted, Continues, IsPosted, RiseAbove, last_or, last_post, last_version, with_post}
use Rattle.bm_publish.proofs.Prefixes.{prefix_shorter, prefix_trans, prefix_whole}

pub clocks-append : (xs ys : List Line) → clocks_in (xs ++ ys) ≡ clocks_in xs ++ clocks_in ys
clocks-append [] ys = refl
clocks-append (Opens plan ∷ xs) ys = clocks-append xs ys
clocks-append (Posts clock next ∷ xs) ys = ap (λ cs. clock.0 ∷ cs) (clocks-append xs ys)

pub clocks_prefix : (xs ys : List Line) → IsPrefix xs ys → IsPrefix (clocks_in xs) (clocks_in ys)
clocks_prefix xs ys p = (clocks_in p.0, sym (clocks-append xs p.0) ∙ ap clocks_in p.1)

plan-append : (xs ys : List Line) → IsOpened xs → plan_in (xs ++ ys) ≡ plan_in xs
plan-append [] ys h = absurd h
plan-append (Opens plan ∷ xs) ys h = refl
plan-append (Posts clock next ∷ xs) ys h = absurd h

opened-append : (xs ys : List Line) → IsOpened xs → IsOpened (xs ++ ys)
opened-append [] ys h = absurd h
opened-append (Opens plan ∷ xs) ys h = tt
opened-append (Posts clock next ∷ xs) ys h = absurd h

pub plan_prefix : (xs ys : List Line) → IsOpened xs → IsPrefix xs ys → plan_in ys ≡ plan_in xs
plan_prefix xs ys h p = ap plan_in (sym p.1) ∙ plan-append xs p.0 h

pub opened_prefix : (xs ys : List Line) → IsOpened xs → IsPrefix xs ys → IsOpened ys
opened_prefix xs ys h p = subst IsOpened p.1 (opened-append xs p.0 h)

-- of two beginnings of one history the longer goes on from the shorter
pub goes_on : (a b : Book) (xs ys zs : List Line) → b ≡ a → IsOpened xs → IsOpened ys → IsPrefix xs zs → IsPrefix ys zs
    → length (clocks_in xs) ≤ length (clocks_in ys) → Continues (posted_in a xs) (posted_in b ys)
goes_on a b xs ys zs same xo yo p q le = record {
  board = same;
  plan = sym (plan_prefix ys zs yo q) ∙ plan_prefix xs zs xo p;
  posts = prefix_shorter (clocks_in xs) (clocks_in ys) (clocks_in zs) (clocks_prefix xs zs p) (clocks_prefix ys zs q)
      le;
}

pub continues_trans : (p q r : Posted) → Continues p q → Continues q r → Continues p r
continues_trans p q r a b = record {
  board = b.board ∙ a.board;
  plan = b.plan ∙ a.plan;
  posts = prefix_trans p.clocks q.clocks r.clocks a.posts b.posts;
}

-- CLOCKS

last-snoc : (low : ℕ) (clocks : List ℕ) (clock : ℕ) → last_or low (clocks ++ clock ∷ []) ≡ clock
last-snoc low [] clock = refl
last-snoc low (c ∷ clocks) clock = last-snoc c clocks clock

rise-snoc : (low : ℕ) (clocks : List ℕ) (clock : ℕ) → RiseAbove low clocks → last_or low clocks < clock
    → clock ≤ 9 * 10 ^ 18 → RiseAbove low (clocks ++ clock ∷ [])
rise-snoc low [] clock rise later last = (later, last)
rise-snoc low (c ∷ clocks) clock rise later last = (rise.0, rise-snoc c clocks clock rise.1 later last)

-- no clock is above LAST
last_bound : (low : ℕ) (clocks : List ℕ) → RiseAbove low clocks → last_or low clocks ≤ 9 * 10 ^ 18
last_bound low [] rise = rise
last_bound low (c ∷ clocks) rise = last_bound c clocks rise.1

pub post_bound : (p : Posted) → IsPosted p → last_post p ≤ 9 * 10 ^ 18
post_bound p h = last_bound 0 p.clocks h.rising

-- one post more
pub post_more : (p : Posted) (clock : ℕ) → IsPosted p → last_version p < length p.plan.changes → last_post p < clock
    → clock ≤ 9 * 10 ^ 18
    → IsPosted (with_post p clock) × (last_version (with_post p clock) ≡ last_version p + 1)
    × (last_post (with_post p clock) ≡ clock)
post_more p clock h next later last =
    let more : length (p.clocks ++ clock ∷ []) ≡ length p.clocks + 1 = length-append p.clocks (clock ∷ []) in (
      record { plan = h.plan; few = omega arith; rising = rise-snoc 0 p.clocks clock h.rising later last },
      more,
      last-snoc 0 p.clocks clock,
    )

-- a history with one post more
pub more_posts : (a b : Book) (v w : List Line) (clock n : ℕ) → IsOpened v → IsPosted (posted_in a v) → IsPrefix v w
    → clocks_in w ≡ clocks_in v ++ clock ∷ []
    → n ≡ last_version (posted_in a v) → last_version (posted_in a v) < length (plan_in v).changes
    → last_post (posted_in a v) < clock → clock ≤ 9 * 10 ^ 18
    → IsOpened w × IsPosted (posted_in b w) × (n + 1 ≡ last_version (posted_in b w))
    × (clock ≡ last_post (posted_in b w))
more_posts a b v w clock n opened h pre more count next later last =
    let plan : plan_in w ≡ plan_in v = plan_prefix v w opened pre in
    let all = post_more (posted_in a v) clock h next later last in
    let same : with_post (posted_in a v) clock ≡ record { board = a; plan = plan_in w; clocks = clocks_in w } =
    ap (λ cs. record { board = a; plan = plan_in v; clocks = cs }) (sym more)
    ∙ ap (λ p. record { board = a; plan = p; clocks = clocks_in w }) (sym plan) in (
      opened_prefix v w opened pre,
      (let q : IsPosted (record { board = a; plan = plan_in w; clocks = clocks_in w }) =
          subst IsPosted same all.0 in record { plan = q.plan; few = q.few; rising = q.rising }),
      ap (λ k. k + 1) count ∙ (sym all.1 ∙ sym (ap length more)),
      sym all.2 ∙ sym (ap (last_or 0) more),
    )

-- a history that has its plan and no post
pub first_posts : (a : Book) (plan : Planned) (log : List Line) → IsPlan plan → IsPrefix (Opens plan ∷ []) log
    → clocks_in log ≡ []
    → IsOpened log × IsPosted (posted_in a log) × (0 ≡ last_version (posted_in a log))
    × (0 ≡ last_post (posted_in a log))
first_posts a plan log h pre none =
    let same : plan_in log ≡ plan = plan_prefix (Opens plan ∷ []) log tt pre in
    let count : 0 ≡ length (clocks_in log) = sym (ap length none) in (
      opened_prefix (Opens plan ∷ []) log tt pre,
      record {
        plan = subst IsPlan (sym same) h;
        few = omega (arith, count);
        rising = subst (RiseAbove 0) (sym none) (omega arith);
      },
      count,
      sym (ap (last_or 0) none),
    )

-- PERMITS

pub permit-append : (key : ℕ) (xs ys : List Line) → permit_in key (xs ++ ys) ≡ permit_in (permit_in key xs) ys
permit-append key [] ys = refl
permit-append key (Opens plan ∷ xs) ys = permit-append key xs ys
permit-append key (Posts clock next ∷ xs) ys = permit-append next xs ys

pub permit_idle : (key : ℕ) (log : List Line) → clocks_in log ≡ [] → permit_in key log ≡ key
permit_idle key [] none = refl
permit_idle key (Opens plan ∷ log) none = permit_idle key log none
permit_idle key (Posts clock next ∷ log) none = absurd (cc)

spent_rest : (cs : List Cell) (key : ℕ) (xs ys : List Line) → IsSpent cs key (xs ++ ys)
    → IsSpent cs (permit_in key xs) ys
spent_rest cs key [] ys h = h
spent_rest cs key (Opens plan ∷ xs) ys h = spent_rest cs key xs ys h
spent_rest cs key (Posts clock next ∷ xs) ys h = spent_rest cs next xs ys h.1

spent-append : (cs : List Cell) (key : ℕ) (xs ys : List Line) → IsSpent cs key xs → IsSpent cs (permit_in key xs) ys
    → IsSpent cs key (xs ++ ys)
spent-append cs key [] ys a b = b
spent-append cs key (Opens plan ∷ xs) ys a b = spent-append cs key xs ys a b
spent-append cs key (Posts clock next ∷ xs) ys a b = (a.0, spent-append cs next xs ys a.1 b)

-- a permit that is away was not used
unused : (cs : List Cell) (key : ℕ) (log : List Line) → (cell cs key).1 ≡ false → IsSpent cs key log
    → clocks_in log ≡ []
unused cs key [] away h = refl
unused cs key (Opens plan ∷ log) away h = unused cs key log away h
unused cs key (Posts clock next ∷ log) away h = absurd (let e : true ≡ false = sym h.0 ∙ away in cc)

spent_more : (cs ds : List Cell) → ((k : ℕ) → (cell cs k).1 ≡ true → (cell ds k).1 ≡ true) → (key : ℕ)
    → (log : List Line) → IsSpent cs key log → IsSpent ds key log
spent_more cs ds more key [] h = tt
spent_more cs ds more key (Opens plan ∷ log) h = spent_more cs ds more key log h
spent_more cs ds more key (Posts clock next ∷ log) h = (more key h.0, spent_more cs ds more next log h.1)

word_home : (c d : Cell) (cs : List Cell) → d.1 ≡ true → (k : ℕ) → (cell (c ∷ cs) k).1 ≡ true
    → (cell (d ∷ cs) k).1 ≡ true
word_home c d cs home zero h = home
word_home c d cs home (suc k) h = h

longer_home : (cs : List Cell) (d : Cell) (k : ℕ) → (cell cs k).1 ≡ true → (cell (cs ++ d ∷ []) k).1 ≡ true
longer_home [] d k h = absurd (let e : false ≡ true = h in cc)
longer_home (c ∷ cs) d zero h = h
longer_home (c ∷ cs) d (suc k) h = longer_home cs d k h

set_home : (cs : List Cell) (i n k : ℕ) → (cell cs k).1 ≡ true → (cell (slice_set cs i (n, true)) k).1 ≡ true
set_home [] i n k h = absurd (let e : false ≡ true = h in cc)
set_home (c ∷ cs) zero n zero h = refl
set_home (c ∷ cs) zero n (suc k) h = h
set_home (c ∷ cs) (suc i) n zero h = h
set_home (c ∷ cs) (suc i) n (suc k) h = set_home cs i n k h

set_here : (cs : List Cell) (i n : ℕ) → i < length cs → (cell (slice_set cs i (n, true)) i).1 ≡ true
set_here [] i n h = absurd (omega arith)
set_here (c ∷ cs) zero n h = refl
set_here (c ∷ cs) (suc i) n h = set_here cs i n (omega arith)

-- THE STEPS

abbrev pub shown : List Line → List Line
shown log = []

abbrev pub moved : Line → List Line → List Line → ℕ → Type 0
moved ask xs ys n = Unit {0}

-- what each step leaves in the word
abbrev pub kept_word : ℕ → ℕ
kept_word n = either (n == 0) 1 n

never_zero : (n : ℕ) (b : Bool) → (n == 0) ≡ b → either b 1 n ≡ 0 → ⊥
never_zero n true is e = omega arith
never_zero n false is e = grind (arith, nat_tests)

-- the word is stepped on, and all else stays
stepped : (c : Cell) (cs : List Cell) (log : List Line) → IsCounted (c ∷ cs) log
    → IsCounted ((kept_word c.0, true) ∷ cs) log
stepped c cs log h = record {
  some = omega arith;
  word = refl;
  fresh = λ e. absurd (never_zero c.0 (c.0 == 0) refl e);
  spent = spent_more (c ∷ cs) ((kept_word c.0, true) ∷ cs) (word_home c (kept_word c.0, true) cs refl) 1 log h.spent;
}

alone : (c : Cell) (cs : List Cell) (log : List Line) → length (c ∷ cs) ≡ 1 → IsSpent (c ∷ cs) 1 log
    → clocks_in log ≡ []
alone c [] log one h = unused (c ∷ []) 1 log refl h
alone c (d ∷ cs) log one h = absurd (omega arith)

pub grant_moves : (v : List Line) (ask : Line)
    → Moves IsCounted shown (moved ask) 0 (v, (no_nib, None)) (λ n. either (n == 0) 1 n)
    (Grants (step 0 0 1 ask) (v, (no_nib, None)))
grant_moves v ask [] log h pre away = absurd (let e = h.some in omega arith)
grant_moves v ask (c ∷ cs) log h pre away =
    let next = stepped c cs log h in
    let all : log ++ [] ≡ log = append-nil log in
    let cells : List Cell = (kept_word c.0, true) ∷ cs ++ (0, false) ∷ [] in
    let kept : IsCounted cells log = record {
      some = omega arith;
      word = refl;
      fresh = λ e. absurd (never_zero c.0 (c.0 == 0) refl e);
      spent = spent_more ((kept_word c.0, true) ∷ cs) cells
          (longer_home ((kept_word c.0, true) ∷ cs) (0, false)) 1 log next.spent;
    } in (
      omega arith,
      h.word,
      (
        adds,
        [],
        None,
        tt,
        subst (IsCounted cells) (sym all) kept,
        inl (refl, refl),
        (refl, λ e. (h.fresh e, ap clocks_in all ∙ alone c cs log (h.fresh e) h.spent)),
      ),
    )

-- the pen's cell is given back, and isn't the word
given : (c : Cell) (cs : List Cell) (k n : ℕ) → (cell (c ∷ cs) k).1 ≡ false → c.1 ≡ true
    → (0 < length (slice_set ((kept_word c.0, true) ∷ cs) k (n, true)))
    × ((cell (slice_set ((kept_word c.0, true) ∷ cs) k (n, true)) 0).0 ≡ 0 → ⊥)
given c cs zero n away home = absurd (let e : true ≡ false = sym home ∙ away in cc)
given c cs (suc k) n away home = (omega arith, λ e. never_zero c.0 (c.0 == 0) refl e)

pub add_moves : (v : List Line) (clock : Moment) (next : ℕ) (p : Nib) → p.right ≡ may_write
    → p.key ≡ permit_in 1 v
    → Moves IsCounted shown (moved (Posts clock next)) 0 (v, (p, None)) (λ n. either (n == 0) 1 n)
    (Adds (step 0 0 1 (Posts clock next)) (v, (p, None)))
add_moves v clock next p right key [] log h pre away = absurd (let e = h.some in omega arith)
add_moves v clock next p right key (c ∷ cs) log h pre away =
    let was = stepped c cs log h in
    let gone = away right in
    let entry : List Line = Posts clock next ∷ [] in
    let key' : permit_in 1 v ≡ p.key = sym key in
    let split : IsSpent (c ∷ cs) 1 (v ++ pre.0) = subst (IsSpent (c ∷ cs) 1) (sym pre.1) h.spent in
    let rest : IsSpent (c ∷ cs) p.key pre.0 =
    subst (λ k. IsSpent (c ∷ cs) k pre.0) key' (spent_rest (c ∷ cs) 1 v pre.0 split) in
    let none : clocks_in pre.0 ≡ [] = unused (c ∷ cs) p.key pre.0 gone.1 rest in
    let same : clocks_in log ≡ clocks_in v =
    ap clocks_in (sym pre.1) ∙ (clocks-append v pre.0 ∙ (ap (λ cl. clocks_in v ++ cl) none ∙ append-nil (clocks_in v)))
    in
    let now : permit_in 1 log ≡ p.key =
    ap (permit_in 1) (sym pre.1)
    ∙ (permit-append 1 v pre.0 ∙ (permit_idle (permit_in 1 v) pre.0 none ∙ key')) in
    let before : List Cell = (kept_word c.0, true) ∷ cs in
    let cells : List Cell = slice_set before p.key (p.value, true) in
    let home : (k : ℕ) → (cell before k).1 ≡ true → (cell cells k).1 ≡ true = set_home before p.key p.value in
    let spent : IsSpent cells 1 log = spent_more before cells home 1 log was.spent in
    let here : (cell cells p.key).1 ≡ true = set_here before p.key p.value (omega (arith, gone.0)) in
    let last : IsSpent cells (permit_in 1 log) entry =
    subst (λ k. IsSpent cells k entry) (sym now) (here, tt) in
    let words = given c cs p.key p.value gone.1 h.word in (
      omega arith,
      h.word,
      (
        gives,
        entry,
        None,
        right,
        record {
          some = words.0;
          word = home 0 refl;
          fresh = λ e. absurd (words.1 e);
          spent = spent-append cells 1 log entry spent last;
        },
        inl (refl, refl),
        (clocks-append log entry ∙ ap (λ cl. cl ++ clock.0 ∷ []) same, permit-append 1 log entry),
      ),
    )

pub check_moves : (v : List Line) (ask : Line) (p : Nib) → p.right ≡ may_write
    → Moves IsCounted shown (moved ask) 0 (v, (p, None)) (λ n. either (n == 0) 1 n)
    (Checks (step 0 0 1 ask) (v, (p, None)))
check_moves v ask p right [] log h pre away = absurd (let e = h.some in omega arith)
check_moves v ask p right (c ∷ cs) log h pre away =
    let all : log ++ [] ≡ log = append-nil log in
    let gone = away right in (
      omega arith,
      h.word,
      (
        keeps,
        [],
        None,
        tt,
        subst (IsCounted ((kept_word c.0, true) ∷ cs)) (sym all) (stepped c cs log h),
        inl (refl, refl),
        (
          refl,
          λ xs begins key.
              let more : IsPrefix xs log = prefix_trans xs v log begins pre in
              let split : IsSpent (c ∷ cs) 1 (xs ++ more.0) = subst (IsSpent (c ∷ cs) 1) (sym more.1) h.spent in
              let rest : IsSpent (c ∷ cs) p.key more.0 =
              subst (λ k. IsSpent (c ∷ cs) k more.0) key (spent_rest (c ∷ cs) 1 xs more.0 split) in
              let none : clocks_in more.0 ≡ [] = unused (c ∷ cs) p.key more.0 gone.1 rest in
              ap clocks_in (all ∙ sym more.1)
              ∙ (clocks-append xs more.0 ∙ (ap (λ cl. clocks_in xs ++ cl) none ∙ append-nil (clocks_in xs))),
        ),
      ),
    )
