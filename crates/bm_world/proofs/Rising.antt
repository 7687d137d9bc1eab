-- The logs of a run rise, and what they merge to.
use Rattle.std.proofs.Common.{◌≡◌, ℕ, suc, Some, ◌+◌, ◌<◌, ◌≤◌, List, [], ◌∷◌, ◌++◌, length, map, reverse, take, get_or}
use Rattle.std.proofs.Common.{refl, sym, ap, ◌∙◌, subst, arith, append-nil, append_assoc, drop, Bool, true, false}
use Rattle.std.specs.Prelude.{slice_get, ◌||◌}
use Rattle.std.specs.List.{AllByRecursion}
use Rattle.std.proofs.Math.Seq.{take-length}
use Rattle.std.proofs.lemmas.Grind.{common_steps}
use Rattle.std.proofs.lemmas.List.{reverse-append, reverse-reverse, take-append-drop, take_more}
use Rattle.bm_core.specs.declared.events.Event.{Event}
use Rattle.bm_core.specs.Runs.{next_clock}
use Rattle.bm_shard.specs.declared.book.Shard.{Shard}
use Rattle.bm_shard.specs.declared.calls.ShardEntry.{ShardEntry}
use Rattle.bm_shard.specs.Books.{Book, Replays}
use Rattle.bm_shard.specs.Turns.{call_moment}
use Rattle.bm_merge.specs.Merges.{joined}
use Rattle.bm_merge.specs.Rising.{IsRising, in_order}
use Rattle.bm_merge.specs.Inside.Rising.{all_logs}
use Rattle.bm_world.specs.declared.run_logs.Group.{Group}
use Rattle.bm_world.specs.declared.run_logs.RunLog.{RunLog}
use Rattle.bm_world.specs.Inside.Logged.{HasMerged, book_log, books_logs, group_events, group_logs, log_events}
use Rattle.bm_world.specs.Inside.Logged.{one_refused}
use Rattle.bm_world.proofs.Through.{books_append}
use Rattle.bm_merge.proofs.Placed.{IsFalling, all_so}
use Rattle.bm_merge.proofs.Heading.{falling_rises, orders}

above : (n : ℕ) (e : ShardEntry) (past : List ShardEntry)
    → AllByRecursion (λ x. x.clock.0 ≤ e.event.clock.0) (map (λ (x : ShardEntry). x.event) past) → e.event.clock.0 < n
    → AllByRecursion (λ x. x.clock.0 ≤ n) (map (λ (x : ShardEntry). x.event) (e ∷ past))
above n e past under lt = (
  omega arith,
  all_so (λ x. x.clock.0 ≤ e.event.clock.0) (λ x. x.clock.0 ≤ n) (map (λ (x : ShardEntry). x.event) past)
      (λ x h. omega arith) under,
)

entries_fall : (shard : Shard) (past : List ShardEntry) → Replays shard past
    → IsFalling (λ x. x.clock.0) (map (λ (x : ShardEntry). x.event) past)
entries_fall shard [] replays = tt
entries_fall shard (e ∷ []) replays = (tt, tt)
entries_fall shard (e ∷ f ∷ past) replays =
    let rest = entries_fall shard (f ∷ past) replays.1 in
    let is : e.event.clock.0 ≡ next_clock f.event.clock.0 (call_moment e.call).0 =
    ap (λ (x : Event). x.clock.0) replays.0 in
    let lt : f.event.clock.0 < e.event.clock.0 = omega arith in
    (above e.event.clock.0 f past rest.0 lt, rest)

mapped_append : (x y : List ShardEntry)
    → map (λ (z : ShardEntry). z.event) (x ++ y)
    ≡ map (λ (z : ShardEntry). z.event) x ++ map (λ (z : ShardEntry). z.event) y
mapped_append [] y = refl
mapped_append (d ∷ x) y = ap (λ (l : List Event). d.event ∷ l) (mapped_append x y)

turned : (past : List ShardEntry)
    → reverse (map (λ (x : ShardEntry). x.event) past) ≡ map (λ (x : ShardEntry). x.event) (reverse past)
turned [] = refl
turned (e ∷ past) =
    reverse-append (e.event ∷ []) (map (λ (x : ShardEntry). x.event) past)
    ∙ ap (λ (l : List Event). l ++ e.event ∷ []) (turned past)
    ∙ sym (mapped_append (reverse past) (e ∷ []))
    ∙ ap (λ (l : List ShardEntry). map (λ (x : ShardEntry). x.event) l) (sym (reverse-append (e ∷ []) past))

pub book_rises : (shard : Shard) (entries : List ShardEntry) → Replays shard (reverse entries)
    → IsRising (map (λ (x : ShardEntry). x.event) entries)
book_rises shard entries replays =
    subst (λ (l : List Event). IsRising l)
    (turned (reverse entries)
    ∙ ap (λ (l : List ShardEntry). map (λ (x : ShardEntry). x.event) l) (reverse-reverse entries))
    (falling_rises (map (λ (x : ShardEntry). x.event) (reverse entries)) (entries_fall shard (reverse entries) replays))

pub all_and : (x y : List (List Event)) → AllByRecursion IsRising x → AllByRecursion IsRising y
    → AllByRecursion IsRising (x ++ y)
all_and [] y p q = q
all_and (l ∷ x) y p q = (p.0, all_and x y p.1 q)

-- THEY ARE LISTED

append_mapped : (x : List RunLog) (e : RunLog) → map log_events (x ++ e ∷ []) ≡ map log_events x ++ log_events e ∷ []
append_mapped [] e = refl
append_mapped (d ∷ x) e = ap (λ (l : List (List Event)). log_events d ∷ l) (append_mapped x e)

taken_mapped : (books : List Book) (i : ℕ) (d : Book) → i < length books
    → map book_log (take (i + 1) books) ≡ map book_log (take i books) ++ book_log (get_or books i d) ∷ []
taken_mapped books i d lt =
    ap (λ (l : List Book). map book_log l) (take_more books i d lt) ∙ over (take i books) (get_or books i d) where
      over : (x : List Book) (b : Book) → map book_log (x ++ b ∷ []) ≡ map book_log x ++ book_log b ∷ []
      over [] b = refl
      over (d ∷ x) b = ap (λ (l : List (List Event)). book_log d ∷ l) (over x b)

-- what happened by one entry more
pub event_more : (entries : List ShardEntry) (i : ℕ) (d : ShardEntry) (old new : List Event)
    → old ≡ map (λ (x : ShardEntry). x.event) (take i entries) → i < length entries
    → new ≡ old ++ (get_or entries i d).event ∷ []
    → new ≡ map (λ (x : ShardEntry). x.event) (take (i + 1) entries)
event_more entries i d old new was lt is =
    is ∙ ap (λ (l : List Event). l ++ (get_or entries i d).event ∷ []) was
    ∙ sym (ap (λ (l : List ShardEntry). map (λ (x : ShardEntry). x.event) l) (take_more entries i d lt)
    ∙ mapped_append (take i entries) (get_or entries i d ∷ []))

-- the log of one book more
pub book_more : (books : List Book) (i : ℕ) (first old new : List RunLog) (item : Book) (log : RunLog)
    → map log_events old ≡ map log_events first ++ map book_log (take i books) → i < length books
    → new ≡ old ++ log ∷ [] → log_events log ≡ book_log item → item ≡ get_or books i item
    → map log_events new ≡ map log_events first ++ map book_log (take (i + 1) books)
book_more books i first old new item log was lt is same at =
    ap (λ (l : List RunLog). map log_events l) is ∙ append_mapped old log
    ∙ ap (λ (l : List (List Event)). l ++ log_events log ∷ []) was
    ∙ append_assoc (map log_events first) (map book_log (take i books)) (log_events log ∷ [])
    ∙ ap (λ (l : List (List Event)). map log_events first ++ l)
    (ap (λ (x : List Event). map book_log (take i books) ++ x ∷ []) (same ∙ ap book_log at)
    ∙ sym (taken_mapped books i item lt))

pub rising_more : (books : List Book) (i : ℕ) (item : Book) → AllByRecursion IsRising (map book_log (take i books))
    → i < length books → item ≡ get_or books i item → IsRising (book_log item)
    → AllByRecursion IsRising (map book_log (take (i + 1) books))
rising_more books i item was lt at one =
    let is = taken_mapped books i item lt in
    rw is (all_and (map book_log (take i books)) (book_log (get_or books i item) ∷ []) was
    (subst (λ (b : Book). IsRising (book_log b)) at one, tt))

-- those of one server more
books_then : (all : List (List Book)) (item : List Book)
    → books_logs (all ++ item ∷ []) ≡ books_logs all ++ map book_log item
books_then all item =
    books_append all (item ∷ [])
    ∙ ap (λ (l : List (List Event)). books_logs all ++ l) (append-nil (map book_log item))

pub books_listed : (all : List (List Book)) (old new : List RunLog) (item : List Book)
    → map log_events old ≡ books_logs all → map log_events new ≡ map log_events old ++ map book_log item
    → map log_events new ≡ books_logs (all ++ item ∷ [])
books_listed all old new item was is =
    is ∙ ap (λ (l : List (List Event)). l ++ map book_log item) was ∙ sym (books_then all item)

pub books_rising : (all : List (List Book)) (item : List Book) → AllByRecursion IsRising (books_logs all)
    → AllByRecursion IsRising (map book_log item) → AllByRecursion IsRising (books_logs (all ++ item ∷ []))
books_rising all item was one = rw (books_then all item) (all_and (books_logs all) (map book_log item) was one)

-- GROUPS

-- the books of servers that are cut in two
pub books_cut : (all part rest : List (List Book)) (n : ℕ) → part ≡ take n all → rest ≡ drop n all
    → books_logs part ++ books_logs rest ≡ books_logs all
books_cut all part rest n first last =
    ap (λ (l : List (List Book)). books_logs l ++ books_logs rest) first
    ∙ ap (λ (l : List (List Book)). books_logs (take n all) ++ books_logs l) last
    ∙ sym (books_append (take n all) (drop n all)) ∙ ap books_logs (take-append-drop n all)

group_then : (groups : List Group) (group : Group)
    → all_logs (map group_logs (groups ++ group ∷ [])) ≡ all_logs (map group_logs groups) ++ group_logs group
group_then [] group = append-nil (group_logs group)
group_then (g ∷ groups) group =
    ap (λ (l : List (List Event)). group_logs g ++ l) (group_then groups group)
    ∙ sym (append_assoc (group_logs g) (all_logs (map group_logs groups)) (group_logs group))

-- one group more, of the first of the logs that are left
pub group_more : (groups new : List Group) (group : Group) (all part rest whole : List (List Event))
    → all_logs (map group_logs groups) ++ all ≡ whole → part ++ rest ≡ all → new ≡ groups ++ group ∷ []
    → group_logs group ≡ part → all_logs (map group_logs new) ++ rest ≡ whole
group_more groups new group all part rest whole was cut is same =
    let done = all_logs (map group_logs groups) in
    ap (λ (l : List Group). all_logs (map group_logs l) ++ rest) is
    ∙ ap (λ (l : List (List Event)). l ++ rest)
    (group_then groups group ∙ ap (λ (l : List (List Event)). done ++ l) same)
    ∙ append_assoc done part rest ∙ ap (λ (l : List (List Event)). done ++ l) cut ∙ was

-- the last group, of all of them
pub group_last : (groups new : List Group) (group : Group) (all whole : List (List Event))
    → all_logs (map group_logs groups) ++ all ≡ whole → new ≡ groups ++ group ∷ [] → group_logs group ≡ all
    → all_logs (map group_logs new) ≡ whole
group_last groups new group all whole was is same =
    ap (λ (l : List Group). all_logs (map group_logs l)) is ∙ group_then groups group
    ∙ ap (λ (l : List (List Event)). all_logs (map group_logs groups) ++ l) same ∙ was

-- what was merged takes the place of all that was there
written_back : (given wrote : List Group) (n : ℕ) → length wrote ≡ length given → n ≡ length given
    → take n (wrote ++ drop (length wrote) given) ≡ wrote
written_back given wrote n count whole =
    let none : drop (length wrote) given ≡ [] = grind (arith, common_steps)
    in let all : n ≡ length wrote = omega (arith, count, whole)
    in ap (λ x. take n (wrote ++ x)) none ∙ ap (λ x. take n x) (append-nil wrote) ∙ ap (λ k. take k wrote) all
    ∙ take-length wrote

-- where memory was refused for no group, each has what its logs merge to
pub merged_all : (old new : List Group) → length new ≡ length old
    → ((k : ℕ) (o n : Group) → slice_get old k ≡ Some o → slice_get new k ≡ Some n → HasMerged o n)
    → one_refused new ≡ false → map group_events new ≡ orders (map group_logs old)
merged_all [] [] count each fine = refl
merged_all [] (n ∷ new) count each fine = absurd (omega arith)
merged_all (o ∷ old) [] count each fine = absurd (omega arith)
merged_all (o ∷ old) (n ∷ new) count each fine =
    go n.refused refl fine (merged_all old new (omega arith) (λ k x y a b. each (suc k) x y a b)) where
      go : (r : Bool) → n.refused ≡ r → (r || one_refused new) ≡ false
          → (one_refused new ≡ false → map group_events new ≡ orders (map group_logs old))
          → group_events n ∷ map group_events new ≡ in_order (joined (group_logs o)) ∷ orders (map group_logs old)
      go true refused fails rest = absurd (cc)
      go false one others rest =
          ap (λ (l : List Event). l ∷ map group_events new) ((each 0 o n refl refl).events one)
          ∙ ap (λ (l : List (List Event)). in_order (joined (group_logs o)) ∷ l) (rest others)

pub merged_back : (groups given wrote tested seen : List Group) (n : ℕ) (refused : Bool) → given ≡ groups
    → length given ≡ n → length wrote ≡ length given
    → ((k : ℕ) (o n : Group) → slice_get given k ≡ Some o → slice_get wrote k ≡ Some n → HasMerged o n)
    → tested ≡ take n (wrote ++ drop (length wrote) groups) → refused ≡ one_refused tested → refused ≡ false
    → seen ≡ take n (wrote ++ drop (length wrote) groups) → map group_events seen ≡ orders (map group_logs groups)
merged_back groups given wrote tested seen n refused same whole count each first is none last =
    let long = ap (λ (l : List Group). length l) same in
    let back = written_back groups wrote n (count ∙ long) (sym whole ∙ long) in
    let fine : one_refused wrote ≡ false = ap one_refused (sym (first ∙ back)) ∙ sym is ∙ none in
    ap (λ (l : List Group). map group_events l) (last ∙ back) ∙ merged_all given wrote count each fine
    ∙ ap (λ (l : List Group). orders (map group_logs l)) same
