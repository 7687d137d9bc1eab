use Rattle.std.proofs.Common.{◌≡◌, ℕ, ◌∷◌, ◌++◌, [], List, length, slice_get, Some}
use Rattle.std.proofs.Common.{sym, ap, ◌∙◌, subst, length-append, arith}
use Rattle.atomic_table.specs.Seated.{TableId}
use Rattle.bm_rows.proofs.Glued.{glued_at, length_rows}
use Rattle.bm_rows.proofs.Places.{all_empty, subst_two}
use Rattle.bm_shard.specs.declared.book.Shard.{Shard}
use Rattle.bm_turnstile.specs.Sittings.{post, who}
use Rattle.bm_server.specs.Seats.{Seated, IsNewSeat}
use Rattle.bm_server.specs.Servings.{Serving, serving, shard_at}
use Rattle.bm_server.proofs.Makes.{no_shard, fresh_more}
use Rattle.bm_server.proofs.seats.make_shards.Goals as goal

pub loop-number-init : goal.loop-number-init
loop-number-init c =
    let a = c.args in
    let rows = c.in_ok-rows.rows.items in
    let none = c.new-made.ensures.items in
    record {
      made = ap (λ (l : List TableId). length l) none;
      count = c.in_ok-rows.ensures.count;
      each = λ i seat at.
          subst (λ (ts : List TableId). IsNewSeat (serving a.id a.capacity a.timeout a.seats ts) i seat) (sym none)
          (no_shard a.id a.capacity a.timeout a.seats i seat (all_empty _ rows c.in_ok-rows.ensures.empty i seat at));
    }

pub loop-number-preserved : goal.loop-number-preserved
loop-number-preserved c =
    let a = c.args in
    let i = c.loop-number.invariant in
    let t : TableId = c.in_ok-turnstile.turnstile in
    let ts : List TableId = c.loop-number.made.items in
    let rows = c.loop-number.rows.items in
    let column : List Seated = c.in_ok-turnstile.column.items in
    let glued = c.in_ok-add_column.ensures in
    let items : c.push.new.self.items ≡ ts ++ t ∷ [] = c.in_ok-push.ensures.items in
    let long = ap (λ (l : List TableId). length l) items in
    let made = i.made in
    let server : Serving = serving a.id a.capacity a.timeout a.seats ts in
    let number : c.in_ok-book.book.shard ≡ shard_at server (length ts) =
    c.in_ok-book.ensures.shard ∙ ap (λ (k : ℕ). shard_at server k) (sym made) in
    let P : List TableId → List Seated → ℕ → Type 0 = λ ts x k.
    IsNewSeat (serving a.id a.capacity a.timeout a.seats ts) k x in
    record {
      made = omega (arith, long, length-append ts (t ∷ []), made);
      count = length_rows _ c.add_column.new.rows.items rows column glued i.count c.in_ok-turnstile.ensures.count;
      each = λ k seat at.
          let e = glued_at _ column k seat (ap (λ (l : List (List Seated)). slice_get l k) (sym glued) ∙ at) in
          let old = i.each k e.row e.row_at in
          let new = c.in_ok-turnstile.ensures.each k e.item e.item_at in
          let w : who e.item ≡ post t (Some (shard_at server (length ts))) a.seats k =
          new.1 ∙ ap (λ (s : Shard). post t (Some s) a.seats k) number in
          subst_two (λ (ts : List TableId) (x : List Seated). P ts x k) (sym items) (sym e.whole)
          (fresh_more a.id a.capacity a.timeout a.seats ts t k e.row e.item old new.0 w);
    }
