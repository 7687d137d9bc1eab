use Rattle.std.proofs.Common.{◌≡◌, ◌≤◌, ◌+◌, ◌*◌, ◌^◌, ◌++◌, ◌∷◌, [], length, length-append, reverse, List, ap}
use Rattle.std.proofs.Common.{subst, sym, ◌∙◌, arith}
use Rattle.std.proofs.lemmas.List.{reverse-append}
use Rattle.bm_base.specs.declared.ids.Moment.{Moment}
use Rattle.bm_core.specs.Runs.{next_clock}
use Rattle.bm_core.specs.declared.events.Event.{Event}
use Rattle.bm_shard.specs.declared.calls.ShardEntry.{ShardEntry}
use Rattle.bm_shard.specs.declared.book.Shard.{Shard}
use Rattle.bm_shard.specs.Books.{Book, Replays, event_after, entry_after, reply_after}
use Rattle.bm_shard.specs.States.{IsAfter}
use Rattle.bm_shard.specs.Turns.{call_moment}
use Rattle.bm_shard.proofs.Keeping.{left_by_entry, event_is, reply_is}
use Rattle.bm_shard.proofs.book.ShardBook.apply.Goals as goal

-- the entries before, the newest first
abbrev past : goal.After-push_reserved → List ShardEntry
past c = reverse c.self.inside.entries.items

-- the entry that is kept
abbrev entry : goal.After-push_reserved → ShardEntry
entry c = record { seat = c.args.seat; call = c.args.call; event = c.in_ok-event.event }

made : (c : goal.After-push_reserved) → IsAfter c.args.call c.self.inside.state c.apply.new.self
made c = c.in_ok-event.ensures.effect

event : (c : goal.After-push_reserved)
    → c.in_ok-event.event ≡ event_after c.self.inside.state.shard (past c) c.args.call
event c = c.in_ok-event.ensures.event
    ∙ event_is (past c) c.args.call c.self.inside.state c.self.invariant.left c.self.invariant.clock

items : (c : goal.After-push_reserved) → c.push_reserved.new.self.items ≡ c.self.inside.entries.items ++ entry c ∷ []
items c = c.push_reserved.ensures.items ∙ ap (λ (l : List ShardEntry). l ++ entry c ∷ []) c.in_ok-reserve.ensures.items

newest : (c : goal.After-push_reserved) → reverse c.push_reserved.new.self.items ≡ entry c ∷ past c
newest c = ap (λ (l : List ShardEntry). reverse l) (items c) ∙ reverse-append c.self.inside.entries.items (entry c ∷ [])

bound_after : (c : goal.After-push_reserved)
    → c.apply.new.self.clock.0 ≤ 9 * 10 ^ 18 + length c.push_reserved.new.self.items
bound_after c =
    let more : length c.push_reserved.new.self.items ≡ length c.self.inside.entries.items + 1 =
    ap (λ (l : List ShardEntry). length l) (items c) ∙ length-append c.self.inside.entries.items (entry c ∷ [])
    in let rises : c.apply.new.self.clock.0 ≡ next_clock c.self.inside.state.clock.0 (call_moment c.args.call).0 =
    ap (λ (m : Moment). m.0) (made c).clock
    in let low : c.self.inside.state.clock.0 ≤ 9 * 10 ^ 18 + length c.self.inside.entries.items =
    c.self.invariant.bound
    in let high : (call_moment c.args.call).0 ≤ 9 * 10 ^ 18 = c.requires.taken.moment
    in omega arith

pub invariant_of-self-2 : goal.invariant_of-self-2
invariant_of-self-2 c = record {
  left = rw (newest c)
      (left_by_entry (past c) c.args.seat c.args.call c.in_ok-event.event c.self.inside.state c.apply.new.self
      c.self.invariant.left c.in_ok-event.ensures.event (made c));
  clock = rw (newest c) ((made c).clock ∙ ap (λ (e : Event). e.clock) (sym c.in_ok-event.ensures.event));
  bound = bound_after c;
  replays = rw (newest c)
      (subst (λ (shard : Shard). Replays shard (entry c ∷ past c)) (sym (made c).shard)
      (event c, c.self.invariant.replays));
}

pub returns-clause-reply : goal.returns-clause-reply
returns-clause-reply c =
    subst (λ (book : Book). c.in_ok-event.reply ≡ reply_after book.shard (reverse book.entries) c.args.call)
    c.self.view_is
    (c.in_ok-event.ensures.reply
    ∙ reply_is (past c) c.args.call c.self.inside.state c.self.invariant.left c.self.invariant.clock)

pub returns-clause-kept : goal.returns-clause-kept
returns-clause-kept c =
    let all : c.push_reserved.new.self.items ≡ c.self.inside.entries.items
    ++ entry_after c.self.inside.state.shard (past c) c.args.seat c.args.call ∷ [] =
    items c ∙ (λ i. c.self.inside.entries.items
    ++ record { seat = c.args.seat; call = c.args.call; event = event c i } ∷ [])
    in subst (λ (book : Book). record { shard = c.apply.new.self.shard; entries = c.push_reserved.new.self.items }
    ≡ record {
      shard = book.shard;
      entries =
          book.entries ++ entry_after book.shard (reverse book.entries) c.args.seat c.args.call ∷ [];
    }) c.self.view_is
    (λ i. record { shard = (made c).shard i; entries = all i })
