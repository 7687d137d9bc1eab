use Rattle.std.proofs.Common.{◌≡◌, ℕ, List, [], ◌∷◌, slice_get, Option, Some, refl, sym, ap, ◌∙◌, arith, append-nil}
use Rattle.bm_table.specs.declared.script.Command.{Command}
use Rattle.bm_table.specs.declared.script.Command.TheVariants.{Sync}
use Rattle.bm_lead.specs.declared.leader.Leader.{Leader}
use Rattle.bm_lead.specs.Commands.{syncing}
use Rattle.bm_core.specs.Runs.{next_clock}
use Rattle.bm_core.specs.Threads.{moment_at}
use Rattle.bm_lead.specs.Inside.Steps.{AreOf, HasDone}
use Rattle.bm_lead.proofs.Calling.{gets_elsewhere}
use Rattle.bm_lead.proofs.Going.{command_leads, ready_more}
use Rattle.bm_lead.proofs.Scripted.{command_early, is_there}
use Rattle.bm_lead.proofs.lead.sync.Goals as goal

pub sync_moment-at-requires-clause-there : goal.sync_moment-at-requires-clause-there
sync_moment-at-requires-clause-there c =
    rw c.items.ensures (is_there c.args.stage.now.script.commands c.args.leader.now.next c.requires.sync)

pub clock_up_to-requires-clause-cause : goal.clock_up_to-requires-clause-cause
clock_up_to-requires-clause-cause c =
    let early = command_early c.args.stage.now c.args.leader.now.next (Sync c.sync_moment-at.result) c.requires.sound
    (ap (λ (l : List Command). slice_get l c.args.leader.now.next) (sym c.items.ensures) ∙ c.sync_moment-at.ensures)
    in omega arith

pub overflow_add-leader : goal.overflow_add-leader
overflow_add-leader c =
    let inside = is_there c.args.stage.now.script.commands c.args.leader.now.next c.requires.sync in
    omega (arith, inside, c.requires.sound.script.few_commands)

pub returns-clause-synced : goal.returns-clause-synced
returns-clause-synced c = λ servers posted servers_are ready.
    let a = c.args.leader.now in
    let stage = c.args.stage.now in
    let clock = c.in_ok-clock.clock in
    let at = c.sync_moment-at.result in
    let b : Leader = record a { caller = c.see.new.self; log = c.write_down.new.log } in
    let here : slice_get stage.script.commands a.next ≡ Some (Sync at) =
    ap (λ (l : List Command). slice_get l a.next) (sym c.items.ensures) ∙ c.sync_moment-at.ensures in
    let next = c.in_ok-clock.ensures.ok.0 in
    let top = c.requires.greatest in
    let latest = c.see.ensures.latest in
    let done : HasDone stage servers posted posted a b (syncing clock a.next ∷ []) = record {
      called = record {
        replies = gets_elsewhere stage servers a.caller.seats b.caller.seats (syncing clock a.next) c.see.ensures.seats
            (λ s h. refl);
        same = c.see.ensures.same;
        tries = let t = c.see.ensures.tries in omega arith;
        latest = omega arith;
      };
      next = refl;
      log = c.in_ok-write_down.ensures;
      posted = ap (λ (l : List ℕ). record posted { clocks = l }) (sym (append-nil posted.clocks));
      published = refl;
    } in
    let of : AreOf stage a.caller.latest a.published.0 a.next (Sync at) (syncing clock a.next ∷ []) =
    (clock, refl, omega arith) in
    record {
      clock = clock;
      is_next = next ∙ ap (λ (o : Option Command). next_clock c.args.greatest.0 (moment_at o)) (sym here);
      bound = c.in_ok-clock.ensures.ok.1;
      leads = command_leads stage servers posted posted a b (Sync at) (syncing clock a.next ∷ []) c.requires.sound
          servers_are ready here of done;
      ready = ready_more stage servers posted posted a b (Sync at) (syncing clock a.next ∷ []) here ready of done;
      latest = omega arith;
      next = refl;
    }
