-- Before the first command, and after the last one.
use Rattle.std.proofs.Common.{◌≡◌, ℕ, ◌+◌, List, [], ◌∷◌, length, take, drop, reverse}
use Rattle.std.proofs.Common.{refl, sym, ap, ◌∙◌, subst, arith}
use Rattle.std.proofs.Math.Seq.{take-length}
use Rattle.bm_table.specs.declared.script.Command.{Command}
use Rattle.bm_table.specs.Scripts.{NamesVersions}
use Rattle.bm_core.specs.declared.events.Stage.{Stage}
use Rattle.bm_core.specs.Accounts.{count_of, wants_close, wants_retire, wants_sync}
use Rattle.bm_core.specs.Past.{newest}
use Rattle.bm_core.specs.Stages.{IsSound}
use Rattle.bm_merge.specs.Notes.{Note}
use Rattle.bm_merge.specs.Workers.{IsController}
use Rattle.bm_server.specs.Servings.{Serving}
use Rattle.bm_publish.specs.Posts.{Posted, last_or}
use Rattle.bm_lead.specs.declared.leader.Leader.{Leader}
use Rattle.bm_lead.specs.Commands.{AreDone, control_log}
use Rattle.bm_lead.specs.Leaders.{Begins, IsReady}
use Rattle.bm_lead.specs.Leads.{IsLed}

drop_all : {X : Type 0} (l : List X) → drop (length l) l ≡ []
drop_all [] = refl
drop_all (x ∷ l) = drop_all l

-- THE BEGIN

pub ready_first : (stage : Stage) (servers : List Serving) (posted : Posted) (leader : Leader) → IsSound stage
    → Begins stage servers posted leader.caller → leader.next ≡ 0 → leader.published.0 ≡ 0
    → IsReady stage servers posted leader
ready_first stage servers posted leader sound begins next published = record {
  next = omega arith;
  versions = rw (next, published) sound.script.versions;
  posted_is = record {
    plan = begins.plan;
    count = ap (λ l. length l) begins.clocks ∙ sym published;
    few = omega arith;
  };
  below = (let none = ap (λ (l : List ℕ). last_or 0 l) begins.clocks in omega arith);
  tries = (let none = begins.tries in omega arith);
  number = begins.number;
  has_seats = begins.has_seats;
}

pub led_nothing : (stage : Stage) (servers : List Serving) (posted : Posted) (leader : Leader)
    → Begins stage servers posted leader.caller → leader.next ≡ 0 → leader.published.0 ≡ 0 → leader.log.items ≡ []
    → IsLed stage posted leader []
led_nothing stage servers posted leader begins next published log = record {
  each = tt;
  done = subst (λ (i : ℕ). AreDone stage i []) (sym next) (record {
    earlier = tt;
    complete = λ j low. absurd (omega (arith, low));
    closes = λ s f. refl;
    retires = λ s h low. refl;
    no_other = λ s h high. refl;
    syncs = refl;
  });
  seats = tt;
  log = ap (λ l. reverse l) log;
  steps = tt;
  judged = tt;
  published = sym published;
  posts = begins.clocks;
  latest = begins.latest;
}

-- THE END

pub all_led : (stage : Stage) (posted : Posted) (leader : Leader) (notes : List Note) → IsLed stage posted leader notes
    → leader.next ≡ length stage.script.commands → IsController stage notes
all_led stage posted leader notes led end =
    let all : take leader.next stage.script.commands ≡ stage.script.commands =
    ap (λ (i : ℕ). take i stage.script.commands) end ∙ take-length stage.script.commands in
    record {
      each = led.each;
      complete = λ i low. led.done.complete i (omega arith);
      closes = λ s f. led.done.closes s f ∙ ap (λ l. count_of (λ c. wants_close c s f) l) all;
      retires = λ s h low. led.done.retires s h low ∙ ap (λ l. count_of (λ c. wants_retire c s) l) all;
      no_other = led.done.no_other;
      syncs = led.done.syncs ∙ ap (λ l. count_of wants_sync l) all;
    }

pub all_published : (stage : Stage) (servers : List Serving) (posted : Posted) (leader : Leader) (notes : List Note)
    → IsReady stage servers posted leader → IsLed stage posted leader notes → leader.next ≡ length stage.script.commands
    → newest (control_log stage notes) ≡ length stage.script.plan.changes
all_published stage servers posted leader notes ready led end =
    let none : drop leader.next stage.script.commands ≡ [] =
    ap (λ (i : ℕ). drop i stage.script.commands) end ∙ drop_all stage.script.commands in
    let last : leader.published.0 + 1 ≡ length stage.script.plan.changes + 1 =
    subst (λ (l : List Command). NamesVersions (leader.published.0 + 1) (length stage.script.plan.changes) l) none
    ready.versions in
    led.published ∙ omega arith
