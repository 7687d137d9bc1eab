-- A replay by a route and an impairment rule is one by any that answer the same and more.
use Rattle.std.proofs.Common.{ℕ, List, [], ◌∷◌, Option, Some, None}
use Rattle.std.specs.Prelude.{IfSome}
use Rattle.bm_base.specs.declared.flow.Flow.{Flow}
use Rattle.bm_base.specs.declared.label.Hop.{Hop}
use Rattle.bm_base.specs.declared.fate.Fate.{Fate}
use Rattle.bm_core.specs.declared.events.What.{What}
use Rattle.bm_core.specs.declared.events.What.TheVariants.{Steer}
use Rattle.bm_core.specs.declared.events.Event.{Event}
use Rattle.bm_core.specs.declared.events.History.{History}
use Rattle.bm_core.specs.declared.events.Stage.{Stage}
use Rattle.bm_core.specs.Accounts.{AreAnswered, IsRouted, Routes, Rules, before, fate_now}
use Rattle.bm_core.specs.Histories.{IsReplay}
use Rattle.bm_core.specs.Past.{segment_of, sending_of}

some_more : {X : Type 0} (P Q : X → Type 0) → ((x : X) → P x → Q x) → (o : Option X) → IfSome o P → IfSome o Q
some_more P Q f None is = tt
some_more P Q f (Some x) is = f x is

routed_more : (R S : Routes) → ((k : ℕ) (f : Flow) (m : ℕ) → R k f m → S k f m) → (stage : Stage) (what : What)
    → IsRouted R stage what → IsRouted S stage what
routed_more R S more stage (Steer k m) is = some_more _ _ (λ s. more k s.flow m.0) (segment_of stage k) is
routed_more R S more stage _ is = tt

pub answered_more : (R S : Routes) (F G : Rules) → ((k : ℕ) (f : Flow) (m : ℕ) → R k f m → S k f m)
    → ((k : ℕ) (hop : Hop) (f : Fate) → F k hop f → G k hop f) → (stage : Stage) (fates : List Fate) (past : List Event)
    → AreAnswered R F stage fates past → AreAnswered S G stage fates past
answered_more R S F G routes rules stage fates [] are = tt
answered_more R S F G routes rules stage fates (e ∷ past) are = (
  (
    routed_more R S routes stage e.what are.0.0,
    some_more _ _ (λ s. rules s.packet s.hop (fate_now fates))
        (sending_of e.what) are.0.1,
  ),
  answered_more R S F G routes rules stage (before fates) past are.1,
)

pub replay_more : (R S : Routes) (F G : Rules) → ((k : ℕ) (f : Flow) (m : ℕ) → R k f m → S k f m)
    → ((k : ℕ) (hop : Hop) (f : Fate) → F k hop f → G k hop f) → (h : History) → IsReplay R F h → IsReplay S G h
replay_more R S F G routes rules h is = record {
  run = is.run;
  fates = is.fates;
  follows = is.follows;
  over = is.over;
  account = record {
    steered = is.account.steered;
    answered = answered_more R S F G routes rules h.stage is.fates _ is.account.answered;
    lost = is.account.lost;
    sent = is.account.sent;
    arrived = is.account.arrived;
    commands = is.account.commands;
  };
}
