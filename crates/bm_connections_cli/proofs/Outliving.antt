-- The time of an explained lifetime is the lifetime.
use Rattle.std.specs.Prelude.{◌≡◌, refl, ℕ, Option, Some, None}
use Rattle.std.specs.Option.{option_map}
use Rattle.bm_table.specs.declared.script.Script.{Script}
use Rattle.bm_lifetime.specs.declared.explained.Lifetime.{Lifetime}
use Rattle.bm_lifetime.specs.Lifetime.{explain, explained, lifetime}

time_of_some : (s : Script) (life : Option ℕ)
    → option_map (λ (l : Lifetime). l.time) (option_map (explain s) life) ≡ life
time_of_some s None = refl
time_of_some s (Some time) = refl

pub time_of_explained : (s : Script)
    → option_map (λ (l : Lifetime). l.time) (explained s) ≡ lifetime s
time_of_explained s = time_of_some s (lifetime s)
