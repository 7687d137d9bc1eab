-- What the line of an event shows.
use Rattle.std.proofs.Common.{◌≡◌, Bool, true, false, codes, refl}
use Rattle.bm_core.specs.declared.events.What.{What}
use Rattle.bm_core.specs.declared.events.What.TheVariants.{Publish, Switch, Steer, Lose, Arrive, Close, Retire, Sync}
use Rattle.bm_trace.specs.Report.{words_of}
use Rattle.bm_trace.specs.Inside.Reading.{is_word, same_text}
use Rattle.bm_trace.specs.declared.lines.Aside.{Aside}
use Rattle.bm_check.specs.Inside.Reading.{closed_word, shown}

-- what a line shows is all that it is made of
pub shown_same : (w : What) (a : Aside) → words_of w (shown w a) ≡ words_of w a
shown_same (Publish v) a = refl
shown_same (Switch m v) a = refl
shown_same (Steer k m) a = refl
shown_same (Lose k hop) a = refl
shown_same (Arrive k hop server verdict) a = refl
shown_same (Close server flow closed) a = refl
shown_same (Retire server h at result) a = refl
shown_same Sync a = refl

pub closed_back : (closed : Bool) → same_text (closed_word closed) (codes "closed") ≡ closed
closed_back true = refl
closed_back false = refl

pub closed_is_word : (closed : Bool) → is_word (closed_word closed) ≡ true
closed_is_word true = refl
closed_is_word false = refl
