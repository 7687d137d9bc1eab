use Rattle.std.proofs.Common.{refl}
use Rattle.bm_core.specs.declared.events.What.TheVariants.{Publish, Switch, Steer, Lose, Arrive, Close, Retire, Sync}
use Rattle.bm_trace.specs.Report.{words_of}
use Rattle.bm_check.specs.Inside.Reading.{kind_word, words_after}
use Rattle.bm_check.proofs.reader.read_said.Goals as goal

pub returns : goal.returns
returns c (Publish v) a hw hv hb is =
    let first = c.cut.ensures (kind_word (Publish v)) (words_after (words_of (Publish v) a)) refl is
    in c.read_kind.ensures.publish v.0 hw first.0 first.1
returns c (Switch m v) a hw hv hb is =
    let first = c.cut.ensures (kind_word (Switch m v)) (words_after (words_of (Switch m v) a)) refl is
    in c.read_kind.ensures.switch m.0 v.0 hw.0 hw.1 first.0 first.1
returns c (Steer k m) a hw hv hb is =
    let first = c.cut.ensures (kind_word (Steer k m)) (words_after (words_of (Steer k m) a)) refl is
    in c.read_kind.ensures.steer k m.0 a.version a.bucket hw.0 hw.1 hv hb first.0 first.1
returns c (Lose k hop) a hw hv hb is =
    let first = c.cut.ensures (kind_word (Lose k hop)) (words_after (words_of (Lose k hop) a)) refl is
    in c.read_kind.ensures.lose k hop hw first.0 first.1
returns c (Arrive k hop s v) a hw hv hb is =
    let first = c.cut.ensures (kind_word (Arrive k hop s v)) (words_after (words_of (Arrive k hop s v) a)) refl is
    in c.read_kind.ensures.arrive k hop s.0 v a.cause hw.0 hw.1 hw.2 first.0 first.1
returns c (Close s f closed) a hw hv hb is =
    let first = c.cut.ensures (kind_word (Close s f closed)) (words_after (words_of (Close s f closed) a)) refl is
    in c.read_kind.ensures.close s.0 f closed hw.0 hw.1 first.0 first.1
returns c (Retire s h at answer) a hw hv hb is =
    let first =
    c.cut.ensures (kind_word (Retire s h at answer)) (words_after (words_of (Retire s h at answer) a)) refl is
    in c.read_kind.ensures.retire s.0 h at.0 answer hw.0 hw.1 hw.2 hw.3 first.0 first.1
returns c Sync a hw hv hb is =
    let first = c.cut.ensures (kind_word Sync) (words_after (words_of Sync a)) refl is
    in c.read_kind.ensures.sync first.0
