-- A packet's line has the words of its ends.
use Rattle.std.proofs.Common.{◌≡◌, ℕ, Bool, true, false, ◌&&◌, ◌==◌, if◌then◌else◌, List, [], ◌∷◌}
use Rattle.std.proofs.Common.{Option, Some, None, length, refl, sym, arith, reverse, is_some}
use Rattle.std.specs.Prelude.{IsSomeAnd, codes, decimal}
use Rattle.std.specs.List.{AllByRecursion, flat_map}
use Rattle.std.proofs.lemmas.List.{append-nil}
use Rattle.std.proofs.lemmas.List.Concat.{flat_map-append}
use Rattle.bm_base.specs.declared.fate.Fate.{Fate}
use Rattle.bm_core.specs.declared.events.Event.{Event}
use Rattle.bm_core.specs.declared.events.History.{History}
use Rattle.bm_core.specs.declared.events.Verdict.TheVariants.{Accept, Process, Forward, Reset, Drop}
use Rattle.bm_core.specs.declared.events.What.{What}
use Rattle.bm_core.specs.declared.events.What.TheVariants.{Publish, Switch, Steer, Lose, Arrive, Close, Retire, Sync}
use Rattle.bm_core.specs.Accounts.{IsAccountOf, Routes, Rules}
use Rattle.bm_core.specs.Ends.{End, AtServer, Lost, end_in, packet_ends, IsProcessedBy}
use Rattle.bm_core.specs.Laws.{IsUnbrokenPacket}
use Rattle.bm_core.specs.Past.{Accepted, owner, segment_of}
use Rattle.bm_core.specs.Runs.{IsRun}
use Rattle.bm_core.proofs.Ends.{ended_law, kept_law}
use Rattle.bm_trace.specs.Kept.{IsEndedLine, IsKeptLine, end_told}
use Rattle.bm_trace.specs.Report.{end_words, ends_of}

stays : (b : Bool) (end : End)
    → (if b then end_told end else []) ≡ flat_map end_told (if b && true then end ∷ [] else [])
stays true end = sym (append-nil (end_told end))
stays false end = refl

goes : (b : Bool) (end : End) → (if b then [] else []) ≡ flat_map end_told (if b && false then end ∷ [] else [])
goes true end = refl
goes false end = refl

lost : (b : Bool) (end : End) → (if b then end_told end else []) ≡ flat_map end_told (if b then end ∷ [] else [])
lost true end = sym (append-nil (end_told end))
lost false end = refl

told_here : (what : What) (k : ℕ) → end_words what k ≡ flat_map end_told (end_in what k)
told_here (Arrive packet hop server Accept) k = stays (packet == k) (AtServer server Accept)
told_here (Arrive packet hop server (Process t)) k = stays (packet == k) (AtServer server (Process t))
told_here (Arrive packet hop server (Forward to)) k = goes (packet == k) (AtServer server (Forward to))
told_here (Arrive packet hop server (Reset why)) k = stays (packet == k) (AtServer server (Reset why))
told_here (Arrive packet hop server (Drop why)) k = stays (packet == k) (AtServer server (Drop why))
told_here (Lose packet hop) k = lost (packet == k) Lost
told_here (Publish v) k = refl
told_here (Switch m v) k = refl
told_here (Steer packet m) k = refl
told_here (Close server flow closed) k = refl
told_here (Retire server h at result) k = refl
told_here Sync k = refl

pub ends_told : (past : List Event) (k : ℕ) → ends_of past k ≡ flat_map end_told (packet_ends past k)
ends_told [] k = refl
ends_told (e ∷ past) k =
    let both = flat_map-append end_told (packet_ends past k) (end_in e.what k)
    in rw (both, ends_told past k, told_here e.what k) refl

-- the words of one end at the owner's server
one_told : (o : Option Accepted) (ends : List End) → length ends ≡ 1 → AllByRecursion (λ end. IsProcessedBy o end) ends
    → IsSomeAnd o (λ a. flat_map end_told ends ≡ codes "processed" ∷ decimal a.server.0 ∷ [])
one_told o [] one processed = absurd (omega arith)
one_told o (x ∷ y ∷ ends) one processed = absurd (omega arith)
one_told o (Lost ∷ []) one processed = absurd processed.0
one_told None (AtServer server verdict ∷ []) one processed = absurd processed.0.1
one_told (Some a) (AtServer server (Process t) ∷ []) one processed = rw processed.0.1 refl
one_told (Some a) (AtServer server Accept ∷ []) one processed = absurd (cc)
one_told (Some a) (AtServer server (Forward to) ∷ []) one processed = absurd (cc)
one_told (Some a) (AtServer server (Reset why) ∷ []) one processed = absurd (cc)
one_told (Some a) (AtServer server (Drop why) ∷ []) one processed = absurd (cc)

pub ended_line_law : (R : Routes) (F : Rules) (h : History) (k : ℕ) (fates : List Fate) → IsRun h
    → is_some (segment_of h.stage k) ≡ true → IsAccountOf R F h.stage fates (reverse h.events)
    → IsEndedLine F (reverse h.events) k
ended_line_law R F h k fates run steered account = record {
  ended = ended_law R F h k fates run steered account;
  line = ends_told (reverse h.events) k;
}

pub kept_line_law : (R : Routes) (F : Rules) (h : History) (k : ℕ) (fates : List Fate) → IsRun h
    → is_some (segment_of h.stage k) ≡ true → IsUnbrokenPacket h.stage (reverse h.events) k
    → IsAccountOf R F h.stage fates (reverse h.events) → IsKeptLine F h.stage (reverse h.events) k
kept_line_law R F h k fates run steered unbroken account =
    let kept = kept_law R F h k fates run steered unbroken account
    in let told = ends_told (reverse h.events) k
    in record {
      kept = kept;
      alone = λ single unlost.
          rw told (one_told (owner h.stage (reverse h.events) k) (packet_ends (reverse h.events) k)
          (kept.ended.one single) (kept.processed unlost));
    }
