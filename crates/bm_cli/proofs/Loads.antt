-- The line of a load, by the totals of its run.
use Rattle.std.proofs.Common.{◌≡◌, ◌∙◌, ◌++◌, ◌*◌, ℕ, List, [], ◌∷◌, refl, ap, subst, append_assoc}
use Rattle.std.specs.Fmt.{digits}
use Rattle.std.specs.Prelude.{codes, decimal}
use Rattle.bm_core.specs.declared.events.History.{History}
use Rattle.bm_core.specs.declared.events.Stage.{Stage}
use Rattle.bm_load.specs.Load.{load_of}
use Rattle.bm_load.specs.Loaded.{IsLoadTotals, IsRunOfLoad, summary}
use Rattle.bm_trace.specs.declared.sums.Totals.{Totals}
use Rattle.bm_trace.specs.Totals.{totals_of}
use Rattle.bm_cli.specs.declared.mode.Mode.TheVariants.{Run}
use Rattle.bm_cli.specs.Headline.{IsMadeBy}
use Rattle.bm_cli.specs.Loads.{IsSummaryOf, load_line}

pub run_of : (n : ℕ) (stage : Stage) (h : History) → stage ≡ load_of n → h.stage ≡ stage → IsMadeBy Run stage h
    → IsRunOfLoad n h
run_of n stage h is about made = record {
  about = about ∙ is;
  made = subst (λ (s : Stage). IsMadeBy Run s h) is made;
}

zero_is : decimal 0 ≡ 48 ∷ []
unfolding digits
zero_is = refl

-- the end of the line, after any text
nothing_else : (text : List ℕ) →
    text ++ codes " reset " ++ decimal 0 ++ codes " dropped " ++ decimal 0 ++ codes " lost " ++ decimal 0 ++ codes "\n"
    ≡ text ++ codes " reset 0 dropped 0 lost 0\n"
nothing_else text = rw zero_is (simp append_assoc)

line_is : (n : ℕ) (t : Totals) → IsLoadTotals n t → summary n t ≡ load_line n
line_is n t is =
    rw (is.packets, is.accepted, is.processed, is.reset, is.dropped, is.lost)
    (nothing_else
    (codes "load " ++ decimal n ++ codes " packets " ++ decimal (4 * n) ++ codes " accepted " ++ decimal n
    ++ codes " processed " ++ decimal (3 * n)))

pub summary_of : (n : ℕ) (h : History) (t : Totals) (octets : List ℕ) → IsRunOfLoad n h → IsLoadTotals n (totals_of h)
    → t ≡ totals_of h → octets ≡ summary n t → IsSummaryOf n octets
summary_of n h t octets run totals same printed =
    let is = printed ∙ ap (summary n) same in
    record { history = h; run = run; printed = is; line = is ∙ line_is n (totals_of h) totals }
