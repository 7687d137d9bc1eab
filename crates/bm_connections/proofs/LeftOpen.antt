-- How many connections that are left open are away by each change.
use Rattle.std.proofs.Common.{◌≡◌, ℕ, suc, ◌+◌, ◌<◌, ◌≤◌, ◌==◌, max, true, false, inl, inr, List, [], ◌∷◌, ◌++◌, length}
use Rattle.std.proofs.Common.{get_or, ap, ◌∙◌, arith, refl, subst}
use Rattle.std.proofs.lemmas.Bool.{cases_Bool, cases_lt}
use Rattle.std.proofs.lemmas.List.{get_or_past}
use Rattle.bm_connections.specs.declared.left_open.Away.{Away}
use Rattle.bm_connections.specs.declared.left_open.AwayCount.{AwayCount}
use Rattle.bm_connections.specs.declared.left_open.OpenEnd.{OpenEnd}
use Rattle.bm_connections.specs.Inside.OpenEnds.{AreCounts, HaveOne, IsCounting, count_at, end_of, none, with_one}
use Rattle.bm_connections.specs.OpenEnds.{away_count, longest_idle, open_end, open_end_if_any, open_ends_by}

-- before the first connection is counted
pub counting_none : (counts : List AwayCount) (away : List Away) → ((v : ℕ) → count_at counts v ≡ none)
    → IsCounting counts away away
counting_none counts away empty = record {
  counted = λ v below.
      let is : (count_at counts v).connections ≡ 0 = ap (λ (c : AwayCount). c.connections) (empty v)
      in omega (arith, is);
  longest = λ v below.
      let is : (count_at counts v).longest_idle ≡ 0 = ap (λ (c : AwayCount). c.longest_idle) (empty v)
      in omega (arith, is);
  few = λ v. let is : (count_at counts v).connections ≡ 0 = ap (λ (c : AwayCount). c.connections) (empty v)
      in omega (arith, is);
}

-- one connection more
pub counting_more : (counts new : List AwayCount) (c : Away) (rest away : List Away) → length new ≡ length counts
    → HaveOne c counts new → IsCounting counts (c ∷ rest) away → IsCounting new rest away
counting_more counts new c rest away same one k = record {
  counted = λ v below.
      let under : v < length counts = omega (arith, same, below)
      in let is = one v under
      in let old = k.counted v under
      in elim (cases_Bool (c.before == v)) [
        | inl this ↦
            let now : count_at new v ≡ with_one c.idle (count_at counts v) = rw this at is
            in let before : (count_at counts v).connections + suc (away_count v rest) ≡ away_count v away = rw this at old
            in rw now (omega (arith, before))
        | inr other ↦
            let now : count_at new v ≡ count_at counts v = rw other at is
            in let before : (count_at counts v).connections + away_count v rest ≡ away_count v away = rw other at old
            in rw now before
      ];
  longest = λ v below.
      let under : v < length counts = omega (arith, same, below)
      in let is = one v under
      in let old = k.longest v under
      in elim (cases_Bool (c.before == v)) [
        | inl this ↦
            let now : count_at new v ≡ with_one c.idle (count_at counts v) = rw this at is
            in let before : max (count_at counts v).longest_idle (max c.idle (longest_idle v rest)) ≡ longest_idle v away =
            rw this at old
            in rw now (omega (arith, before))
        | inr other ↦
            let now : count_at new v ≡ count_at counts v = rw other at is
            in let before : max (count_at counts v).longest_idle (longest_idle v rest) ≡ longest_idle v away =
            rw other at old
            in rw now before
      ];
  few = λ v.
      let old : (count_at counts v).connections + suc (length rest) ≤ length away = k.few v
      in elim (cases_lt v (length counts)) [
        | inl under ↦
            let is = one v under
            in elim (cases_Bool (c.before == v)) [
              | inl this ↦
                  let now : count_at new v ≡ with_one c.idle (count_at counts v) = rw this at is
                  in rw now (omega (arith, old))
              | inr other ↦
                  let now : count_at new v ≡ count_at counts v = rw other at is
                  in rw now (omega (arith, old))
            ]
        | inr past ↦
            let beyond : length new ≤ v = omega (arith, same, past)
            in let now : count_at new v ≡ none = get_or_past new v none beyond
            in rw now (omega (arith, old))
      ];
}

pub counting_next : (counts new : List AwayCount) (c : Away) (whole rest away : List Away) → whole ≡ c ∷ rest
    → length new ≡ length counts → HaveOne c counts new → IsCounting counts whole away → IsCounting new rest away
counting_next counts new c whole rest away is same one k =
    counting_more counts new c rest away same one (subst (λ (l : List Away). IsCounting counts l away) is k)

-- after the last
pub counting_all : (counts : List AwayCount) (away : List Away) → IsCounting counts [] away → AreCounts counts away
counting_all counts away k = record {
  counted = λ v below. let is = k.counted v below in omega (arith, is);
  longest = λ v below. let is = k.longest v below in omega (arith, is);
}

-- what the count of one change more says
pub ends_more : (counts : List AwayCount) (away : List Away) (v : ℕ) (count : AwayCount) (old new : List OpenEnd)
    → AreCounts counts away → v < length counts → count ≡ count_at counts v
    → new ≡ old ++ open_end_if_any (end_of v count) → old ≡ open_ends_by away v → new ≡ open_ends_by away (suc v)
ends_more counts away v count old new k below is now so_far =
    let same : end_of v count ≡ open_end away v =
    ap (end_of v) is ∙ rw (k.counted v below, k.longest v below) refl
    in now ∙ (λ i. so_far i ++ open_end_if_any (same i))
