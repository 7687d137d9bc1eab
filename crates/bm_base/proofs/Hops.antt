-- The order of hops, and where copies of one hop and of the next arrive.
use Rattle.std.proofs.Common.{◌≡◌, ℕ, zero, suc, ◌<◌, ◌≤◌, true, Option, Some, None, refl, sym, arith}
use Rattle.std.proofs.lemmas.Option.{same_Some}
use Rattle.bm_base.specs.Labels.{arrives_at, hop_after, hop_number, onward, same_hop, server_of}
use Rattle.bm_base.specs.declared.ids.ServerId.{ServerId}
use Rattle.bm_base.specs.declared.label.Entry.{Entry}
use Rattle.bm_base.specs.declared.label.Hop.{Hop}
use Rattle.bm_base.specs.declared.label.Hop.TheVariants.{Direct, Chained, Twice}
use Rattle.bm_base.specs.declared.label.Past.{Past}

pub same_hop_refl : (hop : Hop) → same_hop hop hop ≡ true
same_hop_refl Direct = refl
same_hop_refl Chained = refl
same_hop_refl Twice = refl

-- THE ORDER OF HOPS

number_most : (hop : Hop) → hop_number hop ≤ 2
number_most Direct = omega arith
number_most Chained = omega arith
number_most Twice = omega arith

pub same_number : (a b : Hop) → hop_number a ≡ hop_number b → a ≡ b
same_number a b e = grind arith

pub next_number : (hop next : Hop) → hop_after hop ≡ Some next → hop_number next ≡ suc (hop_number hop)
next_number hop next e = grind arith

-- the hop of a number
pub numbered : (n : ℕ) → n ≤ 2 → (hop : Hop) × (hop_number hop ≡ n)
numbered zero few = (Direct, refl)
numbered (suc zero) few = (Chained, refl)
numbered (suc (suc zero)) few = (Twice, refl)
numbered (suc (suc (suc n))) few = absurd (omega arith)

-- the hop before one that goes back
pub hop_back : (hop : Hop) (n : ℕ) → hop_number hop ≡ suc n
    → (before : Hop) × (hop_after before ≡ Some hop) × (hop_number before ≡ n)
hop_back Direct n e = absurd (omega arith)
hop_back Chained n e = (Direct, refl, omega arith)
hop_back Twice n e = (Chained, refl, omega arith)

-- the hop after one that isn't the last
pub hop_onward : (hop later : Hop) → hop_number hop < hop_number later
    → (next : Hop) × (hop_after hop ≡ Some next) × (hop_number next ≤ hop_number later)
hop_onward Direct later less = (Chained, refl, omega arith)
hop_onward Chained later less = (Twice, refl, omega arith)
hop_onward Twice later less = let most = number_most later in absurd (omega arith)

-- WHERE COPIES ARRIVE

pub has_past : (o : Option Past) (server : ServerId) → server_of o ≡ Some server
    → (p : Past) × (o ≡ Some p) × (p.server ≡ server)
has_past None server e = absurd (cc)
has_past (Some p) server e = (p, refl, same_Some _ _ e)

-- what is passed on arrives there by the next hop
pub onward_arrives : (e : Entry) (hop next : Hop) (p : Past) → hop_after hop ≡ Some next → onward e hop ≡ Some p
    → arrives_at e next ≡ Some p.server
onward_arrives e Direct next p after onto = rw (sym (same_Some _ _ after), onto) refl
onward_arrives e Chained next p after onto = rw (sym (same_Some _ _ after), onto) refl
onward_arrives e Twice next p after onto = absurd (cc)

-- where a copy of a later hop arrives somewhere, one of this hop may be passed on
pub onward_there : (e : Entry) (hop later : Hop) (server : ServerId) → (e.prev ≡ None → e.older ≡ None)
    → hop_number hop < hop_number later → arrives_at e later ≡ Some server → (p : Past) × (onward e hop ≡ Some p)
onward_there e Direct Direct server both less at = absurd (omega arith)
onward_there e Direct Chained server both less at = let p = has_past e.prev server at in (p.0, p.1)
onward_there e Direct Twice server both less at =
    some_of e.prev (λ none. let gone : e.older ≡ None = both none in let bad : server_of None ≡ Some server = rw gone at at in absurd (cc)) where
      some_of : (o : Option Past) → (o ≡ None → ⊥) → (p : Past) × (o ≡ Some p)
      some_of None no_way = absurd (no_way refl)
      some_of (Some p) no_way = (p, refl)
onward_there e Chained Direct server both less at = absurd (omega arith)
onward_there e Chained Chained server both less at = absurd (omega arith)
onward_there e Chained Twice server both less at = let p = has_past e.older server at in (p.0, p.1)
onward_there e Twice later server both less at = let most = number_most later in absurd (omega arith)
