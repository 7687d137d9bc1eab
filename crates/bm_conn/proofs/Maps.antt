-- What a change of the list of connections does to each flow's receiver.
use Rattle.std.proofs.Common.{◌≡◌, ◌+◌, true, false, cond, List, [], ◌∷◌, ◌++◌, length, Some, None, is_some, inl, inr}
use Rattle.std.proofs.Common.{refl, sym, ap, subst, ◌∙◌, arith}
use Rattle.std.proofs.lemmas.Bool.{cases_Bool}
use Rattle.bm_base.specs.declared.flow.Flow.{Flow}
use Rattle.bm_base.specs.Segments.{same_flow}
use Rattle.bm_conn.specs.declared.table.Connection.{Connection}
use Rattle.bm_conn.specs.Connections.{receiver_in, AreOnce}
use Rattle.bm_conn.specs.Inside.Connections.{without}
use Rattle.bm_conn.proofs.Flows.{same_flow-true, same_flow_sym, apart, apart_from}

same_for : (g x f : Flow) → same_flow g x ≡ true → same_flow x f ≡ same_flow g f
same_for g x f same = ap (λ (y : Flow). same_flow y f) (sym (same_flow-true g x same))

-- REMOVED

pub receiver-without : (g : Flow) (cs : List Connection) (f : Flow)
    → receiver_in (without g cs) f ≡ cond (same_flow g f) None (receiver_in cs f)
receiver-without g [] f = elim (cases_Bool (same_flow g f)) [ inl same ↦ rw same refl | inr other ↦ rw other refl ]
receiver-without g (x ∷ cs) f = elim (cases_Bool (same_flow g x.flow)) [
  | inl gone ↦ rw (gone, same_for g x.flow f gone)
      (receiver-without g cs f
      ∙ (elim (cases_Bool (same_flow g f)) [ inl same ↦ rw same refl | inr other ↦ rw other refl ]))
  | inr kept ↦ rw kept (elim (cases_Bool (same_flow x.flow f)) [
    | inl here ↦ rw (here, apart g x.flow f kept here) refl
    | inr there ↦ rw there (receiver-without g cs f)
  ])
]

none_without : (g : Flow) (cs : List Connection) (f : Flow) → receiver_in cs f ≡ None
    → receiver_in (without g cs) f ≡ None
none_without g cs f none =
    receiver-without g cs f
    ∙ (elim (cases_Bool (same_flow g f)) [ inl same ↦ rw same refl | inr other ↦ rw other none ])

pub once_without : (g : Flow) (cs : List Connection) → AreOnce cs → AreOnce (without g cs)
once_without g [] once = tt
once_without g (x ∷ cs) once = elim (cases_Bool (same_flow g x.flow)) [
  | inl gone ↦ rw gone (once_without g cs once.1)
  | inr kept ↦ rw kept (none_without g cs x.flow once.0, once_without g cs once.1)
]

-- where the flow isn't the first, it is among the others or not there
later : (x : Connection) (cs : List Connection) (g : Flow) → same_flow x.flow g ≡ false → receiver_in (x ∷ cs) g ≡ None
    → receiver_in cs g ≡ None
later x cs g other none = rw other at none

first_not : (x : Connection) (cs : List Connection) (g : Flow) → receiver_in (x ∷ cs) g ≡ None
    → same_flow x.flow g ≡ false
first_not x cs g none = elim (cases_Bool (same_flow x.flow g)) [
  | inl here ↦ let bad = rw here at none in absurd (cc)
  | inr there ↦ there
]

-- where the flow isn't there, nothing goes
without_none : (g : Flow) (cs : List Connection) → receiver_in cs g ≡ None → without g cs ≡ cs
without_none g [] none = refl
without_none g (x ∷ cs) none =
    let other : same_flow x.flow g ≡ false = first_not x cs g none
    in let kept : same_flow g x.flow ≡ false = same_flow_sym g x.flow ∙ other
    in rw kept (ap (λ (l : List Connection). x ∷ l) (without_none g cs (later x cs g other none)))

pub length-without : (g : Flow) (cs : List Connection) → AreOnce cs
    → length (without g cs) + cond (is_some (receiver_in cs g)) 1 0 ≡ length cs
length-without g [] once = refl
length-without g (x ∷ cs) once = elim (cases_Bool (same_flow g x.flow)) [
  | inl gone ↦
      let eq : g ≡ x.flow = same_flow-true g x.flow gone
      in let same : same_flow x.flow g ≡ true = same_flow_sym x.flow g ∙ gone
      in let none : receiver_in cs g ≡ None = subst (λ (f : Flow). receiver_in cs f ≡ None) (sym eq) once.0
      in let all : length (without g cs) ≡ length cs = ap (λ (l : List Connection). length l) (without_none g cs none)
      in rw (gone, same) (omega arith)
  | inr kept ↦
      let other : same_flow x.flow g ≡ false = same_flow_sym x.flow g ∙ kept
      in let rest : length (without g cs) + cond (is_some (receiver_in cs g)) 1 0 ≡ length cs =
      length-without g cs once.1
      in rw (kept, other) (omega arith)
]

-- PUT

pub receiver-put : (c : Connection) (cs : List Connection) (f : Flow) → receiver_in cs c.flow ≡ None
    → receiver_in (cs ++ c ∷ []) f ≡ cond (same_flow c.flow f) (Some c.receiver) (receiver_in cs f)
receiver-put c [] f none = refl
receiver-put c (x ∷ cs) f none =
    let other : same_flow x.flow c.flow ≡ false = first_not x cs c.flow none
    in elim (cases_Bool (same_flow x.flow f)) [
      | inl here ↦ rw (here, apart_from x.flow c.flow f other here) refl
      | inr there ↦ rw there (receiver-put c cs f (later x cs c.flow other none))
    ]
