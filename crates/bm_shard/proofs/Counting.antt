-- A table of the flows that a book holds has as many connections as the book has flows.
use Rattle.std.proofs.Common.{◌≡◌, ◌+◌, true, false, cond, ◌||◌, List, [], ◌∷◌, length, Option, is_some, inl, inr, refl}
use Rattle.std.proofs.Common.{sym, ap, subst, ◌∙◌, arith}
use Rattle.std.proofs.lemmas.Bool.{cases_Bool}
use Rattle.bm_base.specs.declared.flow.Flow.{Flow}
use Rattle.bm_base.specs.Segments.{same_flow}
use Rattle.bm_seq.specs.declared.receiver.Receiver.{Receiver}
use Rattle.bm_conn.specs.declared.table.Connection.{Connection}
use Rattle.bm_conn.specs.Connections.{AreOnce, receiver_in}
use Rattle.bm_conn.specs.Inside.Connections.{without}
use Rattle.bm_conn.proofs.Flows.{same_flow-true, same_flow_refl}
use Rattle.bm_conn.proofs.Maps.{length-without, once_without, receiver-without}
use Rattle.bm_core.specs.Books.{Turn, book_flows, book_held, is_listed, AreDistinct}
use Rattle.bm_core.proofs.Listed.{book_distinct, book_listed}

-- without the first flow, the flows are those of the connections without it
others_listed : (f : Flow) (fs : List Flow) (cs : List Connection) (g : Flow) → is_listed fs f ≡ false
    → is_listed (f ∷ fs) g ≡ is_some (receiver_in cs g) → is_listed fs g ≡ is_some (receiver_in (without f cs) g)
others_listed f fs cs g once all = elim (cases_Bool (same_flow f g)) [
  | inl same ↦
      let absent : is_listed fs g ≡ false = subst (λ (h : Flow). is_listed fs h ≡ false) (same_flow-true f g same) once
      in rw (receiver-without f cs g, same) absent
  | inr other ↦
      let there : is_listed fs g ≡ is_some (receiver_in cs g) = rw other at all
      in rw (receiver-without f cs g, other) there
]

pub same_length : (fs : List Flow) (cs : List Connection) → AreDistinct fs → AreOnce cs
    → ((f : Flow) → is_listed fs f ≡ is_some (receiver_in cs f)) → length cs ≡ length fs
same_length [] [] distinct once all = refl
same_length [] (c ∷ cs) distinct once all =
    let here : false ≡ is_some (receiver_in (c ∷ cs) c.flow) = all c.flow
    in let bad : false ≡ true = rw (same_flow_refl c.flow) at here
    in absurd (cc)
same_length (f ∷ fs) cs distinct once all =
    let here : (same_flow f f || is_listed fs f) ≡ is_some (receiver_in cs f) = all f
    in let is : true ≡ is_some (receiver_in cs f) = rw (same_flow_refl f) at here
    in let fewer : length (without f cs) + cond (is_some (receiver_in cs f)) 1 0 ≡ length cs = length-without f cs once
    in let one : length (without f cs) + 1 ≡ length cs = rw (← is) at fewer
    in let rest : length (without f cs) ≡ length fs =
    same_length fs (without f cs) distinct.1 (once_without f cs once) (λ g. others_listed f fs cs g distinct.0 (all g))
    in omega arith

-- as many connections as flows
pub held_count : (book : List Turn) (cs : List Connection) → AreOnce cs
    → ((f : Flow) → receiver_in cs f ≡ book_held book f) → length cs ≡ length (book_flows book)
held_count book cs once held =
    same_length (book_flows book) cs (book_distinct book) once
    (λ f. book_listed book f ∙ ap (λ (o : Option Receiver). is_some o) (sym (held f)))
