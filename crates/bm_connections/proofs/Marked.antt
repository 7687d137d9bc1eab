-- What is kept of each record: marks of packets, and how their connections end.
use Rattle.std.proofs.Common.{◌≡◌, ℕ, zero, suc, ◌==◌, Bool, true, false, ◌&&◌, ◌||◌, not, inl, inr, List, [], ◌∷◌}
use Rattle.std.proofs.Common.{length, Option, Some, None, refl, sym, ap, ◌∙◌, arith}
use Rattle.std.specs.Prelude.{if◌then◌else◌, slice_get}
use Rattle.std.specs.Option.{option_map_or}
use Rattle.std.proofs.lemmas.Bool.{cases_eq}
use Rattle.std.proofs.lemmas.Bool.Decides.{nat_tests}
use Rattle.std.proofs.lemmas.List.{length-append}
use Rattle.bm_base.specs.declared.capture.Body.TheVariants.{Steerable}
use Rattle.bm_base.specs.declared.capture.Record.{Record}
use Rattle.bm_base.specs.declared.flow.Flow.{Flow}
use Rattle.bm_base.specs.declared.flow.Segment.{Segment}
use Rattle.bm_base.specs.Segments.{ACK, FIN, RST, SYN, has_flag, is_opening, same_flow}
use Rattle.bm_connections.specs.declared.connection.Ending.{Ending}
use Rattle.bm_connections.specs.declared.connection.Sight.{Sight}
use Rattle.bm_core.specs.Past.{is_of, steerable}
use Rattle.bm_connections.specs.declared.connection.Ending.TheVariants.{Open, Fin}
use Rattle.bm_connections.specs.Endings.{carries_data, ending_seen, has_since_opening, is_at_an_end, is_segment_with, of_packet, segment_at}
use Rattle.bm_connections.specs.Endings as endings
use Rattle.bm_connections.specs.Inside.Marks.{mark_of, marks_by}
use Rattle.bm_connections.specs.Inside.Rows.{ending_after, has_data_at, is_risky, is_unfinished}
use Rattle.bm_connections.specs.Seen.{is_packet_of, is_seen, last_seen, nowhere}
use Rattle.bm_connections.proofs.Placed.{get_last, get_other}
use Rattle.bm_connections.proofs.Steps.{same_flow_refl}

-- MARKS

length_marks : (test : Record → List Record → Bool) (records : List Record)
    → length (marks_by test records) ≡ length records
length_marks test [] = refl
length_marks test (r ∷ records) =
    length-append (marks_by test records) _ ∙ (let e = length_marks test records in omega arith)

-- no record has number 0
none_zero : (test : Record → List Record → Bool) (records : List Record) → of_packet test records 0 ≡ false
none_zero test [] = refl
none_zero test (r ∷ records) =
    let no : (0 == suc (length records)) ≡ false = grind (arith, nat_tests)
    in rw no (none_zero test records)

pub mark_is : (test : Record → List Record → Bool) (records : List Record) (k : ℕ)
    → mark_of (marks_by test records) k ≡ of_packet test records k
mark_is test records zero = sym (none_zero test records)
mark_is test [] (suc i) = refl
mark_is test (r ∷ records) (suc i) = elim (cases_eq i (length records)) [
  | inl last ↦
      let m : i ≡ length (marks_by test records) = last ∙ sym (length_marks test records)
      in let e : slice_get (marks_by test (r ∷ records)) i ≡ Some (test r records) =
      get_last (marks_by test records) _ i m
      in let t : (suc i == suc (length records)) ≡ true = grind (arith, nat_tests)
      in rw (e, t) refl
  | inr other ↦
      let e : slice_get (marks_by test (r ∷ records)) i ≡ slice_get (marks_by test records) i =
      get_other (marks_by test records) _ i (λ h. other (h ∙ length_marks test records))
      in let t : (suc i == suc (length records)) ≡ false = grind (arith, nat_tests)
      in rw (e, t) (mark_is test records (suc i))
]

-- HOW CONNECTIONS END

and_last : (a b c : Bool) → (a && b && c && false) ≡ false
and_last true true true = refl
and_last true true false = refl
and_last true false c = refl
and_last false b c = refl

fin_stays : (s : Segment) → has_flag FIN s ≡ true → is_opening s ≡ false
unfolding is_opening
fin_stays s fin = rw fin (and_last (has_flag SYN s) (not (has_flag ACK s)) (not (has_flag RST s)))

ends_more : (opening fin f : Bool) → (fin ≡ true → opening ≡ false)
    → (if fin || not opening && f then Fin else Open)
    ≡ (if opening then Open else if fin then Fin else if f then Fin else Open)
ends_more true true f h = absurd (let bad : true ≡ false = h refl in cc)
ends_more true false f h = refl
ends_more false true f h = refl
ends_more false false f h = refl

-- one packet more of a connection
pub ending_more : (records : List Record) (r : Record) (s : Segment) → r.body ≡ Steerable s
    → ending_seen (r ∷ records) s.flow ≡ ending_after s (ending_seen records s.flow)
ending_more records r s body =
    rw (body, same_flow_refl s.flow)
    (ends_more (is_opening s) (has_flag FIN s) (has_since_opening (has_flag FIN) records s.flow) (fin_stays s))

without : (test : Segment → Bool) (o : Option Segment) (f : Flow) → is_of o f ≡ false
    → is_segment_with test o f ≡ false
without test None f h = refl
without test (Some s) f h = rw h refl

record AreNeither (a b : Bool) : Type 0 where
  first : a ≡ false
  second : b ≡ false

neither : (a b : Bool) → (a || b) ≡ false → AreNeither a b
neither false false h = record { first = refl; second = refl }
neither false true h = absurd (cc)
neither true b h = absurd (cc)

-- before a flow is seen
not_since : (test : Segment → Bool) (records : List Record) (f : Flow) → is_seen records f ≡ false
    → has_since_opening test records f ≡ false
not_since test [] f unseen = refl
not_since test (r ∷ records) f unseen =
    let n = neither (is_packet_of r f) (is_seen records f) unseen
    in let here = without test (steerable (Some r)) f n.first
    in let opening = without is_opening (steerable (Some r)) f n.first
    in rw (here, opening) (not_since test records f n.second)

pub unseen_open : (records : List Record) (f : Flow) → is_seen records f ≡ false → ending_seen records f ≡ Open
unseen_open records f unseen =
    let fin = not_since (has_flag FIN) records f unseen in rw fin refl

pub unseen_nowhere : (records : List Record) (f : Flow) → is_seen records f ≡ false → last_seen records f ≡ nowhere
unseen_nowhere [] f unseen = refl
unseen_nowhere (r ∷ records) f unseen =
    let n = neither (is_packet_of r f) (is_seen records f) unseen
    in rw n.first (unseen_nowhere records f n.second)

-- another record of another flow
pub ending_other : (records : List Record) (r : Record) (s : Segment) (q : Flow)
    → r.body ≡ Steerable s → same_flow s.flow q ≡ false → ending_seen (r ∷ records) q ≡ ending_seen records q
ending_other records r s q body other = rw (body, other) refl

-- WHAT A BREAK LOSES

of_body : {A : Type 0} (r : Record) (s : Segment) (f : Segment → A) (other : A) → r.body ≡ Steerable s
    → f s ≡ option_map_or f (steerable (Some r)) other
of_body r s f other body = rw body refl

unfinished_is : (b : Bool) → is_unfinished (if b then Fin else Open) ≡ not b
unfinished_is true = refl
unfinished_is false = refl

-- one packet more of a connection
pub risky_more : (records : List Record) (r : Record) (s : Segment) → r.body ≡ Steerable s
    → is_risky s (has_data_at records (last_seen records s.flow).number) (ending_seen records s.flow)
    ≡ endings.is_risky r records
risky_more records r s body =
    let loaded = of_body r s
    (λ t. carries_data t
    || option_map_or (λ before. carries_data before) (segment_at records (last_seen records t.flow).number) false)
    false body
    in let middle = of_body r s
    (λ t. not (is_at_an_end t) && not (has_since_opening (has_flag FIN) (r ∷ records) t.flow)) false body
    in let unfinished : is_unfinished (ending_after s (ending_seen records s.flow))
    ≡ not (has_since_opening (has_flag FIN) (r ∷ records) s.flow) =
    ap (λ (e : Ending). is_unfinished e) (sym (ending_more records r s body))
    ∙ unfinished_is (has_since_opening (has_flag FIN) (r ∷ records) s.flow)
    in λ i. loaded i || (ap (λ b. not (is_at_an_end s) && b) unfinished ∙ middle) i

-- the first packet of a flow
pub first_risky : (records : List Record) (r : Record) (s : Segment) → r.body ≡ Steerable s
    → is_seen records s.flow ≡ false → is_risky s false Open ≡ endings.is_risky r records
first_risky records r s body unseen =
    let before : false ≡ has_data_at records (last_seen records s.flow).number =
    sym (ap (λ (t : Sight). has_data_at records t.number) (unseen_nowhere records s.flow unseen))
    in (λ i. is_risky s (before i) (sym (unseen_open records s.flow unseen) i)) ∙ risky_more records r s body
