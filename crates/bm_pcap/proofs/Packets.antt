-- The packets of records that are read one after the other.
use Rattle.std.proofs.Common.{◌≡◌, ◌∙◌, sym, ap, subst, refl, ℕ, ◌+◌, List, [], ◌∷◌, ◌++◌, length, length-append, Some}
use Rattle.std.proofs.Common.{inl, inr, arith}
use Rattle.std.specs.Prelude.{slice_get, slice_index_or}
use Rattle.std.proofs.lemmas.Bool.{cases_lt}
use Rattle.std.proofs.lemmas.List.{get_or_append_left}
use Rattle.std.proofs.lemmas.Option.{get_or_from_slice_get, slice_get-get_or, slice_get_within}
use Rattle.std.proofs.Math.Seq.{get_or-append_seam}
use Rattle.bm_base.specs.declared.capture.Record.{Record}
use Rattle.bm_link.specs.Fits.{ArePackets, IsPacketOf}

pub none_yet : ArePackets [] []
none_yet = record { count = refl; each = λ i r at. absurd (cc) }

one_more : {A B : Type 0} (xs : List A) (x : A) (ys : List B) (y : B) → length xs ≡ length ys
    → length (xs ++ x ∷ []) ≡ length (ys ++ y ∷ [])
one_more xs x ys y same = length-append xs (x ∷ []) ∙ ap (λ n. n + 1) same ∙ sym (length-append ys (y ∷ []))

each_more : (records : List Record) (packets : List (List ℕ)) (one : Record) (packet : List ℕ)
    → ArePackets records packets → IsPacketOf one.body packet → (i : ℕ) (r : Record)
    → slice_get (records ++ one ∷ []) i ≡ Some r → IsPacketOf r.body (slice_index_or (packets ++ packet ∷ []) i [])
each_more records packets one packet are is i r at =
    let all : List Record = records ++ one ∷ [] in
    let found : slice_index_or all i one ≡ r = get_or_from_slice_get all i r one at in
    elim (cases_lt i (length records)) [
      | inl before ↦
          let here : slice_get records i ≡ Some r =
          slice_get-get_or records i one before
          ∙ ap (λ (x : Record). Some x) (sym (get_or_append_left records (one ∷ []) one i before) ∙ found) in
          subst (IsPacketOf r.body)
          (sym (get_or_append_left packets (packet ∷ []) [] i (omega (arith, before, are.count))))
          (are.each i r here)
      | inr behind ↦
          let last : i ≡ length records =
          omega (arith, behind, slice_get_within all i r at, length-append records (one ∷ [])) in
          let the_record : one ≡ r =
          sym (get_or-append_seam records one [] one) ∙ ap (λ n. slice_index_or all n one) (sym last) ∙ found in
          let the_packet : packet ≡ slice_index_or (packets ++ packet ∷ []) i [] =
          sym (get_or-append_seam packets packet [] [])
          ∙ ap (λ n. slice_index_or (packets ++ packet ∷ []) n []) (are.count ∙ sym last) in
          subst (λ (x : Record). IsPacketOf x.body (slice_index_or (packets ++ packet ∷ []) i [])) the_record
          (subst (IsPacketOf one.body) the_packet is)
    ]

-- one more record, and its packet
pub packets_more : (records : List Record) (packets : List (List ℕ)) (one : Record) (packet : List ℕ)
    → ArePackets records packets → IsPacketOf one.body packet
    → ArePackets (records ++ one ∷ []) (packets ++ packet ∷ [])
packets_more records packets one packet are is = record {
  count = one_more packets packet records one are.count;
  each = each_more records packets one packet are is;
}
