-- What a turn adds to a seat's calls and replies.
use Rattle.std.proofs.Common.{◌≡◌, ℕ, ◌==◌, Bool, cond, List, [], ◌∷◌, ◌++◌, Option, Some, None, Result, Ok, Err}
use Rattle.std.proofs.Common.{IfOk, OnErr, refl, sym, ap, ◌∙◌, subst, append-nil, append_assoc, eq-eqb, inl, inr}
use Rattle.std.proofs.lemmas.Bool.{cases_Bool}
use Rattle.bm_turnstile.specs.Sittings.{Sitting, Who, who}
use Rattle.bm_turnstile.specs.Seen.{own, Covers, Turned, SeesMore}
use Rattle.bm_turnstile.specs.Replies.{replies_after, replies, replies_to, AddsReply}

module _ {X E C R : Type 0} (seat_of : E → ℕ) (call_of : E → C) (reply_of : X → List E → ℕ → C → R) where
  abbrev Calls : Type 0
  Calls = List (C × R)

  -- replies_after and replies of this book
  abbrev after : X → ℕ → List E → List E → Calls
  after = replies_after seat_of call_of reply_of

  abbrev all : Option X → ℕ → List E → Calls
  all = replies seat_of call_of reply_of

  replies-append : (about : X) (n : ℕ) (before xs ys : List E)
      → after about n before (xs ++ ys) ≡ after about n before xs ++ after about n (before ++ xs) ys
  replies-append about n before [] ys = ap (λ (b : List E). after about n b ys) (sym (append-nil before))
  replies-append about n before (e ∷ xs) ys =
      let b : List E = before ++ e ∷ [] in
      let again : after about n b (xs ++ ys) ≡ after about n b xs ++ after about n (b ++ xs) ys =
      replies-append about n b xs ys in
      let last : after about n (b ++ xs) ys ≡ after about n (before ++ e ∷ xs) ys =
      ap (λ (l : List E). after about n l ys) (append_assoc before (e ∷ []) xs) in
      let both : after about n b (xs ++ ys) ≡ after about n b xs ++ after about n (before ++ e ∷ xs) ys =
      again ∙ ap (λ (l : Calls). after about n b xs ++ l) last in
      elim (cases_Bool (seat_of e == n)) [
        | inl is ↦ rw is (ap (λ (l : Calls). (call_of e, reply_of about before n (call_of e)) ∷ l) both)
        | inr other ↦ rw other both
      ]

  replies_quiet : (about : X) (n : ℕ) (before ys : List E) → own seat_of n ys ≡ [] → after about n before ys ≡ []
  replies_quiet about n before [] none = refl
  replies_quiet about n before (e ∷ ys) none = elim (cases_Bool (seat_of e == n)) [
    | inl is ↦ let bad : e ∷ own seat_of n ys ≡ [] = rw is at none in absurd (cc)
    | inr other ↦
        let rest : own seat_of n ys ≡ [] = rw other at none in
        rw other (replies_quiet about n (before ++ e ∷ []) ys rest)
  ]

  replies_more : (fixed : Option X) (n : ℕ) (seen more : List E) → own seat_of n more ≡ []
      → all fixed n (seen ++ more) ≡ all fixed n seen
  replies_more None n seen more none = refl
  replies_more (Some about) n seen more none =
      replies-append about n [] seen more
      ∙ (ap (λ (l : Calls). after about n [] seen ++ l) (replies_quiet about n seen more none)
      ∙ append-nil (after about n [] seen))

  pub replies_covered : (fixed : Option X) (n : ℕ) (seen log : List E) → Covers seat_of n seen log
      → all fixed n log ≡ all fixed n seen
  replies_covered fixed n seen log c = ap (λ (l : List E). all fixed n l) c.1 ∙ replies_more fixed n seen c.0 c.2

  replies_one : (about : X) (n : ℕ) (before : List E) (e : E) → seat_of e ≡ n
      → after about n before (e ∷ []) ≡ (call_of e, reply_of about before n (call_of e)) ∷ []
  replies_one about n before e is =
      ap (λ (b : Bool). cond b ((call_of e, reply_of about before n (call_of e)) ∷ []) []) (eq-eqb (seat_of e) n is)

  -- A TURN

  -- the calls and replies are read under the number and the fixed data that no turn changes
  replies_same : (s t : Sitting X E) → who t ≡ who s
      → replies_to seat_of call_of reply_of t ≡ all s.fixed s.number t.seen
  replies_same s t same = ap (λ (w : Who X). all w.fixed w.number t.seen) same

  replies_turned : (s t : Sitting X E) (call : C) (r : R) → Turned seat_of call_of reply_of s t call r
      → all s.fixed s.number t.seen ≡ all s.fixed s.number s.seen ++ (call, r) ∷ []
  replies_turned s t call r turned =
      let n : ℕ = s.number in
      let about : X = turned.about in
      let before : List E = s.seen ++ turned.between in
      let last : after about n before (turned.entry ∷ []) ≡ (call, r) ∷ [] =
      replies_one about n before turned.entry turned.under
      ∙ ((λ i. (turned.called i, reply_of about before n (turned.called i)) ∷ [])
      ∙ ap (λ (x : R). (call, x) ∷ []) (sym turned.replied)) in
      let whole : after about n [] t.seen ≡ after about n [] before ++ (call, r) ∷ [] =
      ap (λ (l : List E). after about n [] l) turned.seen
      ∙ (replies-append about n [] before (turned.entry ∷ [])
      ∙ ap (λ (l : Calls). after about n [] before ++ l) last) in
      let P : Option X → Type 0 = λ o. all o n t.seen ≡ all o n s.seen ++ (call, r) ∷ [] in
      let some : P (Some about) =
      whole
      ∙ ap (λ (l : Calls). l ++ (call, r) ∷ []) (replies_more (Some about) n s.seen turned.between turned.quiet) in
      subst P (sym turned.fixed) some

  replies_sees : (s t : Sitting X E) → SeesMore seat_of s t
      → all s.fixed s.number t.seen ≡ all s.fixed s.number s.seen
  replies_sees s t more =
      ap (λ (l : List E). all s.fixed s.number l) more.seen
      ∙ replies_more s.fixed s.number s.seen more.between more.quiet

  pub adds_reply : {M : Type 0} (s t : Sitting X E) (call : C) (r : Result R M) → who t ≡ who s
      → IfOk r (Turned seat_of call_of reply_of s t call) → OnErr r (SeesMore seat_of s t)
      → AddsReply seat_of call_of reply_of s t call r
  adds_reply s t call (Ok x) same a b = replies_same s t same ∙ replies_turned s t call x a
  adds_reply s t call (Err x) same a b = replies_same s t same ∙ replies_sees s t b
