-- Lines that reach a sink in pieces.
use Rattle.std.proofs.Common.{◌≡◌, ℕ, ◌<◌, List, [], ◌++◌, length, take, drop, Option, refl, sym, ap, subst, ◌∙◌}
use Rattle.std.proofs.Common.{append_assoc, length-append, arith}
use Rattle.std.specs.Io.KnownBytes.{Appends}
use Rattle.std.proofs.KnownBytes.{Appends-nil, Appends-trans}
use Rattle.std.proofs.lemmas.List.{append-nil, take-append-drop}
use Rattle.std.proofs.lemmas.Grind.{common_steps}
use Rattle.std.proofs.Math.Seq.{take-append_seam}
use Rattle.bm_io.specs.Written.{WritesPart}
use Rattle.bm_trace.specs.Inside.Parts.{HandsLess, HandsOn, HandsPart}

-- WHAT IS HANDED ON

-- nothing was written
pub stays : (told : Option (List ℕ)) (waits : List ℕ) → HandsOn told waits told waits []
stays told waits = record { sent = []; appended = Appends-nil told; whole = sym (append-nil waits) }

-- a text was put into the buffer
text_on : (told : Option (List ℕ)) (waited waits text : List ℕ) → waits ≡ waited ++ text
    → HandsOn told waited told waits text
text_on told waited waits text e = record { sent = []; appended = Appends-nil told; whole = e }

-- the buffer was written
pub buffer_on : (a b : Option (List ℕ)) (waited piece waits : List ℕ) → piece ≡ waited → waits ≡ []
    → Appends a b piece → HandsOn a waited b waits []
buffer_on a b waited piece waits same none sent = record {
  sent = piece;
  appended = sent;
  whole = ap (λ x. x ++ waits) same ∙ ap (λ x. waited ++ x) none;
}

-- one text after another
pub both_on : (a b c : Option (List ℕ)) (p q r s t : List ℕ) → HandsOn a p b q s → HandsOn b q c r t
    → HandsOn a p c r (s ++ t)
both_on a b c p q r s t first second = record {
  sent = first.sent ++ second.sent;
  appended = Appends-trans a b c first.sent second.sent first.appended second.appended;
  whole =
      append_assoc first.sent second.sent r
      ∙ ap (λ x. first.sent ++ x) second.whole
      ∙ sym (append_assoc first.sent q t)
      ∙ ap (λ x. x ++ t) first.whole
      ∙ append_assoc p s t;
}

-- WHERE IT ENDS EARLY

-- nothing was written
pub none_sent : (told : Option (List ℕ)) (waited text : List ℕ) → HandsPart told waited told text
none_sent told waited text =
    record { lost = waited ++ text; on = record { sent = []; appended = Appends-nil told; whole = refl } }

-- a first part of the buffer was written
pub buffer_part : (a b : Option (List ℕ)) (waited piece : List ℕ) → piece ≡ waited
    → WritesPart a b piece → HandsPart a waited b []
buffer_part a b waited piece same part = record {
  lost = drop part.0 piece;
  on = record {
    sent = take part.0 piece;
    appended = part.2;
    whole = take-append-drop part.0 piece ∙ same ∙ sym (append-nil waited);
  };
}

-- the rest of the text was lost
pub rest_lost : (a b : Option (List ℕ)) (p q s t : List ℕ) → HandsOn a p b q s → HandsPart a p b (s ++ t)
rest_lost a b p q s t on = record {
  lost = q ++ t;
  on = record {
    sent = on.sent;
    appended = on.appended;
    whole = sym (append_assoc on.sent q t) ∙ ap (λ x. x ++ t) on.whole ∙ append_assoc p s t;
  };
}

pub part_rest : (a b : Option (List ℕ)) (p s t : List ℕ) → HandsPart a p b s → HandsPart a p b (s ++ t)
part_rest a b p s t part = rest_lost a b p part.lost s t part.on

-- a first part of a second text
pub part_after : (a b c : Option (List ℕ)) (p q s t : List ℕ) → HandsOn a p b q s → HandsPart b q c t
    → HandsPart a p c (s ++ t)
part_after a b c p q s t first part =
    record { lost = part.lost; on = both_on a b c p q part.lost s t first part.on }

-- LINE BY LINE

-- a line more
pub line_more : (a b c : Option (List ℕ)) (p q r w s line next : List ℕ) → s ++ line ≡ next → HandsOn a p b q s
    → r ≡ q ++ line → HandsOn b r c w [] → HandsOn a p c w next
line_more a b c p q r w s line next step before put full =
    subst (λ x. HandsOn a p c w x) (append-nil (s ++ line) ∙ step)
    (both_on a b c p r w (s ++ line) [] (both_on a b b p q r s line before (text_on b q r line put)) full)

-- the buffer was refused after a line
pub line_refused : (a b c : Option (List ℕ)) (p q r s line next rest whole : List ℕ) → s ++ line ≡ next
    → next ++ rest ≡ whole → HandsOn a p b q s → r ≡ q ++ line → HandsPart b r c [] → HandsPart a p c whole
line_refused a b c p q r s line next rest whole step all before put full =
    subst (λ x. HandsPart a p c x) (ap (λ x. x ++ rest) (append-nil (s ++ line) ∙ step) ∙ all)
    (part_rest a c p ((s ++ line) ++ []) rest
    (part_after a b c p r (s ++ line) [] (both_on a b b p q r s line before (text_on b q r line put)) full))

-- no further line was written
pub lines_lost : (a b : Option (List ℕ)) (p q s rest whole : List ℕ) → s ++ rest ≡ whole → HandsOn a p b q s
    → HandsPart a p b whole
lines_lost a b p q s rest whole all on = subst (λ x. HandsPart a p b x) all (rest_lost a b p q s rest on)

-- THE LAST OF THE BUFFER

-- it was written, and a text after it
pub end_on : (a b : Option (List ℕ)) (q r t : List ℕ) → r ≡ q ++ t → Appends a b r → HandsOn a q b [] t
end_on a b q r t more last = record { sent = r; appended = last; whole = append-nil r ∙ more }

-- what is left of a text after a part that isn't all of it
some_left : (n : ℕ) (r : List ℕ) → n < length r → 0 < length (drop n r)
some_left n r below = grind (arith, common_steps)

-- it was refused
pub end_less : (a b : Option (List ℕ)) (q r t : List ℕ) → r ≡ q ++ t → WritesPart a b r → HandsLess a q b t
end_less a b q r t more part = record {
  part = record {
    lost = drop part.0 r;
    on = record {
      sent = take part.0 r;
      appended = part.2;
      whole = take-append-drop part.0 r ∙ more;
    };
  };
  some = some_left part.0 r part.1;
}

-- nothing of it was written
pub none_less : (told : Option (List ℕ)) (waited text : List ℕ) → 0 < length text → HandsLess told waited told text
none_less told waited text some = record {
  part = record {
    lost = waited ++ text;
    on = record { sent = []; appended = Appends-nil told; whole = refl };
  };
  some = omega (arith, length-append waited text, some);
}

-- the text before it was refused
pub rest_less : (a b : Option (List ℕ)) (p s t : List ℕ) → HandsPart a p b s → 0 < length t → HandsLess a p b (s ++ t)
rest_less a b p s t part some = record {
  part = record {
    lost = part.lost ++ t;
    on = record {
      sent = part.on.sent;
      appended = part.on.appended;
      whole =
          sym (append_assoc part.on.sent part.lost t) ∙ ap (λ x. x ++ t) part.on.whole ∙ append_assoc p s t;
    };
  };
  some = omega (arith, length-append part.lost t, some);
}

-- it is refused after another text
pub less_after : (a b c : Option (List ℕ)) (p q s t : List ℕ) → HandsOn a p b q s → HandsLess b q c t
    → HandsLess a p c (s ++ t)
less_after a b c p q s t first less = record {
  part = record { lost = less.part.lost; on = both_on a b c p q less.part.lost s t first less.part.on };
  some = less.some;
}

-- THE WHOLE, where nothing waited at first

pub all_written : (a b : Option (List ℕ)) (p s : List ℕ) → p ≡ [] → HandsOn a p b [] s → Appends a b s
all_written a b p s empty on =
    subst (λ x. Appends a b x) (sym (append-nil on.sent) ∙ on.whole ∙ ap (λ x. x ++ s) empty) on.appended

-- a first part was written, and not all
pub part_written : (a b : Option (List ℕ)) (p s : List ℕ) → p ≡ [] → HandsLess a p b s → WritesPart a b s
part_written a b p s empty less =
    let sent = less.part.on.sent
    in let lost = less.part.lost
    in let whole : sent ++ lost ≡ s = less.part.on.whole ∙ ap (λ x. x ++ s) empty
    in let front : take (length sent) s ≡ sent =
    ap (λ x. take (length sent) x) (sym whole) ∙ take-append_seam sent lost
    in (
      length sent,
      omega (arith, ap length whole, length-append sent lost, less.some),
      subst (λ x. Appends a b x) (sym front) less.part.on.appended,
    )
