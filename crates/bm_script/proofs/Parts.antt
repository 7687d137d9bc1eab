-- The parts of a text, with a front that was passed over.
use Rattle.std.proofs.Common.{◌≡◌, ℕ, ◌+◌, ◌<◌, ◌≤◌, true, false, List, [], ◌∷◌, ◌++◌, length, get_or, take, drop}
use Rattle.std.proofs.Common.{Option, Some, None, option_map, ◌==◌, refl, ap, append_assoc}
use Rattle.std.proofs.lemmas.List.{drop_more, take_more, drop_all, append-nil}
use Rattle.bm_script.specs.Values.{parted}

abbrev pub behind : List ℕ → Option (List ℕ × List ℕ) → Option (List ℕ × List ℕ)
behind front None = None
behind front (Some parts) = Some (front ++ parts.0, parts.1)

regroup : (front : List ℕ) (c : ℕ) (parts : Option (List ℕ × List ℕ))
    → behind front (option_map (λ p. (c ∷ p.0, p.1)) parts) ≡ behind (front ++ c ∷ []) parts
regroup front c None = refl
regroup front c (Some parts) = ap (λ (xs : List ℕ). Some (xs, parts.1)) (simp append_assoc)

pub parted-more : (mark : ℕ) (text : List ℕ) (at : ℕ) (d : ℕ) → at < length text → (get_or text at d == mark) ≡ false
    → behind (take at text) (parted mark (drop at text))
    ≡ behind (take (at + 1) text) (parted mark (drop (at + 1) text))
parted-more mark text at d lt other =
    rw (drop_more text at d lt, other, take_more text at d lt)
    (regroup (take at text) (get_or text at d) (parted mark (drop (at + 1) text)))

pub parted-here : (mark : ℕ) (text : List ℕ) (at : ℕ) (d : ℕ) → at < length text → (get_or text at d == mark) ≡ true
    → behind (take at text) (parted mark (drop at text)) ≡ Some (take at text, drop (at + 1) text)
parted-here mark text at d lt same =
    rw (drop_more text at d lt, same) (ap (λ (xs : List ℕ). Some (xs, drop (at + 1) text)) (append-nil (take at text)))

pub parted-end : (mark : ℕ) (text : List ℕ) (at : ℕ) → length text ≤ at
    → behind (take at text) (parted mark (drop at text)) ≡ None
parted-end mark text at le = rw (drop_all at text le) refl
