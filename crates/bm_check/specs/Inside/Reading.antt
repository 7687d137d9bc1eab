-- How the words of a line are read.
use Rattle.std.specs.Prelude.{◌≡◌, ℕ, Bool, if◌then◌else◌, List, [], ◌∷◌, ◌++◌, Option, None, MatchOption, codes}
use denote.Ref.{Bor}
use Rattle.bm_core.specs.declared.events.What.{What}
use Rattle.bm_core.specs.declared.events.What.TheVariants.{Publish, Switch, Steer, Lose, Arrive}
use Rattle.bm_core.specs.declared.events.What.TheVariants.{Close, Retire, Sync}
use Rattle.bm_trace.specs.declared.lines.Aside.{Aside}

-- what stands after a word: a space, or at the line's end a line feed
abbrev pub stop : List (List ℕ) → ℕ
stop [] = 10
stop (w ∷ words) = 32

-- a line of these words
abbrev pub text_of : List (List ℕ) → List ℕ
text_of [] = []
text_of (w ∷ words) = w ++ stop words ∷ text_of words

-- this was read, and the words after it are these
abbrev pub HasRead : {A : Type 0} → Option (A × Bor (List ℕ)) → A → List (List ℕ) → Type 0
HasRead result x words = MatchOption result ⊥ (λ r. (r.0 ≡ x) × (r.1.now ≡ text_of words))

-- nothing of the events before it
abbrev pub nothing : Aside
nothing = record { version = 0; bucket = 0; cause = None }

-- the word of an event's kind
abbrev pub kind_word : What → List ℕ
kind_word (Publish v) = codes "publish"
kind_word (Switch m v) = codes "switch"
kind_word (Steer k m) = codes "steer"
kind_word (Lose k hop) = codes "lost"
kind_word (Arrive k hop server verdict) = codes "arrive"
kind_word (Close server flow closed) = codes "close"
kind_word (Retire server h at result) = codes "retire"
kind_word Sync = codes "sync"

-- the words after it
abbrev pub words_after : List (List ℕ) → List (List ℕ)
words_after [] = []
words_after (w ∷ words) = words

-- what a line of the event shows of this
abbrev pub shown : What → Aside → Aside
shown (Steer k m) a = record { version = a.version; bucket = a.bucket; cause = None }
shown (Arrive k hop server verdict) a = record { version = 0; bucket = 0; cause = a.cause }
shown _ a = nothing

-- a close's answer
abbrev pub closed_word : Bool → List ℕ
closed_word closed = if closed then codes "closed" else codes "none"
