-- What is kept of the clocks at which packets were sent, and of their losses.
use Rattle.std.specs.Prelude.{◌≡◌, ℕ, suc, ◌+◌, Bool, true, false, ◌&&◌, ◌==◌, if◌then◌else◌}
use Rattle.std.specs.Prelude.{List, Option, Some, None, slice_index_or, unwrap_or}
use Rattle.std.specs.HashMap as table
use Rattle.bm_base.specs.declared.label.Hop.{Hop}
use Rattle.bm_base.specs.declared.label.Hop.TheVariants.{Direct}
use Rattle.bm_base.specs.Labels.{hop_number}
use Rattle.bm_core.specs.declared.events.Event.{Event}
use Rattle.bm_core.specs.declared.events.What.{What}
use Rattle.bm_core.specs.declared.events.What.TheVariants.{Lose}
use Rattle.bm_core.specs.Accounts.{count_of, lost_at}
use Rattle.bm_core.specs.Past.{sends}
use Rattle.bm_state.specs.contracts.losses.SentAtPartialEq.TheImpl as sent_eq
use Rattle.bm_state.specs.declared.losses.LossTally.{LossTally}
use Rattle.bm_state.specs.declared.losses.Losses.{Losses}
use Rattle.bm_state.specs.declared.losses.SentAt.{SentAt}

-- how often these events send the packet with this hop at this clock
abbrev pub sendings_at : List Event → ℕ → Hop → ℕ → ℕ
sendings_at past k hop clock = count_of (λ e. sends e.what k hop && e.clock.0 == clock) past

-- something is lost
abbrev pub loses_any : What → Bool
loses_any (Lose k hop) = true
loses_any _ = false

-- the event is a loss
abbrev pub is_loss : Event → Bool
is_loss e = loses_any e.what

-- the clock of a packet's first direct sending
abbrev pub first_in : Losses → ℕ → Option ℕ
first_in l k = slice_index_or l.direct.items k None

abbrev pub is_clock : ℕ → Option ℕ → Bool
is_clock clock None = false
is_clock clock (Some c) = c == clock

-- the sending is a packet's first direct one
abbrev pub is_first : Losses → ℕ → Hop → ℕ → Bool
is_first l k Direct clock = is_clock clock (first_in l k)
is_first l k _ clock = false

-- the key of the map, and what it has there of other sendings and of losses
abbrev pub sent_at : ℕ → Hop → ℕ → SentAt
sent_at k hop clock = record { clock = clock; packet = k; hop = hop_number hop }

abbrev pub losses_in : Losses → SentAt → LossTally
losses_in l sent =
    unwrap_or (table.get (sent_eq.ghosts).eq l.tallies sent) (record { sendings = 0; losses = 0 })

-- the sendings are those of one list of events, and the losses those of another
pub record AreCounted (sent lost : List Event) (l : Losses) : Type 0 where
  pub count_of_all : l.count ≡ count_of is_loss lost
  pub sendings_at_each : (k : ℕ) (hop : Hop) (clock : ℕ)
      → (if is_first l k hop clock then 1 else 0) + (losses_in l (sent_at k hop clock)).sendings
      ≡ sendings_at sent k hop clock
  pub losses_at_each : (k : ℕ) (hop : Hop) (clock : ℕ)
      → (losses_in l (sent_at k hop clock)).losses ≡ lost_at lost k hop (suc clock)

-- this is kept after these events
abbrev pub KeepsLosses : List Event → Losses → Type 0
KeepsLosses past l = AreCounted past past l
