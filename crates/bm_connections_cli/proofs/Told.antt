-- The replies of a history are told as all of its events are.
use Rattle.std.proofs.Common.{◌≡◌, ℕ, false, inl, inr, List, [], ◌∷◌, ◌++◌, reverse, Option, refl, sym, ap, ◌∙◌}
use Rattle.std.proofs.lemmas.Bool.{cases_Bool}
use Rattle.std.proofs.lemmas.Grind.{reverse_onto}
use Rattle.std.proofs.lemmas.List.{append-nil, reverse-reverse}
use Rattle.std.proofs.lemmas.List.Concat.{flat_map-append}
use Rattle.bm_core.specs.declared.events.Event.{Event}
use Rattle.bm_core.specs.declared.events.What.{What}
use Rattle.bm_core.specs.declared.events.What.TheVariants.{Publish, Switch, Steer, Lose, Arrive, Close, Retire, Sync}
use Rattle.bm_connections.specs.Replies.{is_reply, replies_in}
use Rattle.bm_connections_cli.specs.Replies.{replies_text, reply_line}

silent : (clock : Option ℕ) (time : ℕ) (what : What) → is_reply what ≡ false → reply_line clock time what ≡ []
silent clock time (Publish v) is = refl
silent clock time (Switch m v) is = refl
silent clock time (Steer k m) is = refl
silent clock time (Lose k hop) is = refl
silent clock time (Arrive k hop server verdict) is = refl
silent clock time (Close server flow closed) is = absurd (cc)
silent clock time (Retire server shard at result) is = absurd (cc)
silent clock time Sync is = refl

abbrev line_of : Option ℕ → Event → List ℕ
line_of clock e = reply_line clock e.clock.0 e.what

told : (clock : Option ℕ) (past : List Event) → replies_text clock (replies_in past) ≡ replies_text clock (reverse past)
told clock [] = refl
told clock (e ∷ past) =
    let all : replies_text clock (reverse (e ∷ past)) ≡ replies_text clock (reverse past) ++ (line_of clock e ++ []) =
    ap (replies_text clock) (reverse_onto past e []) ∙ flat_map-append (line_of clock) (reverse past) (e ∷ [])
    in elim (cases_Bool (is_reply e.what)) [
      | inl reply ↦
          rw reply (flat_map-append (line_of clock) (replies_in past) (e ∷ [])
          ∙ ap (λ l. l ++ (line_of clock e ++ [])) (told clock past) ∙ sym all)
      | inr other ↦
          rw other (told clock past ∙ sym (all ∙ ap (λ l. replies_text clock (reverse past) ++ (l ++ []))
          (silent clock e.clock.0 e.what other) ∙ append-nil (replies_text clock (reverse past))))
    ]

pub replies_told : (clock : Option ℕ) (events : List Event)
    → replies_text clock (replies_in (reverse events)) ≡ replies_text clock events
replies_told clock events = told clock (reverse events) ∙ ap (replies_text clock) (reverse-reverse events)
