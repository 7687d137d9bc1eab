-- What holds of each round.
use Rattle.std.proofs.Common.{ℕ, ◌≤◌, ◌==◌, Bool, true, false, cond, arith}
use Rattle.bm_load.specs.declared.packets.Round.{Round}
use Rattle.bm_load.specs.Load.{round_at, segment_from}

abbrev pub opening : Round
opening = record { seq = 1000; ack = 0; flags = 0x02; payload = 0 }

abbrev pub first : Round
first = record { seq = 1001; ack = 501; flags = 0x18; payload = 100 }

abbrev pub second : Round
second = record { seq = 1101; ack = 501; flags = 0x18; payload = 100 }

abbrev pub last : Round
last = record { seq = 1201; ack = 501; flags = 0x11; payload = 0 }

pub pick : (P : Round → Type 0) (b : Bool) (x y : Round) → P x → P y → P (cond b x y)
pick P true x y p q = p
pick P false x y p q = q

pub each_round : (P : Round → Type 0) → P opening → P first → P second → P last → (r : ℕ) → P (round_at r)
each_round P a b c d r = pick P (r == 0) _ _ a (pick P (r == 1) _ _ b (pick P (r == 2) _ _ c d))

pub short : (r port : ℕ) → (segment_from (round_at r) port).len ≤ 1048576
short r port = each_round (λ round. (segment_from round port).len ≤ 1048576) (omega arith) (omega arith) (omega arith)
    (omega arith) r
