use Rattle.std.proofs.Common.{◌≡◌, ℕ, zero, suc, ◌<◌, ◌^◌, Ok, Some, ap, arith, get_or, refl, rules, subst, ◌∙◌}
use Rattle.std.specs.Int.{to_be_bytes, w32}
use Rattle.std.specs.Net.Addr.{ipv4_bits}
use Rattle.std.specs.Net.Text.{socket_v4_text}
use Rattle.std.specs.Net.Grammar.{IsSocketV4Text, Parses}
use Rattle.std.specs.declared.net.socket_addr.SocketAddrV4.{SocketAddrV4}
use Rattle.std.proofs.NetLemmas.Theorems.{parse-socket_v4_text}
use Rattle.std.proofs.lemmas.Nat.{from_be_bytes-to_be_bytes_4}
use Rattle.bm_trace.specs.Words.{endpoint}
use Rattle.bm_check.proofs.words.endpoint_in.Goals as goal

abbrev named : ℕ → ℕ → SocketAddrV4
named addr port = record { ip = record { octets = to_be_bytes w32 addr }; port = port }

octets_fit : (addr k : ℕ) → get_or (to_be_bytes w32 addr) k 0 < 2 ^ 8
octets_fit addr zero = omega arith
octets_fit addr (suc zero) = omega arith
octets_fit addr (suc (suc zero)) = omega arith
octets_fit addr (suc (suc (suc zero))) = omega arith
octets_fit addr (suc (suc (suc (suc k)))) = omega arith

text_is : (addr port : ℕ) → endpoint addr port ≡ socket_v4_text (named addr port)
unfolding endpoint
text_is addr port = refl

bits_back : (addr : ℕ) → addr < 2 ^ 32 → ipv4_bits (record { octets = to_be_bytes w32 addr }) ≡ addr
unfolding ipv4_bits
bits_back addr low = from_be_bytes-to_be_bytes_4 addr low

pub returns-in_err-read : goal.returns-in_err-read
returns-in_err-read c addr port low small is =
    let parsed : c.parse_ascii.result ≡ Ok (named addr port) =
    parse-socket_v4_text (named addr port) c.parse_ascii.result ((refl, octets_fit addr), small)
    (subst (λ text. Parses IsSocketV4Text text c.parse_ascii.result) (is ∙ text_is addr port) c.parse_ascii.ensures)
    in absurd (search rules)

pub returns : goal.returns
returns c addr port low small is =
    let parsed : c.parse_ascii.result ≡ Ok (named addr port) =
    parse-socket_v4_text (named addr port) c.parse_ascii.result ((refl, octets_fit addr), small)
    (subst (λ text. Parses IsSocketV4Text text c.parse_ascii.result) (is ∙ text_is addr port) c.parse_ascii.ensures)
    in let same : c.in_ok-read.read ≡ named addr port = search rules
    in let bits = c.to_bits.ensures ∙ ap ipv4_bits (c.ip.ensures ∙ ap (λ (a : SocketAddrV4). a.ip) same)
    ∙ bits_back addr low
    in let one_port = c.port.ensures ∙ ap (λ (a : SocketAddrV4). a.port) same
    in λ i. Some (record { addr = bits i; port = one_port i })
