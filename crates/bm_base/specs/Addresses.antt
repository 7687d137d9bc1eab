-- The addresses of servers and muxes (docs/FORMATS.md).
use Rattle.std.specs.Prelude.{ℕ, ◌+◌, ◌-◌, ◌&&◌, nat_lt, nat_le, if◌then◌else◌, Option, Some, None}
use Rattle.bm_base.specs.declared.ids.MuxId.{MuxId}
use Rattle.bm_base.specs.declared.ids.ServerId.{ServerId}

-- 172.16.0.0 plus the number
abbrev pub server_address : ServerId → ℕ
server_address s = 0xac10_0000 + s.0

-- 172.31.0.0 plus the number
abbrev pub mux_address : MuxId → ℕ
mux_address m = 0xac1f_0000 + m.0

-- the server with this address, of numbers 1 to 1,024
abbrev pub server_at : ℕ → Option ServerId
server_at addr =
    if nat_lt 0xac10_0000 addr
    && nat_le addr (0xac10_0000 + 1024) then Some (record { 0 = addr - 0xac10_0000 }) else None

-- the mux with this address, of numbers 0 to 63
abbrev pub mux_at : ℕ → Option MuxId
mux_at addr =
    if nat_le 0xac1f_0000 addr
    && nat_lt addr (0xac1f_0000 + 64) then Some (record { 0 = addr - 0xac1f_0000 }) else None
