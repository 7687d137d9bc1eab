-- What a sending is of. Only the proofs of bodies use this.
use Rattle.std.specs.Prelude.{List}
use Rattle.bm_base.specs.declared.ids.ServerId.{ServerId}
use Rattle.bm_core.specs.declared.events.Stage.{Stage}
use Rattle.bm_mux.specs.Muxes.{MuxState}
use Rattle.bm_server.specs.Servings.{Serving}
use Rattle.bm_worker.specs.declared.sends.Sending.{Sending}
use Rattle.bm_worker.specs.Inside.Pending.{Pending, IsCopyOf, IsForwarded, pending}

-- what has to come of it
abbrev pub pending_of : Sending → Pending
pending_of s = pending s.packet s.hop s.clock.0 s.fate

-- its octets are a copy of its packet by its hop, for the server at its place
abbrev pub HasCopy : Stage → List Serving → MuxState → Sending → Type 0
HasCopy stage servers mux s = IsCopyOf stage servers mux s.place s.packet s.hop s.octets.now

-- they are such a copy, whose tag has it passed on to this server
abbrev pub IsForwardedBy : Stage → List Serving → MuxState → Sending → ServerId → Type 0
IsForwardedBy stage servers mux s to =
    IsForwarded stage servers mux s.place s.packet s.hop s.octets.now to
