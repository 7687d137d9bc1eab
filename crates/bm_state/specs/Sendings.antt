-- What an event sends, as the definitions have it.
use Rattle.bm_core.specs.Past as past
use Rattle.bm_state.specs.declared.sending.Sending.{Sending}

abbrev pub as_sending : Sending → past.Sending
as_sending s = record { packet = s.packet; hop = s.hop }
