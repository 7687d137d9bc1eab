-- Where copies of a packet arrive, and what is written on them (Olteanu et al., NSDI 2018, daisy
-- chaining; docs/DEFINITIONS.md).
use Rattle.std.specs.Prelude.{ℕ, Bool, true, false, Option, Some, None, option_map}
use Rattle.bm_base.specs.declared.ids.ServerId.{ServerId}
use Rattle.bm_base.specs.declared.label.Entry.{Entry}
use Rattle.bm_base.specs.declared.label.Hop.{Hop}
use Rattle.bm_base.specs.declared.label.Hop.TheVariants.{Direct, Chained, Twice}
use Rattle.bm_base.specs.declared.label.Label.{Label}
use Rattle.bm_base.specs.declared.label.Past.{Past}
use Rattle.bm_base.specs.declared.label.Tag.{Tag}

-- the hops are the same
abbrev pub same_hop : Hop → Hop → Bool
same_hop Direct Direct = true
same_hop Chained Chained = true
same_hop Twice Twice = true
same_hop _ _ = false

-- how many servers back a copy of this hop has gone
abbrev pub hop_number : Hop → ℕ
hop_number Direct = 0
hop_number Chained = 1
hop_number Twice = 2

-- the hop that a copy makes next, when it is passed on
abbrev pub hop_after : Hop → Option Hop
hop_after Direct = Some Chained
hop_after Chained = Some Twice
hop_after Twice = None

-- the server, if there is one
abbrev pub server_of : Option Past → Option ServerId
server_of past = option_map (λ p. p.server) past

-- where a copy of this hop arrives: a direct one at the bucket's server, a chained one at the
-- server before that, a twice-chained one at the server before both
abbrev pub arrives_at : Entry → Hop → Option ServerId
arrives_at e Direct = Some e.cur
arrives_at e Chained = server_of e.prev
arrives_at e Twice = server_of e.older

-- the server to which a copy of this hop may be passed on, and when the bucket left it. (A `Past`
-- is such a server with its stamp, and no list of events.)
abbrev pub onward : Entry → Hop → Option Past
onward e Direct = e.prev
onward e Chained = e.older
onward e Twice = None

-- the tag of a copy of this hop, for its destination
abbrev pub tag_for : Label → Hop → ServerId → Tag
tag_for l hop dest =
    record {
      hop = hop;
      dest = dest;
      prev = l.entry.prev;
      older = l.entry.older;
      version =
          l.version;
      mux = l.mux;
    }

-- the tag of a copy of this hop, if there is such a copy
abbrev pub tag_of : Label → Hop → Option Tag
tag_of l hop = option_map (tag_for l hop) (arrives_at l.entry hop)

-- the entry in a tag, with the copy's destination as the current server
abbrev pub entry_of : Tag → Entry
entry_of t = record { cur = t.dest; prev = t.prev; older = t.older }
