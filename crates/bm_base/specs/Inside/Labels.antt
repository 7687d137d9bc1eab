-- The hops of copies that are passed on.
use Rattle.bm_base.specs.declared.label.Hop.{Hop}
use Rattle.bm_base.specs.declared.label.Hop.TheVariants.{Direct, Chained, Twice}

-- the hop after this one; after the last hop, the last again
abbrev pub later_hop : Hop → Hop
later_hop Direct = Chained
later_hop hop = Twice
