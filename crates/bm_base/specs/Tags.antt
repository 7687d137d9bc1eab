-- Which tags are valid (docs/FORMATS.md).
use Rattle.std.specs.Prelude.{◌≡◌, ◌≢◌, ◌<◌, ◌≤◌, Option, Some, IfSome, IsSomeAnd}
use Rattle.bm_base.specs.Labels.{server_of}
use Rattle.bm_base.specs.declared.ids.ServerId.{ServerId}
use Rattle.bm_base.specs.declared.label.Hop.{Hop}
use Rattle.bm_base.specs.declared.label.Hop.TheVariants.{Direct, Chained, Twice}
use Rattle.bm_base.specs.declared.label.Past.{Past}
use Rattle.bm_base.specs.declared.label.Tag.{Tag}

abbrev pub IsServer : ServerId → Type 0
IsServer s = (1 ≤ s.0) × (s.0 ≤ 1024)

-- a direct packet goes to a server other than the previous one, a chained one to the previous one,
-- and a twice-chained one to the older one
abbrev pub GoesRight : Hop → ServerId → Option Past → Option Past → Type 0
GoesRight Direct dest prev older = server_of prev ≢ Some dest
GoesRight Chained dest prev older = server_of prev ≡ Some dest
GoesRight Twice dest prev older = server_of older ≡ Some dest

pub record IsTag (tag : Tag) : Type 0 where
  pub dest : IsServer tag.dest
  pub prev : IfSome tag.prev (λ p. IsServer p.server)
  -- an older server comes only with a previous one, and is another server
  pub older : IfSome tag.older
      (λ o. IsServer o.server × IsSomeAnd tag.prev (λ p. o.server ≢ p.server))
  pub mux : tag.mux.0 < 64
  pub hop : GoesRight tag.hop tag.dest tag.prev tag.older
