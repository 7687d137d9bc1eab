-- What a copy says whose octets spell its tag.
use Rattle.std.proofs.Common.{◌≡◌, ℕ, ◌≤◌, Bool, cond, List, length, Ok, Err, refl, ap, ◌∙◌}
use Rattle.std.proofs.lemmas.Bool.{eq-eqb}
use Rattle.bm_base.specs.declared.flow.Segment.{Segment}
use Rattle.bm_base.specs.declared.label.Tag.{Tag}
use Rattle.bm_base.specs.Tags.{IsTag}
use Rattle.bm_tcp.specs.Packets.{ReadsAs, segment_in}
use Rattle.bm_encap.specs.Spellings.{spelling}
use Rattle.bm_encap.specs.Inside.Spellings.{FitsFields}
use Rattle.bm_encap.proofs.Spelled.{spelling_read}
use Rattle.bm_shard.specs.Copies.{copy_in, of_header, of_packet}
use Rattle.bm_shard.specs.declared.fault.HandleFault.TheVariants.{NotMine}

-- at its destination it says the tag and the segment
pub copy_spelled : (tag : Tag) (packet : List ℕ) (s : Segment) → IsTag tag → FitsFields tag → length packet ≤ 65479
    → ReadsAs packet s → copy_in tag.dest (spelling tag packet) ≡ Ok (tag, s)
copy_spelled tag packet s is fits few reads =
    ap (of_header tag.dest) (spelling_read tag packet is fits few)
    ∙ (ap (λ (b : Bool). cond b (of_packet tag (segment_in packet)) (Err NotMine)) (eq-eqb tag.dest.0 tag.dest.0 refl)
    ∙ ap (of_packet tag) reads)
