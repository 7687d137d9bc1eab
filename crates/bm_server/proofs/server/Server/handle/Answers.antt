use Rattle.std.proofs.Common.{◌≡◌, ◌∙◌, ap, ℕ, Ok}
use Rattle.bm_base.specs.declared.flow.Segment.{Segment}
use Rattle.bm_base.specs.declared.label.Tag.{Tag}
use Rattle.bm_hash.specs.Buckets.{shard_of}
use Rattle.bm_shard.specs.Copies.{copy_in}
use Rattle.bm_server.specs.Servings.{Serving, shard_for}
use Rattle.bm_server.proofs.Turns.{copy_refused, copy_replied}
use Rattle.bm_server.proofs.server.Server.handle.Goals as goal

pub returns-in-Ok-clause-replies : goal.returns-in-Ok-clause-replies
returns-in-Ok-clause-replies g c =
    let read : Tag × Segment = (c.in_ok-tag.tag, c.in_ok-tag.segment) in
    let copy : Ok read ≡ copy_in c.args.self.now.id c.args.octets.now =
    c.in_ok-tag.ensures.read ∙ ap (λ (s : Serving). copy_in s.id c.args.octets.now) c.self.view_is in
    let shard : c.from.result ≡ shard_for c.args.self.now c.in_ok-tag.segment.flow =
    c.from.ensures
    ∙ (c.shard_of-shard.ensures ∙ ap (λ (n : ℕ). shard_of n c.in_ok-tag.segment.flow) c.shards.ensures.shards) in
    copy_replied c.args.self.now c.args.packet c.from.result c.args.due read _ c.turn.result c.in-Ok.reply
    c.args.seat.now c.turn.new.seat copy shard c.in-Ok.is c.turn.ensures.replies c.turn.ensures.turn
    c.turn.ensures.reply

pub returns-in-Err-clause-replies : goal.returns-in-Err-clause-replies
returns-in-Err-clause-replies g c =
    let read : Tag × Segment = (c.in_ok-tag.tag, c.in_ok-tag.segment) in
    let copy : Ok read ≡ copy_in c.args.self.now.id c.args.octets.now =
    c.in_ok-tag.ensures.read ∙ ap (λ (s : Serving). copy_in s.id c.args.octets.now) c.self.view_is in
    let shard : c.from.result ≡ shard_for c.args.self.now c.in_ok-tag.segment.flow =
    c.from.ensures
    ∙ (c.shard_of-shard.ensures ∙ ap (λ (n : ℕ). shard_of n c.in_ok-tag.segment.flow) c.shards.ensures.shards) in
    copy_refused c.args.self.now c.args.packet c.from.result c.args.due read _ c.turn.result _
    c.args.seat.now c.turn.new.seat copy shard c.in-Err.is c.turn.ensures.replies c.turn.ensures.turn
