-- The entries that a mux reads have servers.
use Rattle.std.proofs.Common.{◌≡◌, ℕ, zero, suc, ◌<◌, ◌≤◌, Option, Some, None}
use Rattle.std.proofs.Common.{length, refl, arith}
use Rattle.std.specs.Prelude.{IfSome}
use Rattle.bm_base.specs.declared.ids.ServerId.{ServerId}
use Rattle.bm_base.specs.declared.label.Entry.{Entry}
use Rattle.bm_base.proofs.Entries.{IsEntry}
use Rattle.bm_base.specs.Tags.{IsServer}
use Rattle.bm_table.specs.Planned.{Planned}
use Rattle.bm_table.proofs.Tables.{moved_entry}
use Rattle.bm_table.specs.Plans.{IsPlan}
use Rattle.bm_table.specs.Tables.{brings, change_moment, moved, next_change, table}
use Rattle.bm_mux.specs.Muxes.{HasServers}

target_server : (e : Entry) (at : ℕ) (to : Option ServerId) → IsServer (moved e at to).cur → IfSome to IsServer
target_server e at None server = tt
target_server e at (Some s) server = server

pub table_entry : (plan : Planned) → IsPlan plan → HasServers plan → (v b : ℕ) → v ≤ length plan.changes
    → b < plan.buckets → IsEntry (table plan v b)
table_entry plan kept servers zero b early inside = record {
  cur = servers zero b early inside;
  prev = tt;
  apart = λ same. absurd (cc);
  older = tt;
}
table_entry plan kept servers (suc v) b early inside =
    moved_entry (table plan v b) (change_moment (next_change plan v)) (brings (next_change plan v) b)
    (table_entry plan kept servers v b (omega arith) inside)
    (target_server (table plan v b) (change_moment (next_change plan v)) (brings (next_change plan v) b)
    (servers (suc v) b early inside)) (kept.changes v b)
