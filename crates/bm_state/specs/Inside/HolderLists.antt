-- How lists of holders change.
use Rattle.std.specs.Prelude.{ℕ, not, List, ◌∷◌, [], ◌++◌, filter, Option, Some, None}
use Rattle.bm_base.specs.declared.ids.ServerId.{ServerId}
use Rattle.bm_base.specs.declared.receive.Taken.TheVariants.{Ended}
use Rattle.bm_core.specs.declared.events.Verdict.{Verdict}
use Rattle.bm_core.specs.declared.events.Verdict.TheVariants.{Accept, Process}
use Rattle.bm_table.specs.Tables.{same_server}
use Rattle.bm_state.specs.declared.holder_lists.HoldChange.{HoldChange}
use Rattle.bm_state.specs.declared.holder_lists.HoldChange.TheVariants.{Holds, Releases}
use Rattle.bm_state.specs.declared.holder_lists.Holder.{Holder}

-- how this verdict, on an arrival at this place, changes what the server holds
abbrev pub change_by : ℕ → Verdict → Option HoldChange
change_by place Accept = Some (Holds place)
change_by place (Process Ended) = Some Releases
change_by place _ = None

-- the holders without this server
abbrev pub without_server : ServerId → List Holder → List Holder
without_server s hs = filter (λ h. not (same_server h.server s)) hs

-- the holders after this server came to hold just the Accept at this place
abbrev pub put_holder : ServerId → ℕ → List Holder → List Holder
put_holder s place hs = without_server s hs ++ record { server = s; place = place } ∷ []

-- the holders after a change at the server
abbrev pub changed : ServerId → HoldChange → List Holder → List Holder
changed s (Holds place) hs = put_holder s place hs
changed s Releases hs = without_server s hs

-- the same, if there is a change
abbrev pub changed_by : ServerId → Option HoldChange → List Holder → List Holder
changed_by s None hs = hs
changed_by s (Some change) hs = changed s change hs
