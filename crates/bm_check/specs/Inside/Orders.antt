-- The closes, the requests to retire and the syncs that commands ask for and events carry out.
use Rattle.std.specs.Prelude.{◌≡◌, ℕ, zero, suc, Bool, true, false, ◌&&◌, ◌==◌, nat_lt, List, Option, Some, None}
use Rattle.std.specs.BTreeMap as tree
use Rattle.bm_table.specs.declared.script.Command.{Command}
use Rattle.bm_table.specs.declared.script.Command.TheVariants.{Close as CloseCommand}
use Rattle.bm_table.specs.declared.script.Command.TheVariants.{Retire as RetireCommand}
use Rattle.bm_table.specs.declared.script.Command.TheVariants.{Sync as SyncCommand}
use Rattle.bm_core.specs.Accounts.{count_of, counts}
use Rattle.bm_core.specs.declared.events.Event.{Event}
use Rattle.bm_core.specs.declared.events.Stage.{Stage}
use Rattle.bm_core.specs.declared.events.What.{What}
use Rattle.bm_core.specs.declared.events.What.TheVariants.{Close as CloseEvent}
use Rattle.bm_core.specs.declared.events.What.TheVariants.{Retire as RetireEvent, Sync as SyncEvent}
use Rattle.bm_check.specs.contracts.orders.OrderOrd.TheImpl as order_order
use Rattle.bm_check.specs.declared.orders.Order.{Order}
use Rattle.bm_check.specs.declared.orders.Order.TheVariants.{Close, Retire, Sync}
use Rattle.bm_check.specs.declared.orders.Orders.{Orders}

abbrev pub same_order : Order → Order → Bool
same_order (Close s a b c d) (Close t e f g h) =
    s == t && (a == e && b == f && c == g && d == h)
same_order (Retire s h) (Retire t i) = s == t && h == i
same_order Sync Sync = true
same_order _ _ = false

-- what the event carries out
abbrev pub order_in : What → Option Order
order_in (CloseEvent server f closed) = Some (Close server.0 f.src f.dst f.sport f.dport)
order_in (RetireEvent server h at result) = Some (Retire server.0 h)
order_in SyncEvent = Some Sync
order_in _ = None

abbrev pub is_order : Option Order → Order → Bool
is_order None q = false
is_order (Some order) q = same_order order q

-- the event carries out this order
abbrev pub carries : What → Order → Bool
carries what q = is_order (order_in what) q

-- the order is a request to retire one of the server's first n shards
abbrev pub asks_below : ℕ → ℕ → Order → Bool
asks_below server n (Retire s h) = server == s && nat_lt h n
asks_below server n _ = false

-- the command gives this order, where servers have this many shards
abbrev pub asks : ℕ → Command → Order → Bool
asks shards (CloseCommand at server f) q =
    same_order (Close server.0 f.src f.dst f.sport f.dport) q
asks shards (RetireCommand at server) q = asks_below server.0 shards q
asks shards (SyncCommand at) q = same_order Sync q
asks shards _ q = false

-- how often the commands give the order
abbrev pub asked : Stage → Order → ℕ
asked stage q = count_of (λ c. asks stage.script.setting.shards c q) stage.script.commands

-- how often the events carry it out
abbrev pub carried : List Event → Order → ℕ
carried past q = counts past (λ what. carries what q)

-- a number, if it isn't 0
abbrev pub positive : ℕ → Option ℕ
positive zero = None
positive (suc n) = Some (suc n)

abbrev pub open_in : Orders → Order → Option ℕ
open_in orders q = tree.get (order_order.ghosts).cmp orders.counts q

-- each order is still to be carried out so often
abbrev pub Opens : (Order → ℕ) → Orders → Type 0
Opens f orders = (q : Order) → open_in orders q ≡ positive (f q)
