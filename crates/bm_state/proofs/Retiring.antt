-- Maps of retirements.
use Rattle.std.proofs.Common.{◌≡◌, ℕ, List, [], ◌∷◌, length, refl, arith}
use Rattle.std.specs.BTreeMap as tree
use Rattle.std.specs.BTreeMap.{BTreeMap}
use Rattle.bm_state.specs.contracts.shard_key.ShardKeyOrd.TheImpl as key_order
use Rattle.bm_state.specs.declared.shard_key.ShardKey.{ShardKey}

-- an empty map has the same at any two keys
pub none_in : (m : BTreeMap ShardKey ℕ) (a b : ShardKey) → length m.entries ≡ 0
    → tree.get (key_order.ghosts).cmp m a ≡ tree.get (key_order.ghosts).cmp m b
none_in m a b none = rw (no_items m.entries none) refl
  where
    no_items : (xs : List (ShardKey × ℕ)) → length xs ≡ 0 → xs ≡ []
    no_items [] h = refl
    no_items (x ∷ xs) h = absurd (omega (arith, h))
