-- A copy that is listed.
use Rattle.std.specs.Prelude.{◌≡◌, ◌≢◌, ℕ, List, IfSome, IsSome}
use Rattle.sk_copy_states.specs.declared.held.Held.{Held}
use Rattle.sk_copy_states.specs.Held.{IsFresh}
use Rattle.sk_copy_states.specs.Copies.{held_in}
use Rattle.sk_copy_states.specs.Stores.{StoreView, PutsStore, with_copy}

-- a new copy of store s, whose view was st, is listed: all stale, and not pinned
pub record Enters (old new : List (ℕ × Held)) (before now : List (ℕ × StoreView)) (id s space lo hi : ℕ) (st : StoreView) : Type 0 where
  pub there : IsSome (held_in new id)
  pub fresh : IfSome (held_in new id) (IsFresh s space lo hi st.room)
  pub others : (q : ℕ) → q ≢ id → held_in new q ≡ held_in old q
  pub stores : PutsStore before now s (with_copy id st)
