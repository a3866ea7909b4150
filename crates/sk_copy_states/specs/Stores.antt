-- Stores by number.
use Rattle.std.specs.Prelude.{◌≡◌, ◌≢◌, ℕ, ◌+◌, ◌-◌, ◌<◌, ◌≤◌, Bool, true, false, List, [], ◌∷◌, ◌++◌, length, take, drop, slice_index, Option, Some, None, IfSome, option_map}
use Rattle.std.specs.Ordering.{nat_cmp}
use Rattle.std.specs.BTreeMap.{is_at}
use Rattle.std.specs.Map.{lookup}
use Rattle.sk_base.specs.declared.number.Ty.{Ty}
use Rattle.sk_base.specs.Shape.{cells_of}

-- the type of a store's cells, its sizes, the tile of a recorded version, whether its cells were ever written anew, for how
-- many more changes each of its copies has room, and the numbers of its copies, which rise
pub record StoreView : Type 0 where
  pub ty : Ty
  pub shape : List ℕ
  pub tile : Option ℕ
  pub rebound : Bool
  pub room : ℕ
  pub copies : List ℕ

abbrev pub store_of : List (ℕ × StoreView) → ℕ → Option StoreView
store_of stores id = lookup (is_at (nat_cmp id)) stores

-- the numbers of the copies of a store
abbrev pub copies_in : Option StoreView → List ℕ
copies_in None = []
copies_in (Some store) = store.copies

-- for how many more changes each copy has room
abbrev pub changes_in : Option StoreView → ℕ
changes_in None = 0
changes_in (Some store) = store.room

-- how many cells the store has
abbrev pub len_in : Option StoreView → ℕ
len_in None = 0
len_in (Some store) = cells_of store.shape

-- a tile has some cells
abbrev pub HasTile : StoreView → Type 0
HasTile store = IfSome store.tile (λ tile. 0 < tile)

-- each number is below the next one
abbrev pub AreRising : List ℕ → Type 0
AreRising ids = (j k : ℕ) → j < k → k < length ids → slice_index ids j < slice_index ids k

-- with the room for a write, and for cells anew that may have gone before it, used up
abbrev pub after_write : StoreView → StoreView
after_write store = record store { room = store.room - 2 }

-- the room for a write, and for cells anew that may have gone before it, is used up in one store; the others are as before
pub record UsesWrite (old new : List (ℕ × StoreView)) (id : ℕ) : Type 0 where
  pub here : store_of new id ≡ option_map after_write (store_of old id)
  pub others : (s : ℕ) → s ≢ id → store_of new s ≡ store_of old s

-- a store that was opened
abbrev pub opened : Ty → List ℕ → Option ℕ → StoreView
opened ty shape tile = record { ty = ty; shape = shape; tile = tile; rebound = false; room = 0; copies = [] }

-- the store with one number is this one now; every other store is as before
pub record PutsStore (old new : List (ℕ × StoreView)) (id : ℕ) (store : StoreView) : Type 0 where
  pub here : store_of new id ≡ Some store
  pub others : (s : ℕ) → s ≢ id → store_of new s ≡ store_of old s

-- the store with one copy more
abbrev pub with_copy : ℕ → StoreView → StoreView
with_copy id store = record store { copies = store.copies ++ id ∷ [] }

-- the indices lo ≤ i < hi are a block of the store
pub record IsBlockOf (lo hi : ℕ) (store : StoreView) : Type 0 where
  pub some : lo < hi
  pub inside : hi ≤ cells_of store.shape

-- with room for a write, and for cells anew that may go before it
abbrev pub before_write : StoreView → StoreView
before_write store = record store { room = store.room + 2 }

-- one store has room for a write more; the others are as before
pub record OwesOne (old new : List (ℕ × StoreView)) (id : ℕ) : Type 0 where
  pub here : store_of new id ≡ option_map before_write (store_of old id)
  pub others : (s : ℕ) → s ≢ id → store_of new s ≡ store_of old s

-- its host block is the whole store from then on; the room for one such change is used up
abbrev pub anew : StoreView → StoreView
anew store = record store { rebound = true; room = store.room - 1 }

-- one store is to be written anew; the others are as before
pub record RebindsOne (old new : List (ℕ × StoreView)) (id : ℕ) : Type 0 where
  pub here : store_of new id ≡ option_map anew (store_of old id)
  pub others : (s : ℕ) → s ≢ id → store_of new s ≡ store_of old s

-- a list without one of its numbers
pub record Without (old new : List ℕ) (id : ℕ) : Type 0 where
  pub at : ℕ
  pub inside : at < length old
  pub here : slice_index old at ≡ id
  pub rest : new ≡ take at old ++ drop (at + 1) old

-- the store does not list the copy any more
pub record LosesCopy (id : ℕ) (old new : StoreView) : Type 0 where
  pub same : new ≡ record old { copies = new.copies }
  pub copies : Without old.copies new.copies id
