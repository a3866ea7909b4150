-- A range in one of the host's blocks lies in the block of its first index.
use Rattle.std.proofs.Common.{◌≡◌, ℕ, ◌+◌, ◌*◌, ◌-◌, ◌/◌, ◌<◌, ◌≤◌, min, Bool, true, false, Option, Some, None, IfSome, IsSome, IsSomeAnd, List, Result, Ok, Err, IfOk, arith, ⊎_elim, refl, sym, ◌∙◌, ap}
use Rattle.std.proofs.lemmas.Bool.{cases_lt}
use Rattle.std.proofs.lemmas.Nat.{div-mul-add}
use Rattle.sk_base.specs.Shape.{cells_of}
use Rattle.sk_copies.specs.declared.CopyId.{CopyId}
use Rattle.sk_spaces.specs.declared.memory.Memory.{Memory}
use Rattle.sk_copy_states.specs.Copies.{home_in}
use Rattle.sk_copy_states.specs.Stores.{StoreView}
use Rattle.sk_coherence_laws.specs.Directory.{DirectoryView, copy_at, store_at}
use Rattle.sk_coherence_laws.specs.HostBlocks.{HasBlock, IsHostBlock, home_at}
use Rattle.sk_container.specs.Parts.{IsPart, IsHostOf, IsHostCopy}
use Rattle.sk_container.proofs.HostLines.{lies-so, there-with}

-- two indices of one tile
same_tile : (i k tile : ℕ) → k * tile ≤ i → i < k * tile + tile → i / tile ≡ k
same_tile i k tile above below =
    ap (λ (n : ℕ). n / tile) (let e : i ≡ k * tile + (i - k * tile) = omega (arith, above) in e) ∙ div-mul-add k tile (i - k * tile) (omega (arith, above, below))

module _ (d : DirectoryView) (s : ℕ) (store : StoreView) where
  abbrev cells : ℕ
  cells = cells_of store.shape

  -- a block of the host ends in the store
  pub block-inside : (at from to : ℕ) → IsHostBlock d s store at from to → to ≤ cells
  block-inside at from to b = ⊎_elim (λ (bad : cells < to). absurd (wrong bad store.tile refl store.rebound refl)) (λ (ok : to ≤ cells). ok) (cases_lt cells to)
    where
      none : cells < to → HasBlock d s 0 0 cells → ⊥
      none bad has = omega (arith, bad, (b.whole has).1)

      wrong : cells < to → (o : Option ℕ) → store.tile ≡ o → (r : Bool) → store.rebound ≡ r → ⊥
      wrong bad None is r re = omega (arith, bad, (b.untiled is).1)
      wrong bad (Some tile) is true re = omega (arith, bad, (b.anew re).1)
      wrong bad (Some tile) is false re = omega (arith, bad, (b.tiled tile is re (none bad)).1)

  pub part-below : (at from to i lo hi low high : ℕ) → IsHostBlock d s store at from to → IsHostBlock d s store i lo hi
      → from ≤ low → high ≤ to → (low < cells → i ≡ low) → (low ≡ cells → i + 1 ≡ cells) → low ≤ high → i < hi → high ≤ hi
  part-below at from to i lo hi low high b c above below first last ordered ends =
      ⊎_elim (λ (bad : hi < high). absurd (wrong bad store.tile refl store.rebound refl)) (λ (ok : high ≤ hi). ok) (cases_lt hi high)
    where
      within : to ≤ cells
      within = block-inside at from to b

      none : hi < high → HasBlock d s 0 0 cells → ⊥
      none bad has = omega (arith, bad, below, within, (c.whole has).1)

      apart : (tile : ℕ) → hi < high → (from ≡ at / tile * tile) × (to ≡ min (from + tile) cells) → (lo ≡ i / tile * tile) × (hi ≡ min (lo + tile) cells) → low < cells → ⊥
      apart tile bad one two inside =
          let e : i ≡ low = first inside in
          let k : i / tile ≡ at / tile = same_tile i (at / tile) tile (omega (arith, above, e, one.0)) (omega (arith, e, one.0, one.1, below, bad, ends)) in
          let same : lo ≡ from = two.0 ∙ ap (λ (n : ℕ). n * tile) k ∙ sym one.0 in
          omega (arith, same, one.1, two.1, bad, below)

      wrong : hi < high → (o : Option ℕ) → store.tile ≡ o → (r : Bool) → store.rebound ≡ r → ⊥
      wrong bad None is r re = omega (arith, bad, below, within, (c.untiled is).1)
      wrong bad (Some tile) is true re = omega (arith, bad, below, within, (c.anew re).1)
      wrong bad (Some tile) is false re = ⊎_elim
          (λ (inside : low < cells). apart tile bad (b.tiled tile is re (none bad)) (c.tiled tile is re (none bad)) inside)
          (λ (out : cells ≤ low). let at_end : low ≡ cells = omega (arith, out, ordered, below, within) in omega (arith, last at_end, ends, bad, below, within))
          (cases_lt low cells)

pub part-inside : (d : DirectoryView) (s lo hi n : ℕ) → IsPart d s lo hi → IfSome (store_at d s) (λ store. n ≡ cells_of store.shape) → hi ≤ n
part-inside d s lo hi n p len = go (store_at d s) refl p.inside p.block len
  where
    go : (o : Option StoreView) → store_at d s ≡ o → IsSomeAnd o (λ store. p.at < cells_of store.shape) → IfSome o (λ store. IsHostBlock d s store p.at p.from p.to)
        → IfSome o (λ store. n ≡ cells_of store.shape) → hi ≤ n
    go None is inside block len = absurd inside
    go (Some store) is inside block len = omega (arith, block-inside d s store p.at p.from p.to block, p.below, len)

pub part-block : (d : DirectoryView) (s low high n i lo hi : ℕ) → IsPart d s low high → IfSome (store_at d s) (λ store. n ≡ cells_of store.shape)
    → IfSome (store_at d s) (λ store. IsHostBlock d s store i lo hi) → (low < n → i ≡ low) → (low ≡ n → i + 1 ≡ n) → low ≤ high → i < hi → high ≤ hi
part-block d s low high n i lo hi p len two first last ordered ends = go (store_at d s) p.inside p.block len two
  where
    go : (o : Option StoreView) → IsSomeAnd o (λ store. p.at < cells_of store.shape) → IfSome o (λ store. IsHostBlock d s store p.at p.from p.to)
        → IfSome o (λ store. n ≡ cells_of store.shape) → IfSome o (λ store. IsHostBlock d s store i lo hi) → high ≤ hi
    go None inside block len two = absurd inside
    go (Some store) inside block len two = part-below d s store p.at p.from p.to i lo hi low high block two p.above p.below
        (λ l. first (omega (arith, l, len))) (λ e. omega (arith, last (omega (arith, e, len)), len)) ordered ends

pub len_at : (o : Option StoreView) (shape : List ℕ) (n : ℕ) → IfSome o (λ store. shape ≡ store.shape) → n ≡ cells_of shape → IfSome o (λ store. n ≡ cells_of store.shape)
len_at None shape n is len = tt
len_at (Some store) shape n is len = len ∙ ap cells_of is

pub part-above : (low high n i lo : ℕ) → (low < n → i ≡ low) → (low ≡ n → i + 1 ≡ n) → low ≤ high → high ≤ n → lo ≤ i → lo ≤ low
part-above low high n i lo first last ordered inside above = ⊎_elim
    (λ (l : low < n). omega (arith, first l, above))
    (λ (h : n ≤ low). let e : low ≡ n = omega (arith, h, ordered, inside) in omega (arith, last e, e, above))
    (cases_lt low n)

-- a store's cells, counted twice
pub len_same : (o : Option StoreView) (shape : List ℕ) (n k : ℕ) → IfSome o (λ store. shape ≡ store.shape) → n ≡ cells_of shape → IsSomeAnd o (λ store. k ≡ cells_of store.shape) → n ≡ k
len_same None shape n k is len all = absurd all
len_same (Some store) shape n k is len all = len ∙ ap cells_of is ∙ sym all

pub if_ok_host : (a b : DirectoryView) (s low high from to : ℕ) (r : Result CopyId Memory)
    → IfOk r (λ copy. home_in (copy_at b copy.id) ≡ Some (home_at s 0 from to)) → IsHostOf a s low high (home_at s 0 from to)
    → IfOk r (λ copy. IsHostCopy a b s copy.id low high)
if_ok_host a b s low high from to (Ok copy) is host = lies-so b copy.id (home_at s 0 from to) (IsHostOf a s low high) is host
if_ok_host a b s low high from to (Err e) is host = tt

-- the index in whose block the range lies is one of the store's
pub inside_at : (o : Option StoreView) (n i : ℕ) → IfSome o (λ store. n ≡ cells_of store.shape) → i < n → IfSome o (λ store. i < cells_of store.shape)
inside_at None n i len inside = tt
inside_at (Some store) n i len inside = omega (arith, len, inside)

pub part-there : (d : DirectoryView) (s lo hi : ℕ) → IsPart d s lo hi → IsSome (store_at d s)
part-there d s lo hi p = (there-with (store_at d s) (λ store. p.at < cells_of store.shape) p.inside).0
