-- The host's block for indices of a copy.
use Rattle.std.proofs.Common.{◌≡◌, ℕ, ◌+◌, ◌<◌, ◌≤◌, Option, Some, None, IfSome, IsSome, arith, ⊎_elim, refl, sym, subst, ◌∙◌, ap}
use Rattle.std.proofs.lemmas.Bool.{cases_lt}
use Rattle.sk_base.specs.Shape.{cells_of}
use Rattle.sk_ranges.specs.declared.state.State.TheVariants.{Stale, Owner}
use Rattle.sk_copy_states.specs.declared.held.Held.{Held}
use Rattle.sk_copy_states.specs.Held.{IsFit}
use Rattle.sk_copy_states.specs.Copies.{ReachesIn, home_in, store_in, state_in}
use Rattle.sk_copy_states.specs.Stores.{StoreView, IsBlockOf, len_in}
use Rattle.sk_coherence_laws.specs.Directory.{DirectoryView, copy_at, store_at, LiesInside, IsSound}
use Rattle.sk_coherence_laws.specs.HostBlocks.{home_at, IsHostBlock, IsHostHome}
use Rattle.sk_coherence_laws.proofs.StateLemmas.{owner_not_stale}
use Rattle.sk_coherence_laws.proofs.SourceLemmas.{reaches_readable}
use Rattle.sk_coherence.specs.Evicts.{OwnsNone, IsBackHome, Retreats}

inside_of : (d : DirectoryView) (o : Option Held) (s lo hi : ℕ) → LiesInside d (home_in o) → IsSome o → store_in o ≡ Some s → ReachesIn o lo hi → hi ≤ len_in (store_at d s)
inside_of d None s lo hi inside there of reaches = cc
inside_of d (Some held) s lo hi inside there of reaches =
    let same : held.store ≡ s = grind arith in
    omega (arith, inside.1, reaches.1, ap (λ (x : ℕ). len_in (store_at d x)) same)

below_cells : (o : Option StoreView) (i : ℕ) → i < len_in o → IfSome o (λ st. i < cells_of st.shape)
below_cells None i below = tt
below_cells (Some st) i below = below

-- the first of some indices of a copy is one of its store
pub index_inside : (d : DirectoryView) (copy s lo hi : ℕ) → IsSound d → IsSome (copy_at d copy) → store_in (copy_at d copy) ≡ Some s → ReachesIn (copy_at d copy) lo hi → lo < hi
    → IfSome (store_at d s) (λ st. lo < cells_of st.shape)
index_inside d copy s lo hi sound there of reaches some = below_cells (store_at d s) lo
    (omega (arith, some, inside_of d (copy_at d copy) s lo hi (sound.inside copy) there of reaches))

-- a block with an index of the store is one of its blocks
pub block_around : (o : Option StoreView) (lo hi i : ℕ) → lo ≤ i → i < hi → IfSome o (λ st. hi ≤ cells_of st.shape) → IfSome o (IsBlockOf lo hi)
block_around None lo hi i above below within = tt
block_around (Some st) lo hi i above below within = record { some = omega (arith, above, below); inside = within }

reaches_at : (held : Held) (i lo hi : ℕ) → held.lo ≡ lo → held.hi ≡ hi → ReachesIn (Some held) i (i + 1) → (lo ≤ i) × (i < hi)
reaches_at held i lo hi one two is = (omega (arith, one, is.0), omega (arith, two, is.1))

-- an owned index is one of the block
pub owner_within : (o : Option Held) (i lo hi : ℕ) → IfSome o IsFit → IfSome o (λ held. (lo ≡ held.lo) × (hi ≡ held.hi)) → state_in o i ≡ Owner → (lo ≤ i) × (i < hi)
owner_within None i lo hi fit is own = absurd (owner_not_stale (sym own))
owner_within (Some held) i lo hi fit is own = reaches_at held i lo hi (sym is.0) (sym is.1)
    (reaches_readable (Some held) i (i + 1) (omega arith) fit
    (λ j above below stale. owner_not_stale (sym own ∙ subst (λ (x : ℕ). state_in (Some held) x ≡ Stale) (omega (arith, above, below)) stale)))

-- one more part is not owned
pub none_more : (a b n : DirectoryView) (copy lo mid hi : ℕ) → Retreats b n copy → OwnsNone (copy_at b copy) lo mid → OwnsNone (copy_at n copy) mid hi → OwnsNone (copy_at n copy) lo hi
none_more a b n copy lo mid hi r before part i above below own = ⊎_elim
    (λ (x : i < mid). before i above x (r.owns i own))
    (λ (x : mid ≤ i). part i x below own)
    (cases_lt i mid)

-- the host's block of an index of a store
pub index-home : (d : DirectoryView) (s i lo hi : ℕ) → IsSome (store_at d s) → IfSome (store_at d s) (λ st. i < cells_of st.shape)
    → IfSome (store_at d s) (λ st. IsHostBlock d s st i lo hi) → (k : IsHostHome d (home_at s 0 lo hi)) × (k.index ≡ i)
index-home d s i lo hi there inside block = on (store_at d s) refl there inside block
  where
    on : (o : Option StoreView) → store_at d s ≡ o → IsSome o → IfSome o (λ st. i < cells_of st.shape) → IfSome o (λ st. IsHostBlock d s st i lo hi)
        → (k : IsHostHome d (home_at s 0 lo hi)) × (k.index ≡ i)
    on None is there inside block = cc
    on (Some st) is there inside block = (record { host = refl; store = st; is = is; index = i; inside = inside; block = block }, refl)

-- a block to which cells of a copy go back: that of an index that it owns
pub back-home : (d : DirectoryView) (copy s i lo hi : ℕ) → store_in (copy_at d copy) ≡ Some s → state_in (copy_at d copy) i ≡ Owner → IsSome (store_at d s)
    → IfSome (store_at d s) (λ st. i < cells_of st.shape) → IfSome (store_at d s) (λ st. IsHostBlock d s st i lo hi) → IsBackHome d copy (home_at s 0 lo hi)
back-home d copy s i lo hi of own there inside block =
    let k = index-home d s i lo hi there inside block in
    record { store = of; host = k.0; owns = subst (λ (j : ℕ). state_in (copy_at d copy) j ≡ Owner) (sym k.1) own }
