-- The rules of a trace: where a line is legal, and what it does. How calls and their kernels are judged, and what a kernel
-- does, is open here, since those rules speak of skeletons.
use Rattle.std.specs.Prelude.{◌≡◌, ◌≢◌, ℕ, ◌+◌, ◌-◌, ◌<◌, ◌≤◌, List, [], ◌∷◌, length, slice_index_or, Some, None, IsSome, IsSomeAnd, ⊤, pos}
use Rattle.std.specs.declared.option.Option.{Option}
use Rattle.sk_base.specs.Shape.{cells_of}
use Rattle.sk_spaces.specs.declared.step.Step.{Step}
use Rattle.sk_spaces.specs.declared.step.Step.TheVariants as line
use Rattle.sk_spaces.specs.Machine.{Machine, Mark, stale, owner, Home, CopyState, unused, live, freed, MemoryLine, StoreLine, Message, flying, replaced, stales, fills, hands_over, writes, allocates, frees, sends, delivers}

-- a copy is there, and this is true of where it lies
abbrev pub IsThere : CopyState → (Home → Type 0) → Type 0
IsThere unused P = ⊥
IsThere (live home) P = P home
IsThere freed P = ⊥

-- the indices lo ≤ i < hi are among those of the copy
pub record Covers (lo hi : ℕ) (home : Home) : Type 0 where
  pub above : home.lo ≤ lo
  pub ordered : lo ≤ hi
  pub below : hi ≤ home.hi

-- the indices lo ≤ i < hi are among those of the store
pub record IsInside (lo hi : ℕ) (store : StoreLine) : Type 0 where
  pub ordered : lo ≤ hi
  pub below : hi ≤ cells_of store.shape

-- the copy is valid or owner at each of these indices
abbrev pub IsReadable : Machine → ℕ → ℕ → ℕ → Type 0
IsReadable m copy lo hi = (i : ℕ) → lo ≤ i → i < hi → m.marks copy i ≢ stale

-- the copy is owner at each of these indices
abbrev pub IsOwner : Machine → ℕ → ℕ → ℕ → Type 0
IsOwner m copy lo hi = (i : ℕ) → lo ≤ i → i < hi → m.marks copy i ≡ owner

-- the first copy's cells may go to the second
pub record CanCopy (m : Machine) (source target lo hi : ℕ) : Type 0 where
  pub homes : IsThere (m.copies source) (λ one. IsThere (m.copies target) (λ other.
      (one.store ≡ other.store) × Covers lo hi one × Covers lo hi other))
  pub apart : source ≢ target
  pub readable : IsReadable m source lo hi

-- the two copies lie in different spaces
abbrev pub AreApart : Machine → ℕ → ℕ → Type 0
AreApart m source target = IsThere (m.copies source) (λ one. IsThere (m.copies target) (λ other. one.space ≢ other.space))

-- the copy is in the host's space and has these indices
abbrev pub IsOnHost : Machine → ℕ → ℕ → ℕ → Type 0
IsOnHost m copy lo hi = IsThere (m.copies copy) (λ home. (home.space ≡ 0) × Covers lo hi home)

-- there is such a rank, or it is the host, which has no end; and so many cells more fit into its space
pub record HasRoom (m : Machine) (space len : ℕ) (line : MemoryLine) : Type 0 where
  pub rank : space ≤ line.ranks
  pub room : 0 < space → m.used space + len ≤ line.capacity

-- the cells of two stores, both on the host
pub record CanClone (m : Machine) (source target lo hi : ℕ) : Type 0 where
  pub stores : IsThere (m.copies source) (λ one. IsThere (m.copies target) (λ other. one.store ≢ other.store))
  pub from : IsOnHost m source lo hi
  pub to : IsOnHost m target lo hi
  pub readable : IsReadable m source lo hi

-- where a line other than the first is legal, given where calls and kernels are
abbrev pub IsAllowedBy : (judge : Machine → Step → Type 0) → Machine → Step → Type 0
IsAllowedBy judge m (line.Memory ranks capacity tile lineage) = ⊥
IsAllowedBy judge m (line.Store store ty shape) = m.stores store ≡ None
IsAllowedBy judge m (line.Alloc copy store space lo hi) =
    (m.copies copy ≡ unused) × (lo < hi) × IsSomeAnd (m.stores store) (IsInside lo hi)
    × IsSomeAnd m.memory (HasRoom m space (hi - lo))
IsAllowedBy judge m (line.Free copy) = IsThere (m.copies copy) (λ home. ⊤) × ((i : ℕ) → m.marks copy i ≢ owner)
IsAllowedBy judge m (line.Stale store lo hi) = IsSomeAnd (m.stores store) (IsInside lo hi)
IsAllowedBy judge m (line.Copy source target lo hi) = CanCopy m source target lo hi
IsAllowedBy judge m (line.Back source target lo hi) = CanCopy m source target lo hi × IsOwner m source lo hi
IsAllowedBy judge m (line.Send message source target lo hi) =
    (m.messages message ≡ None) × CanCopy m source target lo hi × AreApart m source target
IsAllowedBy judge m (line.Deliver message) = IsSomeAnd (m.messages message) (λ sent.
    (sent.fate ≡ flying) × IsThere (m.copies sent.target) (λ home. ⊤))
IsAllowedBy judge m (line.Fill copy lo hi cell) = IsOnHost m copy lo hi
IsAllowedBy judge m (line.Write copy lo cells) = IsOnHost m copy lo (lo + length cells)
IsAllowedBy judge m (line.Poke copy index cell) = IsOnHost m copy index (index + 1)
IsAllowedBy judge m (line.Clone source target lo hi) = CanClone m source target lo hi
IsAllowedBy judge m (line.Call call text instance variant parts recorded result operands uniforms settings) =
    judge m (line.Call call text instance variant parts recorded result operands uniforms settings)
IsAllowedBy judge m (line.Kernel call kind part lo hi out trapped inputs) =
    judge m (line.Kernel call kind part lo hi out trapped inputs)
IsAllowedBy judge m (line.Read copy lo hi) = IsOnHost m copy lo hi × IsReadable m copy lo hi
IsAllowedBy judge m (line.Bind container store) = IsSome (m.stores store)
IsAllowedBy judge m (line.Unbind container) = IsSome (m.bound container)
IsAllowedBy judge m line.Flush = ⊤

-- where a line is legal: the line of the memories comes first, once, with a tile of some cells
abbrev pub IsLegalBy : (judge : Machine → Step → Type 0) → Machine → Step → Type 0
IsLegalBy judge m (line.Memory ranks capacity tile lineage) = (m.memory ≡ None) × (0 < tile)
IsLegalBy judge m step = IsSome m.memory × IsAllowedBy judge m step

-- what a line does, given what a kernel does
abbrev pub after_by : (effect : Machine → Step → Machine) → Machine → Step → Machine
after_by effect m (line.Memory ranks capacity tile lineage) = record m {
  memory = Some (record {
    ranks = ranks;
    capacity = capacity;
    tile = tile;
    lineage = lineage;
  });
}
after_by effect m (line.Store store ty shape) = record m { stores = replaced m.stores store (Some (record { ty = ty; shape = shape })) }
after_by effect m (line.Alloc copy store space lo hi) = allocates copy (record { store = store; space = space; lo = lo; hi = hi }) m
after_by effect m (line.Free copy) = frees copy m
after_by effect m (line.Stale store lo hi) = stales store lo hi m
after_by effect m (line.Copy source target lo hi) = fills target lo hi (m.cells source) m
after_by effect m (line.Back source target lo hi) = hands_over source target lo hi m
after_by effect m (line.Send message source target lo hi) = sends message source target lo hi m
after_by effect m (line.Deliver message) = delivers message m
after_by effect m (line.Fill copy lo hi cell) = writes copy lo hi (λ i. cell) m
after_by effect m (line.Write copy lo cells) = writes copy lo (lo + length cells) (λ i. slice_index_or cells (i - lo) (pos 0)) m
after_by effect m (line.Poke copy index cell) = writes copy index (index + 1) (λ i. cell) m
after_by effect m (line.Clone source target lo hi) = writes target lo hi (m.cells source) m
after_by effect m (line.Call call text instance variant parts recorded result operands uniforms settings) =
    record m {
      calls = replaced m.calls call (Some (record {
        line = text;
        instance = instance;
        variant = variant;
        parts = parts;
        recorded = recorded;
        result = result;
        operands = operands;
        uniforms = uniforms;
        settings = settings;
      }));
    }
after_by effect m (line.Kernel call kind part lo hi out trapped inputs) =
    effect m (line.Kernel call kind part lo hi out trapped inputs)
after_by effect m (line.Read copy lo hi) = m
after_by effect m (line.Bind container store) = record m { bound = replaced m.bound container (Some store) }
after_by effect m (line.Unbind container) = record m { bound = replaced m.bound container None }
after_by effect m line.Flush = m

-- the lines are legal one after another
abbrev pub AreLegalBy : (judge : Machine → Step → Type 0) → (effect : Machine → Step → Machine) → Machine → List Step → Type 0
AreLegalBy judge effect m [] = ⊤
AreLegalBy judge effect m (step ∷ steps) = IsLegalBy judge m step × AreLegalBy judge effect (after_by effect m step) steps

-- what the lines do one after another
abbrev pub after_all_by : (effect : Machine → Step → Machine) → Machine → List Step → Machine
after_all_by effect m [] = m
after_all_by effect m (step ∷ steps) = after_all_by effect (after_by effect m step) steps

-- ---- the lines of memories alone: no call and no kernel is legal, and a kernel does nothing

abbrev pub no_call : Machine → Step → Type 0
no_call m step = ⊥

abbrev pub no_effect : Machine → Step → Machine
no_effect m step = m

abbrev pub IsAllowed : Machine → Step → Type 0
IsAllowed = IsAllowedBy no_call

abbrev pub IsLegal : Machine → Step → Type 0
IsLegal = IsLegalBy no_call

abbrev pub after : Machine → Step → Machine
after = after_by no_effect

abbrev pub AreLegal : Machine → List Step → Type 0
AreLegal = AreLegalBy no_call no_effect

abbrev pub after_all : Machine → List Step → Machine
after_all = after_all_by no_effect
