-- The steps that tell of events, apart from those that only move cells and make room, and when some of them are the kernels of
-- calls.
use Rattle.std.specs.Prelude.{◌≡◌, ℕ, ◌+◌, ◌<◌, ◌≤◌, ◌==◌, Bool, true, false, ◌||◌, if◌then◌else◌, List, [], ◌∷◌, ◌++◌, map, filter, replicate, IsPermutation, ℤ, Some}
use Rattle.std.specs.List.{AllZip}
use Rattle.std.specs.declared.option.Option.{Option}
use Rattle.sk_blocks.specs.Kernels.{KernelRun}
use Rattle.sk_legality.specs.Legality.{after_states}
use Rattle.sk_spaces.specs.Machine.{Machine, Home}
use Rattle.sk_spaces.specs.Rules.{IsThere, after_by}
use Rattle.sk_spaces.specs.declared.step.KernelKind.{KernelKind}
use Rattle.sk_spaces.specs.declared.step.KernelKind.TheVariants.{Element, Fold, Join, Scan, Value}
use Rattle.sk_spaces.specs.declared.step.Step.{Step}
use Rattle.sk_spaces.specs.declared.step.Step.TheVariants as line

-- a step may stand between those of events: it makes or frees room, or moves cells between copies of one store
abbrev pub is_between : Step → Bool
is_between (line.Store store ty shape) = true
is_between (line.Alloc copy store space lo hi) = true
is_between (line.Free copy) = true
is_between (line.Stale store lo hi) = true
is_between (line.Copy source target lo hi) = true
is_between (line.Back source target lo hi) = true
is_between (line.Send message source target lo hi) = true
is_between (line.Deliver message) = true
is_between step = false

-- a step, and what the numbers in it stand for: the memories before it
pub record StepIn : Type 0 where
  pub before : Machine
  pub step : Step

-- the other steps of a list, from some memories on
abbrev pub own_steps : Machine → List Step → List StepIn
own_steps m [] = []
own_steps m (step ∷ steps) =
    if is_between step then own_steps (after_by after_states m step) steps
    else record { before = m; step = step } ∷ own_steps (after_by after_states m step) steps

abbrev pub steps_of : List StepIn → List Step
steps_of = map (λ (at : StepIn). at.step)

-- a copy is there, and is one of the store
abbrev pub IsCopyOf : Machine → (copy store : ℕ) → Type 0
IsCopyOf m copy store = IsThere (m.copies copy) (λ (home : Home). home.store ≡ store)

-- the same of a store that there may be none of
abbrev pub IsCopyOfSome : Machine → (copy : ℕ) → Option ℕ → Type 0
IsCopyOfSome m copy store = IsThere (m.copies copy) (λ (home : Home). store ≡ Some home.store)

-- ---- kernels

-- a kernel of a call, by the call's number
pub record CallRun : Type 0 where
  pub call : ℕ
  pub run : KernelRun

abbrev pub runs_of : (call : ℕ) → List KernelRun → List CallRun
runs_of call = map (λ (run : KernelRun). record { call = call; run = run })

-- the step is this kernel: its call, kind, part and range, and it writes in this space
abbrev pub IsKernelRun : CallRun → StepIn → Type 0
IsKernelRun wanted at = elim at.step [
  | line.Kernel call kind part lo hi out trapped inputs ↦
      (call ≡ wanted.call) × (kind ≡ wanted.run.kind) × (part ≡ wanted.run.part) × (lo ≡ wanted.run.lo) × (hi ≡ wanted.run.hi)
      × IsThere (at.before.copies out) (λ (home : Home). home.space ≡ wanted.run.space)
  | _ ↦ ⊥
]

abbrev pub is_join : KernelKind → Bool
is_join Join = true
is_join Element = false
is_join Fold = false
is_join Scan = false
is_join Value = false

-- the kernel joins this total with another one
abbrev pub joins_total : (total : ℕ) → CallRun → Bool
joins_total total wanted =
    if is_join wanted.run.kind then wanted.run.part == total || wanted.run.lo == total else false

-- The steps are these kernels, each once, in any order but for joins: those that have a total in common come in the order in
-- which they are listed.
pub record AreRuns (wanted : List CallRun) (steps : List StepIn) : Type 0 where
  pub order : List CallRun
  pub once : IsPermutation wanted order
  pub joins : (total : ℕ) → filter (joins_total total) order ≡ filter (joins_total total) wanted
  pub each : AllZip IsKernelRun order steps

-- the steps are the kernels of a call, one kind after another
abbrev pub AreKinds : (call : ℕ) → List (List KernelRun) → List StepIn → Type 0
AreKinds call [] steps = steps ≡ []
AreKinds call (kind ∷ kinds) steps =
    (ran : List StepIn) × (later : List StepIn) × (steps ≡ ran ++ later) × AreRuns (runs_of call kind) ran × AreKinds call kinds later

abbrev pub is_kernel : StepIn → Bool
is_kernel at = elim at.step [
  | line.Kernel call kind part lo hi out trapped inputs ↦ true
  | _ ↦ false
]

-- ---- steps that write and read

-- the step writes these cells, which are all that the store has
abbrev pub WritesWhole : (store : ℕ) → (cells : List ℤ) → StepIn → Type 0
WritesWhole store cells at = elim at.step [
  | line.Fill copy lo hi cell ↦ IsCopyOf at.before copy store × (lo ≡ 0) × (cells ≡ replicate hi cell)
  | line.Write copy lo written ↦ IsCopyOf at.before copy store × (lo ≡ 0) × (written ≡ cells)
  | _ ↦ ⊥
]

-- the step writes one cell of the store
abbrev pub WritesCell : (store : Option ℕ) → (index : ℕ) → (cell : ℤ) → StepIn → Type 0
WritesCell store index cell at = elim at.step [
  | line.Poke copy written value ↦ IsCopyOfSome at.before copy store × (written ≡ index) × (value ≡ cell)
  | _ ↦ ⊥
]

-- the step reads one cell of the store
abbrev pub ReadsCell : (store : Option ℕ) → (index : ℕ) → StepIn → Type 0
ReadsCell store index at = elim at.step [
  | line.Read copy lo hi ↦ IsCopyOfSome at.before copy store × (lo ≡ index) × (hi ≡ index + 1)
  | _ ↦ ⊥
]

-- the step reads from the store
abbrev pub ReadsStore : (store : Option ℕ) → StepIn → Type 0
ReadsStore store at = elim at.step [
  | line.Read copy lo hi ↦ IsCopyOfSome at.before copy store
  | _ ↦ ⊥
]

-- the step reads this index of the store, among others
abbrev pub ReadsIndex : (store : Option ℕ) → (index : ℕ) → StepIn → Type 0
ReadsIndex store index at = elim at.step [
  | line.Read copy lo hi ↦ IsCopyOfSome at.before copy store × (lo ≤ index) × (index < hi)
  | _ ↦ ⊥
]

-- the step gives one store the cells of another at some indices
abbrev pub Clones : (source : Option ℕ) → (target : ℕ) → StepIn → Type 0
Clones source target at = elim at.step [
  | line.Clone copy other lo hi ↦ IsCopyOfSome at.before copy source × IsCopyOf at.before other target
  | _ ↦ ⊥
]

-- the step clones this index, among others
abbrev pub ClonesIndex : (index : ℕ) → StepIn → Type 0
ClonesIndex index at = elim at.step [
  | line.Clone copy other lo hi ↦ (lo ≤ index) × (index < hi)
  | _ ↦ ⊥
]

-- the step is a kernel that writes in the store
abbrev pub RunsInto : (store : ℕ) → StepIn → Type 0
RunsInto store at = elim at.step [
  | line.Kernel call kind part lo hi out trapped inputs ↦ IsCopyOf at.before out store
  | _ ↦ ⊥
]
