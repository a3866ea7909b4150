-- Which steps of a trace each event of a run makes.
use Rattle.std.specs.Prelude.{◌≡◌, ℕ, ◌<◌, Bool, true, false, not, List, [], ◌∷◌, ◌++◌, map, filter, filter_map, flat_map, replicate, All, Any, ℤ, Some, None, IsSomeAnd, option_to_list, slice_get}
use Rattle.std.specs.declared.option.Option.{Option}
use Rattle.sk_base.specs.Shape.{cells_of}
use Rattle.sk_base.specs.declared.choice.Variant.{Variant}
use Rattle.sk_blocks.specs.Kernels.{KernelRun, tile_kernel}
use Rattle.sk_blocks.specs.SettingLines.{told_settings}
use Rattle.sk_isa.specs.declared.object.Object.{Object}
use Rattle.sk_isa.specs.declared.object.Plan.{Plan}
use Rattle.sk_select.specs.declared.tuning.Tuning.{Tuning}
use Rattle.sk_spaces.specs.Machine.{Machine, CallLine, StoreLine}
use Rattle.sk_spaces.specs.declared.step.Step.{Step}
use Rattle.sk_spaces.specs.declared.step.Step.TheVariants as line
use Rattle.sk_tree.specs.InstanceSettings.{default_settings}
use Rattle.sk_tree.specs.declared.declared.Declared.{Declared}
use Rattle.sk_tree.specs.declared.settings.Settings.{Settings}
use Rattle.sk_world.specs.Events.{CallOf, Event, Made, Taken, Mapped, Ran, Read, Poked, Left, Dumped}
use Rattle.sk_demand.specs.Demand.{VersionTile, demand_of}
use Rattle.sk_demand.specs.OwnSteps.{StepIn, CallRun, AreRuns, AreKinds, WritesWhole, WritesCell, ReadsCell, ReadsStore, ReadsIndex, Clones, ClonesIndex, RunsInto, is_kernel, steps_of}
use Rattle.sk_demand.specs.Versions.{Binding, State, binding_at}
use Rattle.sk_demand.specs.Work.{sized_call, chosen_for, run_kinds}

-- Between two events: the versions of the containers, the memories of the trace so far, and the number of the call that gave
-- each recorded version.
pub record Standing : Type 0 where
  pub state : State
  pub machine : Machine
  pub calls : ℕ → Option ℕ

-- no store of this number was there
abbrev pub IsNew : Standing → (store : ℕ) → Type 0
IsNew standing store = standing.machine.stores store ≡ None

-- the step binds a container to a store of these sizes, which has cells of the container's type
pub record Binds (object : Object) (container store : ℕ) (sizes : List ℕ) (at : StepIn) : Type 0 where
  pub step : at.step ≡ line.Bind container store
  pub sized : IsSomeAnd (at.before.stores store) (λ (told : StoreLine). told.shape ≡ sizes)
  pub typed : IsSomeAnd (at.before.stores store) (λ (told : StoreLine).
      IsSomeAnd (slice_get object.containers container) (λ (declared : Declared). told.ty ≡ declared.ty))

-- ---- a declaration, or an input

-- the container gets a new store, where its cells are written first if it has some
abbrev pub IsStored : Object → Standing → (container : ℕ) → (sizes : List ℕ) → (cells : List ℤ) → List StepIn → Type 0
IsStored object standing container sizes [] steps =
    (store : ℕ) × (bind : StepIn) × (steps ≡ bind ∷ []) × IsNew standing store × Binds object container store sizes bind
IsStored object standing container sizes (cell ∷ cells) steps =
    (store : ℕ) × (write : StepIn) × (bind : StepIn) × (steps ≡ write ∷ bind ∷ []) × IsNew standing store
    × WritesWhole store (cell ∷ cells) write × Binds object container store sizes bind

-- ---- calls and their kernels

-- the step of a call
abbrev pub call_step : (number : ℕ) → CallLine → Step
call_step number told =
    line.Call number told.line told.instance told.variant told.parts told.recorded told.result told.operands told.uniforms told.settings

module _ (object : Object) (table : Tuning) (standing : Standing) where
  -- the kernel of a tile of a recorded version, by the variant and the parts that the line of its call names
  abbrev pub tile_runs : VersionTile → List CallRun
  tile_runs at = elim (standing.calls at.version) [
    | Some number ↦ elim (standing.machine.calls number) [
      | Some told ↦ elim (slice_get standing.state.versions at.version) [
        | Some version ↦ map (λ (run : KernelRun). record { call = number; run = run })
            (option_to_list (tile_kernel told.variant told.parts table.tile version.cells at.tile))
        | None ↦ []
      ]
      | None ↦ []
    ]
    | None ↦ []
  ]

  -- the kernels of all tiles that an event newly demands
  abbrev pub demanded_runs : Event → List CallRun
  demanded_runs event = flat_map tile_runs (demand_of object table.tile table.lineage standing.state event).tiles

  -- the line of a call with this store for its result
  abbrev pub told_call : Plan → CallOf → Settings → (recorded : Bool) → (result store : Option ℕ) → CallLine
  told_call plan call settings recorded result store =
      let chosen : Variant × ℕ = chosen_for table plan recorded (sized_call plan standing.state call settings result) in
      record {
        line = call.line;
        instance = call.instance;
        variant = chosen.0;
        parts = chosen.1;
        recorded = recorded;
        result = store;
        operands = filter_map standing.machine.bound call.operands;
        uniforms = call.uniforms;
        settings = told_settings plan.skeleton settings;
      }

  -- the step is the line of the event's call
  abbrev pub TellsCall : CallOf → Settings → (recorded : Bool) → (result store : Option ℕ) → (number : ℕ) → StepIn → Type 0
  TellsCall call settings recorded result store number at = IsSomeAnd (slice_get object.instances call.instance)
      (λ (plan : Plan). at.step ≡ call_step number (told_call plan call settings recorded result store))

  abbrev pub sizes_at : (container : ℕ) → List ℕ
  sizes_at container = (binding_at standing.state container).sizes

  -- ---- a call that is recorded

  -- where a flush comes first, its line and the kernels of all tiles that it newly demands
  abbrev pub IsFlush : (flushes : Bool) → List CallRun → List StepIn → Type 0
  IsFlush false wanted steps = steps ≡ []
  IsFlush true wanted [] = ⊥
  IsFlush true wanted (first ∷ kernels) = (first.step ≡ line.Flush) × AreRuns wanted kernels

  -- then the line of the call, and its result is bound to a new store
  pub record IsRecorded (call : CallOf) (result number : ℕ) (steps : List StepIn) : Type 0 where
    pub flush : List StepIn
    pub named : StepIn
    pub bind : StepIn
    pub whole : steps ≡ flush ++ named ∷ bind ∷ []
    pub store : ℕ
    pub new : IsNew standing store
    pub flushed : IsFlush (demand_of object table.tile table.lineage standing.state (Mapped call result)).flushes
        (demanded_runs (Mapped call result)) flush
    pub told : TellsCall call default_settings true (Some result) (Some store) number named
    pub bound : Binds object result store (sizes_at result) bind

  -- ---- a call that is run at once

  -- the store of its result: the present one where the version is kept, and otherwise a new one
  abbrev pub IsTarget : (keeps : Bool) → (result store : Option ℕ) → Type 0
  IsTarget keeps None store = store ≡ None
  IsTarget true (Some result) store = store ≡ standing.machine.bound result
  IsTarget false (Some result) store = IsSomeAnd store (IsNew standing)

  -- the kernels of the call, kind by kind
  abbrev pub at_once_kinds : CallOf → Settings → (result : Option ℕ) → (trapped : Bool) → List (List KernelRun)
  at_once_kinds call settings result trapped = elim (slice_get object.instances call.instance) [
    | Some plan ↦ run_kinds table plan (sized_call plan standing.state call settings result) trapped
    | None ↦ []
  ]

  -- the step reads the first total of the call with these kernels
  abbrev pub ReadsTotal : (kernels : List StepIn) → StepIn → Type 0
  ReadsTotal kernels at = (totals : ℕ) × All (RunsInto totals) kernels × ReadsCell (Some totals) 0 at

  -- What comes last: a new store is bound where nothing trapped, and a number is read where a kernel wrote it and nothing
  -- trapped.
  abbrev pub IsEnd : (trapped keeps : Bool) → (result store : Option ℕ) → (kernels : List StepIn) → List StepIn → Type 0
  IsEnd true keeps result store kernels steps = steps ≡ []
  IsEnd false true (Some result) store kernels steps = steps ≡ []
  IsEnd false false (Some result) None kernels steps = ⊥
  IsEnd false false (Some result) (Some store) kernels steps =
      (bind : StepIn) × (steps ≡ bind ∷ []) × Binds object result store (sizes_at result) bind
  IsEnd false keeps None store [] steps = steps ≡ []
  IsEnd false keeps None store (kernel ∷ kernels) steps = (read : StepIn) × (steps ≡ read ∷ []) × ReadsTotal (kernel ∷ kernels) read

  -- first the kernels of all tiles that it newly demands, then its line, its own kernels, and what comes last
  pub record IsRunAtOnce (call : CallOf) (settings : Settings) (result : Option ℕ) (trapped : Bool) (number : ℕ) (steps : List StepIn)
      : Type 0 where
    pub demanded : List StepIn
    pub named : StepIn
    pub kernels : List StepIn
    pub last : List StepIn
    pub whole : steps ≡ demanded ++ named ∷ kernels ++ last
    pub computed : AreRuns (demanded_runs (Ran call settings result trapped)) demanded
    pub store : Option ℕ
    pub target : IsTarget (demand_of object table.tile table.lineage standing.state (Ran call settings result trapped)).keeps result store
    pub told : TellsCall call settings false result store number named
    pub ran : AreKinds number (at_once_kinds call settings result trapped) kernels
    pub ended : IsEnd trapped (demand_of object table.tile table.lineage standing.state (Ran call settings result trapped)).keeps
        result store kernels last

  -- ---- reads and writes of elements

  -- the kernels of all tiles that it newly demands, and one read of the element
  pub record IsElementRead (container index : ℕ) (steps : List StepIn) : Type 0 where
    pub demanded : List StepIn
    pub read : StepIn
    pub whole : steps ≡ demanded ++ read ∷ []
    pub computed : AreRuns (demanded_runs (Read container index)) demanded
    pub reads : ReadsCell (standing.machine.bound container) index read

  -- Where the write goes to a copy, the container's cells are cloned into a new store, which is bound to it, and which is
  -- written then. Otherwise its own store is.
  pub record IsCloned (container : ℕ) (store : ℕ) (steps : List StepIn) : Type 0 where
    pub clones : List StepIn
    pub bind : StepIn
    pub whole : steps ≡ clones ++ bind ∷ []
    pub new : IsNew standing store
    pub each : All (Clones (standing.machine.bound container) store) clones
    pub all : (index : ℕ) → index < cells_of (sizes_at container) → Any (ClonesIndex index) clones
    pub bound : Binds object container store (sizes_at container) bind

  abbrev pub IsPlaced : (copies : Bool) → (container : ℕ) → (store : Option ℕ) → List StepIn → Type 0
  IsPlaced false container store steps = (steps ≡ []) × (store ≡ standing.machine.bound container)
  IsPlaced true container None steps = ⊥
  IsPlaced true container (Some store) steps = IsCloned container store steps

  pub record IsElementWrite (container index : ℕ) (cell : ℤ) (steps : List StepIn) : Type 0 where
    pub demanded : List StepIn
    pub copied : List StepIn
    pub write : StepIn
    pub whole : steps ≡ demanded ++ copied ++ write ∷ []
    pub computed : AreRuns (demanded_runs (Poked container index cell)) demanded
    pub store : Option ℕ
    pub placed : IsPlaced (demand_of object table.tile table.lineage standing.state (Poked container index cell)).copies container store copied
    pub writes : WritesCell store index cell write

  -- ---- a dump

  -- the step reads from a container in scope
  abbrev pub ReadsInScope : StepIn → Type 0
  ReadsInScope at = Any (λ (binding : Binding). ReadsStore (standing.machine.bound binding.container) at) standing.state.bindings

  -- The kernels of all tiles that it newly demands, and reads of the containers in scope, which read each of their elements. A
  -- container may be read before another one is computed.
  pub record IsDump (steps : List StepIn) : Type 0 where
    pub computed : AreRuns (demanded_runs Dumped) (filter is_kernel steps)
    pub others : All ReadsInScope (filter (λ at. not (is_kernel at)) steps)
    pub all : All (λ (binding : Binding). (index : ℕ) → index < cells_of binding.sizes
        → Any (ReadsIndex (standing.machine.bound binding.container) index) steps) standing.state.bindings

  -- ---- every event

  -- the steps that an event makes; the number is that of its call, where it is one
  abbrev pub IsPiece : Event → (number : ℕ) → List StepIn → Type 0
  IsPiece (Made container sizes fill) number steps = IsStored object standing container sizes (replicate (cells_of sizes) fill) steps
  IsPiece (Taken container sizes cells) number steps = IsStored object standing container sizes cells steps
  IsPiece (Mapped call result) number steps = IsRecorded call result number steps
  IsPiece (Ran call settings result trapped) number steps = IsRunAtOnce call settings result trapped number steps
  IsPiece (Read container index) number steps = IsElementRead container index steps
  IsPiece (Poked container index cell) number steps = IsElementWrite container index cell steps
  IsPiece (Left container) number steps = steps_of steps ≡ line.Unbind container ∷ []
  IsPiece Dumped number steps = IsDump steps
