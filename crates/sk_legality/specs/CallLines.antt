-- Where the line of a call is legal.
use Rattle.std.specs.Prelude.{◌≡◌, ℕ, nat_le, Bool, true, false, ◌&&◌, List, [], ◌++◌, length, map, filter_map, Some, None, IsSomeAnd, is_some, option_map, option_to_list, slice_get}
use Rattle.std.specs.List.{list_all}
use Rattle.sk_arguments.specs.Operands.{element_operands}
use Rattle.sk_base.specs.declared.choice.Variant.{Variant}
use Rattle.sk_base.specs.declared.choice.Variant.TheVariants.{Cluster}
use Rattle.sk_blocks.specs.Calls.{SizedCall, sizes_of}
use Rattle.sk_blocks.specs.SettingLines.{settings_told, has_mode}
use Rattle.sk_call_shapes.specs.CallShapes.{Container, fits_statement, fits_value, uniform_count}
use Rattle.sk_formula.specs.Calls.{refusal_of}
use Rattle.sk_isa.specs.Objects.{signature_at, function_at, is_marked}
use Rattle.sk_isa.specs.Offers.{is_offered}
use Rattle.sk_isa.specs.declared.object.Object.{Object}
use Rattle.sk_isa.specs.declared.object.Plan.{Plan}
use Rattle.sk_isa.specs.declared.object.Signature.{Signature}
use Rattle.sk_spaces.specs.Machine.{Machine, MemoryLine, StoreLine, CallLine}
use Rattle.sk_tree.specs.declared.tree.Skeleton.TheVariants.{Map, Reduce, Scan, MapReduce, MapOverlap, MapPairs, MapPairsReduce, Call}

-- what an instance's first function takes and gives
abbrev pub first_signature : Object → Plan → Signature
first_signature object plan = signature_at object (function_at plan 0)

-- the sizes of a store
abbrev pub sizes_at : Machine → (store : ℕ) → List ℕ
sizes_at m store = elim (m.stores store) [ Some found ↦ found.shape | None ↦ [] ]

-- the stores that a call names: that of its result, where it is a container, and those of its operands
abbrev pub named_stores : CallLine → List ℕ
named_stores call = option_to_list call.result ++ call.operands

-- a call of an instance, with the sizes that the stores have
abbrev pub sized_call : Machine → Plan → CallLine → SizedCall
sized_call m plan call = record {
  skeleton = plan.skeleton;
  settings = settings_told call.settings;
  elements = element_operands plan.skeleton plan.elements;
  operands = map (λ store. record { store = store; shape = sizes_at m store }) call.operands;
  result = option_map (sizes_at m) call.result;
}

-- a store is a container for a call, of as many sizes as it has
abbrev pub container_of : StoreLine → Container
container_of store = record { kind = length store.shape; ty = store.ty }

-- The instance takes containers of these types and dimensions, the result first: in a statement where there is a result, and
-- for a value where there is none.
abbrev pub takes_stores : Object → Machine → Plan → CallLine → Bool
takes_stores object m plan call =
    let containers : List Container = filter_map (λ store. option_map container_of (m.stores store)) (named_stores call) in
    elim call.result [
      | Some result ↦ fits_statement plan (first_signature object plan) containers
      | None ↦ fits_value plan (first_signature object plan) containers
    ]

-- from 1 to 256 parts, and each part of a cluster call has a rank of its own
abbrev pub may_have_parts : (ranks : ℕ) → Variant → (parts : ℕ) → Bool
may_have_parts ranks Cluster parts = nat_le 1 parts && nat_le parts 256 && nat_le parts ranks
may_have_parts ranks variant parts = nat_le 1 parts && nat_le parts 256

-- calls of an instance may be recorded: it is a Map, and its function is marked as one that never traps
abbrev pub may_be_recorded : Object → Plan → Bool
may_be_recorded object plan = elim plan.skeleton [
  | Map ↦ list_all (is_marked object) plan.functions
  | Reduce ↦ false
  | Scan ↦ false
  | MapReduce ↦ false
  | MapOverlap ↦ false
  | MapPairs ↦ false
  | MapPairsReduce ↦ false
  | Call ↦ false
]

-- The instance may be called so: it offers the variant, in so many parts; the stores are there, as many as it takes, with the
-- types and the dimensions that it takes; so are the uniform arguments, as many; the mode is one of its skeleton; the sizes
-- fit, and no fold of nothing without a start value is made; and only what may be recorded is.
pub record MayCall (object : Object) (m : Machine) (memory : MemoryLine) (plan : Plan) (call : CallLine) : Type 0 where
  pub offered : is_offered plan call.variant ≡ true
  pub parts : may_have_parts memory.ranks call.variant call.parts ≡ true
  pub there : list_all (λ store. is_some (m.stores store)) (named_stores call) ≡ true
  pub containers : takes_stores object m plan call ≡ true
  pub uniforms : length call.uniforms ≡ uniform_count plan (first_signature object plan)
  pub mode : has_mode plan.skeleton call.settings.mode ≡ true
  pub runs : refusal_of plan.skeleton (settings_told call.settings) (sizes_of (sized_call m plan call)) ≡ None
  pub recorded : call.recorded ≡ true → may_be_recorded object plan ≡ true

-- the line of a call is legal: its number is new, there is such an instance, and it may be called so
abbrev pub IsLegalCall : Object → Machine → (number : ℕ) → CallLine → Type 0
IsLegalCall object m number call =
    (m.calls number ≡ None)
    × IsSomeAnd m.memory (λ memory. IsSomeAnd (slice_get object.instances call.instance) (λ plan. MayCall object m memory plan call))
