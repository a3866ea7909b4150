-- What compiled main does, one instruction after another, over a world.
use Rattle.std.specs.Prelude.{ℕ, suc, List, [], ◌∷◌, length, map, take, replicate, ℤ, pos, Bool, true, false, Option, Some, None, Result, Ok, Err, slice_get, slice_index_or, codes}
use Rattle.std.specs.Fmt.{signed_decimal}
use Rattle.std.specs.List.{list_all}
use Rattle.sk_base.specs.Arithmetic.{op_of}
use Rattle.sk_base.specs.declared.choice.EdgeMode.TheVariants as edge
use Rattle.sk_base.specs.declared.number.Trap.{Trap}
use Rattle.sk_grammar.specs.Signs.{meant_by}
use Rattle.sk_isa.specs.Coded.{step_limit}
use Rattle.sk_isa.specs.Configurations.{Configuration, Transition, Goes, Ends, Stuck, Outcome, Ended, Unfinished, Lost, with_one, with_many, going, returning, next_by, run_of}
use Rattle.sk_isa.specs.Objects.{signature_at, invoked, function_at, is_marked}
use Rattle.sk_isa.specs.declared.code.Instr.{Instr}
use Rattle.sk_isa.specs.declared.code.Instr.TheVariants.{Size, Item, Call, Count, Make, Take, Drop, Set, Do, Get, Poke, Print, Text, Endl, Halt}
use Rattle.sk_isa.specs.declared.object.Object.{Object}
use Rattle.sk_isa.specs.declared.object.Plan.{Plan}
use Rattle.sk_isa.specs.declared.object.Signature.{Signature}
use Rattle.sk_meaning.specs.Evaluation.{Value}
use Rattle.sk_tree.specs.Skeletons.{operator_place}
use Rattle.sk_world.specs.Calls.{Instance, call_of}
use Rattle.sk_world.specs.InstanceSettings.{SettingValue, Start, Exclusive, Columns, Overlap, Edge, Pad, set_instance}
use Rattle.sk_world.specs.Runs.{ProgramRun, run_over, world_before}
use Rattle.sk_world.specs.World.{Input, World, End, Trapped, Over, count, print, make, take_input, drop_container, container_at, read, poke, size_of, valued, ended}

-- main's run keeps the world, and stops where it is over
abbrev pub MainPoint : Type 0
MainPoint = Configuration World

abbrev pub MainNext : Type 0
MainNext = Transition World Over

-- the next address, with these values on the stack and this world, unless the run is over
abbrev pub going_in : MainPoint → List ℤ → Result World Over → MainNext
going_in point rest (Ok world) = Goes (record point { at = suc point.at; stack = rest; kept = world })
going_in point rest (Err over) = Ends (Err over)

-- what was done in the world gave a value that nobody asks for
abbrev pub world_after : Result (ℤ × World) Over → Result World Over
world_after (Ok done) = Ok done.1
world_after (Err over) = Err over

-- the last of the values that an instruction takes, which stands behind the others
abbrev pub last_of : (before : ℕ) → List ℤ → ℤ
last_of before values = slice_index_or values before (pos 0)

-- an instance of the object with its number; a function's value is that of its code
abbrev pub linked_plan : Object → (number : ℕ) → Plan → Instance
linked_plan object number plan =
    let first : Signature = signature_at object (function_at plan 0) in
    record {
      number = number;
      skeleton = plan.skeleton;
      elements = plan.elements;
      kinds = first.params;
      ty = first.ret;
      call = invoked object (function_at plan 0);
      join = λ a b. elim (operator_place plan.skeleton) [
        | Some place ↦ invoked object (function_at plan place) (Value a ∷ Value b ∷ [])
        | None ↦ Ok (pos 0)
      ];
      is_safe = list_all (is_marked object) plan.functions;
    }

-- the modes of settings by their words
abbrev pub mode_words : List (List ℕ × SettingValue)
mode_words =
    (codes "ScanMode::Inclusive", Exclusive false) ∷ (codes "ScanMode::Exclusive", Exclusive true)
    ∷ (codes "ReduceMode::RowWise", Columns false) ∷ (codes "ReduceMode::ColWise", Columns true)
    ∷ (codes "Edge::Duplicate", Edge edge.Duplicate) ∷ (codes "Edge::Cyclic", Edge edge.Cyclic) ∷ (codes "Edge::Pad", Edge edge.Pad) ∷ []

-- the settings with values by their words
abbrev pub setting_words : List (List ℕ × (List ℤ → SettingValue))
setting_words =
    (codes "setStartValue", λ values. Start (slice_index_or values 0 (pos 0))) ∷ (codes "setPad", λ values. Pad (slice_index_or values 0 (pos 0)))
    ∷ (codes "setOverlap", λ values. Overlap values) ∷ []

-- the setting that a word with so many values gives: a mode has none
abbrev pub setting_of : (word : List ℕ) → List ℤ → Option SettingValue
setting_of word [] = meant_by mode_words word
setting_of word (value ∷ values) = elim (meant_by setting_words word) [ Some setting ↦ Some (setting (value ∷ values)) | None ↦ None ]

abbrev pub set_by : Object → (instance : ℕ) → Option SettingValue → MainPoint → List ℤ → MainNext
set_by object instance None point rest = Stuck
set_by object instance (Some setting) point rest = elim (slice_get object.instances instance) [
  | Some plan ↦ going_in point rest (set_instance (linked_plan object instance plan) setting point.kept)
  | None ↦ Stuck
]

-- a call statement of an instance, the result first among its containers
abbrev pub done_by : Option Plan → Object → (instance : ℕ) → (containers : List ℕ) → List ℤ → MainPoint → List ℤ → MainNext
done_by None object instance containers uniforms point rest = Stuck
done_by (Some plan) object instance [] uniforms point rest = Stuck
done_by (Some plan) object instance (result ∷ operands) uniforms point rest =
    going_in point rest (world_after (call_of (linked_plan object instance plan) (Some result) operands uniforms point.kept))

-- What the instructions lead to that main has of its own. Those of functions alone have no meaning here.
abbrev pub main_next : Object → Instr → MainPoint → MainNext
main_next object (Size container name) point = going point (size_of (container_at point.kept container) name ∷ point.stack)
main_next object (Item container places) point = with_many places point.stack (λ place rest.
    returning point rest (read container place point.kept))
main_next object (Call function) point = with_many (length (signature_at object function).params) point.stack (λ values rest.
    returning point rest (valued (invoked object function (map Value values)) point.kept))
main_next object (Count line) point = going_in point point.stack (count line point.kept)
main_next object (Make container kind ty sizes) point = elim (slice_get object.containers container) [
  | Some declared ↦ with_many (suc sizes) point.stack (λ values rest.
      going_in point rest (make container declared.name ty (take sizes values) (last_of sizes values) point.kept))
  | None ↦ Stuck
]
main_next object (Take container kind ty input) point = elim (slice_get object.containers container) [
  | Some declared ↦ going_in point point.stack (Ok (take_input container declared.name ty input point.kept))
  | None ↦ Stuck
]
main_next object (Drop container) point = going_in point point.stack (Ok (drop_container container point.kept))
main_next object (Set instance word values) point = with_many values point.stack (λ given rest.
    set_by object instance (setting_of word given) point rest)
main_next object (Do instance containers uniforms) point = with_many uniforms point.stack (λ given rest.
    done_by (slice_get object.instances instance) object instance containers given point rest)
main_next object (Get instance containers uniforms) point = elim (slice_get object.instances instance) [
  | Some plan ↦ with_many uniforms point.stack (λ given rest.
      returning point rest (call_of (linked_plan object instance plan) None containers given point.kept))
  | None ↦ Stuck
]
main_next object (Poke container places) point = with_many (suc places) point.stack (λ values rest.
    going_in point rest (poke container (take places values) (last_of places values) point.kept))
main_next object Print point = with_one point.stack (λ a rest. going_in point rest (Ok (print (signed_decimal a) point.kept)))
main_next object (Text text) point = going_in point point.stack (Ok (print text point.kept))
main_next object Endl point = going_in point point.stack (Ok (print (10 ∷ []) point.kept))
main_next object Halt point = Ends (ended point.kept)
main_next object instr point = Stuck

-- a trap of an operator stands at element 0
abbrev pub over_by : Trap → World → Over
over_by trap world = record { ending = Trapped trap world.line 0; world = world }

-- what an instruction of main leads to
abbrev pub next_in_main : Object → Instr → MainPoint → MainNext
next_in_main object = next_by op_of over_by (main_next object)

abbrev pub main_start : Object → List Input → (bound : ℕ) → MainPoint
main_start object inputs bound =
    record { at = 0; stack = []; slots = replicate object.main.slots (pos 0); kept = world_before inputs bound }

-- How the run of sound code is over; a run of any other that lacks something, or does not end, is that of nothing.
abbrev pub over_from : World → Outcome World Over → Over
over_from world (Ended (Ok done)) = record { ending = End; world = done.1 }
over_from world (Ended (Err over)) = over
over_from world Unfinished = record { ending = End; world = world }
over_from world Lost = record { ending = End; world = world }

-- The run of a compiled program that may execute so many statements. Each way round a loop counts a statement, so between
-- two statements no instruction is executed twice.
abbrev pub coded_of : Object → List Input → (bound : ℕ) → (dump : Bool) → ProgramRun
coded_of object inputs bound dump = run_over dump (over_from (world_before inputs bound)
    (run_of (next_in_main object) object.main.instrs (step_limit object.main.instrs bound) (main_start object inputs bound)))
