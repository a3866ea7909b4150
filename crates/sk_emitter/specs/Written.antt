-- The code of a function as far as it is written, in the words of the code scheme.
use Rattle.std.specs.Prelude.{◌≡◌, ℕ, ◌++◌, List, length}
use Rattle.sk_base.specs.declared.number.Ty.{Ty}
use Rattle.sk_names.specs.Bindings.{bound_to}
use Rattle.sk_tree.specs.declared.tree.Expr.{Expr}
use Rattle.sk_isa.specs.declared.code.Instr.TheVariants as instr
use Rattle.sk_scheme.specs.Scheme.{Compiled, Emitting, Emitted, Standing, Within, Around, compiled_of, declared_slot, taken_code, assigned_code, block_emitted, loop_emitted, joined, behind}
use Rattle.sk_emitter.specs.declared.statements.Writer.{Writer}

-- what all statements of the function share
abbrev pub within_of : Writer → Within
within_of writer = record { functions = writer.names.functions; ret = writer.ret }

-- where the next statement begins
abbrev pub standing_of : Writer → Standing
standing_of writer = record { at = length writer.code.items; scope = writer.names.scope; slots = writer.slots.items }

-- the names behind what is written
abbrev pub names_behind : Writer → Emitted → Around
names_behind writer emitted = record { functions = writer.names.functions; scope = emitted.scope }

-- what is written is appended, and the names and the slots are those behind it
pub record Writes (emitting : Emitting) (old new : Writer) (depth : ℕ) : Type 0 where
  pub code : new.code.items ≡ old.code.items ++ (emitting (within_of old) (standing_of old)).code
  pub names : new.names ≡ names_behind old (emitting (within_of old) (standing_of old))
  pub slots : new.slots.items ≡ (emitting (within_of old) (standing_of old)).slots
  pub ret : new.ret ≡ old.ret
  pub depth_is : depth ≡ (emitting (within_of old) (standing_of old)).depth

-- the declaration of a scalar
abbrev pub declares : Ty → List ℕ → Expr → Emitting
declares ty name expr within standing =
    declared_slot name ty (taken_code ty (compiled_of expr) (instr.Store (length standing.slots)) within standing)

-- an assignment to a name
abbrev pub assigns : List ℕ → Expr → Emitting
assigns name expr within standing = assigned_code (bound_to name standing.scope) (compiled_of expr) within standing

-- the value of the function
abbrev pub gives : Expr → Emitting
gives expr within standing = taken_code within.ret (compiled_of expr) instr.Ret within standing

-- what comes first, and a loop, with whose end its names go
abbrev pub turns_emitted : (first : Emitting) → Compiled → (step : Emitting) → (body : List Emitting) → Emitting
turns_emitted first test step body within standing =
    let one : Emitted = first within standing in
    record (joined one (loop_emitted test (block_emitted body) step within (behind standing one))) { scope = standing.scope }
