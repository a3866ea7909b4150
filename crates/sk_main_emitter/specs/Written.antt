-- The code of main as far as it is written, in the words of the code scheme.
use Rattle.std.specs.Prelude.{◌≡◌, ℕ, ◌++◌, List, [], ◌∷◌, length, map}
use Rattle.sk_isa.specs.declared.code.Code.{Code}
use Rattle.sk_isa.specs.declared.code.Instr.TheVariants as instr
use Rattle.sk_main_scheme.specs.MainScheme.{Emitting, Emitted, Standing, only_code, main_emitted}
use Rattle.sk_isa.specs.declared.object.Signature.{Signature}
use Rattle.sk_base.specs.declared.number.Ty.TheVariants.{Int}
use Rattle.sk_main_emitter.specs.declared.writer.Writer.{Writer}
use Rattle.sk_scheme.specs.Scheme.{Known}
use Rattle.sk_tree.specs.declared.tree.ParamKind.TheVariants.{Scalar}
use Rattle.sk_tree.specs.declared.tree.Statement.{Statement}

-- where the next statement begins
abbrev pub standing_of : Writer → Standing
standing_of writer = record {
  at = length writer.code.items;
  scope = writer.names.scope;
  slots = writer.slots.items;
  containers = writer.containers;
  instances = map (λ instance. instance.now) writer.instances.items;
}

-- what is written is appended, and what stands behind it is as the scheme has it
pub record Writes (emitting : Emitting) (old new : Writer) (depth : ℕ) : Type 0 where
  pub code : new.code.items ≡ old.code.items ++ (emitting old.names.functions (standing_of old)).code
  pub functions : new.names.functions ≡ old.names.functions
  pub behind : standing_of new ≡ (emitting old.names.functions (standing_of old)).behind
  pub depth_is : depth ≡ (emitting old.names.functions (standing_of old)).depth

-- the line of a statement, which is counted there
abbrev pub counting : (line : ℕ) → Emitting
counting line functions standing = only_code (instr.Count line ∷ []) 0 standing

-- a writer that has written main
pub record IsMain (functions : List (List ℕ × Known)) (body : List Statement) (done : Writer) (depth : ℕ) : Type 0 where
  pub code : done.code.items ≡ (main_emitted functions body).code
  pub functions_are : done.names.functions ≡ functions
  pub behind : standing_of done ≡ (main_emitted functions body).behind
  pub depth_is : depth ≡ (main_emitted functions body).depth

abbrev pub code_of_main : Emitted → Code
code_of_main main = record { instrs = main.code; slots = length main.behind.slots; depth = main.depth }

-- main takes nothing and gives an int
abbrev pub signature_of_main : Emitted → Signature
signature_of_main main = record { ret = Int; params = []; slots = map Scalar main.behind.slots }
