-- What is kept of main's names, in the words of the code scheme.
use Rattle.std.specs.Prelude.{ℕ, List, [], ◌∷◌, ◌++◌, map, Option, Some, None}
use Rattle.sk_arguments.specs.Operands.{uniforms_taken}
use Rattle.sk_base.specs.declared.number.Ty.TheVariants.{Int}
use Rattle.sk_emitter.specs.declared.applied.Applied.{Applied}
use Rattle.sk_emitter.specs.declared.applied.Use.TheVariants.{Nothing, Item, Call, Get}
use Rattle.sk_isa.specs.declared.code.Instr.{Instr}
use Rattle.sk_isa.specs.declared.code.Instr.TheVariants as instr
use Rattle.sk_main_scheme.specs.MainScheme as scheme
use Rattle.sk_main_scheme.specs.MainScheme.{operands_of}
use Rattle.sk_scheme.specs.Scheme.{Known, kinds_of}
use Rattle.sk_tree.specs.declared.tree.ParamKind.{ParamKind}
use Rattle.sk_tree.specs.declared.tree.ParamKind.TheVariants.{Scalar}
use Rattle.sk_main_emitter.specs.declared.named.Made.{Made}
use Rattle.sk_main_emitter.specs.declared.named.Named.{Named}
use Rattle.sk_main_emitter.specs.declared.named.Named.TheVariants.{Number, Whole, Called}

abbrev pub made_in : Made → scheme.Made
made_in made = record {
  number = made.number;
  skeleton = made.skeleton;
  elements = made.elements;
  kinds = kinds_of made.params.now;
  ret = made.ret;
}

abbrev pub named_of : Named → scheme.Named
named_of (Number slot ty) = scheme.Number slot ty
named_of (Whole container ty) = scheme.Whole container ty
named_of (Called made) = scheme.Called (made_in made)

abbrev pub named_in : List (List ℕ × Named) → List (List ℕ × scheme.Named)
named_in scope = map (λ binding. (binding.0, named_of binding.1)) scope

-- what the names of a scope stand for, in text order
abbrev pub in_order : List (List ℕ × Named) → List Named
in_order [] = []
in_order (binding ∷ earlier) = in_order earlier ++ binding.1 ∷ []

-- the end of a container
abbrev pub drop_code : Named → List Instr
drop_code (Number slot ty) = []
drop_code (Whole container ty) = instr.Drop container ∷ []
drop_code (Called made) = []

-- the kinds of the parameters that the uniform arguments of a call are for
abbrev pub uniform_kinds : scheme.Made → List ParamKind
uniform_kinds made = map Scalar (uniforms_taken made.skeleton made.elements made.kinds)

-- what an application is in main: an element of a container, a call of an instance, or a call of a function
abbrev pub application_of : Option scheme.Named → Option Known → Applied
application_of (Some (scheme.Whole container ty)) known = record { ty = ty; passed = 0; kinds = []; used = Item container }
application_of (Some (scheme.Called made)) known =
    record { ty = made.ret; passed = operands_of made; kinds = uniform_kinds made; used = Get made.number }
application_of (Some (scheme.Number slot ty)) known = record { ty = ty; passed = 0; kinds = []; used = Nothing }
application_of None (Some known) = record { ty = known.ret; passed = 0; kinds = known.kinds; used = Call known.number }
application_of None None = record { ty = Int; passed = 0; kinds = []; used = Nothing }
