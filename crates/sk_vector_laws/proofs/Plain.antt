-- A typed program of vectors that a text has is plain, its containers are vectors, and it takes no input.
use Rattle.std.proofs.Common.{◌≡◌, ◌∙◌, ℕ, suc, Bool, true, List, [], ◌∷◌, map, flat_map, All, Option, Some, None, if◌then◌else◌, refl, sym, ap, subst}
use Rattle.std.proofs.lemmas.Bool.{and_from}
use Rattle.std.proofs.lemmas.List.Folds.{list_all-map}
use Rattle.std.specs.Prelude.{false, slice_get}
use Rattle.std.specs.List.{list_all}
use Rattle.sk_grammar.specs.Limits.{IsFromTextWithin}
use Rattle.sk_isa.specs.SoundObjects.{IsSoundPlan}
use Rattle.sk_main_fits.specs.Mains.{known_in, main_body, main_of}
use Rattle.sk_main_fits.specs.StatementFits.{start_standing}
use Rattle.sk_main_fits.specs.Vectors.{IsMapOf, IsOfVectors, takes_scalars}
use Rattle.sk_plain.proofs.Truths.{and_left, and_right}
use Rattle.sk_plain.specs.Plain.{FunctionsTakeScalars, IsPlain}
use Rattle.sk_scheme.specs.Plans.{functions_before_main, functions_object, plan_of, plans_in}
use Rattle.sk_scheme.specs.Scheme.{Known}
use Rattle.sk_tree.specs.Functions.{body_of}
use Rattle.sk_tree.specs.Parameters.{is_scalar}
use Rattle.sk_tree.specs.declared.tree.Function.{Function}
use Rattle.sk_tree.specs.declared.tree.Instance as instances
use Rattle.sk_tree.specs.declared.tree.Param.{Param}
use Rattle.sk_tree.specs.declared.tree.Program.{Program}
use Rattle.sk_tree.specs.declared.tree.Statement.{Statement}
use Rattle.sk_typed_laws.proofs.Programs.{typed_vectors_plain}
use Rattle.sk_typed_laws.specs.Forms.{is_map, takes_scalars as params_scalar}
use Rattle.sk_typing.specs.Inputs.{distinct_after, taken_of}
use Rattle.sk_typing.specs.Typing.{IsTyped, inputs_of, is_main_header, last_function}
use Rattle.sk_vector_laws.proofs.Emission.{all_held, held_of}
use Rattle.sk_vector_laws.proofs.Main.{count_is, main_holds}
use Rattle.sk_vector_laws.proofs.OuterInstances.{main_plans}
use Rattle.sk_vector_laws.proofs.VectorForms.{is_vector, makes_map, statements_vectorly}
use Rattle.sk_vector_laws.proofs.WrittenPrograms.{texts_named}

-- what a typed program of vectors that a text has is
pub record IsPlainly (program : Program) : Type 0 where
  pub plain : IsPlain program
  pub scalars : FunctionsTakeScalars program
  pub vectors : list_all is_vector (all_held (map held_of (main_body program))).containers ≡ true
  pub maps : list_all makes_map (all_held (map held_of (main_body program))).instances ≡ true
  pub inputs : inputs_of program ≡ []
  pub plans : All (IsSoundPlan (functions_object program)) (map (plan_of (known_in program)) (all_held (map held_of (main_body program))).instances)

all_maps : (known : List (List ℕ × Known)) (made : List instances.Instance) → ((number : ℕ) (instance : instances.Instance) → slice_get made number ≡ Some instance → IsMapOf known instance) → list_all makes_map made ≡ true
all_maps known [] h = refl
all_maps known (instance ∷ made) h =
    and_from (makes_map instance) (list_all makes_map made) (ap is_map (h 0 instance refl).skeleton) (all_maps known made (λ number other e. h (suc number) other e))

each_scalar : (functions : List Function) → list_all takes_scalars functions ≡ true → list_all params_scalar functions ≡ true
each_scalar [] e = refl
each_scalar (function ∷ functions) e =
    and_from (params_scalar function) (list_all params_scalar functions)
    (sym (list_all-map is_scalar (λ (param : Param). param.kind) function.params) ∙ and_left (takes_scalars function) (list_all takes_scalars functions) e)
    (each_scalar functions (and_right (takes_scalars function) (list_all takes_scalars functions) e))

nothing_taken : (found : Option Function) (taken : Bool) → flat_map taken_of (body_of found) ≡ []
    → distinct_after [] (flat_map taken_of (elim (elim found as (λ _. Option Function) [ Some function ↦ if taken then Some function else None | None ↦ None ]) as (λ _. List Statement) [ Some function ↦ function.body | None ↦ [] ])) ≡ []
nothing_taken None taken e = refl
nothing_taken (Some function) true e = ap (distinct_after []) e
nothing_taken (Some function) false e = refl

no_inputs : (program : Program) → flat_map taken_of (main_body program) ≡ [] → inputs_of program ≡ []
no_inputs program none = by_main (last_function program.functions) none
  where
    by_main : (found : Option Function) → flat_map taken_of (body_of found) ≡ []
        → distinct_after [] (flat_map taken_of (elim (elim found as (λ _. Option Function) [ Some function ↦ if is_main_header function then Some function else None | None ↦ None ]) as (λ _. List Statement) [ Some function ↦ function.body | None ↦ [] ])) ≡ []
    by_main None e = refl
    by_main (Some function) e = nothing_taken (Some function) (is_main_header function) e

pub vectors_plain : (program : Program) → IsTyped program → IsFromTextWithin program → IsOfVectors program → IsPlainly program
vectors_plain program typed from vectors =
    let held = main_holds program (texts_named program from) in
    let maps : list_all makes_map (all_held (map held_of (main_body program))).instances ≡ true =
    sym (ap (λ (l : List instances.Instance). list_all makes_map l) held.instances) ∙ all_maps (known_in program) (main_of program).behind.instances vectors.maps in
    let form = statements_vectorly (main_body program) (known_in program) start_standing vectors.fits maps in
    let scalars : FunctionsTakeScalars program = each_scalar (functions_before_main program) vectors.scalars in
    let plain : IsPlain program = typed_vectors_plain program typed from (record { functions = scalars; main = form.form }) in
    let plans : All (IsSoundPlan (functions_object program)) (plans_in (known_in program) (main_body program)) =
    subst (λ n. All (IsSoundPlan (functions_object program)) (plans_in (known_in program) (body_of (slice_get program.functions n)))) (count_is program) plain.instances in
    record {
      plain = plain;
      scalars = scalars;
      vectors = form.vectors;
      maps = maps;
      inputs = no_inputs program form.none;
      plans = subst (All (IsSoundPlan (functions_object program))) (sym (main_plans (known_in program) program typed)) plans;
    }
