-- The names and texts of each object that stands for a program that a text has.
use Rattle.std.proofs.Common.{◌≡◌, ◌∙◌, ℕ, Bool, true, false, List, [], ◌∷◌, length, map, flat_map, ◌-◌, Option, Some, None, if◌then◌else◌, refl, ap}
use Rattle.std.proofs.lemmas.Bool.{and_from}
use Rattle.std.specs.List.{list_all}
use Rattle.sk_isa.specs.declared.code.Instr.{Instr}
use Rattle.sk_isa.specs.declared.object.Object.{Object}
use Rattle.sk_isa.specs.declared.object.Plan.{Plan}
use Rattle.sk_main_code.specs.Sound.{is_short_name, prints_short_text}
use Rattle.sk_main_fits.specs.Mains.{known_in, main_body}
use Rattle.sk_main_scheme.proofs.UnmarkedObjects.{main_of as placed_main}
use Rattle.sk_main_scheme.specs.MainScheme.{Emitted}
use Rattle.sk_main_scheme.specs.Objects.{AreSomePlans, object_of, offering}
use Rattle.sk_plain.proofs.Truths.{and_left, and_right}
use Rattle.sk_scheme.specs.Plans.{plan_of}
use Rattle.sk_scheme.specs.Scheme.{Known}
use Rattle.sk_tree.specs.Functions.{body_of}
use Rattle.sk_tree.specs.declared.declared.Declared.{Declared}
use Rattle.sk_tree.specs.declared.tree.Function.{Function}
use Rattle.sk_tree.specs.declared.tree.Instance as instances
use Rattle.sk_tree.specs.declared.tree.Program.{Program}
use Rattle.sk_tree.specs.declared.tree.Statement.{Statement}
use Rattle.sk_typing.specs.Typing.{inputs_of, is_main_header, last_function}
use Rattle.sk_typing.specs.Inputs.{taken_of}
use Rattle.sk_vector_laws.proofs.Emission.{all_held, held_of}
use Rattle.sk_vector_laws.proofs.HeldNames.{AreNamed, container_short, instance_short, statements_named}
use Rattle.sk_vector_laws.proofs.Inputs.{distinct_short, input_short, statements_taken}
use Rattle.sk_vector_laws.proofs.Main.{body_named, code_is, containers_are, full_object, main_holds, main_is, names_named}
use Rattle.sk_vector_laws.proofs.WrittenPrograms.{texts_named}
use Rattle.sk_vector_laws.specs.Names.{IsNamedShortly, names_shortly}
use Rattle.sk_vector_laws.specs.Vectors.{StandingObjectsAreNamed}

abbrev plan_short : Plan → Bool
plan_short plan = is_short_name plan.name

plans_named : (object : Object) (known : List (List ℕ × Known)) (made : List instances.Instance) → list_all instance_short made ≡ true
    → list_all plan_short (map (offering object) (map (plan_of known) made)) ≡ true
plans_named object known [] e = refl
plans_named object known (instance ∷ made) e =
    and_from (instance_short instance) (list_all plan_short (map (offering object) (map (plan_of known) made)))
    (and_left (instance_short instance) (list_all instance_short made) e) (plans_named object known made (and_right (instance_short instance) (list_all instance_short made) e))

-- plans that differ in variants alone have the same names
some_named : (plans all : List Plan) → AreSomePlans plans all → list_all plan_short all ≡ true → list_all plan_short plans ≡ true
some_named [] [] h e = refl
some_named [] (one ∷ all) h e = absurd h
some_named (plan ∷ plans) [] h e = absurd h
some_named (plan ∷ plans) (one ∷ all) h e =
    let same : plan.name ≡ one.name = ap (λ (p : Plan). p.name) h.0.same in
    and_from (plan_short plan) (list_all plan_short plans) (ap is_short_name same ∙ and_left (plan_short one) (list_all plan_short all) e)
    (some_named plans all h.1 (and_right (plan_short one) (list_all plan_short all) e))

main_of_named : (found : Option Function) (taken : Bool) → list_all names_shortly (body_of found) ≡ true
    → list_all names_shortly (elim (elim found as (λ _. Option Function) [ Some function ↦ if taken then Some function else None | None ↦ None ]) as (λ _. List Statement) [ Some function ↦ function.body | None ↦ [] ]) ≡ true
main_of_named None taken e = refl
main_of_named (Some function) true e = e
main_of_named (Some function) false e = refl

inputs_named : (program : Program) → IsNamedShortly program → list_all input_short (inputs_of program) ≡ true
inputs_named program short = by_main (last_function program.functions) (body_named program.functions (length program.functions - 1) short)
  where
    by_main : (found : Option Function) → list_all names_shortly (body_of found) ≡ true
        → list_all input_short (Rattle.sk_typing.specs.Inputs.distinct_after [] (flat_map taken_of (elim (elim found as (λ _. Option Function) [ Some function ↦ if is_main_header function then Some function else None | None ↦ None ]) as (λ _. List Statement) [ Some function ↦ function.body | None ↦ [] ]))) ≡ true
    by_main None e = refl
    by_main (Some function) e =
        distinct_short [] (flat_map taken_of (elim (if is_main_header function then Some function else None) as (λ _. List Statement) [ Some function ↦ function.body | None ↦ [] ])) refl
        (statements_taken (elim (if is_main_header function then Some function else None) as (λ _. List Statement) [ Some function ↦ function.body | None ↦ [] ]) (main_of_named (Some function) (is_main_header function) e))

pub standing_named : StandingObjectsAreNamed
standing_named program from object stands =
    let short : IsNamedShortly program = texts_named program from in
    let held = main_holds program short in
    let body : list_all names_shortly (main_body program) ≡ true = body_named program.functions (length program.functions - 1) short in
    let named : AreNamed (all_held (map held_of (main_body program))) = statements_named (main_body program) body in
    let made : list_all instance_short (placed_main program).behind.instances ≡ true =
    ap (λ (e : Emitted). list_all instance_short e.behind.instances) (main_is program) ∙ ap (λ (l : List instances.Instance). list_all instance_short l) held.instances ∙ named.instances in
    record {
      functions = ap (λ (o : Object). list_all is_short_name o.names) stands.same ∙ names_named program.functions (length program.functions - 1) short;
      containers = ap (λ (l : List Declared). list_all container_short l) (containers_are program object stands) ∙ ap (λ (l : List Declared). list_all container_short l) held.containers ∙ named.containers;
      instances = some_named object.instances (object_of program).instances stands.instances
          (plans_named (full_object program) (known_in program) (placed_main program).behind.instances made);
      inputs = ap (λ (o : Object). list_all input_short o.inputs) stands.same ∙ inputs_named program short;
      texts = ap (λ (l : List Instr). list_all prints_short_text l) (code_is program object stands) ∙ held.texts.each;
    }
