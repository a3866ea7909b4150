-- Each object with true marks that stands for a typed program of vectors that a text has is sound, beside its main.
use Rattle.std.proofs.Common.{◌≡◌, ◌∙◌, ℕ, suc, Bool, true, List, [], ◌∷◌, ◌++◌, length, map, All, Option, Some, refl, sym, ap, subst, arith, length-append}
use Rattle.std.proofs.lemmas.Bool.{and_from}
use Rattle.std.proofs.lemmas.List.{length-map}
use Rattle.std.proofs.lemmas.List.Elements.{All-nil, All-cons}
use Rattle.std.specs.Prelude.{slice_get}
use Rattle.std.specs.List.{list_all}
use Rattle.std.proofs.lemmas.Bool.{eqb-true}
use Rattle.sk_base.specs.declared.number.Ty.{Ty}
use Rattle.sk_base.specs.declared.number.Ty.TheVariants.{Int}
use Rattle.sk_isa.specs.SoundObjects.{HasSoundFunctions, IsSoundPlan}
use Rattle.sk_isa.specs.Soundness.{IsSoundCode, is_dimension, is_scalar}
use Rattle.sk_isa.specs.declared.code.Code.{Code}
use Rattle.sk_isa.specs.declared.object.Object.{Object}
use Rattle.sk_isa.specs.declared.object.Signature.{Signature}
use Rattle.sk_main_code.specs.MainSoundness.{IsSoundMain}
use Rattle.sk_main_code.specs.Sound.{AreDistinct, IsSound, has_kind}
use Rattle.sk_main_code.specs.Vectors.{IsVectorObject}
use Rattle.sk_main_fits.specs.Mains.{known_in, main_body}
use Rattle.sk_main_scheme.proofs.UnmarkedObjects.{main_of as placed_main, marks-length}
use Rattle.sk_main_scheme.specs.MainScheme.{Emitted}
use Rattle.sk_main_scheme.specs.Objects.{AreSomeMarks, AreSomeOperators, StandsFor, object_of}
use Rattle.sk_plain.proofs.Truths.{and_left, and_right}
use Rattle.sk_safety.specs.Operators.{listed_of}
use Rattle.sk_scheme.specs.Plans.{functions_before_main, functions_object, plan_of}
use Rattle.sk_scheme.specs.Scheme.{codes_of, signatures_of}
use Rattle.sk_tree.specs.declared.declared.Declared.{Declared}
use Rattle.sk_tree.specs.declared.operator.Operator.{Operator}
use Rattle.sk_tree.specs.declared.tree.Function.{Function}
use Rattle.sk_tree.specs.declared.tree.Instance as instances
use Rattle.sk_tree.specs.declared.tree.ParamKind.TheVariants.{Scalar}
use Rattle.sk_tree.specs.declared.tree.Program.{Program}
use Rattle.sk_vector_laws.proofs.Emission.{all_held, held_of}
use Rattle.sk_vector_laws.proofs.Functions.{all_scalars, code_is_sound, codes-length, signatures-length}
use Rattle.sk_vector_laws.proofs.Main.{containers_are, full_object, main_holds, main_is}
use Rattle.sk_vector_laws.proofs.Means.{plainly_of}
use Rattle.sk_vector_laws.proofs.Names.{standing_named}
use Rattle.sk_vector_laws.proofs.Operators.{standing_operators}
use Rattle.sk_vector_laws.proofs.Plain.{IsPlainly}
use Rattle.sk_vector_laws.proofs.Plans.{plans_maps, plans_sound}
use Rattle.sk_vector_laws.proofs.VectorForms.{is_vector, makes_map}
use Rattle.sk_vector_laws.proofs.WrittenPrograms.{texts_named}
use Rattle.sk_vector_laws.specs.Marks.{HasTrueMarks}
use Rattle.sk_vector_laws.specs.Vectors.{IsTypedOfVectors}

marks_many : (marks all : List Bool) → AreSomeMarks marks all → length marks ≡ length all
marks_many [] [] h = refl
marks_many [] (one ∷ all) h = absurd h
marks_many (mark ∷ marks) [] h = absurd h
marks_many (mark ∷ marks) (one ∷ all) h = ap suc (marks_many marks all h.1)

operators_many : (operators all : List (Option Operator)) → AreSomeOperators operators all → length operators ≡ length all
operators_many [] [] h = refl
operators_many [] (one ∷ all) h = absurd h
operators_many (operator ∷ operators) [] h = absurd h
operators_many (operator ∷ operators) (one ∷ all) h = ap suc (operators_many operators all h.1)

slots_scalar : (types : List Ty) → list_all is_scalar (map Scalar types) ≡ true
slots_scalar [] = refl
slots_scalar (ty ∷ types) = slots_scalar types

vectors_have_kinds : (containers : List Declared) → list_all is_vector containers ≡ true → list_all has_kind containers ≡ true
vectors_have_kinds [] e = refl
vectors_have_kinds (container ∷ containers) e =
    let one : container.kind ≡ 1 = eqb-true container.kind 1 (and_left (is_vector container) (list_all is_vector containers) e) in
    and_from (has_kind container) (list_all has_kind containers) (ap (is_dimension 4) one) (vectors_have_kinds containers (and_right (is_vector container) (list_all is_vector containers) e))

vectors_all : (containers : List Declared) → list_all is_vector containers ≡ true → All (λ (container : Declared). container.kind ≡ 1) containers
vectors_all [] e = All-nil (λ (container : Declared). container.kind ≡ 1)
vectors_all (container ∷ containers) e =
    All-cons (λ (container : Declared). container.kind ≡ 1) container containers (eqb-true container.kind 1 (and_left (is_vector container) (list_all is_vector containers) e))
    (vectors_all containers (and_right (is_vector container) (list_all is_vector containers) e))

none_distinct : AreDistinct []
none_distinct one other first second e f same = absurd (cc e)

module _ (program : Program) (h : IsTypedOfVectors program) (object : Object) (stands : StandsFor object program) where
  abbrev plainly : IsPlainly program
  plainly = plainly_of program h

  abbrev functions : List Function
  functions = functions_before_main program

  abbrev main : Signature
  main = record { ret = Int; params = []; slots = map Scalar (placed_main program).behind.slots }

  functions_are : object.functions ≡ codes_of functions
  functions_are = ap (λ (o : Object). o.functions) stands.same

  signatures_are : object.signatures ≡ signatures_of functions ++ main ∷ []
  signatures_are = ap (λ (o : Object). o.signatures) stands.same

  made_are : (placed_main program).behind.instances ≡ (all_held (map held_of (main_body program))).instances
  made_are = ap (λ (e : Emitted). e.behind.instances) (main_is program) ∙ (main_holds program (texts_named program h.from)).instances

  made_maps : list_all makes_map (placed_main program).behind.instances ≡ true
  made_maps = ap (λ (l : List instances.Instance). list_all makes_map l) made_are ∙ plainly.maps

  containers_vectors : list_all is_vector object.containers ≡ true
  containers_vectors =
      ap (λ (l : List Declared). list_all is_vector l) (containers_are program object stands ∙ (main_holds program (texts_named program h.from)).containers) ∙ plainly.vectors

  inputs_none : object.inputs ≡ []
  inputs_none = ap (λ (o : Object). o.inputs) stands.same ∙ plainly.inputs

  code_sound : (function : ℕ) (code : Code) (own : Signature) → slice_get object.functions function ≡ Some code → slice_get object.signatures function ≡ Some own → IsSoundCode object.signatures function own code
  code_sound function code own e f =
      subst (λ (l : List Signature). IsSoundCode l function own code) (sym signatures_are)
      (code_is_sound functions plainly.plain.functions main function code own (sym (ap (λ (l : List Code). slice_get l function) functions_are) ∙ e)
      (sym (ap (λ (l : List Signature). slice_get l function) signatures_are) ∙ f))

  pub has_sound_functions : HasTrueMarks object → HasSoundFunctions object
  has_sound_functions marks =
      let codes : length object.functions ≡ length functions = ap length functions_are ∙ codes-length 0 [] functions in
      record {
        functions = code_sound;
        signatures =
            let many = ap length signatures_are in
            let more = length-append (signatures_of functions) (main ∷ []) in
            let few = signatures-length 0 [] functions in
            omega (arith, many, more, few, codes);
        safe = marks_many object.safe (object_of program).safe stands.safe ∙ marks-length functions ∙ sym codes;
        operators = operators_many object.operators (object_of program).operators stands.operators ∙ length-map functions listed_of ∙ sym codes;
        names = ap (λ (o : Object). length o.names) stands.same ∙ length-map functions (λ (function : Function). function.name) ∙ sym codes;
        marks = marks.safe;
        listed = standing_operators program h object stands;
        instances = plans_sound program object main functions_are signatures_are (known_in program) (placed_main program).behind.instances object.instances (full_object program) stands.instances
            (subst (λ (l : List instances.Instance). All (IsSoundPlan (functions_object program)) (map (plan_of (known_in program)) l)) (sym made_are) plainly.plans) made_maps marks.offered;
      }

  pub is_sound : HasTrueMarks object → IsSoundMain object → IsSound object
  is_sound marks sound = record {
    functions = has_sound_functions marks;
    main = sound;
    names = standing_named program h.from object stands;
    distinct = subst AreDistinct (sym inputs_none) none_distinct;
    container_kinds = vectors_have_kinds object.containers containers_vectors;
    input_kinds = ap (λ (l : List Declared). list_all has_kind l) inputs_none;
  }

  pub is_vector_object : IsVectorObject object
  is_vector_object = record {
    functions = subst (λ (l : List Signature). All (λ (signature : Signature). list_all is_scalar signature.slots ≡ true) l) (sym signatures_are)
        (all_scalars functions plainly.plain.functions main plainly.scalars (slots_scalar (placed_main program).behind.slots));
    instances = plans_maps (known_in program) (placed_main program).behind.instances object.instances (full_object program) stands.instances made_maps;
    containers = vectors_all object.containers containers_vectors;
    inputs = inputs_none;
  }
