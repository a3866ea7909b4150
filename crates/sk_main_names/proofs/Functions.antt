-- Functions that are known in main: each has its signature in the object, takes scalars, and may be called.
use Rattle.std.proofs.Common.{◌≡◌, ℕ, suc, ◌+◌, ◌-◌, ◌<◌, ◌≤◌, List, [], ◌∷◌, length, map, Option, Some, None, slice_get, refl, sym, ap, ◌∙◌, subst, arith}
use Rattle.std.proofs.lemmas.Bool.{and_from}
use Rattle.std.proofs.lemmas.List.{length-take-le}
use Rattle.std.proofs.lemmas.Option.{slice_get-map}
use Rattle.std.specs.List.{list_all}
use Rattle.std.specs.Option.{option_map}
use Rattle.std.specs.Prelude.{true, false, Bool, nat_lt}
use Rattle.sk_base.specs.declared.number.Ty.{Ty}
use Rattle.sk_base.specs.declared.number.Ty.TheVariants.{Int}
use Rattle.sk_isa.specs.Objects.{no_signature, signature_at}
use Rattle.sk_isa.specs.Soundness.{takes_scalars as signature_takes_scalars}
use Rattle.sk_isa.specs.declared.object.Object.{Object}
use Rattle.sk_isa.specs.declared.object.Signature.{Signature}
use Rattle.sk_main_code.specs.MainSoundness.{main_scalar, main_signature}
use Rattle.sk_main_fits.specs.Mains.{known_in, main_of}
use Rattle.sk_main_fits.specs.Vectors.{IsOfVectors, takes_scalars}
use Rattle.sk_main_names.proofs.Expressions.{HasCalls}
use Rattle.sk_main_scheme.specs.MainScheme.{Emitted, main_emitted}
use Rattle.sk_main_scheme.specs.Objects.{object_of}
use Rattle.sk_names.specs.Bindings.{bound_to}
use Rattle.sk_names.specs.Bytes.{same_bytes}
use Rattle.sk_plain.proofs.Bindings.{bound_to-here}
use Rattle.sk_plain.proofs.Lists.{slice_get-at, slice_get-front}
use Rattle.sk_plain.proofs.Truths.{and_left, and_right, some_same}
use Rattle.sk_scheme.specs.Plans.{functions_before_main}
use Rattle.sk_scheme.specs.Scheme.{Known, codes_after, known_after, known_functions, known_of, signature_of, signatures_after, signatures_of}
use Rattle.sk_tree.specs.Functions.{body_of}
use Rattle.sk_tree.specs.Parameters.{is_scalar}
use Rattle.sk_tree.specs.declared.tree.Function.{Function}
use Rattle.sk_tree.specs.declared.tree.ParamKind.{ParamKind}
use Rattle.sk_tree.specs.declared.tree.ParamKind.TheVariants.{Scalar}
use Rattle.sk_tree.specs.declared.tree.Program.{Program}

-- a function that is known, with its signature among all, and its number below a bound
pub record IsKnown (signatures : List Signature) (bound : ℕ) (known : Known) : Type 0 where
  pub signature : Signature
  pub is : slice_get signatures known.number ≡ Some signature
  pub params : signature.params ≡ known.kinds
  pub ret : signature.ret ≡ known.ret
  pub below : known.number < bound
  pub scalars : list_all is_scalar known.kinds ≡ true

abbrev AreKnown : List Signature → ℕ → List (List ℕ × Known) → Type 0
AreKnown signatures bound knowns = (name : List ℕ) (known : Known) → bound_to name knowns ≡ Some known → IsKnown signatures bound known

module _ (signatures : List Signature) (bound : ℕ) where
  known_more : (number : ℕ) (function : Function) (knowns : List (List ℕ × Known)) → slice_get signatures number ≡ Some (signature_of knowns function) → number < bound
      → takes_scalars function ≡ true → AreKnown signatures bound knowns → AreKnown signatures bound ((function.name, known_of number function) ∷ knowns)
  known_more number function knowns there low scalars earlier name known e = by_test (same_bytes function.name name) refl
    where
      by_test : (b : Bool) → same_bytes function.name name ≡ b → IsKnown signatures bound known
      by_test true s =
          let same : known_of number function ≡ known = some_same (known_of number function) known (sym (bound_to-here name function.name (function.name, known_of number function) knowns true refl s) ∙ e) in
          subst (λ (k : Known). IsKnown signatures bound k) same
          (record { signature = signature_of knowns function; is = there; params = refl; ret = refl; below = low; scalars = scalars })
      by_test false s = earlier name known (sym (bound_to-here name function.name (function.name, known_of number function) knowns false refl s) ∙ e)

  known_all : (functions : List Function) (number : ℕ) (knowns : List (List ℕ × Known))
      → ((n : ℕ) (signature : Signature) → slice_get (signatures_after number knowns functions) n ≡ Some signature → slice_get signatures (number + n) ≡ Some signature)
      → number + length functions ≤ bound → list_all takes_scalars functions ≡ true
      → AreKnown signatures bound knowns → AreKnown signatures bound (known_after number knowns functions)
  known_all [] number knowns there low scalars earlier = earlier
  known_all (first ∷ functions) number knowns there low scalars earlier =
      let z : number + 0 ≡ number = omega arith in
      let here : slice_get signatures number ≡ Some (signature_of knowns first) = subst (λ n. slice_get signatures n ≡ Some (signature_of knowns first)) z (there 0 (signature_of knowns first) refl) in
      known_all functions (suc number) ((first.name, known_of number first) ∷ knowns)
      (λ n signature e. let m : number + suc n ≡ suc number + n = omega arith in subst (λ k. slice_get signatures k ≡ Some signature) m (there (suc n) signature e))
      (omega (arith, low)) (and_right (takes_scalars first) (list_all takes_scalars functions) scalars)
      (known_more number first knowns here (omega (arith, low)) (and_left (takes_scalars first) (list_all takes_scalars functions) scalars) earlier)

codes-length : (number : ℕ) (known : List (List ℕ × Known)) (functions : List Function) → length (codes_after number known functions) ≡ length functions
codes-length number known [] = refl
codes-length number known (function ∷ functions) = ap suc (codes-length (suc number) _ functions)

signatures-length : (number : ℕ) (known : List (List ℕ × Known)) (functions : List Function) → length (signatures_after number known functions) ≡ length functions
signatures-length number known [] = refl
signatures-length number known (function ∷ functions) = ap suc (signatures-length (suc number) _ functions)

module _ (program : Program) where
  count_is : length (functions_before_main program) ≡ length program.functions - 1
  count_is = length-take-le (length program.functions - 1) program.functions (omega arith)

  -- main by its place
  pub main_is : main_emitted (known_functions (functions_before_main program)) (body_of (slice_get program.functions (length (functions_before_main program)))) ≡ main_of program
  main_is = ap (λ n. main_emitted (known_functions (functions_before_main program)) (body_of (slice_get program.functions n))) count_is

  -- an object with the program's functions and signatures
  module _ (object : Object) (same_functions : object.functions ≡ (object_of program).functions) (same_signatures : object.signatures ≡ (object_of program).signatures) where
    functions_length : length object.functions ≡ length (functions_before_main program)
    functions_length = ap length same_functions ∙ codes-length 0 [] (functions_before_main program)

    pub known_there : IsOfVectors program → (name : List ℕ) (known : Known) → bound_to name (known_in program) ≡ Some known → IsKnown object.signatures (length object.functions) known
    known_there vectors =
        known_all object.signatures (length object.functions) (functions_before_main program) 0 []
        (λ n signature e. let z : n ≡ 0 + n = omega arith in
        subst (λ k. slice_get object.signatures k ≡ Some signature) z
        (ap (λ (l : List Signature). slice_get l n) same_signatures ∙ slice_get-front (signatures_of (functions_before_main program)) _ n signature e))
        (omega (arith, functions_length)) vectors.scalars
        (λ name known e. let no : ⊥ = cc in absurd no)

    -- main's signature is the last one
    pub main_signature_is : main_signature object ≡ record { ret = Int; params = []; slots = map Scalar (main_of program).behind.slots }
    main_signature_is =
        let functions : List Function = functions_before_main program in
        let here : Emitted = main_emitted (known_functions functions) (body_of (slice_get program.functions (length functions))) in
        let own : Signature = record { ret = Int; params = []; slots = map Scalar here.behind.slots } in
        let place : length (signatures_of functions) ≡ length object.functions = signatures-length 0 [] functions ∙ sym functions_length in
        let there : slice_get object.signatures (length object.functions) ≡ Some own =
        ap (λ (l : List Signature). slice_get l (length object.functions)) same_signatures ∙ slice_get-at (signatures_of functions) own [] (length object.functions) place in
        ap (λ (o : Option Signature). elim o as (λ x. Signature) [ Some signature ↦ signature | None ↦ no_signature ]) there
        ∙ ap (λ (e : Emitted). let signature : Signature = record { ret = Int; params = []; slots = map Scalar e.behind.slots } in signature) main_is

-- a slot of main's signature, which has scalars alone
pub scalar_is : (object : Object) (types : List Ty) → (main_signature object).slots ≡ map Scalar types → (slot : ℕ) (ty : Ty) → slice_get types slot ≡ Some ty → main_scalar object slot ≡ Some ty
scalar_is object types is slot ty e =
    ap (λ (o : Option ParamKind). elim o as (λ x. Option Ty) [ Some kind ↦ elim kind as (λ x. Option Ty) [ Scalar ty ↦ Some ty | _ ↦ None ] | None ↦ None ])
    (ap (λ (l : List ParamKind). slice_get l slot) is ∙ slice_get-map Scalar types slot ∙ ap (option_map Scalar) e)

-- the signature of a function that is known
pub signature_is : (object : Object) (known : Known) (k : IsKnown object.signatures (length object.functions) known) → signature_at object known.number ≡ k.signature
signature_is object known k = ap (λ (o : Option Signature). elim o as (λ x. Signature) [ Some signature ↦ signature | None ↦ no_signature ]) k.is

-- a function that is known may be called
pub calls_named : (object : Object) (functions : List (List ℕ × Known))
    → ((name : List ℕ) (known : Known) → bound_to name functions ≡ Some known → IsKnown object.signatures (length object.functions) known) → HasCalls object functions
calls_named object functions all = record {
  each = λ name known e.
      let k = all name known e in
      let below : nat_lt known.number (length object.functions) ≡ true = grind (arith, k.below) in
      and_from (nat_lt known.number (length object.functions)) (signature_takes_scalars (slice_get object.signatures known.number)) below
      (ap signature_takes_scalars k.is ∙ ap (list_all is_scalar) k.params ∙ k.scalars);
}
