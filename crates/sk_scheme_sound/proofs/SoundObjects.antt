-- The compiled form of a plain program is sound.
use Rattle.std.proofs.Common.{◌≡◌, ◌⊎◌, ℕ, zero, suc, ◌+◌, List, [], ◌∷◌, length, replicate, Option, Some, None, slice_get, refl, sym, ap, ◌∙◌, subst, arith, length-append, inl, inr}
use Rattle.std.proofs.lemmas.List.{length-map, length-replicate}
use Rattle.std.proofs.lemmas.Option.{slice_get_within}
use Rattle.std.specs.Prelude.{true, false, All, Bool}
use Rattle.std.specs.List.{list_all}
use Rattle.sk_tree.specs.declared.operator.Operator.{Operator}
use Rattle.sk_tree.specs.declared.tree.Function.{Function}
use Rattle.sk_tree.specs.declared.tree.Program.{Program}
use Rattle.sk_scheme.specs.Plans.{functions_before_main, functions_object, main_signature}
use Rattle.sk_scheme.specs.Scheme.{Known, known_of, signature_of, codes_of, codes_after, signatures_of, signatures_after}
use Rattle.sk_isa.specs.SoundObjects.{HasSoundFunctions, IsSoundPlan, TakesScalars}
use Rattle.sk_isa.specs.Soundness.{IsSoundCode, is_scalar}
use Rattle.sk_isa.specs.declared.code.Code.{Code}
use Rattle.sk_isa.specs.declared.object.Plan.{Plan}
use Rattle.sk_isa.specs.declared.object.Signature.{Signature}
use Rattle.std.proofs.lemmas.List.Elements.{All-nil}
use Rattle.sk_plain.specs.Codes.{HasSoundCodes, functions_alone}
use Rattle.sk_plain.specs.Plain.{ArePlain, IsPlain, FunctionsTakeScalars, takes_scalars}
use Rattle.sk_plain.proofs.Parameters.{kinds_all}
use Rattle.sk_plain.proofs.Truths.{and_left, and_right, some_same}
use Rattle.sk_plain.proofs.Lists.{slice_get-front, slice_get-one_more, all_from}
use Rattle.sk_scheme_sound.proofs.SoundFunctions.{IsSoundFunction, functions_sound}

codes-length : (number : ℕ) (known : List (List ℕ × Known)) (functions : List Function) → length (codes_after number known functions) ≡ length functions
codes-length number known [] = refl
codes-length number known (function ∷ functions) = ap suc (codes-length (suc number) _ functions)

signatures-length : (number : ℕ) (known : List (List ℕ × Known)) (functions : List Function) → length (signatures_after number known functions) ≡ length functions
signatures-length number known [] = refl
signatures-length number known (function ∷ functions) = ap suc (signatures-length (suc number) _ functions)

-- the parameters of functions that take scalars
pub params_scalar : (number : ℕ) (known : List (List ℕ × Known)) (functions : List Function) → list_all takes_scalars functions ≡ true
    → (k : ℕ) (own : Signature) → slice_get (signatures_after number known functions) k ≡ Some own → list_all is_scalar own.params ≡ true
params_scalar number known [] scalars k own e = let no : ⊥ = cc in absurd no
params_scalar number known (function ∷ functions) scalars zero own e =
    subst (λ (s : Signature). list_all is_scalar s.params ≡ true) (some_same (signature_of known function) own e)
    (kinds_all is_scalar function.params (and_left (takes_scalars function) (list_all takes_scalars functions) scalars))
params_scalar number known (function ∷ functions) scalars (suc k) own e =
    params_scalar (suc number) ((function.name, known_of number function) ∷ known) functions (and_right (takes_scalars function) (list_all takes_scalars functions) scalars) k own e

-- none is marked
unmarked : (n k : ℕ) → (elim (slice_get (replicate n false) k) as (λ o. Bool) [ Some marked ↦ marked | None ↦ false ]) ≡ false
unmarked zero k = refl
unmarked (suc n) zero = refl
unmarked (suc n) (suc k) = unmarked n k

-- none is an associative operator
unlisted : (n k : ℕ) → (elim (slice_get {X = Option Operator} (replicate n None) k) as (λ o. Option Operator) [ Some operator ↦ operator | None ↦ None ]) ≡ None
unlisted zero k = refl
unlisted (suc n) zero = refl
unlisted (suc n) (suc k) = unlisted n k

-- the functions of a plain program, each with its code and its signature
function_is_sound : (program : Program) → ArePlain [] (functions_before_main program) → (k : ℕ) (own : Signature) → slice_get (signatures_of (functions_before_main program)) k ≡ Some own
    → (code : Code) × (slice_get (codes_of (functions_before_main program)) k ≡ Some code) × IsSoundFunction (functions_object program).signatures k own code
function_is_sound program plain k own e =
    let functions : List Function = functions_before_main program in
    let all : List Signature = (functions_object program).signatures in
    let stand : (k : ℕ) (own : Signature) → slice_get (signatures_of functions) k ≡ Some own → slice_get all (0 + k) ≡ Some own =
    λ k own e. let here : k ≡ 0 + k = omega arith in
    subst (λ n. slice_get all n ≡ Some own) here (slice_get-front (signatures_of functions) (main_signature ∷ []) k own e) in
    let r = functions_sound all 0 [] [] functions tt plain stand k own e in
    let here : 0 + k ≡ k = omega arith in
    (r.0, r.1, subst (λ n. IsSoundFunction all n own r.0) here r.2)

code_is_sound : (program : Program) → ArePlain [] (functions_before_main program) → (function : ℕ) (code : Code) (own : Signature) → slice_get (codes_of (functions_before_main program)) function ≡ Some code
    → slice_get (functions_object program).signatures function ≡ Some own → IsSoundCode (functions_object program).signatures function own code
code_is_sound program plain function code own e f = by_case (slice_get-one_more (signatures_of (functions_before_main program)) main_signature function own f)
  where
    by_case : (slice_get (signatures_of (functions_before_main program)) function ≡ Some own) ⊎ ((main_signature ≡ own) × (function ≡ length (signatures_of (functions_before_main program))))
        → IsSoundCode (functions_object program).signatures function own code
    by_case (inl there) =
        let r = function_is_sound program plain function own there in
        let both : Some r.0 ≡ Some code = sym r.1 ∙ e in
        let same : r.0 ≡ code = cc in
        subst (λ (c : Code). IsSoundCode (functions_object program).signatures function own c) same r.2.sound
    by_case (inr last) =
        let within = slice_get_within (codes_of (functions_before_main program)) function code e in
        absurd (omega (arith, within, last.1, codes-length 0 [] (functions_before_main program), signatures-length 0 [] (functions_before_main program)))

-- the code of plain functions
pub codes_are_sound : (program : Program) → ArePlain [] (functions_before_main program) → HasSoundCodes (functions_object program)
codes_are_sound program plain =
    let functions : List Function = functions_before_main program in
    let codes = codes-length 0 [] functions in
    record {
      functions = λ function code own e f. code_is_sound program plain function code own e f;
      signatures = omega (arith, length-append (signatures_of functions) (main_signature ∷ []), signatures-length 0 [] functions, codes);
    }

-- with instances that are sound
object_is_sound : (program : Program) → ArePlain [] (functions_before_main program) → (plans : List Plan) → All (IsSoundPlan (record (functions_object program) { instances = plans })) plans
    → HasSoundFunctions (record (functions_object program) { instances = plans })
object_is_sound program plain plans fine =
    let functions : List Function = functions_before_main program in
    let codes = codes-length 0 [] functions in
    record {
      functions = λ function code own e f. code_is_sound program plain function code own e f;
      signatures = omega (arith, length-append (signatures_of functions) (main_signature ∷ []), signatures-length 0 [] functions, codes);
      safe = length-replicate (length functions) false ∙ sym codes;
      operators = length-replicate (length functions) None ∙ sym codes;
      names = length-map functions (λ function. function.name) ∙ sym codes;
      marks = λ function marked. let no : false ≡ true = sym (unmarked (length functions) function) ∙ marked in let wrong : ⊥ = cc in absurd wrong;
      listed = λ function operator is. let no : None ≡ Some operator = sym (unlisted (length functions) function) ∙ is in let wrong : ⊥ = cc in absurd wrong;
      instances = fine;
    }

-- The compiled form of a plain program is sound.
pub plain_is_sound : (program : Program) → IsPlain program → HasSoundFunctions (functions_object program)
plain_is_sound program plain = object_is_sound program plain.functions (functions_object program).instances plain.instances

-- Plain functions alone are sound.
pub alone_is_sound : (program : Program) → ArePlain [] (functions_before_main program) → HasSoundFunctions (functions_alone program)
alone_is_sound program plain = object_is_sound program plain [] (All-nil (IsSoundPlan (functions_alone program)))

-- No function takes anything but scalars, where the functions of the program do not.
pub plain_takes_scalars : (program : Program) → IsPlain program → FunctionsTakeScalars program → TakesScalars (functions_object program)
plain_takes_scalars program plain scalars =
    all_from (λ (signature : Signature). list_all is_scalar signature.slots ≡ true) (functions_object program).signatures
    (λ k own e. by_case k own (slice_get-one_more (signatures_of (functions_before_main program)) main_signature k own e))
  where
    by_case : (k : ℕ) (own : Signature) → (slice_get (signatures_of (functions_before_main program)) k ≡ Some own) ⊎ ((main_signature ≡ own) × (k ≡ length (signatures_of (functions_before_main program))))
        → list_all is_scalar own.slots ≡ true
    by_case k own (inl there) =
        (function_is_sound program plain.functions k own there).2.scalars (params_scalar 0 [] (functions_before_main program) scalars k own there)
    by_case k own (inr last) = subst (λ (signature : Signature). list_all is_scalar signature.slots ≡ true) last.0 refl
