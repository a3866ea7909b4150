-- The functions of the object that a program is compiled to are those of its functions alone.
use Rattle.std.proofs.Common.{◌≡◌, ℕ, zero, suc, ◌<◌, ◌≤◌, List, [], ◌∷◌, ◌++◌, length, ℤ, pos, Option, Some, None, refl, ap, ◌∙◌, arith}
use Rattle.std.specs.Prelude.{Result, Ok, slice_get}
use Rattle.sk_base.specs.declared.number.Trap.{Trap}
use Rattle.sk_isa.specs.Coded.{Callee, callees_below, code_value, function_of, with_callee}
use Rattle.sk_isa.specs.declared.code.Code.{Code}
use Rattle.sk_isa.specs.declared.object.Signature.{Signature}
use Rattle.sk_main_runs.specs.Vectors.{FunctionsMeanAlike}
use Rattle.sk_main_scheme.specs.Objects.{object_of}
use Rattle.sk_meaning.specs.Evaluation.{Argument}
use Rattle.sk_scheme.specs.Plans.{functions_before_main, functions_object, main_signature}
use Rattle.sk_scheme.specs.Scheme.{Known, codes_of, known_of, signatures_after, signatures_of}
use Rattle.sk_tree.specs.declared.tree.Function.{Function}
use Rattle.sk_tree.specs.declared.tree.Program.{Program}

module _ {A : Type 0} where
  front-same : (xs ys zs : List A) (n : ℕ) → n < length xs → slice_get (xs ++ ys) n ≡ slice_get (xs ++ zs) n
  front-same [] ys zs n low = absurd (omega (arith, low))
  front-same (x ∷ xs) ys zs zero low = refl
  front-same (x ∷ xs) ys zs (suc n) low = front-same xs ys zs n (omega (arith, low))

  got_below : (xs : List A) (n : ℕ) (x : A) → slice_get xs n ≡ Some x → n < length xs
  got_below [] n x e = let no : ⊥ = cc in absurd no
  got_below (y ∷ xs) zero x e = omega arith
  got_below (y ∷ xs) (suc n) x e = let low = got_below xs n x e in omega (arith, low)

signatures-length : (functions : List Function) (number : ℕ) (knowns : List (List ℕ × Known)) → length (signatures_after number knowns functions) ≡ length functions
signatures-length [] number knowns = refl
signatures-length (first ∷ functions) number knowns = ap suc (signatures-length functions (suc number) ((first.name, known_of number first) ∷ knowns))

callees_front : (xs ys zs : List Signature) (codes : List Code) (n : ℕ) → n ≤ length xs → callees_below (xs ++ ys) codes n ≡ callees_below (xs ++ zs) codes n
unfolding callees_below
callees_front xs ys zs codes zero low = refl
callees_front xs ys zs codes (suc n) low =
    ap (λ (cs : List Callee). with_callee cs (slice_get (xs ++ ys) n) (slice_get codes n)) (callees_front xs ys zs codes n (omega (arith, low)))
    ∙ ap (λ (s : Option Signature). with_callee (callees_below (xs ++ zs) codes n) s (slice_get codes n)) (front-same xs ys zs n (omega (arith, low)))

function-same : (program : Program) (number : ℕ) (function : Function) → slice_get (functions_before_main program) number ≡ Some function → (arguments : List Argument) (turns : ℕ)
    → function_of (object_of program) number arguments turns ≡ function_of (functions_object program) number arguments turns
function-same program number function e arguments turns =
    let functions : List Function = functions_before_main program in
    let low = got_below functions number function e in
    let size : length (signatures_of functions) ≡ length functions = signatures-length functions 0 [] in
    ap (λ (cs : List Callee). elim (slice_get (codes_of functions) number) as (λ x. Result (ℤ × ℕ) Trap) [ Some code ↦ code_value cs code arguments turns | None ↦ Ok (pos 0, turns) ])
    (callees_front (signatures_of functions) _ (main_signature ∷ []) (codes_of functions) number (omega (arith, low, size)))

-- where a program's functions mean what their sources mean, they do in its object
pub means_alike : FunctionsMeanAlike
means_alike program means number function e arguments suits turns = function-same program number function e arguments turns ∙ means number function e arguments suits turns
