-- The functions of an object that has the plain functions of a program, and the signature of main behind theirs.
use Rattle.std.proofs.Common.{◌≡◌, ◌⊎◌, ◌∙◌, ℕ, suc, ◌+◌, List, [], ◌∷◌, ◌++◌, length, Some, slice_get, inl, inr, refl, sym, ap, subst, arith}
use Rattle.std.proofs.lemmas.Option.{slice_get_within}
use Rattle.std.specs.Prelude.{true, All}
use Rattle.std.specs.List.{list_all}
use Rattle.sk_isa.specs.Soundness.{IsSoundCode, is_scalar}
use Rattle.sk_isa.specs.declared.code.Code.{Code}
use Rattle.sk_isa.specs.declared.object.Signature.{Signature}
use Rattle.sk_plain.proofs.Lists.{all_from, slice_get-front, slice_get-one_more}
use Rattle.sk_plain.specs.Plain.{ArePlain, takes_scalars}
use Rattle.sk_scheme.specs.Scheme.{Known, codes_after, codes_of, signatures_after, signatures_of}
use Rattle.sk_scheme_sound.proofs.SoundFunctions.{IsSoundFunction, functions_sound}
use Rattle.sk_scheme_sound.proofs.SoundObjects.{params_scalar}
use Rattle.sk_tree.specs.declared.tree.Function.{Function}

pub codes-length : (number : ℕ) (known : List (List ℕ × Known)) (functions : List Function) → length (codes_after number known functions) ≡ length functions
codes-length number known [] = refl
codes-length number known (function ∷ functions) = ap suc (codes-length (suc number) _ functions)

pub signatures-length : (number : ℕ) (known : List (List ℕ × Known)) (functions : List Function) → length (signatures_after number known functions) ≡ length functions
signatures-length number known [] = refl
signatures-length number known (function ∷ functions) = ap suc (signatures-length (suc number) _ functions)

module _ (functions : List Function) (plain : ArePlain [] functions) (main : Signature) where
  abbrev all : List Signature
  all = signatures_of functions ++ main ∷ []

  function_is_sound : (k : ℕ) (own : Signature) → slice_get (signatures_of functions) k ≡ Some own → (code : Code) × (slice_get (codes_of functions) k ≡ Some code) × IsSoundFunction all k own code
  function_is_sound k own e =
      let stand : (k : ℕ) (own : Signature) → slice_get (signatures_of functions) k ≡ Some own → slice_get all (0 + k) ≡ Some own =
      λ k own e. let here : k ≡ 0 + k = omega arith in
      subst (λ n. slice_get all n ≡ Some own) here (slice_get-front (signatures_of functions) (main ∷ []) k own e) in
      let r = functions_sound all 0 [] [] functions tt plain stand k own e in
      let here : 0 + k ≡ k = omega arith in
      (r.0, r.1, subst (λ n. IsSoundFunction all n own r.0) here r.2)

  pub code_is_sound : (function : ℕ) (code : Code) (own : Signature) → slice_get (codes_of functions) function ≡ Some code → slice_get all function ≡ Some own → IsSoundCode all function own code
  code_is_sound function code own e f = by_case (slice_get-one_more (signatures_of functions) main function own f)
    where
      by_case : (slice_get (signatures_of functions) function ≡ Some own) ⊎ ((main ≡ own) × (function ≡ length (signatures_of functions))) → IsSoundCode all function own code
      by_case (inl there) =
          let r = function_is_sound function own there in
          let both : Some r.0 ≡ Some code = sym r.1 ∙ e in
          let same : r.0 ≡ code = cc in
          subst (λ (c : Code). IsSoundCode all function own c) same r.2.sound
      by_case (inr last) =
          let within = slice_get_within (codes_of functions) function code e in
          absurd (omega (arith, within, last.1, codes-length 0 [] functions, signatures-length 0 [] functions))

  pub all_scalars : list_all takes_scalars functions ≡ true → list_all is_scalar main.slots ≡ true → All (λ (signature : Signature). list_all is_scalar signature.slots ≡ true) all
  all_scalars scalars own =
      all_from (λ (signature : Signature). list_all is_scalar signature.slots ≡ true) all
      (λ k signature e. by_case k signature (slice_get-one_more (signatures_of functions) main k signature e))
    where
      by_case : (k : ℕ) (signature : Signature) → (slice_get (signatures_of functions) k ≡ Some signature) ⊎ ((main ≡ signature) × (k ≡ length (signatures_of functions))) → list_all is_scalar signature.slots ≡ true
      by_case k signature (inl there) = (function_is_sound k signature there).2.scalars (params_scalar 0 [] functions scalars k signature there)
      by_case k signature (inr last) = subst (λ (s : Signature). list_all is_scalar s.slots ≡ true) last.0 own
