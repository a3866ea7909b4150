-- What an application is in main.
use Rattle.std.proofs.Common.{◌≡◌, ℕ, max, List, [], ◌∷◌, ◌++◌, length, Option, Some, None, refl, sym, ap, ◌∙◌, subst}
use Rattle.sk_emitter.proofs.PartsAppended.{arguments-none}
use Rattle.sk_emitter.specs.Applications.{Applies, application_code, application_depth}
use Rattle.sk_emitter.specs.declared.applied.Applied.{Applied}
use Rattle.sk_isa.specs.declared.code.Instr.TheVariants as instr
use Rattle.sk_main_scheme.specs.MainScheme.{Around, Named, Number, Whole, Called, applied_code, applied_depth, applied_type, container_named, main_leaves}
use Rattle.sk_main_emitter.specs.Names.{application_of}
use Rattle.sk_main_emitter.specs.Statements.{container_of}
use Rattle.sk_names.specs.Bindings.{bound_to}
use Rattle.sk_scheme.specs.Pieces.{Piece}
use Rattle.sk_scheme.specs.Scheme.{Known}

applied-type : (named : Option Named) (known : Option Known) → applied_type named known ≡ (application_of named known).ty
applied-type (Some (Whole container ty)) known = refl
applied-type (Some (Called made)) known = refl
applied-type (Some (Number slot ty)) known = refl
applied-type None (Some known) = refl
applied-type None None = refl

applied-code : (named : Option Named) (known : Option Known) (parts : List (Piece Around)) (around : Around) (at : ℕ)
    → applied_code named known parts around at ≡ application_code (application_of named known) container_named parts around at
applied-code (Some (Whole container ty)) known parts around at =
    ap (λ l. l ++ instr.Item container (length parts) ∷ []) (sym (arguments-none parts around at))
applied-code (Some (Called made)) known parts around at = refl
applied-code (Some (Number slot ty)) known parts around at = refl
applied-code None (Some known) parts around at = refl
applied-code None None parts around at = refl

applied-depth : (named : Option Named) (known : Option Known) (parts : List (Piece Around)) (around : Around)
    → max 1 (applied_depth named parts around) ≡ application_depth (application_of named known) parts around
applied-depth (Some (Whole container ty)) known parts around = refl
applied-depth (Some (Called made)) known parts around = refl
applied-depth (Some (Number slot ty)) known parts around = refl
applied-depth None (Some known) parts around = refl
applied-depth None None parts around = refl

pub applies_in_main : (named : Option Named) (known : Option Known) (name : List ℕ) (parts : List (Piece Around)) (around : Around) (applied : Applied)
    → named ≡ bound_to name around.scope → known ≡ bound_to name around.functions → applied ≡ application_of named known
    → Applies main_leaves container_named name parts around applied
applies_in_main named known name parts around applied of_named of_known is =
    subst (λ (a : Applied). Applies main_leaves container_named name parts around a) (sym is) (record {
      ty = ap (λ (n : Option Named). applied_type n (bound_to name around.functions)) (sym of_named)
          ∙ ap (λ (k : Option Known). applied_type named k) (sym of_known) ∙ applied-type named known;
      code = λ at. ap (λ (n : Option Named). applied_code n (bound_to name around.functions) parts around at) (sym of_named)
          ∙ ap (λ (k : Option Known). applied_code named k parts around at) (sym of_known) ∙ applied-code named known parts around at;
      depth = ap (λ (n : Option Named). max 1 (applied_depth n parts around)) (sym of_named) ∙ applied-depth named known parts around;
    })

number-is : (named : Option Named) → container_of named ≡ elim named [
  | Some named ↦ elim named [ Whole container ty ↦ container | Number slot ty ↦ 0 | Called made ↦ 0 ]
  | None ↦ 0
]
number-is (Some (Whole container ty)) = refl
number-is (Some (Number slot ty)) = refl
number-is (Some (Called made)) = refl
number-is None = refl

-- the number of a container by its name
pub numbered : (around : Around) (name : List ℕ) → container_of (bound_to name around.scope) ≡ container_named around name
numbered around name = number-is (bound_to name around.scope)
