-- What an application is in a function.
use Rattle.std.proofs.Common.{◌≡◌, ℕ, max, List, [], ◌∷◌, ◌++◌, length, Option, Some, None, refl, sym, ap, ◌∙◌, subst, append-nil}
use Rattle.sk_names.specs.Bindings.{bound_to}
use Rattle.sk_scheme.specs.Pieces.{Piece, arguments_code, places_code, parts_depth}
use Rattle.sk_scheme.specs.Scheme.{Slot, Known, Around, applied_code, applied_type, function_leaves}
use Rattle.sk_isa.specs.declared.code.Instr.TheVariants as instr
use Rattle.sk_tree.specs.declared.tree.ParamKind.{ParamKind}
use Rattle.sk_tree.specs.declared.tree.ParamKind.TheVariants.{Scalar, Index, Proxy, Region}
use Rattle.sk_emitter.specs.Applications.{Applies, application_code, application_depth}
use Rattle.sk_emitter.specs.Names.{application_of}
use Rattle.sk_emitter.specs.declared.applied.Applied.{Applied}
use Rattle.sk_emitter.proofs.PartsAppended.{arguments-none}

-- no container has a number
abbrev none : Around → List ℕ → ℕ
none around name = 0

applied-type : (slot : Option Slot) (known : Option Known) → applied_type slot known ≡ (application_of slot known).ty
applied-type (Some slot) known = refl
applied-type None (Some known) = refl
applied-type None None = refl

element-code : (number : ℕ) (kind : ParamKind) (known : Option Known) (parts : List (Piece Around)) (around : Around) (at : ℕ)
    → applied_code (Some (record { number = number; kind = kind })) known parts around at
    ≡ application_code (application_of (Some (record { number = number; kind = kind })) known) none parts around at
element-code number (Scalar ty) known parts around at = sym (arguments-none parts around at)
element-code number (Index dimension) known parts around at = sym (arguments-none parts around at)
element-code number (Proxy dimension ty) known parts around at =
    ap (λ l. l ++ instr.Item number (length parts) ∷ []) (sym (arguments-none parts around at))
element-code number (Region dimension ty) known parts around at =
    ap (λ l. l ++ instr.Region number (length parts) ∷ []) (sym (arguments-none parts around at))

applied-code : (slot : Option Slot) (known : Option Known) (parts : List (Piece Around)) (around : Around) (at : ℕ)
    → applied_code slot known parts around at ≡ application_code (application_of slot known) none parts around at
applied-code (Some slot) known parts around at = element-code slot.number slot.kind known parts around at
applied-code None (Some known) parts around at = refl
applied-code None None parts around at = sym (arguments-none parts around at)

applied-depth : (slot : Option Slot) (known : Option Known) (parts : List (Piece Around)) (around : Around)
    → max 1 (parts_depth parts around) ≡ application_depth (application_of slot known) parts around
applied-depth (Some slot) known parts around = refl
applied-depth None (Some known) parts around = refl
applied-depth None None parts around = refl

pub applies_in_function : (slot : Option Slot) (known : Option Known) (name : List ℕ) (parts : List (Piece Around)) (around : Around) (applied : Applied)
    → slot ≡ bound_to name around.scope → known ≡ bound_to name around.functions → applied ≡ application_of slot known
    → Applies function_leaves none name parts around applied
applies_in_function slot known name parts around applied of_slot of_known is =
    subst (λ (a : Applied). Applies function_leaves none name parts around a) (sym is) (record {
      ty = ap (λ (s : Option Slot). applied_type s (bound_to name around.functions)) (sym of_slot)
          ∙ ap (λ (k : Option Known). applied_type slot k) (sym of_known) ∙ applied-type slot known;
      code = λ at. ap (λ (s : Option Slot). applied_code s (bound_to name around.functions) parts around at) (sym of_slot)
          ∙ ap (λ (k : Option Known). applied_code slot k parts around at) (sym of_known) ∙ applied-code slot known parts around at;
      depth = applied-depth slot known parts around;
    })
