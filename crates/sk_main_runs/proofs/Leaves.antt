-- The code of a name alone gives its value, and that of a method the size that it asks for.
use Rattle.std.proofs.Common.{◌≡◌, ℕ, suc, ◌+◌, List, ◌∷◌, length, ℤ, Option, Some, None, refl, sym, ap, ◌∙◌, subst, arith}
use Rattle.std.specs.Prelude.{Ok, true}
use Rattle.sk_base.specs.declared.number.Ty.TheVariants.{Int}
use Rattle.sk_isa.specs.Configurations.{Goes, Stuck}
use Rattle.sk_isa.specs.declared.code.Instr.TheVariants as instr
use Rattle.sk_isa.specs.declared.object.Object.{Object}
use Rattle.sk_main_code.specs.MainSteps.{MainNext}
use Rattle.sk_main_fits.specs.Fits.{is_number, is_whole}
use Rattle.sk_main_run.specs.MainNames.{Meant, State, main_names, scalar_of}
use Rattle.sk_main_run.specs.MainNames as tree
use Rattle.sk_main_runs.proofs.Runs.{IsLike, stands, Gives, one_gives}
use Rattle.sk_main_runs.proofs.Tidy.{size-in_range}
use Rattle.sk_main_runs.specs.SameMeaning.{AreNamed, IsTidy}
use Rattle.sk_main_scheme.specs.MainScheme.{Named, Number, Whole, Called, name_leaf, method_leaf}
use Rattle.sk_scheme_runs.proofs.Runs.{HasAt}
use Rattle.sk_world.specs.World.{World, Container, container_at, size_of}

module _ (object : Object) where
  pub name_type_is : (n : Option Named) (m : Option Meant) (slots : List ℤ) (bound : ℕ) → AreNamed object n m slots bound → is_number n ≡ true → (scalar_of m).0 ≡ (name_leaf n).ty
  name_type_is (Some (Number slot ty)) (Some (tree.Scalar other value)) slots bound h e = h.ty_is
  name_type_is (Some (Whole container ty)) m slots bound h e = let no : ⊥ = cc in absurd no
  name_type_is (Some (Called made)) m slots bound h e = let no : ⊥ = cc in absurd no
  name_type_is None m slots bound h e = let no : ⊥ = cc in absurd no
  name_type_is n m slots bound h e = absurd h

  pub loads : (n : Option Named) (m : Option Meant) (slots : List ℤ) (bound : ℕ) → AreNamed object n m slots bound → is_number n ≡ true
      → (at : ℕ) (stack : List ℤ) (world : World) → HasAt object.main.instrs at (name_leaf n).code
      → Gives object (name_leaf n).ty slots at stack world (at + length (name_leaf n).code) stack (Ok ((scalar_of m).1, world))
  loads (Some (Number slot ty)) (Some (tree.Scalar other value)) slots bound h e at stack world has =
      one_gives object ty (instr.Load slot) slots at (at + 1) stack stack world value has.0 (omega arith) h.fits
      (ap (λ (o : Option ℤ). elim o as (λ x. MainNext) [ Some value ↦ Goes (stands (suc at) (value ∷ stack) slots world) | None ↦ Stuck ]) h.held)
  loads (Some (Whole container ty)) m slots bound h e at stack world has = let no : ⊥ = cc in absurd no
  loads (Some (Called made)) m slots bound h e at stack world has = let no : ⊥ = cc in absurd no
  loads None m slots bound h e at stack world has = let no : ⊥ = cc in absurd no
  loads n m slots bound h e at stack world has = absurd h

  abbrev number_of : Option Meant → ℕ
  number_of meant = elim meant as (λ x. ℕ) [
    | Some meant ↦ elim meant as (λ x. ℕ) [ tree.Whole number ty ↦ number | tree.Scalar ty value ↦ 0 | tree.Called instance ↦ 0 ]
    | None ↦ 0
  ]

  pub method_type_is : (n : Option Named) (method : List ℕ) → Int ≡ (method_leaf n method).ty
  method_type_is (Some (Number slot ty)) method = refl
  method_type_is (Some (Whole container ty)) method = refl
  method_type_is (Some (Called made)) method = refl
  method_type_is None method = refl

  pub sizes : (n : Option Named) (m : Option Meant) (slots : List ℤ) (bound : ℕ) (method : List ℕ) → AreNamed object n m slots bound → is_whole n ≡ true
      → (before : World) (at : ℕ) (stack : List ℤ) (world : World) → IsLike before world → IsTidy object world → HasAt object.main.instrs at (method_leaf n method).code
      → Gives object (method_leaf n method).ty slots at stack world (at + length (method_leaf n method).code) stack (Ok (size_of (container_at before (number_of m)) method, world))
  sizes (Some (Whole container ty)) (Some (tree.Whole number other)) slots bound method h e before at stack world like tidy has =
      let same : size_of (container_at world container) method ≡ size_of (container_at before number) method =
      ap (λ n. size_of (container_at world n) method) (sym h.number_is) ∙ sized before world like number method in
      subst (λ (v : ℤ). Gives object Int slots at stack world (at + 1) stack (Ok (v, world))) same
      (one_gives object Int (instr.Size container method) slots at (at + 1) stack stack world (size_of (container_at world container) method) has.0 (omega arith)
      (size-in_range object world container method tidy) refl)
    where
      sized : (before world : World) → IsLike before world → (number : ℕ) (method : List ℕ) → size_of (container_at world number) method ≡ size_of (container_at before number) method
      sized before world like number method =
          ap (λ (cs : List Container). size_of (container_at (record world { containers = cs }) number) method) like.containers
  sizes (Some (Number slot ty)) m slots bound method h e before at stack world like tidy has = let no : ⊥ = cc in absurd no
  sizes (Some (Called made)) m slots bound method h e before at stack world like tidy has = let no : ⊥ = cc in absurd no
  sizes None m slots bound method h e before at stack world like tidy has = let no : ⊥ = cc in absurd no
  sizes n m slots bound method h e before at stack world like tidy has = absurd h
