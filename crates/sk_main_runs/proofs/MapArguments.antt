-- What a function of scalars is given in a call: numbers of its parameters' types.
use Rattle.std.proofs.Common.{◌≡◌, ℕ, zero, suc, ◌+◌, List, [], ◌∷◌, ◌++◌, length, map, take, ℤ, pos, Option, Some, None, refl, sym, ap, ◌∙◌, subst, arith}
use Rattle.std.specs.List.{list_all}
use Rattle.std.specs.Prelude.{true, false, ◌&&◌, ◌==◌, slice_get, slice_index_or}
use Rattle.sk_arguments.specs.Arguments.{At, Given, Reading, arguments_after, element_index, uniform_types}
use Rattle.sk_base.specs.Arithmetic.{InRange, wrapped}
use Rattle.sk_base.specs.ArithmeticLaws.{wrapped-in_range, wrapped-same}
use Rattle.sk_base.specs.declared.number.Ty.{Ty}
use Rattle.sk_base.specs.declared.number.Ty.TheVariants.{Int, Long}
use Rattle.sk_isa.specs.declared.object.Object.{Object}
use Rattle.sk_call_shapes.specs.CallShapes as shapes
use Rattle.sk_main_code.specs.MainSoundness.{containers_of, container_of}
use Rattle.sk_main_runs.proofs.Tidy.{all_at, cells_held, zero-in_range}
use Rattle.sk_main_runs.specs.SameMeaning.{IsTidy, fitted}
use Rattle.sk_meaning.specs.Evaluation.{Argument, Value, kind_type}
use Rattle.sk_plain.proofs.Truths.{and_left, and_right}
use Rattle.sk_tree.specs.Parameters.{is_scalar, same_type, scalar_types}
use Rattle.sk_tree.specs.declared.declared.Declared.{Declared}
use Rattle.sk_tree.specs.declared.tree.ParamKind.{ParamKind}
use Rattle.sk_tree.specs.declared.tree.ParamKind.TheVariants.{Scalar, Index, Proxy, Region}
use Rattle.sk_world.specs.Calls.{cell_of, converted}
use Rattle.sk_world.specs.World.{World, container_at}

-- the first elements' operands have cells of the parameters' types
abbrev pub AreElements : (cells : ℕ → ℕ → ℤ) → (elements operands : ℕ) → List ParamKind → Type 0
AreElements cells elements operands [] = Unit {0}
AreElements cells zero operands (kind ∷ kinds) = Unit {0}
AreElements cells (suc fewer) operands (kind ∷ kinds) =
    ((index : ℕ) → InRange (kind_type kind) (cells operands index)) × AreElements cells fewer (suc operands) kinds

-- numbers of the parameters' types
pub record HasScalars (arguments : List Argument) (kinds : List ParamKind) : Type 0 where
  pub values : List ℤ
  pub is : arguments ≡ map Value values
  pub size : length values ≡ length kinds
  pub same : fitted kinds values ≡ values

-- the other parameters' uniform arguments are of their types
abbrev pub AreUniforms : (uniforms : List ℤ) → (elements taken : ℕ) → List ParamKind → Type 0
AreUniforms uniforms elements taken [] = Unit {0}
AreUniforms uniforms (suc fewer) taken (kind ∷ kinds) = AreUniforms uniforms fewer taken kinds
AreUniforms uniforms zero taken (kind ∷ kinds) = InRange (kind_type kind) (slice_index_or uniforms taken (pos 0)) × AreUniforms uniforms zero (suc taken) kinds

one_more : (ty : Ty) (v : ℤ) (arguments : List Argument) (kinds : List ParamKind) → InRange ty v → HasScalars arguments kinds → HasScalars (Value v ∷ arguments) (Scalar ty ∷ kinds)
one_more ty v arguments kinds fits h = record {
  values = v ∷ h.values;
  is = ap (λ (l : List Argument). Value v ∷ l) h.is;
  size = ap suc h.size;
  same = ap (λ (x : ℤ). x ∷ fitted kinds h.values) (wrapped-same ty v fits) ∙ ap (λ (l : List ℤ). v ∷ l) h.same;
}

-- what a function of scalars is given at a place
pub scalars_given : (reading : Reading) (given : Given) (at : At) (kinds : List ParamKind) → list_all is_scalar kinds ≡ true → (elements operands uniforms : ℕ)
    → AreElements given.cells elements operands kinds → AreUniforms given.uniforms elements uniforms kinds
    → HasScalars (arguments_after reading given at (record { elements = elements; operands = operands; uniforms = uniforms }) kinds) kinds
scalars_given reading given at [] scalars elements operands uniforms e u = record { values = []; is = refl; size = refl; same = refl }
scalars_given reading given at (Scalar ty ∷ kinds) scalars (suc fewer) operands uniforms e u =
    one_more ty (given.cells operands (element_index reading at operands)) (arguments_after reading given at (record { elements = fewer; operands = suc operands; uniforms = uniforms }) kinds) kinds
    (e.0 (element_index reading at operands)) (scalars_given reading given at kinds scalars fewer (suc operands) uniforms e.1 u)
scalars_given reading given at (Scalar ty ∷ kinds) scalars zero operands uniforms e u =
    one_more ty (slice_index_or given.uniforms uniforms (pos 0)) (arguments_after reading given at (record { elements = zero; operands = operands; uniforms = suc uniforms }) kinds) kinds
    u.0 (scalars_given reading given at kinds scalars zero operands (suc uniforms) (none_left kinds) u.1)
  where
    none_left : (kinds : List ParamKind) → AreElements given.cells zero operands kinds
    none_left [] = tt
    none_left (kind ∷ kinds) = tt
scalars_given reading given at (Index dimension ∷ kinds) scalars elements operands uniforms e u = let no : ⊥ = cc in absurd no
scalars_given reading given at (Proxy dimension ty ∷ kinds) scalars elements operands uniforms e u = let no : ⊥ = cc in absurd no
scalars_given reading given at (Region dimension ty ∷ kinds) scalars elements operands uniforms e u = let no : ⊥ = cc in absurd no

-- ---- elements

pub same_type-is : (one other : Ty) → same_type one other ≡ true → one ≡ other
same_type-is Int Int e = refl
same_type-is Long Long e = refl
same_type-is Int Long e = let no : ⊥ = cc in absurd no
same_type-is Long Int e = let no : ⊥ = cc in absurd no

-- a container by its number is declared with a type
pub record IsOf (object : Object) (number : ℕ) (ty : Ty) : Type 0 where
  pub declared : Declared
  pub there : slice_get object.containers number ≡ Some declared
  pub of : declared.ty ≡ ty

abbrev pub AreOf : Object → List ℕ → List Ty → Type 0
AreOf object numbers [] = Unit {0}
AreOf object [] (ty ∷ types) = ⊥
AreOf object (number ∷ numbers) (ty ∷ types) = IsOf object number ty × AreOf object numbers types

-- a container that is wanted, and those behind it
pub record IsFirst (object : Object) (number : ℕ) (numbers : List ℕ) (given : List shapes.Container) : Type 0 where
  pub declared : Declared
  pub there : slice_get object.containers number ≡ Some declared
  pub rest : List shapes.Container
  pub rest_is : containers_of object numbers ≡ Some rest
  pub given_is : given ≡ container_of declared ∷ rest

pub first_of : (object : Object) (number : ℕ) (numbers : List ℕ) (given : List shapes.Container) → containers_of object (number ∷ numbers) ≡ Some given → IsFirst object number numbers given
first_of object number numbers given e = by_found (slice_get object.containers number) (containers_of object numbers) refl refl e
  where
    by_found : (found : Option Declared) (others : Option (List shapes.Container)) → slice_get object.containers number ≡ found → containers_of object numbers ≡ others
        → (elim found as (λ x. Option (List shapes.Container)) [
          | Some declared ↦ elim others as (λ x. Option (List shapes.Container)) [ Some rest ↦ Some (container_of declared ∷ rest) | None ↦ None ]
          | None ↦ None
        ]) ≡ Some given → IsFirst object number numbers given
    by_found (Some declared) (Some rest) f g e = record { declared = declared; there = f; rest = rest; rest_is = g; given_is = cc }
    by_found (Some declared) None f g e = let no : ⊥ = cc in absurd no
    by_found None others f g e = let no : ⊥ = cc in absurd no

pub wanted_so : (object : Object) (common : ℕ) (types : List Ty) (whole : List shapes.Wanted) (numbers : List ℕ) (given : List shapes.Container) → containers_of object numbers ≡ Some given
    → shapes.are_wanted (map (shapes.wanting common) types ++ whole) given ≡ true → AreOf object numbers types
wanted_so object common [] whole numbers given e fit = tt
wanted_so object common (ty ∷ types) whole [] given e fit =
    let none : given ≡ [] = cc in
    let no : false ≡ true = subst (λ (l : List shapes.Container). shapes.are_wanted (map (shapes.wanting common) (ty ∷ types) ++ whole) l ≡ true) none fit in
    let wrong : ⊥ = cc in absurd wrong
wanted_so object common (ty ∷ types) whole (number ∷ numbers) given e fit =
    let f = first_of object number numbers given e in
    let fit1 : (shapes.is_wanted (shapes.wanting common ty) (container_of f.declared) && shapes.are_wanted (map (shapes.wanting common) types ++ whole) f.rest) ≡ true =
    subst (λ (l : List shapes.Container). shapes.are_wanted (map (shapes.wanting common) (ty ∷ types) ++ whole) l ≡ true) f.given_is fit in
    let one = and_left (shapes.is_wanted (shapes.wanting common ty) (container_of f.declared)) (shapes.are_wanted (map (shapes.wanting common) types ++ whole) f.rest) fit1 in
    let rest = and_right (shapes.is_wanted (shapes.wanting common ty) (container_of f.declared)) (shapes.are_wanted (map (shapes.wanting common) types ++ whole) f.rest) fit1 in (
      record { declared = f.declared; there = f.there; of = sym (same_type-is ty f.declared.ty (and_right (common == f.declared.kind) (same_type ty f.declared.ty) one)) },
      wanted_so object common types whole numbers f.rest f.rest_is rest,
    )

element_in : (object : Object) (world : World) (numbers : List ℕ) (types : List Ty) → IsTidy object world → AreOf object numbers types → (k : ℕ) (ty : Ty) → slice_get types k ≡ Some ty
    → (index : ℕ) → InRange ty (cell_of (map (container_at world) numbers) k index)
element_in object world numbers [] tidy h k ty e index = let no : ⊥ = cc in absurd no
element_in object world [] (first ∷ types) tidy h k ty e index = absurd h
element_in object world (number ∷ numbers) (first ∷ types) tidy h zero ty e index =
    let same : first ≡ ty = cc in
    subst (λ t. InRange t (slice_index_or (container_at world number).cells index (pos 0))) (h.0.of ∙ same)
    (all_at (InRange h.0.declared.ty) (container_at world number).cells index (pos 0) (zero-in_range h.0.declared.ty) (cells_held object world number h.0.declared tidy h.0.there))
element_in object world (number ∷ numbers) (first ∷ types) tidy h (suc k) ty e index = element_in object world numbers types tidy h.1 k ty e index

elements_are : (cells : ℕ → ℕ → ℤ) (kinds : List ParamKind) → list_all is_scalar kinds ≡ true → (elements operands : ℕ)
    → ((k : ℕ) (ty : Ty) → slice_get (take elements (scalar_types kinds)) k ≡ Some ty → (index : ℕ) → InRange ty (cells (operands + k) index)) → AreElements cells elements operands kinds
elements_are cells [] scalars elements operands f = tt
elements_are cells (Scalar ty ∷ kinds) scalars zero operands f = tt
elements_are cells (Scalar ty ∷ kinds) scalars (suc fewer) operands f = (
  (λ index. let e : operands + 0 ≡ operands = omega arith in subst (λ n. InRange ty (cells n index)) e (f 0 ty refl index)),
  elements_are cells kinds scalars fewer (suc operands)
      (λ k ty2 e index. let n : operands + suc k ≡ suc operands + k = omega arith in subst (λ n. InRange ty2 (cells n index)) n (f (suc k) ty2 e index)),
)
elements_are cells (Index dimension ∷ kinds) scalars elements operands f = let no : ⊥ = cc in absurd no
elements_are cells (Proxy dimension ty ∷ kinds) scalars elements operands f = let no : ⊥ = cc in absurd no
elements_are cells (Region dimension ty ∷ kinds) scalars elements operands f = let no : ⊥ = cc in absurd no

-- the elements of a call, where the containers are of the types that are wanted
pub call_elements : (object : Object) (world : World) (numbers : List ℕ) (kinds : List ParamKind) (elements : ℕ) → IsTidy object world → list_all is_scalar kinds ≡ true
    → AreOf object numbers (take elements (scalar_types kinds)) → AreElements (cell_of (map (container_at world) numbers)) elements 0 kinds
call_elements object world numbers kinds elements tidy scalars of =
    elements_are (cell_of (map (container_at world) numbers)) kinds scalars elements 0
    (λ k ty e index. let n : k ≡ 0 + k = omega arith in
    subst (λ n. InRange ty (cell_of (map (container_at world) numbers) n index)) n (element_in object world numbers (take elements (scalar_types kinds)) tidy of k ty e index))

-- ---- uniform arguments

uniform_in : (types : List Ty) (values : List ℤ) (k : ℕ) (ty : Ty) → slice_get types k ≡ Some ty → InRange ty (slice_index_or (converted types values) k (pos 0))
uniform_in [] values k ty e = let no : ⊥ = cc in absurd no
uniform_in (first ∷ types) [] k ty e = zero-in_range ty
uniform_in (first ∷ types) (value ∷ values) zero ty e = let same : first ≡ ty = cc in subst (λ t. InRange t (wrapped first value)) same (wrapped-in_range first value)
uniform_in (first ∷ types) (value ∷ values) (suc k) ty e = uniform_in types values k ty e

uniforms_are : (uniforms : List ℤ) (kinds : List ParamKind) → list_all is_scalar kinds ≡ true → (elements taken : ℕ)
    → ((k : ℕ) (ty : Ty) → slice_get (uniform_types elements kinds) k ≡ Some ty → InRange ty (slice_index_or uniforms (taken + k) (pos 0))) → AreUniforms uniforms elements taken kinds
uniforms_are uniforms [] scalars elements taken f = tt
uniforms_are uniforms (Scalar ty ∷ kinds) scalars (suc fewer) taken f = uniforms_are uniforms kinds scalars fewer taken f
uniforms_are uniforms (Scalar ty ∷ kinds) scalars zero taken f = (
  (let e : taken + 0 ≡ taken = omega arith in subst (λ n. InRange ty (slice_index_or uniforms n (pos 0))) e (f 0 ty refl)),
  uniforms_are uniforms kinds scalars zero (suc taken)
      (λ k ty2 e. let n : taken + suc k ≡ suc taken + k = omega arith in subst (λ n. InRange ty2 (slice_index_or uniforms n (pos 0))) n (f (suc k) ty2 e)),
)
uniforms_are uniforms (Index dimension ∷ kinds) scalars elements taken f = let no : ⊥ = cc in absurd no
uniforms_are uniforms (Proxy dimension ty ∷ kinds) scalars elements taken f = let no : ⊥ = cc in absurd no
uniforms_are uniforms (Region dimension ty ∷ kinds) scalars elements taken f = let no : ⊥ = cc in absurd no

-- the uniform arguments of a call
pub call_uniforms : (kinds : List ParamKind) (elements : ℕ) (values : List ℤ) → list_all is_scalar kinds ≡ true → AreUniforms (converted (uniform_types elements kinds) values) elements 0 kinds
call_uniforms kinds elements values scalars =
    uniforms_are (converted (uniform_types elements kinds) values) kinds scalars elements 0
    (λ k ty e. let n : k ≡ 0 + k = omega arith in
    subst (λ n. InRange ty (slice_index_or (converted (uniform_types elements kinds) values) n (pos 0))) n (uniform_in (uniform_types elements kinds) values k ty e))
