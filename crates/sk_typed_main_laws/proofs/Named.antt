-- The names in scope of main, as the rules of names and as the scheme have them, where containers are vectors and instances are
-- Maps of functions that take scalars.
use Rattle.std.proofs.Common.{◌≡◌, ℕ, ◌≤◌, Bool, true, false, List, ◌∷◌, Option, Some, None, if◌then◌else◌, refl}
use Rattle.std.specs.Prelude.{slice_get}
use Rattle.std.specs.List.{list_all}
use Rattle.sk_base.specs.declared.number.Ty.{Ty}
use Rattle.sk_base.specs.declared.number.Ty.TheVariants.{Int, Long}
use Rattle.sk_main_fits.specs.Fits.{is_number, is_whole}
use Rattle.sk_main_fits.specs.StatementFits.{is_whole_of}
use Rattle.sk_main_scheme.specs.MainScheme.{Named, Number, Whole, Called}
use Rattle.sk_main_scheme.specs.MainScheme as scheme
use Rattle.sk_names.specs.Bindings.{bound_to}
use Rattle.sk_names.specs.Bytes.{same_bytes}
use Rattle.sk_scheme.specs.Scheme.{Known as Callee}
use Rattle.sk_tree.specs.Functions.{kinds_of}
use Rattle.sk_tree.specs.Parameters.{is_scalar, same_type, leading_scalars}
use Rattle.sk_tree.specs.declared.tree.Function.{Function}
use Rattle.sk_tree.specs.declared.tree.ParamKind.TheVariants.{Scalar, Index, Proxy, Region}
use Rattle.sk_tree.specs.declared.tree.Skeleton.TheVariants.{Map}
use Rattle.sk_typed_laws.proofs.KnownNames.{AreKnown, IsNoFunction, known_other}
use Rattle.sk_typing.specs.TypingNames.{Knowns}
use Rattle.sk_typing.specs.declared.names.Known.{Known}
use Rattle.sk_typing.specs.declared.names.Known.TheVariants.{Variable, Function as FunctionName, Instance as InstanceName, Broken}
use Rattle.sk_typing.specs.declared.names.Made.{Made}

-- ---- types

pub same_type-same : (ty : Ty) → same_type ty ty ≡ true
same_type-same Int = refl
same_type-same Long = refl

pub same_type-true : (one other : Ty) → same_type one other ≡ true → one ≡ other
same_type-true Int Int e = refl
same_type-true Long Long e = refl
same_type-true Int Long e = let no : ⊥ = cc in absurd no
same_type-true Long Int e = let no : ⊥ = cc in absurd no

pub whole_is : (ty : Ty) (named : Option Named) → is_whole_of ty named ≡ true → is_whole named ≡ true
whole_is ty (Some (Whole container other)) e = refl
whole_is ty (Some (Number slot other)) e = let no : ⊥ = cc in absurd no
whole_is ty (Some (Called made)) e = let no : ⊥ = cc in absurd no
whole_is ty None e = let no : ⊥ = cc in absurd no

-- ---- names

-- an instance of Map, as the rules of names have it
abbrev pub map_made : (function elements : ℕ) → Made
map_made function elements = record { skeleton = Map; function = function; elements = elements }

-- an instance of Map, as the scheme has it
abbrev pub map_called : (number elements : ℕ) → Function → scheme.Made
map_called number elements function =
    record { number = number; skeleton = Map; elements = elements; kinds = kinds_of function; ret = function.ret }

-- the instance is a Map of a function that takes scalars, at least as many as it has elements
pub record IsMapNamed (functions : List Function) (named : Option Named) (made : Made) : Type 0 where
  pub place : ℕ
  pub elements : ℕ
  pub made_is : made ≡ map_made place elements
  pub function : Function
  pub there : slice_get functions place ≡ Some function
  pub number : ℕ
  pub named_is : named ≡ Some (Called (map_called number elements function))
  pub scalars : list_all is_scalar (kinds_of function) ≡ true
  pub few : elements ≤ leading_scalars (kinds_of function)

-- What a name of main stands for in the scheme, where it is this by the rules of names.
abbrev pub IsNamedAs : (functions : List Function) → Option Named → Option Known → Type 0
IsNamedAs functions named None = Unit {0}
IsNamedAs functions named (Some (Variable (Scalar ty))) = is_number named ≡ true
IsNamedAs functions named (Some (Variable (Proxy dimension ty))) = (dimension ≡ 1) × (is_whole_of ty named ≡ true)
IsNamedAs functions named (Some (Variable (Index dimension))) = ⊥
IsNamedAs functions named (Some (Variable (Region dimension ty))) = ⊥
IsNamedAs functions named (Some (FunctionName number)) = named ≡ None
IsNamedAs functions named (Some (InstanceName made)) = IsMapNamed functions named made
IsNamedAs functions named (Some Broken) = ⊥

pub record AgreeInMain (functions : List Function) (own : ℕ) (callees : List (List ℕ × Callee)) (names : Knowns) (scope : List (List ℕ × Named)) : Type 0 where
  pub named : (name : List ℕ) → IsNamedAs functions (bound_to name scope) (bound_to name names)
  pub known : AreKnown functions own names callees

module _ (functions : List Function) (own : ℕ) (callees : List (List ℕ × Callee)) where
  one_more : (same : Bool) (named : Named) (known : Known) (other : Option Named) (earlier : Option Known)
      → IsNamedAs functions (Some named) (Some known) → IsNamedAs functions other earlier
      → IsNamedAs functions (if same then Some named else other) (if same then Some known else earlier)
  one_more true named known other earlier h g = h
  one_more false named known other earlier h g = g

  -- a name that is declared
  pub agree_declared : (name : List ℕ) (named : Named) (known : Known) (names : Knowns) (scope : List (List ℕ × Named)) → IsNoFunction known
      → IsNamedAs functions (Some named) (Some known) → AgreeInMain functions own callees names scope
      → AgreeInMain functions own callees ((name, known) ∷ names) ((name, named) ∷ scope)
  agree_declared name named known names scope free h agree = record {
    named = λ other. one_more (same_bytes name other) named known (bound_to other scope) (bound_to other names) h (agree.named other);
    known = known_other functions own name known names callees free agree.known;
  }
