-- What an instance of Map without a fault declares in main.
use Rattle.std.proofs.Common.{◌≡◌, ℕ, ◌<◌, ◌≤◌, Bool, true, List, [], ◌∷◌, length, Option, Some, None, sym, ap, ◌∙◌, subst}
use Rattle.std.proofs.lemmas.Bool.{leb-true}
use Rattle.std.specs.Prelude.{slice_get}
use Rattle.std.specs.List.{list_all}
use Rattle.sk_base.specs.declared.number.Ty.TheVariants.{Int}
use Rattle.sk_main_fits.specs.Vectors.{IsMapOf}
use Rattle.sk_main_scheme.specs.MainScheme.{Named, Called}
use Rattle.sk_main_scheme.specs.MainScheme as scheme
use Rattle.sk_names.specs.Bindings.{bound_to}
use Rattle.sk_scheme.specs.Scheme.{Known as Callee, known_of}
use Rattle.sk_tree.specs.Functions.{kinds_of}
use Rattle.sk_tree.specs.Parameters.{is_scalar, leading_scalars}
use Rattle.sk_tree.specs.Skeletons.{elements_of}
use Rattle.sk_tree.specs.declared.tree.Function.{Function}
use Rattle.sk_tree.specs.declared.tree.Instance.{Instance}
use Rattle.sk_tree.specs.declared.tree.ParamKind.{ParamKind}
use Rattle.sk_tree.specs.declared.tree.Skeleton.{Skeleton}
use Rattle.sk_tree.specs.declared.tree.Skeleton.TheVariants.{Map}
use Rattle.sk_typed_laws.proofs.Instances.{IsMade, instance_made, is_map_is, map_elements}
use Rattle.sk_typed_laws.proofs.KnownNames.{AreKnown, IsNoFunction}
use Rattle.sk_typed_main_laws.proofs.Named.{IsMapNamed, IsNamedAs, map_called, map_made}
use Rattle.sk_typing.specs.TypingInstances.{first_number, instance_faults, instance_known, kinds_at, made_of}
use Rattle.sk_typing.specs.TypingNames.{Knowns, Around}
use Rattle.sk_typing.specs.declared.names.Fault.{Fault}
use Rattle.sk_typing.specs.declared.names.Known.{Known}
use Rattle.sk_typing.specs.declared.names.Known.TheVariants.{Function as FunctionName, Instance as InstanceName, Broken}
use Rattle.sk_typing.specs.declared.names.Made.{Made}
use Rattle.sk_vector_form.specs.VectorForm.{is_map}

-- what is known of main wherever a statement of it stands: the functions before it take scalars
pub record IsMain (functions : List Function) (own : ℕ) (in_main : Bool) : Type 0 where
  pub is : in_main ≡ true
  pub within : own ≤ length functions
  pub scalars : (number : ℕ) (function : Function) → number < own → slice_get functions number ≡ Some function → list_all is_scalar (kinds_of function) ≡ true

module _ (around : Around) (names : Knowns) (callees : List (List ℕ × Callee)) (main : IsMain around.functions around.number around.in_main)
    (known : AreKnown around.functions around.number names callees) (number : ℕ) (instance : Instance) where
  abbrev elements_at : Function → ℕ
  elements_at function = elements_of Map instance.numbers (kinds_of function)

  abbrev made_from : Skeleton → (place : ℕ) → List ParamKind → Made
  made_from skeleton place kinds = record { skeleton = skeleton; function = place; elements = elements_of skeleton instance.numbers kinds }

  abbrev number_of : Option Known → ℕ
  number_of known = elim known as (λ _. ℕ) [ Some (FunctionName number) ↦ number | _ ↦ 0 ]

  made_so : (made : IsMade around names callees instance.numbers instance.functions) → instance.skeleton ≡ Map
      → made_of around names instance ≡ map_made made.number (elements_at made.function)
  made_so made is =
      let first : first_number names instance.functions ≡ made.number = ap (first_number names) made.one ∙ ap number_of made.meant in
      let kinds : kinds_at around made.number ≡ kinds_of made.function =
      ap (λ o. elim o as (λ _. List ParamKind) [ Some function ↦ kinds_of function | None ↦ [] ]) made.there in
      ap (λ skeleton. made_from skeleton (first_number names instance.functions) (kinds_at around (first_number names instance.functions))) is
      ∙ ap (λ n. made_from Map n (kinds_at around n)) first ∙ ap (made_from Map made.number) kinds

  abbrev called_from : Skeleton → Option Callee → scheme.Made
  called_from skeleton first = elim first as (λ _. scheme.Made) [
    | Some function ↦ record {
      number = number;
      skeleton = skeleton;
      elements = elements_of skeleton instance.numbers function.kinds;
      kinds = function.kinds;
      ret = function.ret;
    }
    | None ↦ record { number = number; skeleton = skeleton; elements = 0; kinds = []; ret = Int }
  ]

  abbrev first_callee : List (List ℕ) → Option Callee
  first_callee functions = elim (slice_get functions 0) as (λ _. Option Callee) [ Some name ↦ bound_to name callees | None ↦ None ]

  called_so : (made : IsMade around names callees instance.numbers instance.functions) → instance.skeleton ≡ Map
      → scheme.made_of callees number instance ≡ map_called number (elements_at made.function) made.function
  called_so made is =
      ap (λ skeleton. called_from skeleton (first_callee instance.functions)) is
      ∙ ap (λ functions. called_from Map (first_callee functions)) made.one ∙ ap (called_from Map) made.callee

  pub record IsDeclaredMap : Type 0 where
    pub named : IsNamedAs around.functions (Some (Called (scheme.made_of callees number instance))) (Some (instance_known around names instance))
    pub free : IsNoFunction (instance_known around names instance)
    pub map_of : IsMapOf callees instance

  pub instance_declared : is_map instance.skeleton ≡ true → instance_faults around names instance ≡ [] → IsDeclaredMap
  instance_declared form e =
      let made = instance_made callees around names instance known main.within form e in
      let is : instance.skeleton ≡ Map = is_map_is instance.skeleton form in
      let scalars = main.scalars made.number made.function made.below made.there in
      let known_as : instance_known around names instance ≡ InstanceName (made_of around names instance) =
      ap (λ (faults : List Fault). elim faults as (λ _. Known) [ [] ↦ InstanceName (made_of around names instance) | fault ∷ more ↦ Broken ]) e in
      let called : IsMapNamed around.functions (Some (Called (scheme.made_of callees number instance))) (made_of around names instance) = record {
        place = made.number;
        elements = elements_at made.function;
        made_is = made_so made is;
        function = made.function;
        there = made.there;
        number = number;
        named_is = ap (λ (m : scheme.Made). Some (Called m)) (called_so made is);
        scalars = scalars;
        few = leb-true (elements_at made.function) (leading_scalars (kinds_of made.function)) (map_elements instance.numbers (kinds_of made.function) made.fit);
      } in
      record {
        named = subst (λ (k : Known). IsNamedAs around.functions (Some (Called (scheme.made_of callees number instance))) (Some k)) (sym known_as) called;
        free = subst IsNoFunction (sym known_as) tt;
        map_of = record { skeleton = is; name = made.name; one = made.one; known = known_of made.number made.function; found = made.callee; scalars = scalars };
      }
