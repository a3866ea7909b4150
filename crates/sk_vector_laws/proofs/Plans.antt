-- The plans of an object that stands for a program of Maps.
use Rattle.std.proofs.Common.{◌≡◌, ◌∙◌, ℕ, zero, suc, ◌<◌, true, List, [], ◌∷◌, ◌++◌, length, map, All, Option, Some, None, refl, sym, ap, subst, arith}
use Rattle.std.proofs.lemmas.List.Elements.{All-nil, All-cons, All-head, All-tail}
use Rattle.std.specs.Prelude.{Contains, slice_get}
use Rattle.std.specs.List.{list_all}
use Rattle.sk_base.specs.declared.choice.Variant.{Variant}
use Rattle.sk_base.specs.declared.choice.Variant.TheVariants.{Sequential}
use Rattle.sk_isa.specs.Objects.{function_at, no_signature, signature_at}
use Rattle.sk_isa.specs.Offers.{offers}
use Rattle.sk_isa.specs.SoundObjects.{IsSoundPlan, takes_elements}
use Rattle.sk_isa.specs.declared.code.Code.{Code}
use Rattle.sk_isa.specs.declared.object.Object.{Object}
use Rattle.sk_isa.specs.declared.object.Plan.{Plan}
use Rattle.sk_isa.specs.declared.object.Signature.{Signature}
use Rattle.sk_main_scheme.specs.Objects.{AreSomePlans, offering}
use Rattle.sk_plain.proofs.Truths.{and_left, and_right}
use Rattle.sk_scheme.specs.Plans.{functions_before_main, functions_object, main_signature, plan_of}
use Rattle.sk_scheme.specs.Scheme.{Known, codes_of, signatures_of}
use Rattle.sk_tree.specs.Parameters.{are_ordered}
use Rattle.sk_tree.specs.Skeletons.{fits_skeleton, function_count, operator_place}
use Rattle.sk_tree.specs.declared.tree.Function.{Function}
use Rattle.sk_tree.specs.declared.tree.Instance as instances
use Rattle.sk_tree.specs.declared.tree.Program.{Program}
use Rattle.sk_tree.specs.declared.tree.Skeleton.{Skeleton}
use Rattle.sk_tree.specs.declared.tree.Skeleton.TheVariants as skeleton
use Rattle.sk_typed_laws.specs.Forms.{is_map}
use Rattle.sk_vector_laws.proofs.Functions.{codes-length, signatures-length}
use Rattle.sk_vector_laws.proofs.VectorForms.{makes_map}

front-same : {A : Type 0} (xs ys zs : List A) (n : ℕ) → n < length xs → slice_get (xs ++ ys) n ≡ slice_get (xs ++ zs) n
front-same [] ys zs n low = absurd (omega (arith, low))
front-same (x ∷ xs) ys zs zero low = refl
front-same (x ∷ xs) ys zs (suc n) low = front-same xs ys zs n (omega (arith, low))

map_is : (kind : Skeleton) → is_map kind ≡ true → kind ≡ skeleton.Map
map_is skeleton.Map e = refl
map_is skeleton.Reduce e = absurd (cc e)
map_is skeleton.Scan e = absurd (cc e)
map_is skeleton.MapReduce e = absurd (cc e)
map_is skeleton.MapOverlap e = absurd (cc e)
map_is skeleton.MapPairs e = absurd (cc e)
map_is skeleton.MapPairsReduce e = absurd (cc e)
map_is skeleton.Call e = absurd (cc e)

abbrev AllOffer : Object → Plan → Type 0
AllOffer object plan = All (λ (variant : Variant). offers object plan variant ≡ true) plan.variants

module _ (program : Program) (object : Object) (main : Signature) (functions_are : object.functions ≡ codes_of (functions_before_main program))
    (signatures_are : object.signatures ≡ signatures_of (functions_before_main program) ++ main ∷ []) where
  abbrev alone : Object
  alone = functions_object program

  signature_same : (n : ℕ) → n < length (codes_of (functions_before_main program)) → signature_at object n ≡ signature_at alone n
  signature_same n low =
      let functions : List Function = functions_before_main program in
      let within : n < length (signatures_of functions) = let a = codes-length 0 [] functions in let b = signatures-length 0 [] functions in omega (arith, low, a, b) in
      ap (λ (o : Option Signature). elim o as (λ _. Signature) [ Some signature ↦ signature | None ↦ no_signature ])
      (ap (λ (l : List Signature). slice_get l n) signatures_are ∙ front-same (signatures_of functions) (main ∷ []) (main_signature ∷ []) n within)

  same_plan_sound : (plan : Plan) (variants : List Variant) → plan.skeleton ≡ skeleton.Map → IsSoundPlan alone (record plan { variants = variants }) → Contains plan.variants Sequential → AllOffer object plan → IsSoundPlan object plan
  same_plan_sound plan variants kind h sequential offered =
      let count : length plan.functions ≡ 1 = h.count ∙ ap function_count kind in
      let low : function_at plan 0 < length (codes_of (functions_before_main program)) = h.there 0 0 (omega (arith, count)) in
      let same = signature_same (function_at plan 0) low in
      record {
        count = h.count;
        there = subst (λ (codes : List Code). All (λ function. function < length codes) plan.functions) (sym functions_are) h.there;
        first = record {
          ordered = ap (λ (s : Signature). are_ordered s.params) same ∙ h.first.ordered;
          kinds = ap (λ (s : Signature). fits_skeleton plan.skeleton s.ret s.params) same ∙ h.first.kinds;
          elements = ap (λ (s : Signature). takes_elements plan.skeleton plan.elements s.params) same ∙ h.first.elements;
        };
        operator = λ place e. let none : None ≡ Some place = sym (ap operator_place kind) ∙ e in absurd (cc none);
        sequential = sequential;
        offered = offered;
      }

  plan_sound : (plan whole : Plan) → record plan { variants = whole.variants } ≡ whole → whole.skeleton ≡ skeleton.Map → IsSoundPlan alone whole → Contains plan.variants Sequential → AllOffer object plan
      → IsSoundPlan object plan
  plan_sound plan whole same kind h sequential offered =
      same_plan_sound plan whole.variants (ap (λ (p : Plan). p.skeleton) same ∙ kind) (subst (IsSoundPlan alone) (sym same) h) sequential offered

  -- each plan of an object that stands for the program
  pub plans_sound : (known : List (List ℕ × Known)) (made : List instances.Instance) (plans : List Plan) (full : Object) → AreSomePlans plans (map (offering full) (map (plan_of known) made))
      → All (IsSoundPlan alone) (map (plan_of known) made) → list_all makes_map made ≡ true → All (AllOffer object) plans → All (IsSoundPlan object) plans
  plans_sound known [] [] full h sound maps offered = All-nil (IsSoundPlan object)
  plans_sound known [] (plan ∷ plans) full h sound maps offered = absurd h
  plans_sound known (instance ∷ made) [] full h sound maps offered = absurd h
  plans_sound known (instance ∷ made) (plan ∷ plans) full h sound maps offered =
      let whole : Plan = plan_of known instance in
      let same : record plan { variants = whole.variants } ≡ whole = ap (λ (p : Plan). record p { variants = whole.variants }) h.0.same in
      All-cons (IsSoundPlan object) plan plans
      (plan_sound plan whole same (map_is instance.skeleton (and_left (makes_map instance) (list_all makes_map made) maps)) (All-head (IsSoundPlan alone) whole (map (plan_of known) made) sound)
      h.0.sequential (All-head (AllOffer object) plan plans offered))
      (plans_sound known made plans full h.1 (All-tail (IsSoundPlan alone) whole (map (plan_of known) made) sound)
      (and_right (makes_map instance) (list_all makes_map made) maps) (All-tail (AllOffer object) plan plans offered))

-- they are all Maps
pub plans_maps : (known : List (List ℕ × Known)) (made : List instances.Instance) (plans : List Plan) (full : Object) → AreSomePlans plans (map (offering full) (map (plan_of known) made))
    → list_all makes_map made ≡ true → All (λ (plan : Plan). plan.skeleton ≡ skeleton.Map) plans
plans_maps known [] [] full h maps = All-nil (λ (plan : Plan). plan.skeleton ≡ skeleton.Map)
plans_maps known [] (plan ∷ plans) full h maps = absurd h
plans_maps known (instance ∷ made) [] full h maps = absurd h
plans_maps known (instance ∷ made) (plan ∷ plans) full h maps =
    All-cons (λ (plan : Plan). plan.skeleton ≡ skeleton.Map) plan plans
    (ap (λ (p : Plan). p.skeleton) h.0.same ∙ map_is instance.skeleton (and_left (makes_map instance) (list_all makes_map made) maps))
    (plans_maps known made plans full h.1 (and_right (makes_map instance) (list_all makes_map made) maps))
