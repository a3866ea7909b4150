-- What is computed for a Map is what its call comes to.
use Rattle.std.proofs.Common.{◌≡◌, ℕ, zero, suc, ◌-◌, ◌≤◌, true, false, ◌&&◌, ◌==◌, List, [], ◌∷◌, length, map, take, drop, All, ℤ, pos, Option, Some, None, IsSome, IfOk, Ok, Err, Result, slice_get, slice_index_or, arith, ap, sym, refl, subst, ◌∙◌}
use Rattle.std.specs.Cmp.{first_so, second_so}
use Rattle.std.specs.List.{list_all}
use Rattle.std.proofs.lemmas.Bool.{eqb-true}
use Rattle.std.proofs.lemmas.List.{length-map}
use Rattle.std.proofs.lemmas.Option.{same_Some}
use Rattle.sk_arguments.specs.Arguments.{Given, operand_kinds, uniform_types}
use Rattle.sk_base.specs.Shape.{cells_of}
use Rattle.sk_base.specs.declared.number.Trap.TheVariants.{Shape}
use Rattle.sk_formula.specs.Calls.{are_all, same_sizes}
use Rattle.sk_formula.specs.Elements.{TrapAt, mapped}
use Rattle.sk_host.proofs.Calling.{call_fills, call_refused, call_traps, cell_same, shapes_same, uniforms_same}
use Rattle.sk_host.proofs.Kept.{found-in}
use Rattle.sk_host.proofs.Mapped.{agrees_run}
use Rattle.sk_host.specs.MapCalls.{AreTyped, ComesTo, IsComputed, IsMapCall}
use Rattle.sk_host.specs.Maps.{AreOperands, IsMap, MayMap, params_of, value_for}
use Rattle.sk_host.specs.Passed.{call_source, converted_by, sizes_held}
use Rattle.sk_host.specs.Stores.{Kept, Mirrors, kept_at}
use Rattle.sk_isa.specs.Soundness.{is_scalar}
use Rattle.sk_isa.specs.declared.object.Object.{Object}
use Rattle.sk_isa.specs.declared.object.Plan.{Plan}
use Rattle.std.specs.declared.vec.Vec.{Vec}
use Rattle.sk_kernel.specs.declared.kernel.RunTrap.{RunTrap}
use Rattle.sk_kernel.specs.Instances.{instance_meaning}
use Rattle.sk_kernel.specs.Kernels.{AgreeRun, Source, given_by}
use Rattle.sk_main_code.specs.MainSteps.{linked_plan}
use Rattle.sk_tree.specs.InstanceSettings.{default_settings}
use Rattle.sk_tree.specs.declared.tree.ParamKind.{ParamKind}
use Rattle.sk_tree.specs.declared.tree.ParamKind.TheVariants.{Scalar, Index, Proxy, Region}
use Rattle.sk_tree.specs.declared.tree.Skeleton.{Skeleton}
use Rattle.sk_tree.specs.declared.tree.Skeleton.TheVariants.{Map}
use Rattle.sk_world.specs.Calls.{call_of, cell_of, converted, operands_in}
use Rattle.sk_world.specs.Events.{Event}
use Rattle.sk_world.specs.World.{Container, Trapped, World, container_at, putting, told}

-- sizes that test as the same
sizes_true : (a b : List ℕ) → same_sizes a b ≡ true → a ≡ b
sizes_true [] [] e = refl
sizes_true [] (y ∷ b) e = cc
sizes_true (x ∷ a) [] e = cc
sizes_true (x ∷ a) (y ∷ b) e =
    ap (λ (n : ℕ). n ∷ a) (eqb-true x y (first_so (x == y) (same_sizes a b) e)) ∙ ap (λ (rest : List ℕ). y ∷ rest) (sizes_true a b (second_so (x == y) (same_sizes a b) e))

module _ (store : List (Option Kept)) where
  abbrev shapes_at : (over : List ℕ) → List ℕ → List (List ℕ)
  shapes_at over numbers = map (λ number. sizes_held over (kept_at store number)) numbers

  typed_operands : (over : List ℕ) (kinds : List ParamKind) (numbers : List ℕ) → AreTyped kinds (map (kept_at store) numbers)
      → are_all over (shapes_at over numbers) ≡ true → AreOperands over kinds (map (kept_at store) numbers)
  typed_operands over [] [] typed e = tt
  typed_operands over [] (number ∷ numbers) typed e = absurd typed
  typed_operands over (Scalar ty ∷ kinds) [] typed e = absurd typed
  typed_operands over (Scalar ty ∷ kinds) (number ∷ numbers) typed e =
      by (kept_at store number) (λ later test. typed_operands over kinds numbers later test) typed e
    where
      by : (found : Option Kept)
          → (AreTyped kinds (map (kept_at store) numbers) → are_all over (shapes_at over numbers) ≡ true → AreOperands over kinds (map (kept_at store) numbers))
          → AreTyped (Scalar ty ∷ kinds) (found ∷ map (kept_at store) numbers)
          → (same_sizes (sizes_held over found) over && are_all over (shapes_at over numbers)) ≡ true
          → AreOperands over (Scalar ty ∷ kinds) (found ∷ map (kept_at store) numbers)
      by None later typed e = absurd typed
      by (Some kept) later typed e = (
        sizes_true kept.sizes over (first_so (same_sizes kept.sizes over) (are_all over (shapes_at over numbers)) e),
        typed.0,
        typed.1,
        later typed.2 (second_so (same_sizes kept.sizes over) (are_all over (shapes_at over numbers)) e),
      )
  typed_operands over (Index dimension ∷ kinds) numbers typed e = absurd typed
  typed_operands over (Proxy dimension ty ∷ kinds) numbers typed e = absurd typed
  typed_operands over (Region dimension ty ∷ kinds) numbers typed e = absurd typed

  typed_there : (kinds : List ParamKind) (numbers : List ℕ) → AreTyped kinds (map (kept_at store) numbers) → All (λ number. IsSome (kept_at store number)) numbers
  typed_there kinds [] typed k d less = absurd (omega arith)
  typed_there [] (number ∷ numbers) typed k d less = absurd typed
  typed_there (Scalar ty ∷ kinds) (number ∷ numbers) typed zero d less = by (kept_at store number) typed
    where
      by : (found : Option Kept) → AreTyped (Scalar ty ∷ kinds) (found ∷ map (kept_at store) numbers) → IsSome found
      by None typed = absurd typed
      by (Some kept) typed = refl
  typed_there (Scalar ty ∷ kinds) (number ∷ numbers) typed (suc k) d less = typed_there kinds numbers (by (kept_at store number) typed) k d (omega arith)
    where
      by : (found : Option Kept) → AreTyped (Scalar ty ∷ kinds) (found ∷ map (kept_at store) numbers) → AreTyped kinds (map (kept_at store) numbers)
      by None typed = absurd typed
      by (Some kept) typed = typed.2
  typed_there (Index dimension ∷ kinds) (number ∷ numbers) typed k d less = absurd typed
  typed_there (Proxy dimension ty ∷ kinds) (number ∷ numbers) typed k d less = absurd typed
  typed_there (Region dimension ty ∷ kinds) (number ∷ numbers) typed k d less = absurd typed

  typed_count : (kinds : List ParamKind) (numbers : List ℕ) → AreTyped kinds (map (kept_at store) numbers) → length numbers ≡ length kinds
  typed_count [] [] typed = refl
  typed_count [] (number ∷ numbers) typed = absurd typed
  typed_count (Scalar ty ∷ kinds) [] typed = absurd typed
  typed_count (Scalar ty ∷ kinds) (number ∷ numbers) typed = ap suc (typed_count kinds numbers (by (kept_at store number) typed))
    where
      by : (found : Option Kept) → AreTyped (Scalar ty ∷ kinds) (found ∷ map (kept_at store) numbers) → AreTyped kinds (map (kept_at store) numbers)
      by None typed = absurd typed
      by (Some kept) typed = typed.2
  typed_count (Index dimension ∷ kinds) numbers typed = absurd typed
  typed_count (Proxy dimension ty ∷ kinds) numbers typed = absurd typed
  typed_count (Region dimension ty ∷ kinds) numbers typed = absurd typed

-- no more operands than elements
few_operands : (elements : ℕ) (params : List ParamKind) → list_all is_scalar params ≡ true → length (operand_kinds elements params) ≤ elements
few_operands elements [] scalars = omega arith
few_operands zero (Scalar ty ∷ kinds) scalars = few_operands zero kinds scalars
few_operands (suc elements) (Scalar ty ∷ kinds) scalars = let h = few_operands elements kinds scalars in omega arith
few_operands elements (Index dimension ∷ kinds) scalars = cc
few_operands elements (Proxy dimension ty ∷ kinds) scalars = cc
few_operands elements (Region dimension ty ∷ kinds) scalars = cc

take_upto : {A : Type 0} (xs : List A) (n : ℕ) → length xs ≤ n → take n xs ≡ xs
take_upto [] zero upto = refl
take_upto [] (suc n) upto = refl
take_upto (x ∷ xs) zero upto = absurd (omega arith)
take_upto (x ∷ xs) (suc n) upto = ap (λ ys. x ∷ ys) (take_upto xs n (omega arith))

-- a Map that is called
module _ (object : Object) (instance : ℕ) (containers : List ℕ) (count : ℕ) (store : List (Option Kept)) (call : IsMapCall object instance containers count store)
    (uniforms : List ℤ) (count_is : length uniforms ≡ count) where
  abbrev plan : Plan
  plan = call.plan

  abbrev params : List ParamKind
  params = params_of object plan

  abbrev kinds : List ParamKind
  kinds = drop plan.elements params

  abbrev over : List ℕ
  over = call.kept.sizes

  abbrev shapes : List (List ℕ)
  shapes = shapes_at store over call.operands

  abbrev source : Source
  source = call_source store call.operands kinds uniforms over

  there : All (λ number. IsSome (kept_at store number)) call.operands
  there = typed_there store (operand_kinds plan.elements params) call.operands call.operands_are

  pub may_map : are_all over shapes ≡ true → MayMap object plan store call.operands kinds uniforms over
  may_map alike = record {
    is_map = call.is_map;
    shape = call.shape;
    scalars = call.scalars;
    kinds_are = refl;
    count = count_is ∙ call.count;
    operands_are = typed_operands store over (operand_kinds plan.elements params) call.operands call.operands_are alike;
  }

  module _ (world : World) (mirrors : Mirrors store world) (unset : world.settings ≡ []) where
    abbrev target : Container
    target = container_at world call.result

    sizes_same : over ≡ target.sizes
    sizes_same =
        let f = found-in store world call.result call.kept mirrors call.kept_is in
        ap (λ (k : Kept). k.sizes) (sym f.kept_is) ∙ ap (λ (c : Container). c.sizes) (sym f.at_is)

    shapes_are : shapes ≡ map (λ (c : Container). c.sizes) (operands_in world call.operands)
    shapes_are = shapes_same store world mirrors over call.operands there

    many : length shapes ≤ plan.elements
    many = let h = few_operands plan.elements params call.scalars in
        let n = typed_count store (operand_kinds plan.elements params) call.operands call.operands_are in
        omega (arith, length-map call.operands (λ number. sizes_held over (kept_at store number)))

    fit_is : are_all target.sizes (take plan.elements (map (λ (c : Container). c.sizes) (operands_in world call.operands))) ≡ are_all over shapes
    fit_is =
        ap (λ (all : List (List ℕ)). are_all target.sizes (take plan.elements all)) (sym shapes_are)
        ∙ ap (are_all target.sizes) (take_upto shapes plan.elements many)
        ∙ ap (λ (sizes : List ℕ). are_all sizes shapes) (sym sizes_same)

    -- what the function is given
    given_is : given_by source (cell_of (operands_in world call.operands))
        ≡ record {
          cells = cell_of (operands_in world call.operands);
          shapes = map (λ (c : Container). c.sizes) (operands_in world call.operands);
          uniforms = converted (uniform_types plan.elements params) uniforms;
          over = Some target.sizes;
        }
    given_is =
        ap (λ (all : List (List ℕ)). record {
          cells = cell_of (operands_in world call.operands);
          shapes = all;
          uniforms = converted_by kinds uniforms;
          over = Some over;
        }) shapes_are
        ∙ ap (λ (values : List ℤ). record {
          cells = cell_of (operands_in world call.operands);
          shapes = map (λ (c : Container). c.sizes) (operands_in world call.operands);
          uniforms = values;
          over = Some over;
        }) (uniforms_same plan.elements params uniforms call.scalars)
        ∙ ap (λ (sizes : List ℕ). record {
          cells = cell_of (operands_in world call.operands);
          shapes = map (λ (c : Container). c.sizes) (operands_in world call.operands);
          uniforms = converted (uniform_types plan.elements params) uniforms;
          over = Some sizes;
        }) sizes_same

    -- the values of the definition are those of the instance, at the data
    abbrev whole : Skeleton → Plan
    whole kind = record plan { skeleton = kind }

    abbrev defined : Given
    defined = record {
      cells = cell_of (operands_in world call.operands);
      shapes = map (λ (c : Container). c.sizes) (operands_in world call.operands);
      uniforms = converted (uniform_types plan.elements params) uniforms;
      over = Some target.sizes;
    }

    mapped_is : (made : Result (List ℤ) TrapAt)
        → mapped (value_for (instance_meaning object plan default_settings) (given_by source (cell_of (operands_in world call.operands)))) 0 (cells_of over) ≡ made
        → mapped (value_for (instance_meaning object (whole Map) default_settings) defined) 0 (cells_of target.sizes) ≡ made
    mapped_is made is =
        ap (λ (kind : Skeleton). mapped (value_for (instance_meaning object (whole kind) default_settings) defined) 0 (cells_of target.sizes)) (sym call.is_map)
        ∙ ap (λ (given : Given). mapped (value_for (instance_meaning object plan default_settings) given) 0 (cells_of target.sizes)) (sym given_is)
        ∙ ap (λ (sizes : List ℕ). mapped (value_for (instance_meaning object plan default_settings) (given_by source (cell_of (operands_in world call.operands)))) 0 (cells_of sizes)) (sym sizes_same)
        ∙ is

    pub refused : are_all over shapes ≡ false
        → call_of (linked_plan object instance plan) (Some call.result) call.operands uniforms world ≡ Err (record { ending = Trapped Shape world.line 0; world = world })
    refused differ = call_refused object instance plan call.result call.operands uniforms world call.is_map unset (fit_is ∙ differ)

    pub filled : are_all over shapes ≡ true → (cells : List ℤ)
        → mapped (value_for (instance_meaning object plan default_settings) (given_by source (cell_of (operands_in world call.operands)))) 0 (cells_of over) ≡ Ok cells
        → (event : Event) × (call_of (linked_plan object instance plan) (Some call.result) call.operands uniforms world
        ≡ Ok (pos 0, putting (record target { cells = cells }) (told event world)))
    filled alike cells made =
        call_fills object instance plan call.result call.operands uniforms world call.is_map unset (fit_is ∙ alike) cells (mapped_is (Ok cells) made)

    pub trapped : are_all over shapes ≡ true → (trap : TrapAt)
        → mapped (value_for (instance_meaning object plan default_settings) (given_by source (cell_of (operands_in world call.operands)))) 0 (cells_of over) ≡ Err trap
        → (event : Event) × (call_of (linked_plan object instance plan) (Some call.result) call.operands uniforms world
        ≡ Err (record { ending = Trapped trap.trap world.line trap.element; world = told event world }))
    trapped alike trap made =
        call_traps object instance plan call.result call.operands uniforms world call.is_map unset (fit_is ∙ alike) trap (mapped_is (Err trap) made)

    pub agrees : (alike : are_all over shapes ≡ true) → AgreeRun (instance_meaning object plan default_settings) source 0 0 (cells_of over) (cell_of (operands_in world call.operands))
    agrees alike =
        agrees_run object plan store call.operands kinds uniforms over (may_map alike) (cell_of (operands_in world call.operands))
        (λ operand index number kept is e. cell_same store world mirrors call.operands operand index number kept is e)

-- the first and the rest of a list
pub first_is : (xs : List ℕ) (x : ℕ) (ys : List ℕ) → xs ≡ x ∷ ys → slice_index_or xs 0 0 ≡ x
first_is xs x ys is = ap (λ (zs : List ℕ). slice_index_or zs 0 0) is

pub rest_is : (xs : List ℕ) (x : ℕ) (ys : List ℕ) → xs ≡ x ∷ ys → take (length xs - 1) (drop 1 xs) ≡ ys
rest_is xs x ys is = ap (λ (zs : List ℕ). take (length zs - 1) (drop 1 zs)) is ∙ take_upto ys (suc (length ys) - 1) (omega arith)

head_same : (x y : ℕ) (xs ys : List ℕ) → x ∷ xs ≡ y ∷ ys → x ≡ y
head_same x y xs ys is = cc

tail_same : (x y : ℕ) (xs ys : List ℕ) → x ∷ xs ≡ y ∷ ys → xs ≡ ys
tail_same x y xs ys is = cc

-- what the call comes to is what is computed
module _ (object : Object) (instance : ℕ) (containers : List ℕ) (store : List (Option Kept)) (uniforms : List ℤ)
    (call : IsMapCall object instance containers (length uniforms) store) where
  comes : {Z : Type 0} (computed : Result (Vec ℤ Z) RunTrap)
      → ((world : World) → Mirrors store world → world.settings ≡ []
      → ComesTo (call_of (linked_plan object instance call.plan) (Some call.result) call.operands uniforms world) call.result world computed)
      → IsComputed object instance containers uniforms store computed
  comes computed each plan result operands world is are mirrors unset =
      let both = sym call.containers_are ∙ are in
      subst (λ (p : Plan). ComesTo (call_of (linked_plan object instance p) (Some result) operands uniforms world) result world computed)
      (same_Some call.plan plan (sym call.plan_is ∙ is))
      (subst (λ (r : ℕ). ComesTo (call_of (linked_plan object instance call.plan) (Some r) operands uniforms world) r world computed)
      (head_same call.result result call.operands operands both)
      (subst (λ (ns : List ℕ). ComesTo (call_of (linked_plan object instance call.plan) (Some call.result) ns uniforms world) call.result world computed)
      (tail_same call.result result call.operands operands both) (each world mirrors unset)))

  pub refuses : (Z : Type 0) → are_all call.kept.sizes (shapes_at store call.kept.sizes call.operands) ≡ false
      → IsComputed {Z = Z} object instance containers uniforms store (Err (record { trap = Shape; offset = 0 }))
  refuses Z differ = comes {Z = Z} (Err (record { trap = Shape; offset = 0 })) (λ world mirrors unset. (
    record { ending = Trapped Shape world.line 0; world = world },
    refused object instance containers (length uniforms) store call uniforms refl world mirrors unset differ,
    refl,
    refl,
  ))

  abbrev source_of : (operands : List ℕ) → (kinds : List ParamKind) → (over : List ℕ) → Source
  source_of operands kinds over = call_source store operands kinds uniforms over

  -- the values are those of the instance, whatever the cells are that it does not read
  abbrev HasValues : {Z E : Type 0} → Result (Result (Vec ℤ Z) RunTrap) E → (operands : List ℕ) → (kinds : List ParamKind) → (over : List ℕ) → Type 0
  HasValues computed operands kinds over =
      (cells : ℕ → ℕ → ℤ) → AgreeRun (instance_meaning object call.plan default_settings) (source_of operands kinds over) 0 0 (cells_of over) cells
      → IfOk computed (IsMap (value_for (instance_meaning object call.plan default_settings) (given_by (source_of operands kinds over) cells)) (cells_of over))

  abbrev own_kinds : List ParamKind
  own_kinds = drop call.plan.elements (params_of object call.plan)

  computes : {Z E : Type 0} (computed : Result (Result (Vec ℤ Z) RunTrap) E) → HasValues computed call.operands own_kinds call.kept.sizes
      → are_all call.kept.sizes (shapes_at store call.kept.sizes call.operands) ≡ true → IfOk computed (IsComputed object instance containers uniforms store)
  computes (Err error) each alike = tt
  computes (Ok made) each alike = comes made (λ world mirrors unset. by world mirrors unset made
      (each (cell_of (operands_in world call.operands)) (agrees object instance containers (length uniforms) store call uniforms refl world mirrors unset alike)))
    where
      by : (world : World) (mirrors : Mirrors store world) (unset : world.settings ≡ []) {Z : Type 0} (made : Result (Vec ℤ Z) RunTrap)
          → IsMap (value_for (instance_meaning object call.plan default_settings)
          (given_by (source_of call.operands own_kinds call.kept.sizes) (cell_of (operands_in world call.operands)))) (cells_of call.kept.sizes) made
          → ComesTo (call_of (linked_plan object instance call.plan) (Some call.result) call.operands uniforms world) call.result world made
      by world mirrors unset (Ok cells) is =
          filled object instance containers (length uniforms) store call uniforms refl world mirrors unset alike cells.items is
      by world mirrors unset (Err stop) is =
          let t = trapped object instance containers (length uniforms) store call uniforms refl world mirrors unset alike (record { trap = stop.trap; element = stop.offset }) is in
          (record { ending = Trapped stop.trap world.line stop.offset; world = told t.0 world }, t.1, refl, refl)

  -- with operands, parameters and sizes that are found in the buffer
  module _ (operands : List ℕ) (kinds : List ParamKind) (over : List ℕ) (operands_are : operands ≡ call.operands) (kinds_are : kinds ≡ own_kinds) (over_is : over ≡ call.kept.sizes) where
    pub alike_is : are_all over (shapes_at store over operands) ≡ are_all call.kept.sizes (shapes_at store call.kept.sizes call.operands)
    alike_is =
        ap (λ (sizes : List ℕ). are_all sizes (shapes_at store sizes operands)) over_is
        ∙ ap (λ (numbers : List ℕ). are_all call.kept.sizes (shapes_at store call.kept.sizes numbers)) operands_are

    pub may_compute : are_all over (shapes_at store over operands) ≡ true → (plan : Plan) → slice_get object.instances instance ≡ Some plan
        → MayMap object plan store operands kinds uniforms over
    may_compute alike plan is =
        subst (λ (p : Plan). MayMap object p store operands kinds uniforms over) (same_Some call.plan plan (sym call.plan_is ∙ is))
        (subst (λ (sizes : List ℕ). MayMap object call.plan store operands kinds uniforms sizes) (sym over_is)
        (subst (λ (ks : List ParamKind). MayMap object call.plan store operands ks uniforms call.kept.sizes) (sym kinds_are)
        (subst (λ (numbers : List ℕ). MayMap object call.plan store numbers own_kinds uniforms call.kept.sizes) (sym operands_are)
        (may_map object instance containers (length uniforms) store call uniforms refl (sym alike_is ∙ alike)))))

    pub is_computed : {Z E : Type 0} (computed : Result (Result (Vec ℤ Z) RunTrap) E) → HasValues computed operands kinds over
        → are_all over (shapes_at store over operands) ≡ true → IfOk computed (IsComputed object instance containers uniforms store)
    is_computed computed each alike =
        computes computed
        (subst (λ (sizes : List ℕ). HasValues computed call.operands own_kinds sizes) over_is
        (subst (λ (ks : List ParamKind). HasValues computed call.operands ks over) kinds_are
        (subst (λ (numbers : List ℕ). HasValues computed numbers kinds over) operands_are each)))
        (sym alike_is ∙ alike)

-- the sizes that were found are those of the result
pub over-is : (store : List (Option Kept)) (first result : ℕ) (one kept : Kept) → first ≡ result → kept_at store first ≡ Some one → kept_at store result ≡ Some kept → one.sizes ≡ kept.sizes
over-is store first result one kept is found other =
    ap (λ (k : Kept). k.sizes) (same_Some one kept (sym found ∙ ap (kept_at store) is ∙ other))
