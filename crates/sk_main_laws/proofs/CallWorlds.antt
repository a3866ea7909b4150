-- What a call works on, and what it leaves.
use Rattle.std.proofs.Common.{◌≡◌, ℕ, zero, suc, ◌+◌, ◌<◌, Bool, true, false, ◌&&◌, ◌==◌, if◌then◌else◌, List, [], ◌∷◌, ◌++◌, length, All, ℤ, pos, Option, Some, None, IfSome, Result, Ok, Err, slice_get, slice_index_or, arith, ap, sym, refl, subst, ◌∙◌}
use Rattle.std.proofs.lemmas.Bool.{and_parts, eqb-true}
use Rattle.std.proofs.lemmas.List.{length_push}
use Rattle.std.proofs.lemmas.List.Elements.{All-nil, All-push}
use Rattle.std.proofs.lemmas.Option.{get_or_from_slice_get, same_Some, slice_get_within}
use Rattle.sk_base.specs.Arithmetic.{InRange}
use Rattle.sk_base.specs.ArithmeticLaws.{wrapped-in_range}
use Rattle.sk_base.specs.Shape.{IsShape, cells_of}
use Rattle.sk_base.specs.declared.number.Trap.{Trap}
use Rattle.sk_base.specs.declared.number.Ty.{Ty}
use Rattle.sk_formula.specs.Calls.{Outcome, Cells, Number, cells_outcome}
use Rattle.sk_formula.specs.Elements.{TrapAt, at_element, mapped, with_last}
use Rattle.sk_isa.specs.Objects.{function_at, invoked, no_signature, signature_at}
use Rattle.sk_isa.specs.SoundObjects.{HasSoundFunctions, IsSoundPlan}
use Rattle.sk_isa.specs.Soundness.{IsOfType, SuitParams}
use Rattle.sk_isa.specs.declared.object.Object.{Object}
use Rattle.sk_isa.specs.declared.object.Plan.{Plan}
use Rattle.sk_isa.specs.declared.object.Signature.{Signature}
use Rattle.sk_isa_laws.proofs.Callees as callees
use Rattle.sk_isa_laws.proofs.Values.{zero-in_range}
use Rattle.sk_call_shapes.specs.CallShapes.{Container as Kinded, Wanted, are_wanted, is_wanted}
use Rattle.sk_main_code.specs.MainSoundness.{container_of, containers_of}
use Rattle.sk_main_laws.proofs.Inputs.{same_type-true}
use Rattle.sk_main_laws.proofs.Doings.{invoked-of_type}
use Rattle.sk_main_laws.proofs.Worlds.{There, as_filled, cell_fits, container_at-is, fine_again, fine_beside, there}
use Rattle.sk_main_laws.specs.Calls.{AreAsWanted, IsAsWanted, IsFineCall}
use Rattle.sk_main_laws.specs.FineWorlds.{IsFineWorld}
use Rattle.sk_meaning.specs.Evaluation.{Argument}
use Rattle.sk_tree.specs.Parameters.{same_type}
use Rattle.sk_tree.specs.Skeletons.{function_count}
use Rattle.sk_tree.specs.declared.declared.Declared.{Declared}
use Rattle.sk_tree.specs.declared.settings.Settings.{Settings}
use Rattle.sk_tree.specs.declared.tree.Skeleton.{Skeleton}
use Rattle.sk_tree.specs.declared.tree.Skeleton.TheVariants as skeleton
use Rattle.sk_world.specs.Calls.{Instance, cell_of, converted, has_trapped, is_mapped, operands_in, ran_call, tell_call}
use Rattle.sk_world.specs.Events.{CallOf, Mapped, Ran}
use Rattle.sk_world.specs.World.{Container, Over, Trapped, World, container_at, putting, told}

-- an instance of a sound object
pub plan_sound : (object : Object) → HasSoundFunctions object → (number : ℕ) (plan : Plan) → slice_get object.instances number ≡ Some plan → IsSoundPlan object plan
plan_sound object sound number plan is =
    subst (IsSoundPlan object) (get_or_from_slice_get object.instances number plan plan is)
    (sound.instances number plan (slice_get_within object.instances number plan is))

-- its functions are there
function_there : (object : Object) (functions : List ℕ) (place : ℕ) → All (λ function. function < length object.functions) functions → place < length functions
    → slice_index_or functions place 0 < length object.functions
function_there object functions place all less = all place 0 less

some_functions : (kind : Skeleton) → 0 < function_count kind
some_functions skeleton.MapReduce = omega arith
some_functions skeleton.MapPairsReduce = omega arith
some_functions kind = omega arith

pub first_there : (object : Object) (plan : Plan) → IsSoundPlan object plan → function_at plan 0 < length object.functions
first_there object plan sound = function_there object plan.functions 0 sound.there (subst (λ (n : ℕ). 0 < n) (sym sound.count) (some_functions plan.skeleton))

-- a function's value by its number
pub value-of_type : (object : Object) → HasSoundFunctions object → (function : ℕ) → function < length object.functions → (arguments : List Argument)
    → SuitParams (signature_at object function).params arguments → IsOfType (signature_at object function).ret (invoked object function arguments)
value-of_type object sound function within arguments suits =
    subst (λ (s : Signature). IsOfType s.ret (invoked object function arguments)) (sym same)
    (invoked-of_type object sound function own.0 within own.1 arguments (subst (λ (s : Signature). SuitParams s.params arguments) same suits))
  where
    enough : length object.signatures ≡ suc (length object.functions) → function < length object.signatures
    enough count = omega arith

    own : (x : Signature) × (slice_get object.signatures function ≡ Some x)
    own = callees.there object.signatures function (enough sound.signatures)

    same : signature_at object function ≡ own.0
    same = ap (λ (found : Option Signature). elim found [ Some signature ↦ signature | None ↦ no_signature ]) own.1

one_as : (wanted : Wanted) (declared : Declared) (container : Container) (kind : Option ℕ) → wanted.kind ≡ kind
    → ((elim kind [ Some kind ↦ kind == declared.kind | None ↦ true ]) && same_type wanted.ty declared.ty) ≡ true
    → container.ty ≡ declared.ty → length container.sizes ≡ declared.kind → IsShape container.sizes → length container.cells ≡ cells_of container.sizes
    → All (InRange declared.ty) container.cells → IsAsWanted wanted container
one_as wanted declared container kind is e ty long shape count cells =
    let parts = and_parts (elim kind [ Some kind ↦ kind == declared.kind | None ↦ true ]) (same_type wanted.ty declared.ty) e in
    let same : wanted.ty ≡ declared.ty = same_type-true wanted.ty declared.ty parts.1 in
    record {
      ty = ty ∙ sym same;
      kind = subst (λ (k : Option ℕ). IfSome k (λ kind. length container.sizes ≡ kind)) (sym is) (kinds kind parts.0);
      shape = shape;
      count = count;
      cells = subst (λ (t : Ty). All (InRange t) container.cells) (sym same) cells;
    }
  where
    kinds : (kind : Option ℕ) → (elim kind [ Some kind ↦ kind == declared.kind | None ↦ true ]) ≡ true → IfSome kind (λ kind. length container.sizes ≡ kind)
    kinds None e = tt
    kinds (Some k) e = long ∙ sym (eqb-true k declared.kind e)

-- a live container is as it is wanted where its declaration is
first_as : (object : Object) (live : ℕ → Bool) (world : World) → IsFineWorld object live world → (number : ℕ) → live number ≡ true → (declared : Declared)
    → slice_get object.containers number ≡ Some declared → (one : Wanted) → is_wanted one (container_of declared) ≡ true → IsAsWanted one (container_at world number)
first_as object live world fine number is_live declared found one test = by (there object live world fine number is_live)
  where
    by : There object world number → IsAsWanted one (container_at world number)
    by t =
        let same : t.declared ≡ declared = same_Some t.declared declared (sym t.declared_there ∙ found) in
        subst (IsAsWanted one) (sym (container_at-is object world number t))
        (one_as one declared t.container one.kind refl test
        (t.as_declared.ty ∙ ap (λ (d : Declared). d.ty) same)
        (t.as_declared.kind ∙ ap (λ (d : Declared). d.kind) same)
        t.as_declared.shape t.as_declared.count
        (subst (λ (d : Declared). All (InRange d.ty) t.container.cells) same t.as_declared.cells))

-- the containers that a call is given are as it wants them
pub are_as : (object : Object) (live : ℕ → Bool) (world : World) → IsFineWorld object live world → (numbers : List ℕ) (given : List Kinded) (wanted : List Wanted)
    → containers_of object numbers ≡ Some given → All (λ container. live container ≡ true) numbers → are_wanted wanted given ≡ true
    → AreAsWanted wanted (operands_in world numbers)
are_as object live world fine [] [] [] is alive e = tt
are_as object live world fine [] [] (wanted ∷ more) is alive e = cc
are_as object live world fine [] (one ∷ given) wanted is alive e = cc
are_as object live world fine (number ∷ numbers) given wanted is alive e =
    by (slice_get object.containers number) refl
    (λ others more are test. are_as object live world fine numbers others more are (λ k d less. alive (suc k) d (omega arith)) test) is
  where
    with : (declared : Declared) → slice_get object.containers number ≡ Some declared → (others : List Kinded) (wanted : List Wanted)
        → ((more : List Wanted) → are_wanted more others ≡ true → AreAsWanted more (operands_in world numbers))
        → are_wanted wanted (container_of declared ∷ others) ≡ true → AreAsWanted wanted (operands_in world (number ∷ numbers))
    with declared found others [] later e = cc
    with declared found others (one ∷ more) later e =
        let parts = and_parts (is_wanted one (container_of declared)) (are_wanted more others) e in
        (first_as object live world fine number (alive 0 number (omega arith)) declared found one parts.0, later more parts.1)

    tail : (declared : Declared) → slice_get object.containers number ≡ Some declared → (others : Option (List Kinded)) → containers_of object numbers ≡ others
        → ((others : List Kinded) (more : List Wanted) → containers_of object numbers ≡ Some others → are_wanted more others ≡ true
        → AreAsWanted more (operands_in world numbers))
        → elim others [ Some rest ↦ Some (container_of declared ∷ rest) | None ↦ None ] ≡ Some given → AreAsWanted wanted (operands_in world (number ∷ numbers))
    tail declared found None are later is = cc
    tail declared found (Some others) are later is =
        with declared found others wanted (λ more test. later others more are test)
        (subst (λ (list : List Kinded). are_wanted wanted list ≡ true) (sym (same_Some (container_of declared ∷ others) given is)) e)

    by : (found : Option Declared) → slice_get object.containers number ≡ found
        → ((others : List Kinded) (more : List Wanted) → containers_of object numbers ≡ Some others → are_wanted more others ≡ true
        → AreAsWanted more (operands_in world numbers))
        → elim found [
          | Some declared ↦ elim (containers_of object numbers) [ Some rest ↦ Some (container_of declared ∷ rest) | None ↦ None ]
          | None ↦ None
        ] ≡ Some given
        → AreAsWanted wanted (operands_in world (number ∷ numbers))
    by None found later is = cc
    by (Some declared) found later is = tail declared found (containers_of object numbers) refl later is

-- a cell of a container that is wanted so
pub wanted_cell : (wanted : List Wanted) (containers : List Container) (k : ℕ) (one : Wanted) (index : ℕ) → AreAsWanted wanted containers → slice_get wanted k ≡ Some one
    → InRange one.ty (cell_of containers k index)
wanted_cell [] containers k one index h e = cc
wanted_cell (wanted ∷ more) [] k one index h e = absurd h
wanted_cell (wanted ∷ more) (container ∷ containers) zero one index h e =
    subst (λ (w : Wanted). InRange w.ty (slice_index_or container.cells index (pos 0))) (same_Some wanted one e)
    (cell_fits wanted.ty container.cells index h.0.cells)
wanted_cell (wanted ∷ more) (container ∷ containers) (suc k) one index h e = wanted_cell more containers k one index h.1 e

-- uniform arguments are converted to their types
pub converted_fits : (types : List Ty) (values : List ℤ) (k : ℕ) (ty : Ty) → slice_get types k ≡ Some ty → InRange ty (slice_index_or (converted types values) k (pos 0))
converted_fits [] values k ty e = cc
converted_fits (own ∷ types) [] k ty e = zero-in_range ty
converted_fits (own ∷ types) (value ∷ values) zero ty e =
    subst (λ (t : Ty). InRange t (slice_index_or (converted (own ∷ types) (value ∷ values)) 0 (pos 0))) (same_Some own ty e) (wrapped-in_range own value)
converted_fits (own ∷ types) (value ∷ values) (suc k) ty e = converted_fits types values k ty e

-- values at so many places are as many cells, each of the type
abbrev pub AreCells : Ty → (count : ℕ) → Result (List ℤ) TrapAt → Type 0
AreCells ty count (Ok cells) = (length cells ≡ count) × All (InRange ty) cells
AreCells ty count (Err trapped) = Unit {0}

one_cell : (ty : Ty) (count index : ℕ) (before : Result (List ℤ) TrapAt) (value : Result ℤ Trap) → AreCells ty count before → IsOfType ty value
    → AreCells ty (suc count) (with_last before (at_element index value))
one_cell ty count index (Err trapped) value h fits = tt
one_cell ty count index (Ok cells) (Err trap) h fits = tt
one_cell ty count index (Ok cells) (Ok value) h fits = (longer (length cells) (length (cells ++ value ∷ [])) h.0 (length_push cells value), All-push (InRange ty) cells value h.1 fits)
  where
    longer : (n m : ℕ) → n ≡ count → m ≡ n + 1 → m ≡ suc count
    longer n m e f = omega arith

pub mapped_cells : (ty : Ty) (value : ℕ → Result ℤ Trap) (first count : ℕ) → ((k : ℕ) → k < count → IsOfType ty (value (first + k)))
    → AreCells ty count (mapped value first count)
mapped_cells ty value first zero each = (refl, All-nil (InRange ty))
mapped_cells ty value first (suc count) each =
    one_cell ty count (first + count) (mapped value first count) (value (first + count)) (mapped_cells ty value first count (λ k less. each k (omega arith)))
    (each count (omega arith))

-- a call is told, and changes nothing else
abbrev AreTold : Object → (live : ℕ → Bool) → World → World → Type 0
AreTold object live world after = IsFineWorld object live after × (after.statements_left ≡ world.statements_left)

told_world : (object : Object) (live : ℕ → Bool) (instance : Instance) (call : CallOf) (settings : Settings) (result : Option Container) (outcome : Result Outcome TrapAt)
    (world : World) → IsFineWorld object live world → AreTold object live world (tell_call instance call settings result outcome world)
told_world object live instance call settings None outcome world fine = (fine_beside object live world _ _ _ _ fine, refl)
told_world object live instance call settings (Some result) outcome world fine = by (is_mapped instance)
  where
    by : (test : Bool) → AreTold object live world
        ((if test then told (Mapped call result.number) else told (Ran call settings (Some result.number) (has_trapped outcome))) world)
    by true = (fine_beside object live world _ _ _ _ fine, refl)
    by false = (fine_beside object live world _ _ _ _ fine, refl)

-- a call that gives its result new cells
pub filled_call : (object : Object) (live : ℕ → Bool) (world : World) (ty : Ty) (instance : Instance) (call : CallOf) (settings : Settings) (number : ℕ)
    (cells : Result (List ℤ) TrapAt) → IsFineWorld object live world → live number ≡ true → (container_at world number).ty ≡ ty
    → AreCells ty (cells_of (container_at world number).sizes) cells
    → IsFineCall object live world.statements_left ty (ran_call instance call settings (Some (container_at world number)) (cells_outcome cells) world)
filled_call object live world ty instance call settings number (Err trapped) fine is_live same fit =
    (told_world object live instance call settings (Some (container_at world number)) (Err trapped) world fine).0
filled_call object live world ty instance call settings number (Ok cells) fine is_live same fit =
    by (told_world object live instance call settings (Some (container_at world number)) (Ok (Cells cells)) world fine)
    (there object live world fine number is_live)
  where
    after : World
    after = tell_call instance call settings (Some (container_at world number)) (Ok (Cells cells)) world

    by : AreTold object live world after → There object world number
        → IsFineCall object live world.statements_left ty (Ok (pos 0, putting (record (container_at world number) { cells = cells }) after))
    by told t =
        let at : container_at world number ≡ t.container = container_at-is object world number t in
        let own : t.declared.ty ≡ ty = sym t.as_declared.ty ∙ ap (λ (c : Container). c.ty) (sym at) ∙ same in (
          zero-in_range ty,
          subst (λ (c : Container). IsFineWorld object live (putting (record c { cells = cells }) after)) (sym at)
              (fine_again object live after (record t.container { cells = cells }) number t.declared told.0 is_live t.number_is t.declared_there
              (as_filled t.declared t.container cells t.as_declared (fit.0 ∙ ap (λ (c : Container). cells_of c.sizes) at)
              (subst (λ (one : Ty). All (InRange one) cells) (sym own) fit.1))),
          told.1,
        )

-- a call that gives a number
abbrev pub IsNumber : Ty → Result Outcome TrapAt → Type 0
IsNumber ty (Ok (Cells cells)) = ⊥
IsNumber ty (Ok (Number value)) = InRange ty value
IsNumber ty (Err trapped) = Unit {0}

pub number_call : (object : Object) (live : ℕ → Bool) (world : World) (ty : Ty) (instance : Instance) (call : CallOf) (settings : Settings)
    (outcome : Result Outcome TrapAt) → IsFineWorld object live world → IsNumber ty outcome
    → IsFineCall object live world.statements_left ty (ran_call instance call settings None outcome world)
number_call object live world ty instance call settings (Ok (Cells cells)) fine fits = absurd fits
number_call object live world ty instance call settings (Ok (Number value)) fine fits =
    let told = told_world object live instance call settings None (Ok (Number value)) world fine in (fits, told.0, told.1)
number_call object live world ty instance call settings (Err trapped) fine fits =
    (told_world object live instance call settings None (Err trapped) world fine).0

-- a call that is refused leaves the world as it is
pub unless_refused : (object : Object) (live : ℕ → Bool) (world : World) (ty : Ty) (refusal : Option Trap) (ran : Result (ℤ × World) Over) → IsFineWorld object live world
    → IsFineCall object live world.statements_left ty ran
    → IsFineCall object live world.statements_left ty (elim refusal [ Some trap ↦ Err (record { ending = Trapped trap world.line 0; world = world }) | None ↦ ran ])
unless_refused object live world ty None ran fine h = h
unless_refused object live world ty (Some trap) ran fine h = fine
