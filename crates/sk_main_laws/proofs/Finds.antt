-- Each instruction of main finds at a fine point what it needs.
use Rattle.std.proofs.Common.{◌≡◌, ℕ, ◌<◌, ◌≤◌, Bool, true, false, ◌&&◌, ◌||◌, ◌==◌, nat_le, nat_lt, if◌then◌else◌, List, [], ◌∷◌, ◌++◌, length, map, reverse, take, drop, All, ℤ, Option, Some, None, is_some, IsSome, IsSomeAnd, slice_get, arith, ap, sym, refl, subst, ◌∙◌}
use Rattle.std.proofs.lemmas.Bool.{and_parts, leb-true, ltb-true}
use Rattle.std.proofs.lemmas.List.{length-map, length-reverse, length-take-le}
use Rattle.std.proofs.lemmas.List.Elements.{All-weaker}
use Rattle.std.proofs.lemmas.Option.{same_Some, slice_get_within}
use Rattle.std.specs.Cmp.{first_so, second_so}
use Rattle.sk_base.specs.Arithmetic.{InRange, is_shift}
use Rattle.sk_base.specs.declared.number.Op.{Op}
use Rattle.sk_base.specs.declared.number.Ty.{Ty}
use Rattle.sk_isa.specs.Configurations.{Goes}
use Rattle.sk_isa.specs.Objects.{no_signature, signature_at}
use Rattle.sk_isa.specs.Soundness.{Left, SuitParams, is_there, left_by_call, left_if, of_many, of_one, of_two, serve_for, serves}
use Rattle.sk_isa.specs.declared.code.Instr.{Instr}
use Rattle.sk_isa.specs.declared.code.Instr.TheVariants.{Push, Pop, Load, Store, Neg, Inv, Not, Wrap, Binary, Jump, Zero, Call, Make, Take, Set, Do, Get}
use Rattle.sk_isa.specs.declared.object.Object.{Object}
use Rattle.sk_isa.specs.declared.object.Plan.{Plan}
use Rattle.sk_isa.specs.declared.object.Signature.{Signature}
use Rattle.sk_isa_laws.proofs.Steps.{left_if_so, scalar_so}
use Rattle.sk_isa_laws.proofs.TypedLists.{typed-length, typed-reverse, typed-take, typed_arguments}
use Rattle.sk_isa_laws.proofs.Values.{served}
use Rattle.sk_kernel.specs.Kernels.{AreOfTypes}
use Rattle.sk_call_shapes.specs.CallShapes.{Container as Kinded, Wanted, fits, fits_statement, fits_value}
use Rattle.sk_main_code.specs.MainSoundness.{given_in_main, is_declared, is_so, left_in_main, left_of_main, main_scalar, main_signature, made_by, names_in_main, names_of_main, taken_in_main, used_by}
use Rattle.sk_main_code.specs.MainSteps.{MainNext, MainPoint, next_in_main}
use Rattle.sk_main_code.specs.Sound.{IsSound}
use Rattle.sk_main_laws.proofs.Names.{Named, all_at, named_call, statement_given}
use Rattle.sk_main_laws.specs.Calls.{AreAsWanted, IsCalled, MakesCall, first_of, given_to_call, wanted_by_call}
use Rattle.sk_main_laws.proofs.CallWorlds.{are_as}
use Rattle.sk_main_laws.proofs.Worlds.{There, there}
use Rattle.sk_main_laws.proofs.Instructions.{steps_are_fine}
use Rattle.sk_main_laws.specs.FinePoints.{IsFineNext}
use Rattle.sk_main_laws.specs.FineWorlds.{IsAsDeclared, IsFineWorld}
use Rattle.sk_main_laws.specs.Finds.{AreOperands, Finds, IsThere, function_named, instance_named, slot_named, values_taken}
use Rattle.sk_main_laws.specs.Laws.{IsFineIn}
use Rattle.sk_meaning.specs.Evaluation.{Value, kind_type}
use Rattle.sk_tree.specs.declared.declared.Declared.{Declared}
use Rattle.sk_tree.specs.declared.tree.ParamKind.TheVariants.{Scalar}
use Rattle.sk_world.specs.Calls.{operands_in}
use Rattle.sk_world.specs.World.{Container, World, container_in}

-- what is found in an option
some_there : {A : Type 0} (found : Option A) (test : A → Bool) → elim found [ Some x ↦ test x | None ↦ false ] ≡ true → IsSome found
some_there None test e = cc
some_there (Some x) test e = refl

-- enough values
one_there : (types left : List Ty) (next : Ty → List Ty → Left) → of_one types next ≡ Some left → 1 ≤ length types
one_there [] left next e = cc
one_there (ty ∷ rest) left next e = omega arith

two_there : (types left : List Ty) (next : Ty → Ty → List Ty → Left) → of_two types next ≡ Some left → 2 ≤ length types
two_there [] left next e = cc
two_there (ty ∷ []) left next e = cc
two_there (ty ∷ other ∷ rest) left next e = omega arith

many_there : (count : ℕ) (types left : List Ty) (next : List Ty → List Ty → Left) → of_many count types next ≡ Some left → count ≤ length types
many_there count types left next e = by (nat_le count (length types)) refl e
  where
    by : (enough : Bool) → nat_le count (length types) ≡ enough → (if enough then next (reverse (take count types)) (drop count types) else None) ≡ Some left
        → count ≤ length types
    by true is e = leb-true count (length types) is
    by false is e = cc

-- a function that is called
record IsCalledHere (object : Object) (function : ℕ) (types left : List Ty) : Type 0 where
  within : function < length object.functions
  own : Signature
  is : signature_at object function ≡ own
  effect : of_many (length own.params) types (λ given rest. left_if (serve_for given own.params) (own.ret ∷ rest)) ≡ Some left

called_here : (object : Object) (function : ℕ) (types left : List Ty) → left_of_main object (Call function) types ≡ Some left → IsCalledHere object function types left
called_here object function types left e = below (nat_lt function (length object.functions)) refl e
  where
    signed : function < length object.functions → (found : Option Signature) → slice_get object.signatures function ≡ found
        → left_by_call found types ≡ Some left → IsCalledHere object function types left
    signed within None is e = cc
    signed within (Some own) is e = record {
      within = within;
      own = own;
      is = ap (λ (found : Option Signature). elim found [ Some signature ↦ signature | None ↦ no_signature ]) is;
      effect = e;
    }

    below : (test : Bool) → nat_lt function (length object.functions) ≡ test
        → (if test then left_by_call (slice_get object.signatures function) types else None) ≡ Some left → IsCalledHere object function types left
    below true less e = signed (ltb-true function (length object.functions) less) (slice_get object.signatures function) refl e
    below false less e = cc

values_there : (object : Object) (types left : List Ty) (instr : Instr) → left_in_main object instr types ≡ Some left → values_taken object instr ≤ length types
values_there object types left Pop e = one_there types left _ e
values_there object types left (Store slot) e = one_there types left _ e
values_there object types left (Neg ty) e = one_there types left _ e
values_there object types left (Inv ty) e = one_there types left _ e
values_there object types left Not e = one_there types left _ e
values_there object types left Wrap e = one_there types left _ e
values_there object types left (Binary op ty) e = two_there types left _ e
values_there object types left (Zero to) e = one_there types left _ e
values_there object types left (Call function) e =
    let called = called_here object function types left e in
    subst (λ (s : Signature). length s.params ≤ length types) (sym called.is)
    (many_there (length called.own.params) types left (λ given rest. left_if (serve_for given called.own.params) (called.own.ret ∷ rest)) called.effect)
values_there object types left (Push number) e = omega arith
values_there object types left (Load slot) e = omega arith
values_there object types left (Jump to) e = omega arith
values_there object types left instr e =
    many_there (taken_in_main instr) types left (λ given rest. left_if (names_of_main object instr) (given_in_main object instr ++ rest)) e

-- operands are of the operator's type
right_served : (shift fits : Bool) → (shift || fits) ≡ true → shift ≡ false → fits ≡ true
right_served true fits e not_shift = cc
right_served false fits e not_shift = e

one_operand : (ty : Ty) (types left : List Ty) (stack : List ℤ) (a : ℤ) → of_one types (λ given rest. left_if (serves given ty) (ty ∷ rest)) ≡ Some left
    → AreOfTypes types (a ∷ stack) → InRange ty a
one_operand ty [] left stack a e typed = cc
one_operand ty (own ∷ rest) left stack a e typed = served own ty a (left_if_so (serves own ty) (ty ∷ rest) left e).0 typed.0

two_operands : (op : Op) (ty result : Ty) (types left : List Ty) (stack : List ℤ) (a b : ℤ)
    → of_two types (λ one other rest. left_if (serves one ty && (is_shift op || serves other ty)) (result ∷ rest)) ≡ Some left
    → AreOfTypes types (b ∷ a ∷ stack) → InRange ty a × (is_shift op ≡ false → InRange ty b)
two_operands op ty result [] left stack a b e typed = cc
two_operands op ty result (other ∷ []) left stack a b e typed = cc
two_operands op ty result (other ∷ one ∷ rest) left stack a b e typed =
    let test = (left_if_so (serves one ty && (is_shift op || serves other ty)) (result ∷ rest) left e).0 in (
      served one ty a (first_so (serves one ty) (is_shift op || serves other ty) test) typed.1.0,
      λ not_shift. served other ty b (right_served (is_shift op) (serves other ty) (second_so (serves one ty) (is_shift op || serves other ty) test) not_shift) typed.0,
    )

operands_there : (object : Object) (types left : List Ty) (stack : List ℤ) (instr : Instr) → left_in_main object instr types ≡ Some left → AreOfTypes types stack
    → AreOperands instr stack
operands_there object types left [] (Neg ty) e typed = tt
operands_there object types left (a ∷ stack) (Neg ty) e typed = one_operand ty types left stack a e typed
operands_there object types left [] (Inv ty) e typed = tt
operands_there object types left (a ∷ stack) (Inv ty) e typed = one_operand ty types left stack a e typed
operands_there object types left [] (Binary op ty) e typed = tt
operands_there object types left (b ∷ []) (Binary op ty) e typed = tt
operands_there object types left (b ∷ a ∷ stack) (Binary op ty) e typed = two_operands op ty _ types left stack a b e typed
operands_there object types left stack instr e typed = tt

-- arguments suit their function
arguments_there : (object : Object) (function : ℕ) (types left : List Ty) (stack : List ℤ) → left_of_main object (Call function) types ≡ Some left → AreOfTypes types stack
    → SuitParams (signature_at object function).params (map Value (reverse (take (length (signature_at object function).params) stack)))
arguments_there object function types left stack e typed = by (called_here object function types left e)
  where
    suit : (own : Signature) → of_many (length own.params) types (λ given rest. left_if (serve_for given own.params) (own.ret ∷ rest)) ≡ Some left
        → SuitParams own.params (map Value (reverse (take (length own.params) stack)))
    suit own e = pick (nat_le (length own.params) (length types)) e
      where
        pick : (enough : Bool) → (if enough then left_if (serve_for (reverse (take (length own.params) types)) own.params) (own.ret ∷ drop (length own.params) types) else None) ≡ Some left
            → SuitParams own.params (map Value (reverse (take (length own.params) stack)))
        pick true e =
            typed_arguments (reverse (take (length own.params) types)) own.params (reverse (take (length own.params) stack))
            (left_if_so (serve_for (reverse (take (length own.params) types)) own.params) (own.ret ∷ drop (length own.params) types) left e).0
            (typed-reverse (take (length own.params) types) (take (length own.params) stack) (typed-take (length own.params) types stack typed))
        pick false e = cc

    by : IsCalledHere object function types left
        → SuitParams (signature_at object function).params (map Value (reverse (take (length (signature_at object function).params) stack)))
    by called = subst (λ (s : Signature). SuitParams s.params (map Value (reverse (take (length s.params) stack)))) (sym called.is) (suit called.own called.effect)

-- what an instruction names
scalar_there : (object : Object) (slot : ℕ) → is_there (main_scalar object slot) ≡ true → slot < length (main_signature object).slots
scalar_there object slot e = by (main_scalar object slot) refl e
  where
    by : (found : Option Ty) → main_scalar object slot ≡ found → is_there found ≡ true → slot < length (main_signature object).slots
    by None is e = cc
    by (Some ty) is e = slice_get_within (main_signature object).slots slot (Scalar ty) (scalar_so (slice_get (main_signature object).slots slot) ty is)

slot_there : (object : Object) (instr : Instr) (slot : ℕ) → names_in_main object instr ≡ true → slot_named instr ≡ Some slot → slot < length (main_signature object).slots
slot_there object (Load own) slot names e = subst (λ (s : ℕ). s < length (main_signature object).slots) (same_Some own slot e) (scalar_there object own names)
slot_there object (Store own) slot names e = subst (λ (s : ℕ). s < length (main_signature object).slots) (same_Some own slot e) (scalar_there object own names)
slot_there object instr slot names e = cc

declared_some : (object : Object) (container number : ℕ) (test : Declared → Bool) → is_declared object container test ≡ true → Some container ≡ Some number
    → IsSome (slice_get object.containers number)
declared_some object container number test e same =
    subst (λ (n : ℕ). IsSome (slice_get object.containers n)) (same_Some container number same) (some_there (slice_get object.containers container) test e)

made_there : (object : Object) (instr : Instr) (number : ℕ) → names_in_main object instr ≡ true → made_by instr ≡ Some number → IsSome (slice_get object.containers number)
made_there object (Make container kind ty sizes) number names e =
    declared_some object container number (is_so kind ty) (and_parts (is_declared object container (is_so kind ty)) (sizes == kind) names).0 e
made_there object (Take container kind ty input) number names e =
    declared_some object container number (is_so kind ty) (and_parts (is_declared object container (is_so kind ty)) _ names).0 e
made_there object instr number names e = cc

instance_some : (object : Object) (own instance : ℕ) (test : Plan → Bool) → elim (slice_get object.instances own) [ Some plan ↦ test plan | None ↦ false ] ≡ true
    → Some own ≡ Some instance → IsSome (slice_get object.instances instance)
instance_some object own instance test e same =
    subst (λ (n : ℕ). IsSome (slice_get object.instances n)) (same_Some own instance same) (some_there (slice_get object.instances own) test e)

instance_there : (object : Object) (instr : Instr) (instance : ℕ) → names_in_main object instr ≡ true → instance_named instr ≡ Some instance
    → IsSome (slice_get object.instances instance)
instance_there object (Set own word values) instance names e = instance_some object own instance _ names e
instance_there object (Do own containers uniforms) instance names e = instance_some object own instance _ names e
instance_there object (Get own containers uniforms) instance names e = instance_some object own instance _ names e
instance_there object instr instance names e = cc

function_there : (object : Object) (types left : List Ty) (instr : Instr) (function : ℕ) → left_in_main object instr types ≡ Some left → function_named instr ≡ Some function
    → left_of_main object (Call function) types ≡ Some left
function_there object types left (Call own) function e is =
    subst (λ (f : ℕ). left_of_main object (Call f) types ≡ Some left) (same_Some own function is) e
function_there object types left instr function e is = cc

-- a container that is not live is not there
not_there : (found : Option Container) → is_some found ≡ false → found ≡ None
not_there None e = refl
not_there (Some container) e = cc

there_so : (object : Object) (world : World) (number : ℕ) → There object world number → IsThere object world number
there_so object world number t = record {
  container = t.container;
  found = t.found;
  number_is = t.number_is;
  as_declared = subst (λ (found : Option Declared). IsSomeAnd found (λ declared. IsAsDeclared declared t.container)) (sym t.declared_there) t.as_declared;
}

-- the stack is no higher than the code says
depth_there : (object : Object) (sound : IsSound object) (point : MainPoint) → IsFineIn object sound.main point → length point.stack ≤ object.main.depth
depth_there object sound point fine =
    subst (λ (n : ℕ). n ≤ object.main.depth) (typed-length fine.types point.stack fine.stack) (sound.main.types.each point.at fine.types fine.there).bounded

room_there : (object : Object) (sound : IsSound object) (point behind : MainPoint) (instr : Instr) (next : MainNext) → next ≡ Goes behind
    → IsFineNext object sound.main.types.chosen sound.main.lives.chosen instr point next → length behind.stack ≤ object.main.depth
room_there object sound point behind instr next is fine =
    depth_there object sound behind
    (subst (λ (n : MainNext). IsFineNext object sound.main.types.chosen sound.main.lives.chosen instr point n) is fine).point

pub finds : (object : Object) → (sound : IsSound object) → (point : MainPoint) → IsFineIn object sound.main point
    → IsSomeAnd (slice_get object.main.instrs point.at) (λ instr. Finds object instr point)
finds object sound point fine =
    let here = sound.main.types.each point.at fine.types fine.there in
    let alive = sound.main.lives.each point.at fine.live fine.lives_there in
    let same : alive.instr ≡ here.instr = same_Some alive.instr here.instr (sym alive.found ∙ here.found) in
    subst (λ (found : Option Instr). IsSomeAnd found (λ instr. Finds object instr point)) (sym here.found)
    (at_instr here.instr here.left here.effect
    (all_at (names_in_main object) object.main.instrs point.at here.instr sound.main.names here.found)
    (subst (λ (instr : Instr). All (λ container. fine.live container ≡ true) (used_by instr)) same alive.used)
    (subst (λ (instr : Instr). (container : ℕ) → made_by instr ≡ Some container → fine.live container ≡ false) same alive.made)
    (subst (λ (found : Option Instr). IsSomeAnd found (λ instr.
    IsFineNext object sound.main.types.chosen sound.main.lives.chosen instr point (next_in_main object instr point)))
    here.found (steps_are_fine object sound point fine)))
  where
    tall : length fine.types ≡ length point.stack
    tall = typed-length fine.types point.stack fine.stack

    upto : (n a b : ℕ) → n ≤ a → a ≡ b → n ≤ b
    upto n a b h e = omega arith

    less : (n a b : ℕ) → n < a → b ≡ a → n < b
    less n a b h e = omega arith

    at_instr : (instr : Instr) (left : List Ty) → left_in_main object instr fine.types ≡ Some left
        → names_in_main object instr ≡ true → All (λ container. fine.live container ≡ true) (used_by instr)
        → ((container : ℕ) → made_by instr ≡ Some container → fine.live container ≡ false)
        → IsFineNext object sound.main.types.chosen sound.main.lives.chosen instr point (next_in_main object instr point) → Finds object instr point
    at_instr instr left effect names used made next = record {
      values = upto (values_taken object instr) (length fine.types) (length point.stack) (values_there object fine.types left instr effect) tall;
      depth = depth_there object sound point fine;
      room = λ behind is. room_there object sound point behind instr (next_in_main object instr point) is next;
      operands = operands_there object fine.types left point.stack instr effect fine.stack;
      slots = sym (typed-length (map kind_type (main_signature object).slots) point.slots fine.slots)
          ∙ length-map (main_signature object).slots kind_type ∙ sym sound.main.count;
      slot = λ slot e. less slot (length (main_signature object).slots) object.main.slots (slot_there object instr slot names e) sound.main.count;
      used = All-weaker (λ container. fine.live container ≡ true) (IsThere object point.kept)
          (λ number is. there_so object point.kept number (there object fine.live point.kept fine.world number is)) (used_by instr) used;
      made = λ number e. (made_there object instr number names e, not_there (container_in point.kept number) (fine.world.lives number ∙ made number e));
      instance = λ instance e. instance_there object instr instance names e;
      function = λ function e. (called_here object function fine.types left (function_there object fine.types left instr function effect e)).within;
      arguments = λ function e.
          arguments_there object function fine.types left point.stack (function_there object fine.types left instr function effect e) fine.stack;
    }

-- the calls that instructions make
made_call : (object : Object) (sound : IsSound object) (point : MainPoint) (fine : IsFineIn object sound.main point) (instr : Instr)
    → slice_get object.main.instrs point.at ≡ Some instr
    → (names_in_main object instr ≡ true) × All (λ container. fine.live container ≡ true) (used_by instr) × (values_taken object instr ≤ length point.stack)
made_call object sound point fine instr found =
    let here = sound.main.types.each point.at fine.types fine.there in
    let alive = sound.main.lives.each point.at fine.live fine.lives_there in
    let one : here.instr ≡ instr = same_Some here.instr instr (sym here.found ∙ found) in
    let other : alive.instr ≡ instr = same_Some alive.instr instr (sym alive.found ∙ found) in (
      all_at (names_in_main object) object.main.instrs point.at instr sound.main.names found,
      subst (λ (i : Instr). All (λ container. fine.live container ≡ true) (used_by i)) other alive.used,
      subst (λ (i : Instr). values_taken object i ≤ length point.stack) one
          (subst (λ (n : ℕ). values_taken object here.instr ≤ n) (typed-length fine.types point.stack fine.stack)
          (values_there object fine.types here.left here.instr here.effect)),
    )

made_of : (object : Object) (number : ℕ) (result : Option ℕ) (operands : List ℕ) (uniforms : ℕ) (live : ℕ → Bool) (point : MainPoint)
    (test : Plan → Signature → List Kinded → Bool) → test ≡ (λ plan first given. fits (wanted_by_call result plan first given) given)
    → Named object number (given_to_call result operands) uniforms test → All (λ container. live container ≡ true) (given_to_call result operands)
    → uniforms ≤ length point.stack → MakesCall object number result (given_to_call result operands) uniforms live point
made_of object number result operands uniforms live point test same n alive enough = record {
  plan = n.plan;
  operands = operands;
  containers_are = refl;
  called = record {
    there = n.is;
    given = n.given;
    given_are = n.given_are;
    fits = subst (λ (one : Plan → Signature → List Kinded → Bool). one n.plan (first_of object n.plan) n.given ≡ true) same n.fits;
    count = length-reverse (take uniforms point.stack) ∙ length-take-le uniforms point.stack enough ∙ n.count;
    live_are = alive;
  };
}

done_there : (object : Object) (number : ℕ) (containers : List ℕ) (uniforms : ℕ) (live : ℕ → Bool) (point : MainPoint)
    → Named object number containers uniforms fits_statement → All (λ container. live container ≡ true) containers → uniforms ≤ length point.stack
    → (result : ℕ) × MakesCall object number (Some result) containers uniforms live point
done_there object number [] uniforms live point n alive enough =
    absurd (statement_given n.plan (first_of object n.plan)
    (subst (λ (given : List Kinded). fits_statement n.plan (first_of object n.plan) given ≡ true) (sym (same_Some [] n.given n.given_are)) n.fits))
done_there object number (result ∷ operands) uniforms live point n alive enough =
    (result, made_of object number (Some result) operands uniforms live point fits_statement refl n alive enough)

pub calls_are_made : (object : Object) → (sound : IsSound object) → (point : MainPoint) → (fine : IsFineIn object sound.main point)
    → (number : ℕ) (containers : List ℕ) (uniforms : ℕ)
    → (slice_get object.main.instrs point.at ≡ Some (Do number containers uniforms)
    → (result : ℕ) × MakesCall object number (Some result) containers uniforms fine.live point)
    × (slice_get object.main.instrs point.at ≡ Some (Get number containers uniforms) → MakesCall object number None containers uniforms fine.live point)
calls_are_made object sound point fine number containers uniforms = (
  λ found. (let made = made_call object sound point fine (Do number containers uniforms) found in
      done_there object number containers uniforms fine.live point (named_call object number containers uniforms fits_statement made.0) made.1 made.2),
  λ found. (let made = made_call object sound point fine (Get number containers uniforms) found in
      made_of object number None containers uniforms fine.live point fits_value refl (named_call object number containers uniforms fits_value made.0) made.1 made.2),
)

-- the containers of a call
pub calls_are_given : (object : Object) (number : ℕ) (plan : Plan) (result : Option ℕ) (operands : List ℕ) (uniforms : List ℤ) (live : ℕ → Bool) (world : World)
    → (called : IsCalled object number plan result operands uniforms live) → IsFineWorld object live world
    → IsSomeAnd (wanted_by_call result plan (first_of object plan) called.given) (λ wanted.
    AreAsWanted wanted (operands_in world (given_to_call result operands)))
calls_are_given object number plan result operands uniforms live world called fine =
    by (wanted_by_call result plan (first_of object plan) called.given) called.fits
  where
    by : (found : Option (List Wanted)) → fits found called.given ≡ true
        → IsSomeAnd found (λ wanted. AreAsWanted wanted (operands_in world (given_to_call result operands)))
    by None test = cc
    by (Some wanted) test = are_as object live world fine (given_to_call result operands) called.given wanted called.given_are called.live_are test
