-- The instructions that main has of its own, where they find what they need.
use Rattle.std.proofs.Common.{◌≡◌, ℕ, zero, suc, ◌<◌, ◌≤◌, Bool, true, false, ◌&&◌, ◌||◌, ◌==◌, nat_le, nat_lt, not, if◌then◌else◌, List, [], ◌∷◌, ◌++◌, length, take, map, All, ℤ, Option, Some, None, Ok, Err, slice_get, arith, ap, sym, refl, subst, ◌∙◌, length-take-le}
use Rattle.std.proofs.lemmas.Bool.{and_parts, eqb-true, ltb-true}
use Rattle.std.proofs.lemmas.Option.{same_Some}
use Rattle.std.specs.Fmt.{signed_decimal}
use Rattle.sk_base.specs.Arithmetic.{InRange}
use Rattle.sk_base.specs.Shape.{flat_of}
use Rattle.sk_base.specs.declared.number.Ty.{Ty}
use Rattle.sk_base.specs.declared.number.Ty.TheVariants.{Int}
use Rattle.sk_isa.specs.Configurations.{Stuck, returning, with_many, with_one}
use Rattle.sk_isa.specs.Objects.{invoked, no_signature}
use Rattle.sk_isa.specs.Soundness.{leads_to, left_by_call, left_if, of_many, serve_for}
use Rattle.sk_isa.specs.declared.code.Instr.{Instr}
use Rattle.sk_isa.specs.declared.code.Instr.TheVariants.{Size, Item, Call, Count, Make, Take, Drop, Set, Do, Get, Poke, Print, Text, Endl, Halt}
use Rattle.sk_isa.specs.declared.object.Object.{Object}
use Rattle.sk_isa.specs.declared.object.Plan.{Plan}
use Rattle.sk_isa.specs.declared.object.Signature.{Signature}
use Rattle.sk_isa_laws.proofs.Steps.{left_if_so, pushed}
use Rattle.sk_isa_laws.proofs.TypedLists.{typed_arguments}
use Rattle.sk_kernel.specs.Kernels.{AreOfTypes}
use Rattle.sk_call_shapes.specs.CallShapes.{Container as Kinded, fits, fits_statement, fits_value, may_be_set}
use Rattle.sk_main_code.specs.MainSoundness.{containers_of, given_in_main, is_declared, is_input, is_so, left_in_main, lives_after, main_signature, names_of_main, used_by}
use Rattle.sk_main_code.specs.MainSteps.{MainNext, MainPoint, done_by, going_in, last_of, linked_plan, next_in_main, set_by, setting_of, world_after}
use Rattle.sk_main_laws.proofs.Doings.{after_fine, invoked-of_type, make_fine, poke_fine, read_fine, set_fine, valued-fine}
use Rattle.sk_main_laws.proofs.Names.{Named, declared_there, named_call, names_so, statement_given}
use Rattle.sk_main_laws.proofs.Inputs.{IsTaken, input_there, so_parts}
use Rattle.sk_main_laws.proofs.Settings.{setting_there}
use Rattle.sk_main_laws.proofs.Steps.{IsFineAfter, IsLeftBy, IsLeftNext, as_many, going_in_so, going_so, of_many_so, of_none_so, returning_so}
use Rattle.sk_main_laws.proofs.Worlds.{There, container_at-is, fine_beside, fine_dropping, fine_putting, size_fits, there}
use Rattle.sk_main_laws.specs.Calls.{HasFineCalls, IsFineCall, first_of, given_to_call, wanted_by_call}
use Rattle.sk_main_laws.specs.FinePoints.{Counts}
use Rattle.sk_main_laws.specs.FineWorlds.{IsAsDeclared, IsFineWorld}
use Rattle.sk_main_code.specs.Sound.{IsSound}
use Rattle.sk_meaning.specs.Evaluation.{Value, kind_type}
use Rattle.sk_tree.specs.declared.declared.Declared.{Declared}
use Rattle.sk_world.specs.Calls.{call_of}
use Rattle.sk_world.specs.InstanceSettings.{SettingValue, set_instance}
use Rattle.sk_world.specs.World.{Bound, Container, Input, container_at, count, drop_container, input_in, make, poke, poke_at, print, putting, read, read_at, size_of, take_input, valued}

-- one value that is not asked for its type
one_so : (P : MainNext → Type 0) (types left : List Ty) (stack : List ℤ) (next : ℤ → List ℤ → MainNext) → AreOfTypes types stack
    → of_many 1 types (λ given rest. Some rest) ≡ Some left → ((a : ℤ) (others : List ℤ) → AreOfTypes left others → P (next a others)) → P (with_one stack next)
one_so P [] left stack next h e so = none (nat_le 1 0) refl e
  where
    none : (test : Bool) → nat_le 1 0 ≡ test → (if test then Some [] else None) ≡ Some left → P (with_one stack next)
    none true is e = cc
    none false is e = cc
one_so P (ty ∷ rest) left [] next h e so = absurd h
one_so P (ty ∷ rest) left (a ∷ others) next h e so = one (nat_le 1 (length (ty ∷ rest))) e
  where
    one : (test : Bool) → (if test then Some rest else None) ≡ Some left → P (next a others)
    one true e = so a others (subst (λ (l : List Ty). AreOfTypes l others) (same_Some rest left e) h.1)
    one false e = cc

module _ (object : Object) (sound : IsSound object) (point : MainPoint) (live : ℕ → Bool)
    (slots : AreOfTypes (map kind_type (main_signature object).slots) point.slots) (fine : IsFineWorld object live point.kept)
    (types left : List Ty) (typed : AreOfTypes types point.stack) where
  -- what an instruction leaves wherever it leads
  abbrev Leaves : Instr → Type 0
  Leaves instr = left_in_main object instr types ≡ Some left → All (λ container. live container ≡ true) (used_by instr)
      → IsLeftBy object left (leads_to instr point.at) (lives_after instr live) (Counts instr) point (next_in_main object instr point)

  used_one : (container : ℕ) → All (λ container. live container ≡ true) (container ∷ []) → There object point.kept container
  used_one container used = there object live point.kept fine container (used 0 container (omega arith))

  pub size_so : (container : ℕ) (name : List ℕ) → Leaves (Size container name)
  size_so container name e used =
      let t = used_one container used in
      let parts = left_if_so (names_of_main object (Size container name)) (Int ∷ types) left
      (of_none_so types left (λ given rest. left_if (names_of_main object (Size container name)) (Int ∷ rest)) e) in
      going_so object left live point slots (size_of (container_at point.kept container) name ∷ point.stack) fine
      (pushed Int types left (size_of (container_at point.kept container) name) point.stack
      (subst (λ (c : Container). InRange Int (size_of c name)) (sym (container_at-is object point.kept container t)) (size_fits t.container name t.as_declared.shape))
      typed parts.1)

  pub item_so : (container places : ℕ) → Leaves (Item container places)
  item_so container places e used = of_many_so (IsLeftNext object left live point) places types point.stack
      (λ given rest. left_if (names_of_main object (Item container places)) (given_in_main object (Item container places) ++ rest))
      (λ place rest. returning point rest (read container place point.kept)) left typed e
      (λ given rest place others count fit h is. item_at rest place others h
      (left_if_so (names_of_main object (Item container places)) (given_in_main object (Item container places) ++ rest) left is).1)
    where
      item_at : (rest : List Ty) (place others : List ℤ) → AreOfTypes rest others → given_in_main object (Item container places) ++ rest ≡ left
          → IsLeftNext object left live point (returning point others (read container place point.kept))
      item_at rest place others h is =
          let t = used_one container used in
          let same : t.declared.ty ∷ rest ≡ left =
          ap (λ (found : Option Declared). (elim found [ Some declared ↦ declared.ty ∷ [] | None ↦ [] ]) ++ rest) (sym t.declared_there) ∙ is in
          returning_so object left live point slots t.declared.ty rest others (read container place point.kept) h
          (subst (λ (c : Container). IsFineCall object live point.kept.statements_left t.declared.ty (read_at c (flat_of c.sizes place) point.kept))
          (sym (container_at-is object point.kept container t))
          (read_fine object live point.kept t.declared t.container (flat_of t.container.sizes place) fine t.as_declared)) same

  pub call_so : (function : ℕ) → Leaves (Call function)
  call_so function e used = below (nat_lt function (length object.functions)) refl e
    where
      with : (own : Signature) → function < length object.functions → slice_get object.signatures function ≡ Some own
          → left_by_call (Some own) types ≡ Some left → IsLeftNext object left live point (next_in_main object (Call function) point)
      with own within is e =
          subst (λ (signature : Signature). IsLeftNext object left live point (with_many (length signature.params) point.stack (λ values rest.
          returning point rest (valued (invoked object function (map Value values)) point.kept))))
          (sym (ap (λ (found : Option Signature). elim found [ Some signature ↦ signature | None ↦ no_signature ]) is))
          (of_many_so (IsLeftNext object left live point) (length own.params) types point.stack
          (λ given rest. left_if (serve_for given own.params) (own.ret ∷ rest))
          (λ values rest. returning point rest (valued (invoked object function (map Value values)) point.kept)) left typed e
          (λ given rest values others count fit h is. given_back given rest values others fit h (left_if_so (serve_for given own.params) (own.ret ∷ rest) left is)))
        where
          given_back : (given rest : List Ty) (values others : List ℤ) → AreOfTypes given values → AreOfTypes rest others
              → ((serve_for given own.params ≡ true) × (own.ret ∷ rest ≡ left))
              → IsLeftNext object left live point (returning point others (valued (invoked object function (map Value values)) point.kept))
          given_back given rest values others fit h (serve, same) =
              returning_so object left live point slots own.ret rest others (valued (invoked object function (map Value values)) point.kept) h
              (valued-fine object live own.ret point.kept (invoked object function (map Value values)) fine
              (invoked-of_type object sound.functions function own within is (map Value values) (typed_arguments given own.params values serve fit))) same

      signed : function < length object.functions → (found : Option Signature) → slice_get object.signatures function ≡ found
          → left_by_call found types ≡ Some left → IsLeftNext object left live point (next_in_main object (Call function) point)
      signed within None is e = cc
      signed within (Some own) is e = with own within is e

      below : (test : Bool) → nat_lt function (length object.functions) ≡ test
          → (if test then left_by_call (slice_get object.signatures function) types else None) ≡ Some left
          → IsLeftNext object left live point (next_in_main object (Call function) point)
      below true less e = signed (ltb-true function (length object.functions) less) (slice_get object.signatures function) refl e
      below false less e = cc

  -- where nothing is taken and nothing given
  kept : (test : Bool) → of_many 0 types (λ given rest. left_if test rest) ≡ Some left → (test ≡ true) × AreOfTypes left point.stack
  kept test e =
      let parts = left_if_so test types left (of_none_so types left (λ given rest. left_if test rest) e) in
      (parts.0, subst (λ (l : List Ty). AreOfTypes l point.stack) parts.1 typed)

  pub count_so : (line : ℕ) → Leaves (Count line)
  count_so line e used =
      going_in_so object left live (λ before behind. before ≡ suc behind) point slots point.stack (count line point.kept) (kept true e).1
      (counted point.kept.statements_left refl)
    where
      counted : (statements : ℕ) → point.kept.statements_left ≡ statements
          → IsFineAfter object live (λ fewer. point.kept.statements_left ≡ suc fewer) (elim statements [
            | zero ↦ Err (record { ending = Bound; world = point.kept })
            | suc fewer ↦ Ok (record point.kept { statements_left = fewer; line = line })
          ])
      counted zero is = (live, fine)
      counted (suc fewer) is = (fine_beside object live point.kept point.kept.printed fewer line point.kept.events fine, is)

  pub drop_so : (container : ℕ) → Leaves (Drop container)
  drop_so container e used =
      going_in_so object left (λ other. live other && not (other == container)) as_many point slots point.stack (Ok (drop_container container point.kept))
      (kept (names_of_main object (Drop container)) e).1
      (fine_dropping object live point.kept container fine, refl)

  pub text_so : (text : List ℕ) → Leaves (Text text)
  text_so text e used =
      going_in_so object left live as_many point slots point.stack (Ok (print text point.kept)) (kept true e).1 (fine_beside object live point.kept _ _ _ _ fine, refl)

  pub endl_so : Leaves Endl
  endl_so e used =
      going_in_so object left live as_many point slots point.stack (Ok (print (10 ∷ []) point.kept)) (kept true e).1
      (fine_beside object live point.kept _ _ _ _ fine, refl)

  pub halt_so : Leaves Halt
  halt_so e used = (live, fine)

  pub print_so : Leaves Print
  print_so e used = one_so (IsLeftNext object left live point) types left point.stack
      (λ a rest. going_in point rest (Ok (print (signed_decimal a) point.kept))) typed e
      (λ a others h. going_in_so object left live as_many point slots others (Ok (print (signed_decimal a) point.kept)) h
      (fine_beside object live point.kept _ _ _ _ fine, refl))

  pub make_so : (container kind : ℕ) (ty : Ty) (sizes : ℕ) → Leaves (Make container kind ty sizes)
  make_so container kind ty sizes e used =
      let names = and_parts (is_declared object container (is_so kind ty)) (sizes == kind)
      (names_so (suc sizes) types left [] (names_of_main object (Make container kind ty sizes)) e) in
      let found = declared_there object container (is_so kind ty) names.0 in
      let so = so_parts kind ty found.0 found.2 in
      made found.0 found.1 so.1 (eqb-true sizes kind names.1 ∙ sym so.0)
    where
      after : ℕ → Bool
      after other = live other || (other == container)

      enough : (n : ℕ) → n ≡ suc sizes → sizes ≤ n
      enough n e = omega arith

      made : (declared : Declared) → slice_get object.containers container ≡ Some declared → declared.ty ≡ ty → sizes ≡ declared.kind
          → IsLeftNext object left (λ other. live other || (other == container)) point (next_in_main object (Make container kind ty sizes) point)
      made declared is same long =
          subst (λ (found : Option Declared). IsLeftNext object left (λ other. live other || (other == container)) point (elim found [
            | Some declared ↦ with_many (suc sizes) point.stack (λ values rest.
                going_in point rest (make container declared.name ty (take sizes values) (last_of sizes values) point.kept))
            | None ↦ Stuck
          ])) (sym is)
          (of_many_so (IsLeftNext object left (λ other. live other || (other == container)) point) (suc sizes) types point.stack
          (λ given rest. left_if (names_of_main object (Make container kind ty sizes)) rest)
          (λ values rest. going_in point rest (make container declared.name ty (take sizes values) (last_of sizes values) point.kept)) left typed e
          (λ given rest values others count fit h is_left.
          going_in_so object left (λ other. live other || (other == container)) as_many point slots others
          (make container declared.name ty (take sizes values) (last_of sizes values) point.kept)
          (subst (λ (l : List Ty). AreOfTypes l others) (left_if_so (names_of_main object (Make container kind ty sizes)) rest left is_left).1 h)
          (make_fine object live point.kept container declared ty (take sizes values) (last_of sizes values) fine is (sym same)
          (length-take-le sizes values (enough (length values) count) ∙ long))))

  pub take_so : (container kind : ℕ) (ty : Ty) (input : List ℕ) → Leaves (Take container kind ty input)
  take_so container kind ty input e used =
      let all = kept (names_of_main object (Take container kind ty input)) e in
      let names = and_parts (is_declared object container (is_so kind ty)) (is_input object input kind ty) all.0 in
      let found = declared_there object container (is_so kind ty) names.0 in
      let so = so_parts kind ty found.0 found.2 in
      taken all.1 found.0 found.1 so.0 so.1 (input_there object point.kept sound.distinct fine.inputs input kind ty names.1)
    where
      taken : AreOfTypes left point.stack → (declared : Declared) → slice_get object.containers container ≡ Some declared → declared.kind ≡ kind → declared.ty ≡ ty
          → IsTaken object point.kept input kind ty
          → IsLeftNext object left (λ other. live other || (other == container)) point (next_in_main object (Take container kind ty input) point)
      taken h declared is kind_is ty_is t =
          let given : Input = input_in point.kept input in
          let taken : Container = record { number = container; name = declared.name; ty = ty; sizes = given.sizes; cells = given.cells } in
          let is_as : IsAsDeclared declared taken = record {
            name = refl;
            ty = sym ty_is;
            kind = t.answers.kind ∙ t.kind_is ∙ sym kind_is;
            shape = t.answers.shape;
            count = t.answers.count;
            cells = subst (λ (one : Ty). All (InRange one) given.cells) (t.ty_is ∙ sym ty_is) t.answers.cells;
          } in
          subst (λ (found : Option Declared). IsLeftNext object left (λ other. live other || (other == container)) point (elim found [
            | Some declared ↦ going_in point point.stack (Ok (take_input container declared.name ty input point.kept))
            | None ↦ Stuck
          ])) (sym is)
          (going_in_so object left (λ other. live other || (other == container)) as_many point slots point.stack
          (Ok (take_input container declared.name ty input point.kept)) h (
            fine_beside object (λ other. live other || (other == container)) (putting taken point.kept) _ _ _ _
                (fine_putting object live point.kept taken container declared fine refl is is_as),
            refl,
          ))

  pub set_so : (instance : ℕ) (word : List ℕ) (values : ℕ) → Leaves (Set instance word values)
  set_so instance word values e used =
      instanced (slice_get object.instances instance) refl
      (names_so values types left [] (names_of_main object (Set instance word values)) e)
    where
      one_set : (plan : Plan) → slice_get object.instances instance ≡ Some plan → (given rest_of : List ℤ) → AreOfTypes left rest_of
          → ((setting : SettingValue) × (setting_of word given ≡ Some setting))
          → IsLeftNext object left live point (set_by object instance (setting_of word given) point rest_of)
      one_set plan is given others h (setting, set) =
          subst (λ (found : Option SettingValue). IsLeftNext object left live point (set_by object instance found point others)) (sym set)
          (subst (λ (found : Option Plan). IsLeftNext object left live point (elim found [
            | Some plan ↦ going_in point others (set_instance (linked_plan object instance plan) setting point.kept)
            | None ↦ Stuck
          ])) (sym is)
          (going_in_so object left live as_many point slots others (set_instance (linked_plan object instance plan) setting point.kept) h
          (set_fine object live point.kept instance plan setting fine is)))

      instanced : (found : Option Plan) → slice_get object.instances instance ≡ found
          → elim found [ Some plan ↦ may_be_set plan (first_of object plan) word values | None ↦ false ] ≡ true
          → IsLeftNext object left live point (next_in_main object (Set instance word values) point)
      instanced None is may = cc
      instanced (Some plan) is may = of_many_so (IsLeftNext object left live point) values types point.stack
          (λ given rest. left_if (names_of_main object (Set instance word values)) rest)
          (λ given rest. set_by object instance (setting_of word given) point rest) left typed e
          (λ given rest numbers others count fit h is_left.
          one_set plan is numbers others
          (subst (λ (l : List Ty). AreOfTypes l others) (left_if_so (names_of_main object (Set instance word values)) rest left is_left).1 h)
          (setting_there plan (first_of object plan) word values numbers count may))

  pub poke_so : (container places : ℕ) → Leaves (Poke container places)
  poke_so container places e used = of_many_so (IsLeftNext object left live point) (suc places) types point.stack
      (λ given rest. left_if (names_of_main object (Poke container places)) rest)
      (λ values rest. going_in point rest (poke container (take places values) (last_of places values) point.kept)) left typed e
      (λ given rest values others count fit h is.
      poked (take places values) (last_of places values) others
      (subst (λ (l : List Ty). AreOfTypes l others) (left_if_so (names_of_main object (Poke container places)) rest left is).1 h))
    where
      poked : (place : List ℤ) (value : ℤ) (others : List ℤ) → AreOfTypes left others
          → IsLeftNext object left live point (going_in point others (poke container place value point.kept))
      poked place value others h =
          let t = used_one container used in
          going_in_so object left live as_many point slots others (poke container place value point.kept) h
          (subst (λ (c : Container). IsFineAfter object live (as_many point.kept.statements_left) (poke_at c (flat_of c.sizes place) value point.kept))
          (sym (container_at-is object point.kept container t))
          (poke_fine object live point.kept container t.declared t.container (flat_of t.container.sizes place) value fine
          (used 0 container (omega arith)) t.number_is t.declared_there t.as_declared))

  -- calls of instances, which leave fine worlds
  module _ (calls : HasFineCalls object) where
    called : (number : ℕ) (result : Option ℕ) (operands containers : List ℕ) (uniforms : ℕ) (test : Plan → Signature → List Kinded → Bool)
        → test ≡ (λ plan first given. fits (wanted_by_call result plan first given) given) → containers ≡ given_to_call result operands → (n : Named object number containers uniforms test)
        → All (λ container. live container ≡ true) containers → (given : List ℤ) → length given ≡ uniforms
        → IsFineCall object live point.kept.statements_left (first_of object n.plan).ret (call_of (linked_plan object number n.plan) result operands given point.kept)
    called number result operands containers uniforms test same are n used given count =
        calls number n.plan result operands given live point.kept
        (record {
          there = n.is;
          given = n.given;
          given_are = subst (λ (list : List ℕ). containers_of object list ≡ Some n.given) are n.given_are;
          fits = subst (λ (one : Plan → Signature → List Kinded → Bool). one n.plan (first_of object n.plan) n.given ≡ true) same n.fits;
          count = count ∙ n.count;
          live_are = subst (λ (list : List ℕ). All (λ container. live container ≡ true) list) are used;
        })
        fine

    pub do_so : (number : ℕ) (containers : List ℕ) (uniforms : ℕ) → Leaves (Do number containers uniforms)
    do_so number [] uniforms e used =
        let n = named_call object number [] uniforms fits_statement (names_so uniforms types left [] (names_of_main object (Do number [] uniforms)) e) in
        absurd (statement_given n.plan (first_of object n.plan)
        (subst (λ (given : List Kinded). fits_statement n.plan (first_of object n.plan) given ≡ true) (sym (same_Some [] n.given n.given_are)) n.fits))
    do_so number (result ∷ operands) uniforms e used =
        let n = named_call object number (result ∷ operands) uniforms fits_statement
        (names_so uniforms types left [] (names_of_main object (Do number (result ∷ operands) uniforms)) e) in
        of_many_so (IsLeftNext object left live point) uniforms types point.stack
        (λ given rest. left_if (names_of_main object (Do number (result ∷ operands) uniforms)) rest)
        (λ given rest. done_by (slice_get object.instances number) object number (result ∷ operands) given point rest) left typed e
        (λ given rest values others count fit h is.
        subst (λ (found : Option Plan). IsLeftNext object left live point (done_by found object number (result ∷ operands) values point others)) (sym n.is)
        (going_in_so object left live as_many point slots others
        (world_after (call_of (linked_plan object number n.plan) (Some result) operands values point.kept))
        (subst (λ (l : List Ty). AreOfTypes l others)
        (left_if_so (names_of_main object (Do number (result ∷ operands) uniforms)) rest left is).1 h)
        (after_fine object live point.kept.statements_left (first_of object n.plan).ret
        (call_of (linked_plan object number n.plan) (Some result) operands values point.kept)
        (called number (Some result) operands (result ∷ operands) uniforms fits_statement refl refl n used values count))))

    pub get_so : (number : ℕ) (containers : List ℕ) (uniforms : ℕ) → Leaves (Get number containers uniforms)
    get_so number containers uniforms e used =
        by (named_call object number containers uniforms fits_value
        (names_so uniforms types left (given_in_main object (Get number containers uniforms)) (names_of_main object (Get number containers uniforms)) e))
      where
        by : Named object number containers uniforms fits_value → IsLeftNext object left live point (next_in_main object (Get number containers uniforms) point)
        by n =
            subst (λ (found : Option Plan). IsLeftNext object left live point (elim found [
              | Some plan ↦ with_many uniforms point.stack (λ given rest.
                  returning point rest (call_of (linked_plan object number plan) None containers given point.kept))
              | None ↦ Stuck
            ])) (sym n.is)
            (of_many_so (IsLeftNext object left live point) uniforms types point.stack
            (λ given rest. left_if (names_of_main object (Get number containers uniforms)) (given_in_main object (Get number containers uniforms) ++ rest))
            (λ given rest. returning point rest (call_of (linked_plan object number n.plan) None containers given point.kept)) left typed e
            (λ given rest values others count fit h is.
            returning_so object left live point slots (first_of object n.plan).ret rest others
            (call_of (linked_plan object number n.plan) None containers values point.kept) h
            (called number None containers containers uniforms fits_value refl refl n used values count)
            (same rest (left_if_so (names_of_main object (Get number containers uniforms)) (given_in_main object (Get number containers uniforms) ++ rest) left is).1)))
          where
            same : (rest : List Ty) → given_in_main object (Get number containers uniforms) ++ rest ≡ left → (first_of object n.plan).ret ∷ rest ≡ left
            same rest e =
                ap (λ (found : Option Plan). (elim found [ Some plan ↦ (first_of object plan).ret ∷ [] | None ↦ [] ]) ++ rest) (sym n.is) ∙ e
