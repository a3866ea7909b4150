-- What an instruction of main finds at a fine point of an object of vectors, where the stack and the slots lie in buffers.
use Rattle.std.proofs.Common.{◌≡◌, ℕ, suc, ◌+◌, ◌-◌, ◌<◌, ◌≤◌, Bool, true, false, ◌&&◌, ◌||◌, ◌==◌, nat_le, nat_lt, if◌then◌else◌, List, [], ◌∷◌, length, reverse, take, drop, All, ℤ, pos, Option, Some, None, IsSome, IsSomeAnd, slice_get, slice_index_or, refl, sym, ap, subst, ◌∙◌, arith}
use Rattle.std.specs.Prelude.{option_map}
use Rattle.std.specs.List.{list_any}
use Rattle.std.proofs.lemmas.Bool.{and_parts, eqb-true}
use Rattle.std.proofs.lemmas.List.{length-drop}
use Rattle.std.proofs.lemmas.Option.{get_or_from_slice_get, same_Some, slice_get-get_or, slice_get_within}
use Rattle.std.specs.Cmp.Lexicographic.{as_long, pointwise}
use Rattle.sk_base.specs.declared.number.Ty.{Ty}
use Rattle.sk_host.proofs.Given.{some-within}
use Rattle.sk_host.proofs.Reached.{reached}
use Rattle.sk_host.specs.Needs.{MayTurn}
use Rattle.sk_host.specs.Points.{point_at}
use Rattle.sk_host.specs.Stores.{Kept, Mirrors, kept_at, kept_of}
use Rattle.sk_host.specs.declared.machine.Stand.{Stand}
use Rattle.sk_isa.specs.Configurations.{Stuck, going}
use Rattle.sk_isa.specs.Objects.{no_signature, signature_at}
use Rattle.sk_isa.specs.Soundness.{leads_to, left_by_call, left_if, of_many, serve_for, serves}
use Rattle.sk_isa.specs.declared.code.Instr.{Instr}
use Rattle.sk_isa.specs.declared.code.Instr.TheVariants as instr
use Rattle.sk_isa.specs.declared.object.Object.{Object}
use Rattle.sk_isa.specs.declared.object.Plan.{Plan}
use Rattle.sk_isa.specs.declared.object.Signature.{Signature}
use Rattle.sk_isa_laws.proofs.Steps.{left_if_so}
use Rattle.sk_isa_laws.proofs.TypedLists.{typed-length}
use Rattle.sk_call_shapes.specs.CallShapes.{Container as Kinded, fits_value, may_be_set}
use Rattle.sk_main_code.specs.MainSoundness.{is_declared, is_so, left_in_main, left_of_main, names_in_main, used_by}
use Rattle.sk_main_code.specs.MainSteps.{MainPoint}
use Rattle.sk_main_code.specs.Sound.{IsSound}
use Rattle.sk_main_code.specs.Vectors.{IsVectorObject}
use Rattle.sk_main_laws.proofs.Finds.{finds}
use Rattle.sk_main_laws.proofs.Names.{all_at, declared_there, named_call}
use Rattle.sk_main_laws.specs.Calls.{first_of}
use Rattle.sk_main_laws.specs.Finds.{AreOperands, Finds, IsThere}
use Rattle.sk_main_laws.specs.Laws.{IsFineIn}
use Rattle.sk_tree.specs.declared.declared.Declared.{Declared}
use Rattle.sk_tree.specs.declared.tree.Skeleton.{Skeleton}
use Rattle.sk_tree.specs.declared.tree.Skeleton.TheVariants.{Map}
use Rattle.sk_vm.proofs.Values.{length-values_in, values_in-last}
use Rattle.sk_vm.specs.Points.{values_in}
use Rattle.sk_world.specs.World.{World, container_at, size_of}

-- no settings and no calls that are values, where all instances are Maps
none-and : (a b : Bool) → (a && false && b) ≡ false
none-and true b = refl
none-and false b = refl

none-of : (a b c d e f : Bool) → a ≡ false → b ≡ false → c ≡ false → d ≡ false → e ≡ false → f ≡ false → (a || b || c || d || e || f) ≡ true → ⊥
none-of a b c d e f p q r s t u is = cc

unset : (a b c d e f g h i j k l : Bool)
    → ((a && false && g) || (b && false && h) || (c && false && i) || (d && false && j) || (e && false && k) || (f && false && l)) ≡ true → ⊥
unset a b c d e f g h i j k l is = none-of _ _ _ _ _ _ (none-and a g) (none-and b h) (none-and c i) (none-and d j) (none-and e k) (none-and f l) is

never-set : (plan : Plan) (first : Signature) (word : List ℕ) (values : ℕ) → plan.skeleton ≡ Map → may_be_set plan first word values ≡ true → ⊥
never-set plan first word values is may =
    unset _ _ _ _ _ _ _ _ _ _ _ _
    (subst (λ (kind : Skeleton). may_be_set (record plan { skeleton = kind }) first word values ≡ true) is may)

never-value : (plan : Plan) (first : Signature) (given : List Kinded) → plan.skeleton ≡ Map → fits_value plan first given ≡ true → ⊥
never-value plan first given is may =
    not_so (subst (λ (kind : Skeleton). fits_value (record plan { skeleton = kind }) first given ≡ true) is may)
  where
    not_so : (false ≡ true) → ⊥
    not_so e = cc

-- how high the stack is behind a call
low-left : (at : ℕ) (chosen : ℕ → Option (List Ty)) (depth : ℕ) (left : List Ty) → ((types : List Ty) → chosen at ≡ Some types → length types ≤ depth)
    → IsSomeAnd (chosen at) (λ after. pointwise serves left after ≡ true) → length left ≤ depth
low-left at chosen depth left low leads = by (chosen at) refl leads
  where
    by : (found : Option (List Ty)) → chosen at ≡ found → IsSomeAnd found (λ after. pointwise serves left after ≡ true) → length left ≤ depth
    by None is so = absurd so
    by (Some after) is so = let tall = low after is in let same = as_long serves left after so in omega arith

left-tall : (count : ℕ) (types left : List Ty) (ret : Ty) (test : List Ty → Bool) → of_many count types (λ given rest. left_if (test given) (ret ∷ rest)) ≡ Some left
    → count ≤ length types → suc (length types) ≡ length left + count
left-tall count types left ret test e enough = pick (nat_le count (length types)) e
  where
    pick : (fits : Bool) → (if fits then left_if (test (reverse (take count types))) (ret ∷ drop count types) else None) ≡ Some left
        → suc (length types) ≡ length left + count
    pick false e = cc
    pick true e =
        let same : ret ∷ drop count types ≡ left = (left_if_so (test (reverse (take count types))) (ret ∷ drop count types) left e).1 in
        let tall : suc (length (drop count types)) ≡ length left = ap length same in
        let dropped = length-drop count types in
        omega arith

call-tall : (object : Object) (function : ℕ) (types left : List Ty) → left_of_main object (instr.Call function) types ≡ Some left
    → length (signature_at object function).params ≤ length types → suc (length types) ≡ length left + length (signature_at object function).params
call-tall object function types left e enough = below (nat_lt function (length object.functions)) e
  where
    signed : (found : Option Signature) → slice_get object.signatures function ≡ found → left_by_call found types ≡ Some left
        → suc (length types) ≡ length left + length (signature_at object function).params
    signed None is e = cc
    signed (Some own) is e =
        let same : signature_at object function ≡ own = ap (λ (found : Option Signature). elim found [ Some signature ↦ signature | None ↦ no_signature ]) is in
        subst (λ (s : Signature). suc (length types) ≡ length left + length s.params) (sym same)
        (left-tall (length own.params) types left own.ret (λ given. serve_for given own.params) e
        (subst (λ (s : Signature). length s.params ≤ length types) same enough))

    below : (test : Bool) → (if test then left_by_call (slice_get object.signatures function) types else None) ≡ Some left
        → suc (length types) ≡ length left + length (signature_at object function).params
    below true e = signed (slice_get object.signatures function) refl e
    below false e = cc

call-room : (object : Object) (sound : IsSound object) (point : MainPoint) (fine : IsFineIn object sound.main point) (function : ℕ)
    → slice_get object.main.instrs point.at ≡ Some (instr.Call function) → length (signature_at object function).params ≤ length point.stack
    → length point.stack < object.main.depth + length (signature_at object function).params
call-room object sound point fine function found enough =
    let here = sound.main.types.each point.at fine.types fine.there in
    let is : here.instr ≡ instr.Call function = same_Some here.instr (instr.Call function) (sym here.found ∙ found) in
    let same = typed-length fine.types point.stack fine.stack in
    let effect : left_of_main object (instr.Call function) fine.types ≡ Some here.left =
    subst (λ (i : Instr). left_in_main object i fine.types ≡ Some here.left) is here.effect in
    let tall = call-tall object function fine.types here.left effect (omega arith) in
    let low = low-left (suc point.at) sound.main.types.chosen object.main.depth here.left
    (λ types there. (sound.main.types.each (suc point.at) types there).bounded)
    ((subst (λ (i : Instr). All (λ to. IsSomeAnd (sound.main.types.chosen to) (λ after. pointwise serves here.left after ≡ true)) (leads_to i point.at)) is here.leads) 0 0 (omega arith)) in
    omega arith

-- what is found in an option
there-within : {A : Type 0} (xs : List A) (k : ℕ) → IsSome (slice_get xs k) → k < length xs
there-within {A = A} xs k some = by (slice_get xs k) refl some
  where
    by : (found : Option A) → slice_get xs k ≡ found → IsSome found → k < length xs
    by None is some = cc
    by (Some x) is some = slice_get_within xs k x is

-- one that is used is kept
used-kept : (object : Object) (world : World) (store : List (Option Kept)) (number : ℕ) → Mirrors store world → IsThere object world number → IsSome (kept_at store number)
used-kept object world store number mirrors there =
    subst (λ (found : Option Kept). IsSome found) (sym (mirrors number ∙ ap (option_map kept_of) there.found)) refl

-- a container has one size
one-place : (object : Object) (container places : ℕ) → IsVectorObject object → is_declared object container (λ declared. declared.kind == places) ≡ true → places ≡ 1
one-place object container places vectors names =
    let found = declared_there object container (λ declared. declared.kind == places) names in
    sym (eqb-true found.0.kind places found.2)
    ∙ subst (λ (declared : Declared). declared.kind ≡ 1) (get_or_from_slice_get object.containers container found.0 found.0 found.1)
    (vectors.containers container found.0 (slice_get_within object.containers container found.0 found.1))

-- operands in a buffer
operands-in : (instr : Instr) (stack : List ℤ) (top : ℕ) → 1 < top → AreOperands instr (values_in stack top)
    → AreOperands instr (slice_index_or stack (top - 1) (pos 0) ∷ slice_index_or stack (top - 2) (pos 0) ∷ values_in stack (top - 2))
operands-in instr stack top two are =
    let less : top - 1 - 1 ≡ top - 2 = omega arith in
    let under : values_in stack (top - 1) ≡ slice_index_or stack (top - 2) (pos 0) ∷ values_in stack (top - 2) =
    values_in-last stack (top - 1) (omega arith) ∙ ap (λ (n : ℕ). slice_index_or stack n (pos 0) ∷ values_in stack n) less in
    subst (AreOperands instr) (values_in-last stack top (omega arith) ∙ ap (λ (xs : List ℤ). slice_index_or stack (top - 1) (pos 0) ∷ xs) under) are

-- an instance is a Map
all-maps : (object : Object) → IsVectorObject object → (instance : ℕ) (plan : Plan) → slice_get object.instances instance ≡ Some plan → plan.skeleton ≡ Map
all-maps object vectors instance plan is =
    subst (λ (one : Plan). one.skeleton ≡ Map) (get_or_from_slice_get object.instances instance plan plan is)
    (vectors.instances instance plan (slice_get_within object.instances instance plan is))

-- an instruction at a fine point
module _ (object : Object) (sound : IsSound object) (vectors : IsVectorObject object) (stand : Stand) (stack slots : List ℤ) (store : List (Option Kept)) (world : World)
    (fine : IsFineIn object sound.main (point_at stand stack slots world)) (mirrors : Mirrors store world)
    (depth : length stack ≡ object.main.depth) (count : length store ≡ length object.containers) where
  abbrev point : MainPoint
  point = point_at stand stack slots world

  abbrev tall : length (values_in stack stand.top) ≡ stand.top
  tall = length-values_in stack stand.top

  room : (value : ℤ) → length (value ∷ values_in stack stand.top) ≤ object.main.depth → stand.top < length stack
  room value low = let same = tall in omega arith

  used : (one : Instr) (number : ℕ) → Finds object one point → used_by one ≡ number ∷ [] → IsThere object world number
  used one number f is = (subst (λ (numbers : List ℕ). All (IsThere object world) numbers) is f.used) 0 number (omega arith)

  may : (one : Instr) → slice_get object.main.instrs stand.at ≡ Some one → names_in_main object one ≡ true → Finds object one point
      → MayTurn object one stand.top stack slots store
  may (instr.Push x) found names f = room x (f.room (record point { at = suc stand.at; stack = x ∷ values_in stack stand.top }) refl)
  may instr.Pop found names f = let values = f.values in let same = tall in omega arith
  may (instr.Load slot) found names f =
      let within = f.slot slot refl in
      let many = f.slots in
      let there : slot < length slots = omega arith in
      let value = slice_index_or slots slot (pos 0) in (
        there,
        room value (f.room (record point { at = suc stand.at; stack = value ∷ values_in stack stand.top })
            (ap (λ (o : Option ℤ). elim o [ Some value ↦ going point (value ∷ values_in stack stand.top) | None ↦ Stuck ]) (slice_get-get_or slots slot (pos 0) there))),
      )
  may (instr.Store slot) found names f =
      let within = f.slot slot refl in
      let many = f.slots in
      let values = f.values in
      let same = tall in
      (omega arith, omega arith)
  may (instr.Neg ty) found names f = let values = f.values in let same = tall in omega arith
  may (instr.Inv ty) found names f = let values = f.values in let same = tall in omega arith
  may instr.Not found names f = let values = f.values in let same = tall in omega arith
  may instr.Wrap found names f = let values = f.values in let same = tall in omega arith
  may (instr.Binary op ty) found names f =
      let values = f.values in
      let same = tall in
      let two : 1 < stand.top = omega arith in
      let are = operands-in (instr.Binary op ty) stack stand.top two f.operands in
      (two, are.0, are.1)
  may (instr.Jump to) found names f = tt
  may (instr.Zero to) found names f = let values = f.values in let same = tall in omega arith
  may (instr.Size container name) found names f =
      let there = used (instr.Size container name) container f refl in
      let value = size_of (container_at world container) name in
      (room value (f.room (record point { at = suc stand.at; stack = value ∷ values_in stack stand.top }) refl), used-kept object world store container mirrors there)
  may (instr.Item container places) found names f =
      let there = used (instr.Item container places) container f refl in
      let one = one-place object container places vectors names in
      let values = f.values in
      let low = f.depth in
      let same = tall in
      (omega arith, omega arith, used-kept object world store container mirrors there)
  may (instr.Call function) found names f =
      let low = call-room object sound point fine function found f.values in
      let values = f.values in
      let same = tall in
      record { there = f.function function refl; takes = omega arith; room = omega arith; suited = f.arguments function refl }
  may (instr.Count line) found names f = tt
  may (instr.Make container kind ty sizes) found names f =
      let made = (f.made container refl).0 in
      let within = there-within object.containers container made in
      let values = f.values in
      let same = tall in
      (omega arith, omega arith, made)
  may (instr.Drop container) found names f =
      some-within store container (used-kept object world store container mirrors (used (instr.Drop container) container f refl))
  may (instr.Do instance containers uniforms) found names f =
      let values = f.values in
      let same = tall in
      record {
        there = there-within object.instances instance (f.instance instance refl);
        takes = omega arith;
        call = reached object sound vectors point fine instance containers uniforms found values store mirrors;
      }
  may (instr.Poke container places) found names f =
      let values = f.values in
      let same = tall in
      (omega arith, used-kept object world store container mirrors (used (instr.Poke container places) container f refl))
  may instr.Print found names f = let values = f.values in let same = tall in omega arith
  may (instr.Text text) found names f = tt
  may instr.Endl found names f = tt
  may instr.Halt found names f = tt
  may (instr.Take container kind ty input) found names f =
      absurd (not_so (ap (list_any _) (sym vectors.inputs) ∙ (and_parts (is_declared object container (is_so kind ty)) _ names).1))
    where
      not_so : (false ≡ true) → ⊥
      not_so e = cc
  may (instr.Set instance word values) found names f = absurd (by (slice_get object.instances instance) refl names)
    where
      by : (found : Option Plan) → slice_get object.instances instance ≡ found
          → elim found [ Some plan ↦ may_be_set plan (first_of object plan) word values | None ↦ false ] ≡ true → ⊥
      by None is e = cc
      by (Some plan) is e = never-set plan (first_of object plan) word values (all-maps object vectors instance plan is) e
  may (instr.Get instance containers uniforms) found names f =
      let call = named_call object instance containers uniforms fits_value names in
      absurd (never-value call.plan (first_of object call.plan) call.given (all-maps object vectors instance call.plan call.is) call.fits)
  may (instr.Field slot name) found names f = absurd (cc)
  may (instr.Region slot places) found names f = absurd (cc)
  may instr.Turn found names f = absurd (cc)
  may instr.Ret found names f = absurd (cc)

  pub may_turn : (one : Instr) → slice_get object.main.instrs stand.at ≡ Some one → MayTurn object one stand.top stack slots store
  may_turn one found =
      may one found (all_at (names_in_main object) object.main.instrs stand.at one sound.main.names found)
      (subst (λ (o : Option Instr). IsSomeAnd o (λ instr. Finds object instr point)) found (finds object sound point fine))

  pub inside : stand.top ≤ length stack
  inside =
      let low = typed-length fine.types (values_in stack stand.top) fine.stack in
      let bounded = (sound.main.types.each stand.at fine.types fine.there).bounded in
      let same = tall in
      omega arith

  pub within : stand.at < length object.main.instrs
  within =
      let here = sound.main.types.each stand.at fine.types fine.there in
      slice_get_within object.main.instrs stand.at here.instr here.found
