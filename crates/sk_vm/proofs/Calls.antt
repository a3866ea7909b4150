-- Calls of functions.
use Rattle.std.proofs.Common.{◌≡◌, ℕ, zero, suc, ◌+◌, ◌-◌, ◌<◌, ◌≤◌, true, false, nat_le, nat_lt, List, [], ◌∷◌, ◌++◌, length, take, drop, map, reverse, replicate, ℤ, pos, Option, Some, None, Ok, slice_get, slice_index_or, slice_set, refl, sym, ap, subst, ◌∙◌, arith}
use Rattle.std.specs.Prelude.{if◌then◌else◌}
use Rattle.std.proofs.lemmas.Bool.{cond-true, le-leb, leb-true, ltb-true}
use Rattle.std.proofs.lemmas.List.{get_or-drop, length-drop, length-take-le, reverse-append}
use Rattle.std.proofs.Math.ListN.{get_or-append}
use Rattle.std.proofs.Math.Seq.{drop-append_seam, get_or-append_seam, take-append_seam, take-suc}
use Rattle.sk_base.specs.declared.number.Ty.{Ty}
use Rattle.sk_meaning.specs.Evaluation.{Argument, Value, number_in}
use Rattle.sk_tree.specs.declared.tree.ParamKind.{ParamKind}
use Rattle.sk_isa.specs.declared.code.Instr.TheVariants.{Call}
use Rattle.sk_isa.specs.declared.object.Object.{Object}
use Rattle.sk_isa.specs.declared.object.Signature.{Signature}
use Rattle.sk_isa.specs.Coded.{Callee, Point, Routine, next_of, callee_of, callees_below, function_of}
use Rattle.sk_isa.specs.Configurations.{Goes, Stuck, returning, with_many}
use Rattle.sk_isa.specs.Objects.{signature_at}
use Rattle.sk_kernel.specs.Kernels.{AreOfTypes}
use Rattle.sk_isa.specs.Soundness.{AreSlots, Named, SuitParams, left_by, left_by_call, left_if, serve_for}
use Rattle.sk_isa.specs.SoundObjects.{HasSoundFunctions}
use Rattle.sk_isa_laws.proofs.Callees.{functions_have_values, function_of-code, there}
use Rattle.sk_isa_laws.proofs.TypedLists.{typed-length, typed-reverse, typed-take, typed_arguments}
use Rattle.sk_vm.specs.declared.stack.Stand.{Stand}
use Rattle.sk_vm.specs.Places.{arguments_with}
use Rattle.sk_vm.specs.Rooms.{Begins, begun_with, given_to, slots_at}
use Rattle.sk_vm.specs.Points.{values_in, point_at}
use Rattle.sk_vm.proofs.Places.{numbers_back, values_alone}
use Rattle.sk_vm.proofs.Starts.{signature_at-is, slots_at-is}

-- a call finds its function and its arguments, and leaves one value in their place
pub record FindsCall (signatures : List Signature) (function callee : ℕ) (left : List Ty) (values : List ℤ) : Type 0 where
  pub before : callee < function
  pub own : Signature
  pub is_own : slice_get signatures callee ≡ Some own
  pub enough : length own.params ≤ length values
  pub suited : SuitParams own.params (map Value (reverse (take (length own.params) values)))
  pub height : length left + length own.params ≡ suc (length values)

pub call_found : (named : Named) (callee : ℕ) (types left : List Ty) (values : List ℤ) → left_by named (Call callee) types ≡ Some left → AreOfTypes types values
    → FindsCall named.signatures named.function callee left values
call_found named callee types left values e typed = by_number (nat_lt callee named.function) refl e
  where
    by_types : (own : Signature) → callee < named.function → slice_get named.signatures callee ≡ Some own → (enough : length own.params ≤ length types) → (serve : _)
        → serve_for (reverse (take (length own.params) types)) own.params ≡ serve → left_if serve (own.ret ∷ drop (length own.params) types) ≡ Some left
        → FindsCall named.signatures named.function callee left values
    by_types own before is enough true serves e =
        let count = typed-length types values typed in
        let same : own.ret ∷ drop (length own.params) types ≡ left = cc in
        let dropped = length-drop (length own.params) types in
        let tall : suc (length (drop (length own.params) types)) ≡ length left = ap length same in
        record {
          before = before;
          own = own;
          is_own = is;
          enough = omega arith;
          suited = typed_arguments (reverse (take (length own.params) types)) own.params (reverse (take (length own.params) values)) serves
              (typed-reverse (take (length own.params) types) (take (length own.params) values) (typed-take (length own.params) types values typed));
          height = omega arith;
        }
    by_types own before is enough false serves e = cc

    by_count : (own : Signature) → callee < named.function → slice_get named.signatures callee ≡ Some own → (enough : _) → nat_le (length own.params) (length types) ≡ enough
        → (if enough then left_if (serve_for (reverse (take (length own.params) types)) own.params) (own.ret ∷ drop (length own.params) types) else None) ≡ Some left
        → FindsCall named.signatures named.function callee left values
    by_count own before is true enough e = by_types own before is (leb-true (length own.params) (length types) enough) _ refl e
    by_count own before is false enough e = cc

    by_signature : (found : Option Signature) → callee < named.function → slice_get named.signatures callee ≡ found → left_by_call found types ≡ Some left
        → FindsCall named.signatures named.function callee left values
    by_signature None before is e = cc
    by_signature (Some own) before is e = by_count own before is _ refl e

    by_number : (before : _) → nat_lt callee named.function ≡ before → (if before then left_by_call (slice_get named.signatures callee) types else None) ≡ Some left
        → FindsCall named.signatures named.function callee left values
    by_number true before e = by_signature (slice_get named.signatures callee) (ltb-true callee named.function before) refl e
    by_number false before e = cc

-- what a call leads to is its function's value
pub calls-next : (object : Object) → HasSoundFunctions object → (function callee : ℕ) → function ≤ length object.functions → callee < function
    → (routine : Routine) → routine.callees ≡ callees_below object.signatures object.functions function → (point : Point)
    → length (signature_at object callee).params ≤ length point.stack
    → next_of routine (Call callee) point
    ≡ returning point (drop (length (signature_at object callee).params) point.stack)
    (function_of object callee (map Value (reverse (take (length (signature_at object callee).params) point.stack))) point.kept)
calls-next object sound function callee upto before routine callees point enough =
    let count : length object.signatures ≡ suc (length object.functions) = sound.signatures in
    let code = there object.functions callee (omega arith) in
    let own = there object.signatures callee (omega arith) in
    let is = signature_at-is object callee own.0 own.1 in
    let found : slice_get routine.callees callee ≡ Some (callee_of (callees_below object.signatures object.functions callee) own.0 code.0) =
    ap (λ (cs : List Callee). slice_get cs callee) callees
    ∙ (functions_have_values object sound).each function callee own.0 code.0 before upto own.1 code.1 in
    let many : length own.0.params ≤ length point.stack = subst (λ (s : Signature). length s.params ≤ length point.stack) is enough in
    ap (λ (o : Option Callee). elim o [
      | Some callee ↦ with_many callee.takes point.stack (λ values rest. returning point rest (callee.call values point.kept))
      | None ↦ Stuck
    ]) found
    ∙ cond-true (nat_le (length own.0.params) (length point.stack)) _ Stuck (le-leb (length own.0.params) (length point.stack) many)
    ∙ ap (returning point (drop (length own.0.params) point.stack))
    (sym (function_of-code object callee code.0 (map Value (reverse (take (length own.0.params) point.stack))) point.kept code.1))
    ∙ ap (λ (s : Signature). returning point (drop (length s.params) point.stack)
    (function_of object callee (map Value (reverse (take (length s.params) point.stack))) point.kept)) (sym is)

-- the arguments of a call, as they lie in the buffer
values_in-more : (stack : List ℤ) (top more : ℕ) → more ≡ suc top → values_in stack more ≡ slice_index_or stack top (pos 0) ∷ values_in stack top
unfolding values_in
values_in-more stack top more is = ap (λ (n : ℕ). values_in stack n) is

pub arguments-in : (count base : ℕ) (stack : List ℤ) → base + count ≤ length stack → take count (drop base stack) ≡ reverse (take count (values_in stack (base + count)))
arguments-in zero base stack within = refl
arguments-in (suc count) base stack within =
    let less : count < length (drop base stack) = omega (arith, length-drop base stack) in
    let top = base + count in
    let here = slice_index_or stack top (pos 0) in
    take-suc (drop base stack) count (pos 0) less
    ∙ ap (λ (xs : List ℤ). xs ++ slice_index_or (drop base stack) count (pos 0) ∷ []) (arguments-in count base stack (omega arith))
    ∙ ap (λ (x : ℤ). reverse (take count (values_in stack top)) ++ x ∷ []) (get_or-drop base stack count (pos 0))
    ∙ sym (reverse-append (here ∷ []) (take count (values_in stack top)))
    ∙ ap (λ (xs : List ℤ). reverse (take (suc count) xs)) (sym (values_in-more stack top (base + suc count) (omega arith)))

-- the values under the arguments
pub values_in-under : (count base : ℕ) (stack : List ℤ) → drop count (values_in stack (base + count)) ≡ values_in stack base
values_in-under zero base stack = ap (λ (n : ℕ). values_in stack n) (omega arith)
values_in-under (suc count) base stack =
    ap (λ (xs : List ℤ). drop (suc count) xs) (values_in-more stack (base + count) (base + suc count) (omega arith)) ∙ values_in-under count base stack

-- values of the first part of a buffer
pub values_in-front : (front back : List ℤ) (top : ℕ) → top ≤ length front → values_in (front ++ back) top ≡ values_in front top
unfolding values_in
values_in-front front back zero within = refl
values_in-front front back (suc top) within =
    ap (λ (x : ℤ). x ∷ values_in (front ++ back) top) (get_or-append front back (pos 0) top (omega arith))
    ∙ ap (λ (xs : List ℤ). slice_index_or front top (pos 0) ∷ xs) (values_in-front front back top (omega arith))

-- the value of a call stands in place of its arguments
pub value_in_place : (count base top : ℕ) (stack front old back : List ℤ) (value : ℤ) → stack ≡ front ++ old → length front ≡ base → base + count ≡ top → 0 < length back
    → values_in (front ++ slice_set back 0 value) (base + 1) ≡ value ∷ drop count (values_in stack top)
value_in_place count base top stack front old back value is size tall some =
    values_in-more (front ++ slice_set back 0 value) base (base + 1) (omega arith)
    ∙ ap (λ (x : ℤ). x ∷ values_in (front ++ slice_set back 0 value) base) (first value back some)
    ∙ ap (λ (xs : List ℤ). value ∷ xs) (values_in-front front (slice_set back 0 value) base (omega arith) ∙ sym (values_in-front front old base (omega arith)) ∙ under)
  where
    first : (value : ℤ) (back : List ℤ) → 0 < length back → slice_index_or (front ++ slice_set back 0 value) base (pos 0) ≡ value
    first value [] h = absurd (omega arith)
    first value (x ∷ back) h =
        ap (λ (n : ℕ). slice_index_or (front ++ value ∷ back) n (pos 0)) (sym size) ∙ get_or-append_seam front value back (pos 0)

    under : values_in (front ++ old) base ≡ drop count (values_in stack top)
    under = ap (λ (xs : List ℤ). values_in xs base) (sym is) ∙ sym (values_in-under count base stack) ∙ ap (λ (n : ℕ). drop count (values_in stack n)) tall

-- the numbers that a call passes, from a function's values
abbrev pub passed : Object → (callee : ℕ) → (stack : List ℤ) → (top : ℕ) → List ℤ
passed object callee stack top = reverse (take (length (signature_at object callee).params) (values_in stack top))

-- where a call leads whose value is known
pub call_returns : (object : Object) (callee : ℕ) (stand : Stand) (stack front old back slots : List ℤ) (takes : ℕ) (value : ℤ) (turns : ℕ)
    → takes ≡ length (signature_at object callee).params → takes ≤ stand.top → stack ≡ front ++ old → length front ≡ stand.top - takes → 0 < length back
    → function_of object callee (map Value (passed object callee stack stand.top)) stand.turns ≡ Ok (value, turns)
    → Goes (point_at (record { at = stand.at + 1; top = stand.top - takes + 1; turns = turns }) (front ++ slice_set back 0 value) slots)
    ≡ returning (point_at stand stack slots) (drop (length (signature_at object callee).params) (values_in stack stand.top))
    (function_of object callee (map Value (passed object callee stack stand.top)) stand.turns)
call_returns object callee stand stack front old back slots takes value turns takes_is enough is size some gives =
    let at : stand.at + 1 ≡ suc stand.at = omega arith in
    let values = value_in_place takes (stand.top - takes) stand.top stack front old back value is size (omega arith) some in
    ap (λ (n : ℕ). Goes (record { at = n; stack = values_in (front ++ slice_set back 0 value) (stand.top - takes + 1); slots = slots; kept = turns })) at
    ∙ ap (λ (xs : List ℤ). Goes (record { at = suc stand.at; stack = xs; slots = slots; kept = turns })) values
    ∙ ap (λ (n : ℕ). returning (point_at stand stack slots) (drop n (values_in stack stand.top)) (Ok (value, turns))) takes_is
    ∙ ap (returning (point_at stand stack slots) (drop (length (signature_at object callee).params) (values_in stack stand.top))) (sym gives)

-- a function's parameters are among its slots
slots_enough : (params slots : List ParamKind) → AreSlots params slots → length params ≤ length slots
slots_enough [] slots are = omega arith
slots_enough (param ∷ params) [] are = absurd are
slots_enough (param ∷ params) (slot ∷ slots) are = let h = slots_enough params slots are.1 in omega arith

pub params_fit : (object : Object) → HasSoundFunctions object → (function : ℕ) → function < length object.functions
    → length (signature_at object function).params ≤ slots_at object.functions function
params_fit object sound function within =
    let count : length object.signatures ≡ suc (length object.functions) = sound.signatures in
    let code = there object.functions function within in
    let own = there object.signatures function (omega arith) in
    let is_sound = sound.functions function code.0 own.0 code.1 own.1 in
    let params : length (signature_at object function).params ≡ length own.0.params = ap (λ (s : Signature). length s.params) (signature_at-is object function own.0 own.1) in
    let slots = slots_at-is object.functions function code.0 code.1 in
    let enough = slots_enough own.0.params own.0.slots is_sound.slots in
    let size = is_sound.count in
    omega arith

-- slots into which arguments were put that are numbers
pub begins-entered : (object : Object) (function : ℕ) (other : ℕ → Argument) (given slots : List ℤ) (size : ℕ) → slots ≡ given ++ replicate (size - length given) (pos 0)
    → size ≡ slots_at object.functions function → length slots ≡ size → length given ≡ length (signature_at object function).params
    → SuitParams (signature_at object function).params (map Value given)
    → Begins object function other slots × (begun_with object function other slots ≡ map Value given)
begins-entered object function other given slots size is size_is count params suited =
    let front : given_to object function slots ≡ given =
    ap (λ (xs : List ℤ). take (length (signature_at object function).params) xs) is
    ∙ ap (λ (n : ℕ). take n (given ++ replicate (size - length given) (pos 0))) (sym params)
    ∙ take-append_seam given (replicate (size - length given) (pos 0)) in
    let arguments : begun_with object function other slots ≡ map Value given =
    ap (λ (xs : List ℤ). arguments_with (signature_at object function).params other xs) front
    ∙ values_alone (signature_at object function).params other given suited in (
      record {
        count = count ∙ size_is;
        suited = subst (λ (xs : List Argument). SuitParams (signature_at object function).params xs) (sym arguments) suited;
        numbers = ap (λ (xs : List Argument). map number_in xs) arguments ∙ numbers_back given ∙ sym front;
        others = ap (λ (xs : List ℤ). drop (length (signature_at object function).params) xs) is
            ∙ ap (λ (n : ℕ). drop n (given ++ replicate (size - length given) (pos 0))) (sym params)
            ∙ drop-append_seam given (replicate (size - length given) (pos 0))
            ∙ ap (λ (n : ℕ). replicate (n - length given) (pos 0)) (sym count)
            ∙ ap (λ (n : ℕ). replicate (length slots - n) (pos 0)) params;
      },
      arguments,
    )

-- slots into which the arguments of a call were put
pub call_begins : (object : Object) → HasSoundFunctions object → (callee : ℕ) → callee < length object.functions → (other : ℕ → Argument) (stack free slots : List ℤ) (top takes size : ℕ)
    → takes ≡ length (signature_at object callee).params → takes ≤ top → top ≤ length stack → free ≡ drop (top - takes) stack
    → size ≡ slots_at object.functions callee → length slots ≡ size
    → slots ≡ take takes free ++ replicate (size - length (take takes free)) (pos 0)
    → SuitParams (signature_at object callee).params (map Value (passed object callee stack top))
    → Begins object callee other slots × (begun_with object callee other slots ≡ map Value (passed object callee stack top))
call_begins object sound callee within other stack free slots top takes size takes_is enough inside free_is size_is count is suited =
    let given : take takes free ≡ passed object callee stack top =
    ap (λ (xs : List ℤ). take takes xs) free_is
    ∙ arguments-in takes (top - takes) stack (omega arith)
    ∙ ap (λ (n : ℕ). reverse (take takes (values_in stack n))) (omega arith)
    ∙ ap (λ (n : ℕ). reverse (take n (values_in stack top))) takes_is in
    let there : top - takes + takes ≤ length stack = omega arith in
    let many : length (take takes free) ≡ takes = length-take-le takes free (omega (arith, ap length free_is, length-drop (top - takes) stack)) in
    let begins = begins-entered object callee other (take takes free) slots size is size_is count (many ∙ takes_is)
    (subst (λ (xs : List ℤ). SuitParams (signature_at object callee).params (map Value xs)) (sym given) suited) in
    (begins.0, begins.1 ∙ ap (λ (xs : List ℤ). map Value xs) given)
