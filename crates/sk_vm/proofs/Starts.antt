-- The start of a function's run.
use Rattle.std.proofs.Common.{◌≡◌, ℕ, suc, ◌-◌, ◌<◌, List, [], ◌++◌, length, map, replicate, ℤ, pos, Option, Some, None, slice_get, refl, sym, ap, subst, ◌∙◌, arith}
use Rattle.std.proofs.lemmas.List.{take-append-drop}
use Rattle.sk_meaning.specs.Evaluation.{Argument, number_in}
use Rattle.sk_isa.specs.declared.code.Code.{Code}
use Rattle.sk_isa.specs.declared.code.Instr.{Instr}
use Rattle.sk_isa.specs.declared.object.Object.{Object}
use Rattle.sk_isa.specs.declared.object.Signature.{Signature}
use Rattle.sk_isa.specs.Coded.{Point, outcome_of, start_of}
use Rattle.sk_isa.specs.Objects.{no_signature, signature_at}
use Rattle.sk_isa.specs.SoundObjects.{HasSoundFunctions}
use Rattle.sk_isa.specs.Soundness.{SuitParams}
use Rattle.sk_isa_laws.specs.Steps.{IsFinePoint}
use Rattle.sk_isa_laws.proofs.Callees.{are_ready, functions_have_values, there}
use Rattle.sk_isa_laws.proofs.Runs.{start_is_fine, steps_are_fine}
use Rattle.sk_isa_laws.proofs.TypedLists.{suited-length}
use Rattle.sk_vm.specs.Points.{values_in, point_at}
use Rattle.sk_vm.specs.Rooms.{Begins, begun_with, given_to, instrs_at, slots_at}
use Rattle.sk_vm.proofs.Running.{Running, routine_at}

pub signature_at-is : (object : Object) (function : ℕ) (own : Signature) → slice_get object.signatures function ≡ Some own → signature_at object function ≡ own
signature_at-is object function own is = ap (λ (o : Option Signature). elim o [ Some signature ↦ signature | None ↦ no_signature ]) is

pub instrs_at-is : (codes : List Code) (function : ℕ) (code : Code) → slice_get codes function ≡ Some code → instrs_at codes function ≡ code.instrs
instrs_at-is codes function code is = ap (λ (o : Option Code). elim o [ Some code ↦ code.instrs | None ↦ [] ]) is

pub slots_at-is : (codes : List Code) (function : ℕ) (code : Code) → slice_get codes function ≡ Some code → slots_at codes function ≡ code.slots
slots_at-is codes function code is = ap (λ (o : Option Code). elim o [ Some code ↦ code.slots | None ↦ 0 ]) is

-- slots that begin as they should are those at the start of the code
slots-start : (object : Object) (function : ℕ) (code : Code) (other : ℕ → Argument) (slots : List ℤ) → slice_get object.functions function ≡ Some code → Begins object function other slots
    → slots ≡ map number_in (begun_with object function other slots) ++ replicate (code.slots - length (begun_with object function other slots)) (pos 0)
slots-start object function code other slots code_at begins =
    let params = (signature_at object function).params in
    let given = given_to object function slots in
    let count : length params ≡ length (begun_with object function other slots) = suited-length params (begun_with object function other slots) begins.suited in
    let size : length slots ≡ code.slots = begins.count ∙ slots_at-is object.functions function code code_at in
    sym (take-append-drop (length params) slots)
    ∙ ap (λ (xs : List ℤ). given ++ xs) begins.others
    ∙ ap (λ (n : ℕ). given ++ replicate (n - length params) (pos 0)) size
    ∙ ap (λ (n : ℕ). given ++ replicate (code.slots - n) (pos 0)) count
    ∙ ap (λ (xs : List ℤ). xs ++ replicate (code.slots - length (begun_with object function other slots)) (pos 0)) (sym begins.numbers)

none : (stack : List ℤ) → values_in stack 0 ≡ []
unfolding values_in
none stack = refl

point-start : (object : Object) (function : ℕ) (code : Code) (other : ℕ → Argument) (stack slots : List ℤ) (turns : ℕ) → slice_get object.functions function ≡ Some code → Begins object function other slots
    → start_of code (begun_with object function other slots) turns ≡ point_at (record { at = 0; top = 0; turns = turns }) stack slots
point-start object function code other stack slots turns code_at begins =
    let stacks = none stack in
    let kept = slots-start object function code other slots code_at begins in
    cc

pub starts : (object : Object) → HasSoundFunctions object → (function : ℕ) → function < length object.functions → (other : ℕ → Argument) (slots : List ℤ) → Begins object function other slots
    → (turns : ℕ) (stack : List ℤ) (instrs : List Instr) → instrs ≡ instrs_at object.functions function
    → Running object function other slots turns instrs (record { at = 0; top = 0; turns = turns }) stack slots
starts object sound function within other slots begins turns stack instrs is =
    let code = there object.functions function within in
    let count : length object.signatures ≡ suc (length object.functions) = sound.signatures in
    let own = there object.signatures function (omega arith) in
    let suits : SuitParams own.0.params (begun_with object function other slots) =
    subst (λ (s : Signature). SuitParams s.params (begun_with object function other slots)) (signature_at-is object function own.0 own.1) begins.suited in
    let ready = are_ready object sound function own.0 code.0 (begun_with object function other slots) own.1 code.1 suits in
    let start = point-start object function code.0 other stack slots turns code.1 begins in
    record {
      code = code.0;
      own = own.0;
      code_at = code.1;
      own_at = own.1;
      instrs_are = is ∙ instrs_at-is object.functions function code.0 code.1;
      sound = ready.sound;
      suits = suits;
      fine = steps_are_fine object.signatures function own.0 code.0 _ (begun_with object function other slots) ready;
      point = subst (λ (p : Point). IsFinePoint own.0 ready.sound.types.chosen p) start
          (start_is_fine object.signatures function own.0 code.0 (begun_with object function other slots) turns ready.sound suits);
      comes_to = λ steps result ended.
          ((functions_have_values object sound).values function own.0 code.0 (begun_with object function other slots) turns own.1 code.1 suits).alone steps result
          (ap (λ (p : Point). outcome_of (routine_at object function code.0 other slots) steps p) start ∙ ended);
    }
