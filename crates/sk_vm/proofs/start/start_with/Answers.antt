use Rattle.std.proofs.Common.{rules, ◌≡◌, ◌∙◌, List, [], ◌∷◌, length, ℕ, ℤ, Ok, Result, ap, sym, subst, arith, FitsSigned, w64}
use Rattle.std.proofs.lemmas.Int.{to_z-of_z}
use Rattle.sk_base.specs.Arithmetic.{InRange}
use Rattle.sk_isa.specs.Coded.{function_of}
use Rattle.sk_isa.specs.Objects.{signature_at}
use Rattle.sk_isa_laws.proofs.TypedLists.{suited-length}
use Rattle.sk_meaning.specs.Evaluation.{Argument, Place, Value, turn_limit, value_only}
use Rattle.sk_vm.proofs.Calls.{params_fit, begins-entered}
use Rattle.sk_vm.proofs.Chains.{slots-within}
use Rattle.sk_vm.proofs.Given.{value-in_range}
use Rattle.sk_vm.proofs.Places.{no_containers}
use Rattle.sk_vm.specs.Rooms.{Begins, begun_with}
use Rattle.sk_base.specs.declared.number.Trap.{Trap}
use Rattle.sk_vm.proofs.start.start_with.Goals as goal
use Rattle.sk_vm.proofs.start.start_with.Goals.{After-enter}

pub split_at_mut-own-requires : goal.split_at_mut-own-requires
split_at_mut-own-requires c =
    let own = slots-within c.args.entry.now.object.functions c.args.entry.now.function in
    let count = c.slot_count.ensures.count in
    let room = c.requires.space.slots in
    omega arith

-- nothing is given beside
abbrev nothing : ℕ → Argument
nothing slot = Place []

-- the arguments as they were stored
entered : {slots rest : List ℤ} {a b a_stored b_stored : ℤ} → slots ≡ a_stored ∷ b_stored ∷ rest → a_stored ≡ a → b_stored ≡ b → slots ≡ a ∷ b ∷ rest
entered is same_a same_b = cc

pub enter-requires : goal.enter-requires
enter-requires c =
    let count = suited-length (signature_at c.args.entry.now.object c.args.entry.now.function).params (Value c.args.a ∷ Value c.args.b ∷ []) c.requires.suits in
    let fit = params_fit c.args.entry.now.object c.slot_count.ensures.entered.sound c.args.entry.now.function c.slot_count.ensures.entered.there in
    let slots = c.slot_count.ensures.count in
    let size = c.split_at_mut-own.ensures.front_len in
    omega arith

-- the slots begin with the two arguments
begins : (c : After-enter)
    → Begins c.args.entry.now.object c.args.entry.now.function nothing c.enter.new.slots
    × (begun_with c.args.entry.now.object c.args.entry.now.function nothing c.enter.new.slots ≡ Value c.args.a ∷ Value c.args.b ∷ [])
begins c =
    let count = suited-length (signature_at c.args.entry.now.object c.args.entry.now.function).params (Value c.args.a ∷ Value c.args.b ∷ []) c.requires.suits in
    begins-entered c.args.entry.now.object c.args.entry.now.function nothing (c.args.a ∷ c.args.b ∷ []) c.enter.new.slots (length c.split_at_mut-own.result.0.now)
    (entered c.enter.ensures (to_z-of_z w64 c.args.a c.ranges.a) (to_z-of_z w64 c.args.b c.ranges.b)) (c.split_at_mut-own.ensures.front_len ∙ c.slot_count.ensures.count) c.enter.auto.slots (omega arith) c.requires.suits

-- the function's value is that for the two arguments
gives : (c : After-enter) (value : Result (ℤ × ℕ) Trap)
    → value ≡ function_of c.args.entry.now.object c.args.entry.now.function (begun_with c.args.entry.now.object c.args.entry.now.function nothing c.enter.new.slots) turn_limit
    → value ≡ function_of c.args.entry.now.object c.args.entry.now.function (Value c.args.a ∷ Value c.args.b ∷ []) turn_limit
gives c value is = is ∙ ap (λ (xs : List Argument). function_of c.args.entry.now.object c.args.entry.now.function xs turn_limit) (begins c).1

pub run_code-requires-clause-begins : goal.run_code-requires-clause-begins
run_code-requires-clause-begins c = (begins (goal.at.run_code-requires-clause-begins c).After-enter).0

pub returns-in-Ok-clause-value : goal.returns-in-Ok-clause-value
returns-in-Ok-clause-value c =
    let fits : FitsSigned w64 c.in-Ok.value = search rules in
    ap (λ (x : ℤ). Ok x) (to_z-of_z w64 c.in-Ok.value fits)
    ∙ ap value_only (sym c.in-Ok.is ∙ gives (goal.at.returns-in-Ok-clause-value c).After-enter _ c.run_code.ensures)

pub returns-in-Ok-clause-range : goal.returns-in-Ok-clause-range
returns-in-Ok-clause-range c =
    let fits : FitsSigned w64 c.in-Ok.value = search rules in
    subst (λ (x : ℤ). InRange (signature_at c.args.entry.now.object c.args.entry.now.function).ret x) (sym (to_z-of_z w64 c.in-Ok.value fits))
    (value-in_range c.args.entry.now.object c.slot_count.ensures.entered.sound c.args.entry.now.function c.slot_count.ensures.entered.there (Value c.args.a ∷ Value c.args.b ∷ []) c.requires.suits c.in-Ok.value c.in-Ok.field-0-1
    (sym (gives (goal.at.returns-in-Ok-clause-range c).After-enter _ c.run_code.ensures) ∙ c.in-Ok.is))

pub returns-in-Err-clause-value : goal.returns-in-Err-clause-value
returns-in-Err-clause-value c = ap value_only (sym c.in-Err.is ∙ gives (goal.at.returns-in-Err-clause-value c).After-enter _ c.run_code.ensures)

pub run_code-requires-clause-readable : goal.run_code-requires-clause-readable
run_code-requires-clause-readable c =
    no_containers (signature_at c.args.entry.now.object c.args.entry.now.function).params (c.args.a ∷ c.args.b ∷ []) _ c.requires.suits
