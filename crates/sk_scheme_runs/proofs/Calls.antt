-- What the code of arguments and of a call gives.
use Rattle.std.proofs.Common.{◌≡◌, ℕ, suc, ◌+◌, ◌≤◌, List, [], ◌∷◌, ◌++◌, length, map, reverse, take, drop, ℤ, Option, Some, None, refl, sym, ap, ◌∙◌, subst, arith, length-append}
use Rattle.std.proofs.lemmas.Bool.{le-leb}
use Rattle.std.proofs.lemmas.List.{length-reverse, reverse-reverse}
use Rattle.std.proofs.Math.Seq.{take-append_seam, drop-append_seam}
use Rattle.std.specs.Prelude.{slice_get, Result, Ok, Err, nat_le, if◌then◌else◌, true, Bool}
use Rattle.sk_base.specs.declared.number.Ty.{Ty}
use Rattle.sk_base.specs.declared.number.Trap.{Trap}
use Rattle.sk_base.specs.Arithmetic.{wrapped}
use Rattle.sk_meaning.specs.Evaluation.{Argument, Callable, Value, element_at, keeping, kind_type}
use Rattle.sk_meaning.specs.Expressions.{then_do}
use Rattle.sk_tree.specs.declared.tree.ParamKind.{ParamKind}
use Rattle.sk_isa.specs.Coded.{Point, Routine, Callee, Next, by_trap, next_of}
use Rattle.sk_isa.specs.Configurations.{Stuck, giving, returning, with_many}
use Rattle.sk_isa.specs.Soundness.{IsOfType}
use Rattle.sk_scheme.specs.Scheme.{Known}
use Rattle.sk_isa.specs.declared.code.Instr.{Instr}
use Rattle.sk_isa.specs.declared.code.Instr.TheVariants as instr
use Rattle.sk_plain.proofs.Lists.{reverse-onto}
use Rattle.sk_scheme_runs.proofs.Runs.{HasAt, has_back, stands, Finishes, Leads, leads_on, step, last_step, leads_same, Gives, after}
use Rattle.sk_scheme_runs.proofs.Agreement.{fitted, IsCallValue, IsCallee}

-- the values of arguments on the stack, the latest first, as their parameters' types have them
abbrev pub pushed : List ParamKind → List ℤ → List ℤ → List ℤ
pushed kinds values stack = reverse (fitted kinds values) ++ stack

pushed-more : (kind : ParamKind) (kinds : List ParamKind) (value : ℤ) (values stack : List ℤ)
    → pushed kinds values (wrapped (kind_type kind) value ∷ stack) ≡ pushed (kind ∷ kinds) (value ∷ values) stack
pushed-more kind kinds value values stack = reverse-onto (wrapped (kind_type kind) value) (fitted kinds values) stack

fitted-length : (kinds : List ParamKind) (values : List ℤ) → length values ≡ length kinds → length (fitted kinds values) ≡ length kinds
fitted-length [] [] e = refl
fitted-length [] (value ∷ values) e = absurd (omega (arith, e))
fitted-length (kind ∷ kinds) [] e = e
fitted-length (kind ∷ kinds) (value ∷ values) e = ap suc (fitted-length kinds values (omega (arith, e)))

module _ (routine : Routine) where
  -- what the code of arguments does
  abbrev pub GivesMany : List ParamKind → List ℤ → ℕ → List ℤ → ℕ → ℕ → Result (List ℤ × ℕ) Trap → Type 0
  GivesMany kinds slots at stack turns to (Ok done) =
      (length done.0 ≡ length kinds) × (done.1 ≤ turns) × Leads routine (stands at stack slots turns) (stands to (pushed kinds done.0 stack) slots done.1)
  GivesMany kinds slots at stack turns to (Err trap) = Finishes routine (stands at stack slots turns) (Err trap)

  many_after : (kind : ParamKind) (kinds : List ParamKind) (slots : List ℤ) (at at1 to : ℕ) (stack : List ℤ) (turns turns1 : ℕ) (value : ℤ) (o : Result (List ℤ × ℕ) Trap)
      → turns1 ≤ turns → Leads routine (stands at stack slots turns) (stands at1 (wrapped (kind_type kind) value ∷ stack) slots turns1)
      → GivesMany kinds slots at1 (wrapped (kind_type kind) value ∷ stack) turns1 to o
      → GivesMany (kind ∷ kinds) slots at stack turns to (then_do o (λ values s. Ok (value ∷ values, s)))
  many_after kind kinds slots at at1 to stack turns turns1 value (Ok done) fewer l g = (
    ap suc g.0,
    omega (arith, g.1),
    subst (λ (st : List ℤ). Leads routine (stands at stack slots turns) (stands to st slots done.1)) (pushed-more kind kinds value done.0 stack)
        (leads_on routine _ _ _ l g.2),
  )
  many_after kind kinds slots at at1 to stack turns turns1 value (Err trap) fewer l g = l.by _ g

  -- the first argument, and those behind it
  pub more_gives : (kind : ParamKind) (kinds : List ParamKind) (slots : List ℤ) (at to : ℕ) (stack : List ℤ) (turns : ℕ)
      (o : Result (ℤ × ℕ) Trap) (next : ℕ → Result (List ℤ × ℕ) Trap) (wide : Ty) (at1 : ℕ)
      → Gives routine wide slots at stack turns at1 stack (then_do o (λ a s. Ok (wrapped (kind_type kind) a, s)))
      → ((v : ℤ) (t : ℕ) → GivesMany kinds slots at1 (v ∷ stack) t to (next t))
      → GivesMany (kind ∷ kinds) slots at stack turns to (then_do o (λ value s. then_do (next s) (λ values s. Ok (value ∷ values, s))))
  more_gives kind kinds slots at to stack turns (Ok done) next wide at1 g h =
      many_after kind kinds slots at at1 to stack turns done.1 done.0 (next done.1) g.1 g.2 (h (wrapped (kind_type kind) done.0) done.1)
  more_gives kind kinds slots at to stack turns (Err trap) next wide at1 g h = g

  -- what a call gives
  called : (ty : Ty) (slots : List ℤ) (at to : ℕ) (before_call stack : List ℤ) (turns : ℕ) (i : Instr) (o : Result (ℤ × ℕ) Trap)
      → slice_get routine.instrs at ≡ Some i → suc at ≡ to → next_of routine i (stands at before_call slots turns) ≡ returning (stands at before_call slots turns) stack o
      → IsCallValue ty turns o → Gives routine ty slots at before_call turns to stack o
  called ty slots at to before_call stack turns i (Ok done) here e does fits =
      (fits.0, fits.1, leads_on routine _ _ _ (step routine i _ _ here does) (leads_same routine (suc at) to (done.0 ∷ stack) slots done.1 e))
  called ty slots at to before_call stack turns i (Err trap) here e does fits = last_step routine i _ (Err trap) here does

  -- the callee finds its arguments
  taking : (callee : Callee) (f stack slots : List ℤ) (at turns : ℕ) → callee.takes ≡ length f
      → with_many callee.takes (reverse f ++ stack) (λ values rest. returning (stands at (reverse f ++ stack) slots turns) rest (callee.call values turns))
      ≡ returning (stands at (reverse f ++ stack) slots turns) stack (callee.call f turns)
  taking callee f stack slots at turns takes =
      let next : List ℤ → List ℤ → Next = λ values rest. returning (stands at (reverse f ++ stack) slots turns) rest (callee.call values turns) in
      let n : callee.takes ≡ length (reverse f) = takes ∙ sym (length-reverse f) in
      let enough : nat_le (length (reverse f)) (length (reverse f ++ stack)) ≡ true =
      le-leb _ _ (omega (arith, length-append (reverse f) stack)) in
      ap (λ c. with_many c (reverse f ++ stack) next) n
      ∙ ap (λ (b : Bool). if b then next (reverse (take (length (reverse f)) (reverse f ++ stack))) (drop (length (reverse f)) (reverse f ++ stack)) else Stuck) enough
      ∙ ap (λ (l : List ℤ). next (reverse l) (drop (length (reverse f)) (reverse f ++ stack))) (take-append_seam (reverse f) stack)
      ∙ ap (λ (l : List ℤ). next l (drop (length (reverse f)) (reverse f ++ stack))) (reverse-reverse f)
      ∙ ap (λ (l : List ℤ). next f l) (drop-append_seam (reverse f) stack)

  pub call_gives : (known : Known) (callable : Callable) (same : IsCallee routine.callees known callable) (slots : List ℤ) (at to : ℕ) (stack values : List ℤ) (turns : ℕ)
      → slice_get routine.instrs at ≡ Some (instr.Call known.number) → suc at ≡ to → length values ≡ length known.kinds
      → Gives routine known.ret slots at (pushed known.kinds values stack) turns to stack (callable.call (map Value values) turns)
  call_gives known callable same slots at to stack values turns here e n =
      let f : List ℤ = fitted known.kinds values in
      let takes : same.callee.takes ≡ length f = same.takes ∙ sym (fitted-length known.kinds values n) in
      let point : Point = stands at (reverse f ++ stack) slots turns in
      let does : next_of routine (instr.Call known.number) point ≡ returning point stack (callable.call (map Value values) turns) =
      ap (λ (o : Option Callee). elim o as (λ x. Next) [
        | Some callee ↦ with_many callee.takes point.stack (λ values rest. returning point rest (callee.call values point.kept))
        | None ↦ Stuck
      ]) same.there
      ∙ taking same.callee f stack slots at turns takes ∙ ap (returning point stack) (same.call values turns n) in
      called known.ret slots at to (reverse f ++ stack) stack turns (instr.Call known.number) (callable.call (map Value values) turns) here e does (same.gives values turns n)

  -- arguments and the call
  pub apply_gives : (known : Known) (callable : Callable) (same : IsCallee routine.callees known callable) (slots : List ℤ) (at : ℕ) (stack : List ℤ) (turns : ℕ)
      (code : List Instr) (o : Result (List ℤ × ℕ) Trap) → HasAt routine.instrs at (code ++ instr.Call known.number ∷ [])
      → GivesMany known.kinds slots at stack turns (at + length code) o
      → Gives routine known.ret slots at stack turns (at + length (code ++ instr.Call known.number ∷ [])) stack
      (then_do o (λ values turns. callable.call (map Value values) turns))
  apply_gives known callable same slots at stack turns code (Ok done) has g =
      let here = (has_back routine.instrs at code (instr.Call known.number ∷ []) has).0 in
      let to : ℕ = at + length (code ++ instr.Call known.number ∷ []) in
      let e : suc (at + length code) ≡ to = omega (arith, length-append code (instr.Call known.number ∷ [])) in
      after routine known.ret slots at (at + length code) to stack (pushed known.kinds done.0 stack) stack turns done.1 (callable.call (map Value done.0) done.1) g.1 g.2
      (call_gives known callable same slots (at + length code) to stack done.0 done.1 here e g.0)
  apply_gives known callable same slots at stack turns code (Err trap) has g = g

  -- what the code of a place does, whose values are taken as they are
  abbrev pub GivesPlace : ℕ → List ℤ → ℕ → List ℤ → ℕ → ℕ → Result (List ℤ × ℕ) Trap → Type 0
  GivesPlace count slots at stack turns to (Ok done) =
      (length done.0 ≡ count) × (done.1 ≤ turns) × Leads routine (stands at stack slots turns) (stands to (reverse done.0 ++ stack) slots done.1)
  GivesPlace count slots at stack turns to (Err trap) = Finishes routine (stands at stack slots turns) (Err trap)

  place_after : (count : ℕ) (slots : List ℤ) (at at1 to : ℕ) (stack : List ℤ) (turns turns1 : ℕ) (value : ℤ) (o : Result (List ℤ × ℕ) Trap)
      → turns1 ≤ turns → Leads routine (stands at stack slots turns) (stands at1 (value ∷ stack) slots turns1)
      → GivesPlace count slots at1 (value ∷ stack) turns1 to o
      → GivesPlace (suc count) slots at stack turns to (then_do o (λ values s. Ok (value ∷ values, s)))
  place_after count slots at at1 to stack turns turns1 value (Ok done) fewer l g = (
    ap suc g.0,
    omega (arith, g.1),
    subst (λ (st : List ℤ). Leads routine (stands at stack slots turns) (stands to st slots done.1)) (reverse-onto value done.0 stack)
        (leads_on routine _ _ _ l g.2),
  )
  place_after count slots at at1 to stack turns turns1 value (Err trap) fewer l g = l.by _ g

  -- the first coordinate, and those behind it
  pub place_gives : (count : ℕ) (slots : List ℤ) (at at1 to : ℕ) (stack : List ℤ) (turns : ℕ)
      (o : Result (ℤ × ℕ) Trap) (next : ℕ → Result (List ℤ × ℕ) Trap) (ty : Ty) → Gives routine ty slots at stack turns at1 stack o
      → ((v : ℤ) (t : ℕ) → GivesPlace count slots at1 (v ∷ stack) t to (next t))
      → GivesPlace (suc count) slots at stack turns to (then_do o (λ value s. then_do (next s) (λ values s. Ok (value ∷ values, s))))
  place_gives count slots at at1 to stack turns (Ok done) next ty g h =
      place_after count slots at at1 to stack turns done.1 done.0 (next done.1) g.1 g.2 (h done.0 done.1)
  place_gives count slots at at1 to stack turns (Err trap) next ty g h = g

  -- an element, or its trap
  element_told : (ty : Ty) (slots : List ℤ) (at to : ℕ) (before_it stack : List ℤ) (turns : ℕ) (i : Instr) (o : Result ℤ Trap)
      → slice_get routine.instrs at ≡ Some i → suc at ≡ to → next_of routine i (stands at before_it slots turns) ≡ giving by_trap (stands at before_it slots turns) stack o
      → IsOfType ty o → Gives routine ty slots at before_it turns to stack (keeping o turns)
  element_told ty slots at to before_it stack turns i (Ok value) here e does fits =
      (fits, omega arith, leads_on routine _ _ _ (step routine i _ _ here does) (leads_same routine (suc at) to (value ∷ stack) slots turns e))
  element_told ty slots at to before_it stack turns i (Err trap) here e does fits = last_step routine i _ (Err trap) here does

  -- so many values are taken from the stack
  place_taken : (count : ℕ) (f stack : List ℤ) (next : List ℤ → List ℤ → Next) → count ≡ length f → with_many count (reverse f ++ stack) next ≡ next f stack
  place_taken count f stack next is =
      let n : count ≡ length (reverse f) = is ∙ sym (length-reverse f) in
      let enough : nat_le (length (reverse f)) (length (reverse f ++ stack)) ≡ true =
      le-leb _ _ (omega (arith, length-append (reverse f) stack)) in
      ap (λ c. with_many c (reverse f ++ stack) next) n
      ∙ ap (λ (b : Bool). if b then next (reverse (take (length (reverse f)) (reverse f ++ stack))) (drop (length (reverse f)) (reverse f ++ stack)) else Stuck) enough
      ∙ ap (λ (l : List ℤ). next (reverse l) (drop (length (reverse f)) (reverse f ++ stack))) (take-append_seam (reverse f) stack)
      ∙ ap (λ (l : List ℤ). next l (drop (length (reverse f)) (reverse f ++ stack))) (reverse-reverse f)
      ∙ ap (λ (l : List ℤ). next f l) (drop-append_seam (reverse f) stack)

  -- what an instruction does that reads an element of an argument at a place on the stack
  abbrev pub Reads : ℕ → ℕ → Instr → Type 0
  Reads slot count i = (point : Point) → next_of routine i point ≡ with_many count point.stack (λ place rest.
      elim (slice_get routine.arguments slot) as (λ x. Next) [ Some argument ↦ giving by_trap point rest (element_at argument place) | None ↦ Stuck ])

  -- a place and the element there
  pub element_gives : (slot count : ℕ) (i : Instr) (argument : Argument) (ty : Ty) (slots : List ℤ) (at : ℕ) (stack : List ℤ) (turns : ℕ) (code : List Instr) (o : Result (List ℤ × ℕ) Trap)
      → Reads slot count i → slice_get routine.arguments slot ≡ Some argument → ((place : List ℤ) → IsOfType ty (element_at argument place))
      → HasAt routine.instrs at (code ++ i ∷ []) → GivesPlace count slots at stack turns (at + length code) o
      → Gives routine ty slots at stack turns (at + length (code ++ i ∷ [])) stack (then_do o (λ values turns. keeping (element_at argument values) turns))
  element_gives slot count i argument ty slots at stack turns code (Ok done) reads there fits has g =
      let here = (has_back routine.instrs at code (i ∷ []) has).0 in
      let to : ℕ = at + length (code ++ i ∷ []) in
      let e : suc (at + length code) ≡ to = omega (arith, length-append code (i ∷ [])) in
      let point : Point = stands (at + length code) (reverse done.0 ++ stack) slots done.1 in
      let does : next_of routine i point ≡ giving by_trap point stack (element_at argument done.0) =
      reads point
      ∙ place_taken count done.0 stack (λ place rest. elim (slice_get routine.arguments slot) as (λ x. Next) [ Some argument ↦ giving by_trap point rest (element_at argument place) | None ↦ Stuck ]) (sym g.0)
      ∙ ap (λ (o : Option Argument). elim o as (λ x. Next) [ Some argument ↦ giving by_trap point stack (element_at argument done.0) | None ↦ Stuck ]) there in
      after routine ty slots at (at + length code) to stack (reverse done.0 ++ stack) stack turns done.1 (keeping (element_at argument done.0) done.1) g.1 g.2
      (element_told ty slots (at + length code) to (reverse done.0 ++ stack) stack done.1 i (element_at argument done.0) here e does (fits done.0))
  element_gives slot count i argument ty slots at stack turns code (Err trap) reads there fits has g = g
