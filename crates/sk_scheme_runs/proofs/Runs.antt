-- Runs of the machine: what code leads to that stands in the routine.
use Rattle.std.proofs.Common.{◌≡◌, ℕ, suc, ◌+◌, ◌≤◌, List, [], ◌∷◌, ◌++◌, length, ℤ, Option, Some, None, sym, ap, ◌∙◌, subst, arith, append_assoc, length-append}
use Rattle.std.specs.Prelude.{slice_get, Result, Ok, Err}
use Rattle.sk_base.specs.declared.number.Ty.{Ty}
use Rattle.sk_base.specs.declared.number.Trap.{Trap}
use Rattle.sk_base.specs.Arithmetic.{InRange}
use Rattle.sk_meaning.specs.Expressions.{then_do}
use Rattle.sk_isa.specs.Coded.{Point, Routine, Next, next_of, outcome_of}
use Rattle.sk_isa.specs.Configurations.{Goes, Ends, Outcome, Ended, Lost, followed, run_of}
use Rattle.sk_isa.specs.declared.code.Instr.{Instr}
use Rattle.sk_plain.proofs.Lists.{slice_get-seam}

-- the instructions stand in the code at this address
abbrev pub HasAt : List Instr → ℕ → List Instr → Type 0
HasAt code at [] = Unit {0}
HasAt code at (i ∷ is) = (slice_get code at ≡ Some i) × HasAt code (suc at) is

pub has_front : (code : List Instr) (at : ℕ) (a b : List Instr) → HasAt code at (a ++ b) → HasAt code at a
has_front code at [] b h = tt
has_front code at (i ∷ a) b h = (h.0, has_front code (suc at) a b h.1)

pub has_back : (code : List Instr) (at : ℕ) (a b : List Instr) → HasAt code at (a ++ b) → HasAt code (at + length a) b
has_back code at [] b h = let e : at ≡ at + 0 = omega arith in subst (λ n. HasAt code n b) e h
has_back code at (i ∷ a) b h =
    let e : suc at + length a ≡ at + length (i ∷ a) = omega arith in
    subst (λ n. HasAt code n b) e (has_back code (suc at) a b h.1)

-- what stands behind one instruction
pub has_rest : (code : List Instr) (at to : ℕ) (i : Instr) (is : List Instr) → suc at ≡ to → HasAt code at (i ∷ is) → HasAt code to is
has_rest code at to i is e h = subst (λ n. HasAt code n is) e h.1

has_behind : (is before : List Instr) → HasAt (before ++ is) (length before) is
has_behind [] before = tt
has_behind (i ∷ is) before =
    let n : length (before ++ i ∷ []) ≡ suc (length before) = omega (arith, length-append before (i ∷ [])) in
    let rest = has_behind is (before ++ i ∷ []) in
    let rest' = subst (λ l. HasAt l (length (before ++ i ∷ [])) is) (append_assoc before (i ∷ []) is) rest in
    (slice_get-seam before i is, subst (λ m. HasAt (before ++ i ∷ is) m is) n rest')

pub has_all : (is : List Instr) → HasAt is 0 is
has_all is = has_behind is []

-- a point by its parts
abbrev pub stands : ℕ → List ℤ → List ℤ → ℕ → Point
stands at stack slots turns = record { at = at; stack = stack; slots = slots; kept = turns }

module _ (routine : Routine) where
  -- a run from the point ends with the result
  pub record Finishes (point : Point) (result : Result (ℤ × ℕ) Trap) : Type 0 where
    pub steps : ℕ
    pub outcome : outcome_of routine steps point ≡ Ended result

  -- a run from one point comes to the other
  pub record Leads (from to : Point) : Type 0 where
    pub by : (result : Result (ℤ × ℕ) Trap) → Finishes to result → Finishes from result

  pub leads_on : (a b c : Point) → Leads a b → Leads b c → Leads a c
  leads_on a b c f g = record { by = λ result e. f.by result (g.by result e) }

  -- one instruction
  one_step : (i : Instr) (point : Point) (next : Next) (k : ℕ) → slice_get routine.instrs point.at ≡ Some i → next_of routine i point ≡ next
      → outcome_of routine (suc k) point ≡ followed next (outcome_of routine k)
  unfolding run_of
  one_step i point next k at does =
      ap (λ (o : Option Instr). elim o as (λ x. Outcome ℕ Trap) [ Some instr ↦ followed (next_of routine instr point) (outcome_of routine k) | None ↦ Lost ]) at
      ∙ ap (λ (n : Next). followed n (outcome_of routine k)) does

  pub step : (i : Instr) (from to : Point) → slice_get routine.instrs from.at ≡ Some i → next_of routine i from ≡ Goes to → Leads from to
  step i from to at does =
      record { by = λ result e. record { steps = suc e.steps; outcome = one_step i from (Goes to) e.steps at does ∙ e.outcome } }

  pub last_step : (i : Instr) (from : Point) (result : Result (ℤ × ℕ) Trap) → slice_get routine.instrs from.at ≡ Some i
      → next_of routine i from ≡ Ends result → Finishes from result
  last_step i from result at does = record { steps = 1; outcome = one_step i from (Ends result) 0 at does }

  -- the same point, its address under another name
  pub leads_same : (at to : ℕ) (stack slots : List ℤ) (turns : ℕ) → at ≡ to → Leads (stands at stack slots turns) (stands to stack slots turns)
  leads_same at to stack slots turns e =
      record { by = λ result f. subst (λ n. Finishes (stands n stack slots turns) result) (sym e) f }

  -- What an expression's code does from an address with a stack: it comes to an address with its value, which is of the type,
  -- on a stack, and with no more turns; or it ends with the trap.
  abbrev pub Gives : Ty → List ℤ → ℕ → List ℤ → ℕ → ℕ → List ℤ → Result (ℤ × ℕ) Trap → Type 0
  Gives ty slots at stack turns to rest (Ok done) =
      InRange ty done.0 × (done.1 ≤ turns) × Leads (stands at stack slots turns) (stands to (done.0 ∷ rest) slots done.1)
  Gives ty slots at stack turns to rest (Err trap) = Finishes (stands at stack slots turns) (Err trap)

  -- behind a stretch that takes no value
  pub after : (ty : Ty) (slots : List ℤ) (at at1 to : ℕ) (stack stack1 rest : List ℤ) (turns turns1 : ℕ) (o : Result (ℤ × ℕ) Trap)
      → turns1 ≤ turns → Leads (stands at stack slots turns) (stands at1 stack1 slots turns1)
      → Gives ty slots at1 stack1 turns1 to rest o → Gives ty slots at stack turns to rest o
  after ty slots at at1 to stack stack1 rest turns turns1 (Ok done) fewer l g =
      (g.0, omega (arith, g.1), leads_on _ _ _ l g.2)
  after ty slots at at1 to stack stack1 rest turns turns1 (Err trap) fewer l g = l.by _ g

  -- before a stretch that keeps the value
  pub before : (ty : Ty) (slots : List ℤ) (at to to' : ℕ) (stack rest : List ℤ) (turns : ℕ) (o : Result (ℤ × ℕ) Trap)
      → Gives ty slots at stack turns to rest o
      → ((v : ℤ) (t : ℕ) → Leads (stands to (v ∷ rest) slots t) (stands to' (v ∷ rest) slots t))
      → Gives ty slots at stack turns to' rest o
  before ty slots at to to' stack rest turns (Ok done) g l = (g.0, g.1, leads_on _ _ _ g.2 (l done.0 done.1))
  before ty slots at to to' stack rest turns (Err trap) g l = g

  -- the value of a type is one of a wider type
  pub widened : (ty wide : Ty) (slots : List ℤ) (at to : ℕ) (stack rest : List ℤ) (turns : ℕ) (o : Result (ℤ × ℕ) Trap)
      → ((v : ℤ) → InRange ty v → InRange wide v) → Gives ty slots at stack turns to rest o → Gives wide slots at stack turns to rest o
  widened ty wide slots at to stack rest turns (Ok done) wider g = (wider done.0 g.0, g.1, g.2)
  widened ty wide slots at to stack rest turns (Err trap) wider g = g

  -- goes on with a value
  pub then_gives : (ty ty2 : Ty) (slots : List ℤ) (at at1 to : ℕ) (stack stack1 rest : List ℤ) (turns : ℕ) (o : Result (ℤ × ℕ) Trap)
      (next : ℤ → ℕ → Result (ℤ × ℕ) Trap) → Gives ty slots at stack turns at1 stack1 o
      → ((v : ℤ) (t : ℕ) → InRange ty v → Gives ty2 slots at1 (v ∷ stack1) t to rest (next v t))
      → Gives ty2 slots at stack turns to rest (then_do o next)
  then_gives ty ty2 slots at at1 to stack stack1 rest turns (Ok done) next g f =
      after ty2 slots at at1 to stack (done.0 ∷ stack1) rest turns done.1 (next done.0 done.1) g.1 g.2 (f done.0 done.1 g.0)
  then_gives ty ty2 slots at at1 to stack stack1 rest turns (Err trap) next g f = g

  -- a value and one instruction that takes it and gives another
  pub one_gives : (ty2 : Ty) (i : Instr) (slots : List ℤ) (at to : ℕ) (stack rest : List ℤ) (turns : ℕ) (v : ℤ)
      → slice_get routine.instrs at ≡ Some i → suc at ≡ to → InRange ty2 v
      → next_of routine i (stands at stack slots turns) ≡ Goes (stands (suc at) (v ∷ rest) slots turns)
      → Gives ty2 slots at stack turns to rest (Ok (v, turns))
  one_gives ty2 i slots at to stack rest turns v here e fits does =
      (fits, omega arith, leads_on _ _ _ (step i _ _ here does) (leads_same (suc at) to (v ∷ rest) slots turns e))
