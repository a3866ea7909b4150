-- Runs of main's code: what code leads to that stands in it at an address.
use Rattle.std.proofs.Common.{◌≡◌, ℕ, suc, List, ◌∷◌, ℤ, Option, Some, None, refl, sym, ap, ◌∙◌, subst}
use Rattle.std.specs.Prelude.{slice_get, Result, Ok, Err}
use Rattle.sk_base.specs.Arithmetic.{InRange}
use Rattle.sk_base.specs.declared.number.Ty.{Ty}
use Rattle.sk_isa.specs.Configurations.{Goes, Ends, Outcome, Ended, Lost, followed, run_of}
use Rattle.sk_isa.specs.declared.code.Instr.{Instr}
use Rattle.sk_isa.specs.declared.object.Object.{Object}
use Rattle.sk_main_code.specs.MainSteps.{MainPoint, MainNext, next_in_main}
use Rattle.sk_meaning.specs.Expressions.{then_do}
use Rattle.sk_world.specs.World.{World, Over}

-- what an expression leaves of a world: its containers, and the statements that are left
pub record IsLike (one other : World) : Type 0 where
  pub containers : other.containers ≡ one.containers
  pub left : other.statements_left ≡ one.statements_left

pub like_same : (world : World) → IsLike world world
like_same world = record { containers = refl; left = refl }

pub like_on : (one other third : World) → IsLike one other → IsLike other third → IsLike one third
like_on one other third f g = record { containers = g.containers ∙ f.containers; left = g.left ∙ f.left }

-- a point by its parts
abbrev pub stands : ℕ → List ℤ → List ℤ → World → MainPoint
stands at stack slots world = record { at = at; stack = stack; slots = slots; kept = world }

module _ (object : Object) where
  -- a run from the point ends with the result
  pub record Finishes (point : MainPoint) (result : Result (ℤ × World) Over) : Type 0 where
    pub steps : ℕ
    pub outcome : run_of (next_in_main object) object.main.instrs steps point ≡ Ended result

  -- a run from one point comes to the other
  pub record Leads (from to : MainPoint) : Type 0 where
    pub by : (result : Result (ℤ × World) Over) → Finishes to result → Finishes from result

  pub leads_on : (a b c : MainPoint) → Leads a b → Leads b c → Leads a c
  leads_on a b c f g = record { by = λ result e. f.by result (g.by result e) }

  -- one instruction
  one_step : (i : Instr) (point : MainPoint) (next : MainNext) (k : ℕ) → slice_get object.main.instrs point.at ≡ Some i → next_in_main object i point ≡ next
      → run_of (next_in_main object) object.main.instrs (suc k) point ≡ followed next (run_of (next_in_main object) object.main.instrs k)
  unfolding run_of
  one_step i point next k at does =
      ap (λ (o : Option Instr). elim o as (λ x. Outcome World Over) [
        | Some instr ↦ followed (next_in_main object instr point) (run_of (next_in_main object) object.main.instrs k)
        | None ↦ Lost
      ]) at
      ∙ ap (λ (n : MainNext). followed n (run_of (next_in_main object) object.main.instrs k)) does

  pub step : (i : Instr) (from to : MainPoint) → slice_get object.main.instrs from.at ≡ Some i → next_in_main object i from ≡ Goes to → Leads from to
  step i from to at does =
      record { by = λ result e. record { steps = suc e.steps; outcome = one_step i from (Goes to) e.steps at does ∙ e.outcome } }

  pub last_step : (i : Instr) (from : MainPoint) (result : Result (ℤ × World) Over) → slice_get object.main.instrs from.at ≡ Some i
      → next_in_main object i from ≡ Ends result → Finishes from result
  last_step i from result at does = record { steps = 1; outcome = one_step i from (Ends result) 0 at does }

  -- the same point, its address under another name
  pub leads_same : (at to : ℕ) (stack slots : List ℤ) (world : World) → at ≡ to → Leads (stands at stack slots world) (stands to stack slots world)
  leads_same at to stack slots world e =
      record { by = λ result f. subst (λ n. Finishes (stands n stack slots world) result) (sym e) f }

  -- What an expression's code does from an address with a stack: it comes to an address with its value, which is of the type,
  -- on a stack, in a world that is like the one before; or it ends the run.
  abbrev pub Gives : Ty → List ℤ → ℕ → List ℤ → World → ℕ → List ℤ → Result (ℤ × World) Over → Type 0
  Gives ty slots at stack world to rest (Ok done) =
      InRange ty done.0 × IsLike world done.1 × Leads (stands at stack slots world) (stands to (done.0 ∷ rest) slots done.1)
  Gives ty slots at stack world to rest (Err over) = Finishes (stands at stack slots world) (Err over)

  -- behind a stretch that takes no value
  pub after : (ty : Ty) (slots : List ℤ) (at at1 to : ℕ) (stack stack1 rest : List ℤ) (world world1 : World) (o : Result (ℤ × World) Over)
      → IsLike world world1 → Leads (stands at stack slots world) (stands at1 stack1 slots world1)
      → Gives ty slots at1 stack1 world1 to rest o → Gives ty slots at stack world to rest o
  after ty slots at at1 to stack stack1 rest world world1 (Ok done) like l g =
      (g.0, like_on world world1 done.1 like g.1, leads_on _ _ _ l g.2)
  after ty slots at at1 to stack stack1 rest world world1 (Err over) like l g = l.by _ g

  -- before a stretch that keeps the value
  pub before : (ty : Ty) (slots : List ℤ) (at to to' : ℕ) (stack rest : List ℤ) (world : World) (o : Result (ℤ × World) Over)
      → Gives ty slots at stack world to rest o
      → ((v : ℤ) (w : World) → Leads (stands to (v ∷ rest) slots w) (stands to' (v ∷ rest) slots w))
      → Gives ty slots at stack world to' rest o
  before ty slots at to to' stack rest world (Ok done) g l = (g.0, g.1, leads_on _ _ _ g.2 (l done.0 done.1))
  before ty slots at to to' stack rest world (Err over) g l = g

  -- the value of a type is one of a wider type
  pub widened : (ty wide : Ty) (slots : List ℤ) (at to : ℕ) (stack rest : List ℤ) (world : World) (o : Result (ℤ × World) Over)
      → ((v : ℤ) → InRange ty v → InRange wide v) → Gives ty slots at stack world to rest o → Gives wide slots at stack world to rest o
  widened ty wide slots at to stack rest world (Ok done) wider g = (wider done.0 g.0, g.1, g.2)
  widened ty wide slots at to stack rest world (Err over) wider g = g

  -- goes on with a value
  pub then_gives : (ty ty2 : Ty) (slots : List ℤ) (at at1 to : ℕ) (stack stack1 rest : List ℤ) (world : World) (o : Result (ℤ × World) Over)
      (next : ℤ → World → Result (ℤ × World) Over) → Gives ty slots at stack world at1 stack1 o
      → ((v : ℤ) (w : World) → IsLike world w → InRange ty v → Gives ty2 slots at1 (v ∷ stack1) w to rest (next v w))
      → Gives ty2 slots at stack world to rest (then_do o next)
  then_gives ty ty2 slots at at1 to stack stack1 rest world (Ok done) next g f =
      after ty2 slots at at1 to stack (done.0 ∷ stack1) rest world done.1 (next done.0 done.1) g.1 g.2 (f done.0 done.1 g.1 g.0)
  then_gives ty ty2 slots at at1 to stack stack1 rest world (Err over) next g f = g

  -- a value and one instruction that takes it and gives another
  pub one_gives : (ty2 : Ty) (i : Instr) (slots : List ℤ) (at to : ℕ) (stack rest : List ℤ) (world : World) (v : ℤ)
      → slice_get object.main.instrs at ≡ Some i → suc at ≡ to → InRange ty2 v
      → next_in_main object i (stands at stack slots world) ≡ Goes (stands (suc at) (v ∷ rest) slots world)
      → Gives ty2 slots at stack world to rest (Ok (v, world))
  one_gives ty2 i slots at to stack rest world v here e fits does =
      (fits, like_same world, leads_on _ _ _ (step i _ _ here does) (leads_same (suc at) to (v ∷ rest) slots world e))
