-- Where runs of straight code come to.
use Rattle.std.proofs.Common.{◌≡◌, ℕ, suc, ◌+◌, ◌*◌, ◌<◌, List, ◌∷◌, ◌++◌, length, ℤ, ap, subst, ◌∙◌, arith}
use Rattle.std.specs.Prelude.{Option, Some, None, slice_get, slice_index_or}
use Rattle.sk_isa.specs.Coded.{Point, Routine, Next, next_of, outcome_of}
use Rattle.sk_isa.specs.Configurations.{Lost, followed, run_of}
use Rattle.sk_isa.specs.declared.code.Instr.{Instr}
use Rattle.sk_columns.specs.Blocks.{Leads, Reaches, point_of, stack_of}
use Rattle.sk_columns.specs.Cells.{cell_of}
use Rattle.sk_columns.specs.declared.level.Level.{Level}
use Rattle.sk_columns.specs.declared.level.Level.TheVariants.{Here}
use Rattle.sk_columns.proofs.Rows.{cell-first}
use Rattle.sk_columns.specs.Known.{Known}

pub begun : (instrs : List Instr) (known : Known) (from : ℕ) (stack : List ℤ) → Reaches instrs known from stack from stack
begun instrs known from stack = record { comes = λ routine slots turns result is have comes. comes }

pub joined : (instrs : List Instr) (known : Known) (from by to : ℕ) (before middle after : List ℤ)
    → Reaches instrs known from before by middle → Reaches instrs known by middle to after → Reaches instrs known from before to after
joined instrs known from by to before middle after one other =
    record { comes = λ routine slots turns result is have comes. one.comes routine slots turns result is have (other.comes routine slots turns result is have comes) }

pub one_step : (routine : Routine) (steps : ℕ) (point : Point) (instr : Instr) → slice_get routine.instrs point.at ≡ Some instr
    → outcome_of routine (suc steps) point ≡ followed (next_of routine instr point) (outcome_of routine steps)
unfolding run_of
one_step routine steps point instr at =
    ap (λ (o : Option Instr). elim o [ Some found ↦ followed (next_of routine found point) (outcome_of routine steps) | None ↦ Lost ]) at

-- an instruction leads on
pub led : (instrs : List Instr) (known : Known) (from at : ℕ) (start before after : List ℤ) (instr : Instr) → slice_get instrs at ≡ Some instr
    → Reaches instrs known from start at before → Leads instr known before after → Reaches instrs known from start (at + 1) after
led instrs known from at start before after instr found reaches leads =
    let next : suc at ≡ at + 1 = omega arith in
    subst (λ (n : ℕ). Reaches instrs known from start n after) next
    (record {
      comes = λ routine slots turns result is have comes.
          let here : slice_get routine.instrs at ≡ Some instr = ap (λ (xs : List Instr). slice_get xs at) is ∙ found in
          reaches.comes routine slots turns result is have (
            suc comes.0,
            one_step routine comes.0 (point_of at before slots turns) instr here
                ∙ ap (λ (n : Next). followed n (outcome_of routine comes.0)) (leads.goes routine at slots turns have) ∙ comes.1,
          );
    })

-- one level stands on what stood there before
pub one_level : (levels : List Level) (first above : List ℤ) (block place : ℕ) (known : Known) (rest : List ℤ) (height : ℕ)
    → height ≡ 1 → place < length first
    → stack_of levels (first ++ above) block place known rest height ≡ cell_of (slice_index_or levels 0 Here) first place known ∷ rest
one_level levels first above block place known rest height one inside =
    let row : 0 * block + place ≡ place = omega arith in
    ap (stack_of levels (first ++ above) block place known rest) one
    ∙ ap (λ (n : ℕ). cell_of (slice_index_or levels 0 Here) (first ++ above) n known ∷ rest) row
    ∙ ap (λ (x : ℤ). x ∷ rest) (cell-first (slice_index_or levels 0 Here) first above place known inside)
