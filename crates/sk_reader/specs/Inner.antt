-- A function value that reads the expressions inside what is opened.
use Rattle.std.specs.Prelude.{ℕ, ◌-◌, ◌<◌, Result}
use Rattle.std.specs.declared.alloc.Global.{Global}
use denote.Ref.{MutBor}
use Rattle.sk_tree.specs.declared.tree.Expr.{Expr}
use Rattle.sk_reading.specs.declared.reach.Reach.{Reach}
use Rattle.sk_reader.specs.declared.stop.Stop.{Stop}
use Rattle.sk_reader.specs.ParsesAs.{ParsesAs}
use Rattle.sk_reading.specs.Reading.{Place}
use Rattle.sk_reading.specs.ReadingExpressions.{expression}

-- where that many more may be opened, it reads with one less
pub record ReadsBelow (left : ℕ) (pre : Global → MutBor Place → ℕ → Reach → Type 0)
    (post : Global → MutBor Place → ℕ → Reach → Result Expr Stop → MutBor Place → Type 0) : Type 0 where
  pub callable : 0 < left → (alloc : Global) (old : MutBor Place) (reach : Reach) → pre alloc old (left - 1) reach
  pub reads : 0 < left → (alloc : Global) (old new : MutBor Place) (reach : Reach) (r : Result Expr Stop)
      → post alloc old (left - 1) reach r new → ParsesAs (expression (left - 1) reach old.now) r new.now
