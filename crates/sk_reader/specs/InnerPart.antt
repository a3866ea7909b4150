-- A function value that reads the statements inside what is opened.
use Rattle.std.specs.Prelude.{ℕ, ◌-◌, ◌<◌, List, Result}
use Rattle.std.specs.declared.alloc.Global.{Global}
use denote.Ref.{MutBor}
use Rattle.sk_tree.specs.declared.tree.Statement.{Statement}
use Rattle.sk_reader.specs.declared.stop.Stop.{Stop}
use Rattle.sk_reader.specs.ParsesAs.{ParsesAs}
use Rattle.sk_reading.specs.declared.part.Part.{Part}
use Rattle.sk_reading.specs.Reading.{Place}
use Rattle.sk_reading.specs.ReadingStatements.{part_of}

-- where that many more may be opened, it reads with one less
pub record ReadsPartBelow (left : ℕ) (pre : Global → MutBor Place → ℕ → Part → Type 0)
    (post : Global → MutBor Place → ℕ → Part → Result (List Statement) Stop → MutBor Place → Type 0) : Type 0 where
  pub callable : 0 < left → (alloc : Global) (old : MutBor Place) (kind : Part) → pre alloc old (left - 1) kind
  pub reads : 0 < left → (alloc : Global) (old new : MutBor Place) (kind : Part) (r : Result (List Statement) Stop)
      → post alloc old (left - 1) kind r new → ParsesAs (part_of (left - 1) kind old.now) r new.now
