-- Containers of rows.
use Rattle.std.proofs.Common.{ℤ, List, replicate, Result, Ok, Err, IfOk}
use Rattle.sk_base.specs.declared.number.Ty.{Ty}
use Rattle.sk_base.specs.Shape.{cells_of}
use Rattle.sk_coherence_laws.specs.Directory.{DirectoryView}
use Rattle.sk_container.specs.Made.{IsNew}
use Rattle.sk_container.specs.Smart.{SmartView, IsHeld}

-- a new container has a cell at each index
pub held-new : {E : Type 0} (old new : DirectoryView) (sizes : List ℤ) (ty : Ty) (x : ℤ) (r : Result SmartView E) → IfOk r (IsNew old new sizes ty x) → IfOk r (IsHeld new)
held-new old new sizes ty x (Ok smart) is = (replicate (cells_of smart.shape) x, is.makes.holds)
held-new old new sizes ty x (Err e) is = tt
