-- The inputs as they are kept.
use Rattle.std.specs.Borrow.{Bor}
use Rattle.std.specs.Prelude.{ℕ, List}
use Rattle.sk_base.specs.declared.number.Ty.{Ty}
use Rattle.sk_tree.specs.declared.declared.Declared.{Declared}

-- a name with the kind and the type that it is declared with
abbrev pub declared_in : Bor (List ℕ) × (ℕ × Ty) → Declared
declared_in entry = record { name = entry.0.now; kind = entry.1.0; ty = entry.1.1 }
