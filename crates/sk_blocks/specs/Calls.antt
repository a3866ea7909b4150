-- A call with the sizes of what it works on.
use Rattle.std.specs.Prelude.{ℕ, List, map, take, Option}
use Rattle.sk_formula.specs.Calls.{Sizes}
use Rattle.sk_tree.specs.declared.settings.Settings.{Settings}
use Rattle.sk_tree.specs.declared.tree.Skeleton.{Skeleton}

-- a container that a call reads: its store and its sizes
pub record Operand : Type 0 where
  pub store : ℕ
  pub shape : List ℕ

-- A call: its skeleton and settings, and all its operands in order. The first so many of them are read by elements or round
-- places, and those behind them are given whole. Of the result the sizes are told, where that is a container.
pub record SizedCall : Type 0 where
  pub skeleton : Skeleton
  pub settings : Settings
  pub elements : ℕ
  pub operands : List Operand
  pub result : Option (List ℕ)

abbrev pub stores_of : List Operand → List ℕ
stores_of operands = map (λ (operand : Operand). operand.store) operands

abbrev pub shapes_of : List Operand → List (List ℕ)
shapes_of operands = map (λ (operand : Operand). operand.shape) operands

-- the sizes by which the call is cut: of its result, and of the operands that are not given whole
abbrev pub sizes_of : SizedCall → Sizes
sizes_of call = record { result = call.result; operands = shapes_of (take call.elements call.operands) }
