-- What main's run tells of itself, one event after another.
use Rattle.std.specs.Prelude.{ℕ, Bool, List, ℤ, Option}
use Rattle.sk_tree.specs.declared.settings.Settings.{Settings}

-- a call of an instance: the line of its statement, the instance's number, the numbers of the containers that it is given in
-- order, and the uniform arguments, each of its parameter's type
pub record CallOf : Type 0 where
  pub line : ℕ
  pub instance : ℕ
  pub operands : List ℕ
  pub uniforms : List ℤ

pub data Event : Type 0 where
  -- a container was declared with these sizes and this cell everywhere
  Made : (container : ℕ) → (sizes : List ℕ) → (fill : ℤ) → Event
  -- a container took an input
  Taken : (container : ℕ) → (sizes : List ℕ) → (cells : List ℤ) → Event
  -- a Map with a safe function was called for a result, and passed its shape test
  Mapped : CallOf → (result : ℕ) → Event
  -- any other call passed its shape and emptiness tests; it may then have trapped
  Ran : CallOf → Settings → (result : Option ℕ) → (trapped : Bool) → Event
  -- an element was read, or written, inside its container
  Read : (container : ℕ) → (index : ℕ) → Event
  Poked : (container : ℕ) → (index : ℕ) → (cell : ℤ) → Event
  -- a container went out of scope at the end of a block inside main's outermost block
  Left : (container : ℕ) → Event
  -- the final containers were asked for
  Dumped : Event
