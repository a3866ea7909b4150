-- What traces of an object lead to, and whether they agree with its functions.
use Rattle.std.specs.Prelude.{◌≡◌, ℕ, ◌-◌, List, [], ◌∷◌, ℤ, pos, true, Option, Some, None, Result, Ok, Err, slice_index_or, ⊤}
use Rattle.sk_formula.specs.Elements.{TrapAt}
use Rattle.sk_isa.specs.declared.object.Object.{Object}
use Rattle.sk_legality.specs.KernelLines.{KernelLine, first_written}
use Rattle.sk_legality.specs.KernelValues.{values_of}
use Rattle.sk_legality.specs.Legality.{kernel_line, after_giving}
use Rattle.sk_spaces.specs.Machine.{Machine, start, owner, is_copy_of}
use Rattle.sk_spaces.specs.Rules.{after_by, after_all_by}
use Rattle.sk_spaces.specs.declared.step.Step.{Step}

-- the cells that a kernel gives
abbrev pub cells_given : Option (Result (List ℤ) TrapAt) → List ℤ
cells_given (Some (Ok cells)) = cells
cells_given (Some (Err trapped)) = []
cells_given None = []

-- the element at which a kernel traps
abbrev pub element_trapped : Option (Result (List ℤ) TrapAt) → Option ℕ
element_trapped (Some (Ok cells)) = None
element_trapped (Some (Err trapped)) = Some trapped.element
element_trapped None = None

-- the cells that the kernel of a line has for those that it reads, by index
abbrev pub results_of : Object → Machine → KernelLine → ℕ → ℤ
results_of object m line i = slice_index_or (cells_given (values_of object m line)) (i - first_written line) (pos 0)

-- what the line of a kernel does
abbrev pub after_kernel : Object → Machine → Step → Machine
after_kernel object = after_giving (results_of object)

-- the memories after the steps of a trace, beginning with empty ones
abbrev pub replayed : Object → List Step → Machine
replayed object = after_all_by (after_kernel object) start

-- a kernel's line tells of a trap exactly where the kernel traps, and then its element
abbrev pub AgreesHere : Object → Machine → Step → Type 0
AgreesHere object m step = elim (kernel_line step) [
  | Some line ↦ line.trapped ≡ element_trapped (values_of object m line)
  | None ↦ ⊤
]

abbrev pub AgreeFrom : Object → Machine → List Step → Type 0
AgreeFrom object m [] = ⊤
AgreeFrom object m (step ∷ steps) = AgreesHere object m step × AgreeFrom object (after_by (after_kernel object) m step) steps

-- the lines of all kernels of a trace do so, one after another
abbrev pub Agrees : Object → List Step → Type 0
Agrees object = AgreeFrom object start

-- a copy of the store owns the index and has this cell there
pub record IsOwned (m : Machine) (store index : ℕ) (cell : ℤ) (copy : ℕ) : Type 0 where
  pub there : is_copy_of store (m.copies copy) ≡ true
  pub owns : m.marks copy index ≡ owner
  pub held : m.cells copy index ≡ cell

-- the cell of a store at an index after a trace that is legal and agrees: that of the owner
abbrev pub IsCell : Object → List Step → (store index : ℕ) → (cell : ℤ) → Type 0
IsCell object trace store index cell = (copy : ℕ) × IsOwned (replayed object trace) store index cell copy
