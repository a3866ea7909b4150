-- Objects whose marks are true.
use Rattle.std.specs.Prelude.{◌≡◌, ℕ, true, All}
use Rattle.sk_base.specs.declared.choice.Variant.{Variant}
use Rattle.sk_isa.specs.Objects.{is_marked}
use Rattle.sk_isa.specs.Offers.{offers}
use Rattle.sk_isa.specs.SoundObjects.{IsSafe}
use Rattle.sk_isa.specs.declared.object.Object.{Object}
use Rattle.sk_isa.specs.declared.object.Plan.{Plan}
use Rattle.sk_main_scheme.specs.Objects.{StandsFor, unmarked_of, object_of}
use Rattle.sk_tree.specs.declared.tree.Program.{Program}

-- each plan is run by variants that the object's own marks offer
abbrev pub AreOffered : Object → Type 0
AreOffered object = All (λ (plan : Plan). All (λ (variant : Variant). offers object plan variant ≡ true) plan.variants) object.instances

-- a function that is marked safe never traps
abbrev pub MarksAreSafe : Object → Type 0
MarksAreSafe object = (function : ℕ) → is_marked object function ≡ true → IsSafe object function

-- A function that is marked safe never traps, and no plan has a variant that the object's marks do not offer.
pub record HasTrueMarks (object : Object) : Type 0 where
  pub safe : MarksAreSafe object
  pub offered : AreOffered object

-- the object without marks, whose plans are run sequentially alone
abbrev pub BareMarksAreTrue : Type 0
BareMarksAreTrue = (program : Program) → HasTrueMarks (unmarked_of (object_of program))

-- an object that stands for a program whose own object has true marks
abbrev pub StandingMarksAreSafe : Type 0
StandingMarksAreSafe = (program : Program) (object : Object) → StandsFor object program → MarksAreSafe (object_of program) → MarksAreSafe object
