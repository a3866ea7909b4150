-- What each step of sound code keeps.
use Rattle.std.specs.Prelude.{◌≡◌, ℕ, suc, ◌<◌, ◌≤◌, List, length, map, ℤ, Some, Result, Ok, Err, Contains, IsSomeAnd, slice_get}
use Rattle.sk_base.specs.declared.number.Ty.{Ty}
use Rattle.sk_base.specs.declared.number.Trap.{Trap}
use Rattle.sk_base.specs.Arithmetic.{InRange}
use Rattle.sk_meaning.specs.Evaluation.{Value, kind_type}
use Rattle.sk_isa.specs.Coded.{Callee, Next, Point}
use Rattle.sk_isa.specs.Configurations.{Goes, Ends, Stuck}
use Rattle.sk_kernel.specs.Kernels.{AreOfTypes}
use Rattle.sk_isa.specs.Soundness.{SuitParams, Types, leads_to}
use Rattle.sk_isa.specs.declared.code.Instr.{Instr}
use Rattle.sk_isa.specs.declared.code.Instr.TheVariants.{Turn}
use Rattle.sk_isa.specs.declared.object.Signature.{Signature}

-- a trap, or a value of a type and no more turns than before
abbrev pub IsGiven : Ty → (turns : ℕ) → Result (ℤ × ℕ) Trap → Type 0
IsGiven ty turns (Ok done) = InRange ty done.0 × (done.1 ≤ turns)
IsGiven ty turns (Err trap) = Unit {0}

-- a function that takes the arguments of its signature, and gives values of its type
pub record IsSoundCallee (signature : Signature) (callee : Callee) : Type 0 where
  pub takes : callee.takes ≡ length signature.params
  pub gives : (values : List ℤ) (turns : ℕ) → SuitParams signature.params (map Value values)
      → IsGiven signature.ret turns (callee.call values turns)

-- the functions below a number, each with the signature of its number
pub record AreSoundCallees (signatures : List Signature) (function : ℕ) (callees : List Callee) : Type 0 where
  pub count : length callees ≡ function
  pub each : (callee : ℕ) (signature : Signature) → callee < function → slice_get signatures callee ≡ Some signature
      → IsSomeAnd (slice_get callees callee) (IsSoundCallee signature)

-- the stack has the types that are chosen for the address, and each slot a number of its type
pub record IsFinePoint (own : Signature) (chosen : Types) (point : Point) : Type 0 where
  pub types : List Ty
  pub there : chosen point.at ≡ Some types
  pub stack : AreOfTypes types point.stack
  pub slots : AreOfTypes (map kind_type own.slots) point.slots

-- a turn takes one of those that are left, and no instruction adds any
abbrev pub TakesTurns : Instr → (before behind : ℕ) → Type 0
TakesTurns Turn before behind = before ≡ suc behind
TakesTurns instr before behind = behind ≤ before

-- the run goes on from a fine point at an address to which the instruction leads
pub record IsFineStep (own : Signature) (chosen : Types) (instr : Instr) (before behind : Point) : Type 0 where
  pub point : IsFinePoint own chosen behind
  pub led : Contains (leads_to instr before.at) behind.at
  pub turns : TakesTurns instr before.kept behind.kept

-- an instruction is never stuck, and what it leads to is fine
abbrev pub IsFineNext : Signature → Types → Instr → (before : Point) → Next → Type 0
IsFineNext own chosen instr before (Goes behind) = IsFineStep own chosen instr before behind
IsFineNext own chosen instr before (Ends result) = IsGiven own.ret before.kept result
IsFineNext own chosen instr before Stuck = ⊥
