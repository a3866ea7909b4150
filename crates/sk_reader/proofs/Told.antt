-- What the fault of a refusal at a token tells.
use Rattle.std.proofs.Common.{ℕ}
use Rattle.sk_refusals.specs.declared.refusal.Refusal.{Refusal}
use Rattle.sk_refusals.specs.declared.refusal.Refusal.TheVariants.{Syntax, Deep, Many}
use Rattle.sk_reader.specs.Tells.{Tells, fault_of}

pub tells : (IsWrongAt : Refusal → ℕ → Type 0) (refusal : Refusal) (token : ℕ) → IsWrongAt refusal token → Tells IsWrongAt (fault_of refusal token)
tells IsWrongAt Syntax token is = is
tells IsWrongAt Deep token is = is
tells IsWrongAt (Many what) token is = is
