-- What a fault tells.
use Rattle.std.specs.Prelude.{ℕ}
use Rattle.sk_refusals.specs.declared.refusal.Refusal.{Refusal}
use Rattle.sk_refusals.specs.declared.refusal.Refusal.TheVariants as refusal
use Rattle.sk_reader.specs.declared.fault.ParseFault.{ParseFault}
use Rattle.sk_reader.specs.declared.fault.ParseFault.TheVariants.{Syntax, Deep, Many, Memory}

-- that this is wrong at that token; want of memory tells nothing
abbrev pub Tells : (IsWrongAt : Refusal → (token : ℕ) → Type 0) → ParseFault → Type 0
Tells IsWrongAt (Syntax token) = IsWrongAt refusal.Syntax token
Tells IsWrongAt (Deep token) = IsWrongAt refusal.Deep token
Tells IsWrongAt (Many what token) = IsWrongAt (refusal.Many what) token
Tells IsWrongAt Memory = Unit {0}

abbrev pub fault_of : Refusal → (token : ℕ) → ParseFault
fault_of refusal.Syntax token = Syntax token
fault_of refusal.Deep token = Deep token
fault_of (refusal.Many what) token = Many what token
