-- What follows from the definition of bindings.
use Rattle.std.proofs.Common.{◌≡◌, ℕ, true, List, ◌∷◌, Some, refl}
use Rattle.sk_names.specs.Bytes.{same_bytes}
use Rattle.sk_names.specs.Bindings.{bound_to}
use Rattle.sk_names.specs.BytesLaws.{same_bytes-same}

-- a name is bound to the latest
pub bound_to-here : {X : Type 0} (name : List ℕ) (x : X) (earlier : List (List ℕ × X)) → bound_to name ((name, x) ∷ earlier) ≡ Some x
bound_to-here name x earlier = let same : same_bytes name name ≡ true = same_bytes-same name in rw same refl
