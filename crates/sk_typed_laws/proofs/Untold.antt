-- Lists without faults, and where no fault is told of a name.
use Rattle.std.proofs.Common.{◌≡◌, Bool, true, false, List, [], ◌∷◌, ◌++◌, refl}
use Rattle.sk_typing.specs.declared.names.Fault.{Fault}
use Rattle.sk_typing.specs.declared.names.FaultKind.{FaultKind}
use Rattle.sk_typing.specs.TypingNames.{Around, unless}

pub no_faults : {A : Type 0} (xs ys : List A) → xs ++ ys ≡ [] → (xs ≡ []) × (ys ≡ [])
no_faults [] ys e = (refl, e)
no_faults (x ∷ xs) ys e = let no : ⊥ = cc in absurd no

-- a rule that is kept
pub unless_kept : (rule : Bool) (around : Around) (kind : FaultKind) → unless rule around kind ≡ [] → rule ≡ true
unless_kept true around kind e = refl
unless_kept false around kind e = let no : ⊥ = cc in absurd no

-- what stands behind other faults, where there are none of those
pub past : (others used : List Fault) → elim others as (λ _. List Fault) [ [] ↦ used | other ∷ more ↦ other ∷ more ] ≡ [] → used ≡ []
past [] used e = e
past (other ∷ more) used e = let no : ⊥ = cc in absurd no
