-- Look-ups of names in lists of bindings, the latest first.
use Rattle.std.proofs.Common.{◌≡◌, ℕ, List, ◌∷◌, map, Some, sym, ap, ◌∙◌}
use Rattle.std.specs.Prelude.{if◌then◌else◌, Bool}
use Rattle.sk_names.specs.Bindings.{bound_to}
use Rattle.sk_names.specs.Bytes.{same_bytes}
use Rattle.sk_scheme.specs.Scheme.{Slot}
use Rattle.sk_plain.specs.Plain.{NamedKinds}

module _ {X : Type 0} where
  -- at a binding by its parts
  pub bound_to-here : (name : List ℕ) (n : List ℕ) (p : List ℕ × X) (earlier : List (List ℕ × X)) (b : Bool) → n ≡ p.0 → same_bytes n name ≡ b
      → bound_to name (p ∷ earlier) ≡ (if b then Some p.1 else bound_to name earlier)
  bound_to-here name n p earlier b e s =
      ap (λ c. if c then Some p.1 else bound_to name earlier) (ap (λ (m : List ℕ). same_bytes m name) (sym e) ∙ s)

-- the names in scope with their kinds
abbrev pub names_of : List (List ℕ × Slot) → NamedKinds
names_of scope = map (λ binding. (binding.0, binding.1.kind)) scope
