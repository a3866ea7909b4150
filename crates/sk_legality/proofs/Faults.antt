-- A trace is legal or has one first step that is not, and not both.
use Rattle.std.proofs.Common.{◌≡◌, ◌-◌, ℕ, zero, suc, List, [], ◌∷◌, take, slice_get, IsSomeAnd, refl, ap, arith}
use Rattle.sk_isa.specs.declared.object.Object.{Object}
use Rattle.sk_legality.specs.Legality.{IsIllegalAt, IsJudged, IsLegal, IsLegalStep, after_states}
use Rattle.sk_spaces.specs.Machine.{Machine, start}
use Rattle.sk_spaces.specs.Rules.{AreLegalBy, after_all_by, after_by}
use Rattle.sk_spaces.specs.declared.step.Step.{Step}

module _ (object : Object) where
  -- the steps are legal one after another from here
  abbrev AreLegalFrom : Machine → List Step → Type 0
  AreLegalFrom = AreLegalBy (IsJudged object) after_states

  -- the step behind so many others is not legal
  abbrev IsFault : Machine → List Step → (before : ℕ) → Type 0
  IsFault m trace before =
      IsSomeAnd (slice_get trace before) (λ step. IsLegalStep object (after_all_by after_states m (take before trace)) step → ⊥)

  none-in-legal : (trace : List Step) (m : Machine) (before : ℕ) → AreLegalFrom m trace → IsFault m trace before → ⊥
  none-in-legal [] m before legal fault = fault
  none-in-legal (step ∷ steps) m zero legal fault = fault legal.0
  none-in-legal (step ∷ steps) m (suc before) legal fault = none-in-legal steps (after_by after_states m step) before legal.1 fault

  first-is-one : (trace : List Step) (m : Machine) (one other : ℕ)
      → AreLegalFrom m (take one trace) → IsFault m trace one → AreLegalFrom m (take other trace) → IsFault m trace other → one ≡ other
  first-is-one [] m one other legal fault legal-too fault-too = absurd fault
  first-is-one (step ∷ steps) m zero zero legal fault legal-too fault-too = refl
  first-is-one (step ∷ steps) m zero (suc other) legal fault legal-too fault-too = absurd (fault legal-too.0)
  first-is-one (step ∷ steps) m (suc one) zero legal fault legal-too fault-too = absurd (fault-too legal.0)
  first-is-one (step ∷ steps) m (suc one) (suc other) legal fault legal-too fault-too =
      ap suc (first-is-one steps (after_by after_states m step) one other legal.1 fault legal-too.1 fault-too)

  pub legal-has-no-fault : (trace : List Step) (number : ℕ) → IsLegal object trace → IsIllegalAt object trace number → ⊥
  legal-has-no-fault trace number legal fault = none-in-legal trace start (number - 1) legal fault.here

  pub one-first-fault : (trace : List Step) (one other : ℕ) → IsIllegalAt object trace one → IsIllegalAt object trace other → one ≡ other
  one-first-fault trace one other fault fault-too =
      let same : one - 1 ≡ other - 1 = first-is-one trace start (one - 1) (other - 1) fault.before fault.here fault-too.before fault-too.here in
      omega (arith, same, fault.counted, fault-too.counted)
