-- States, and stores of copies, told apart.
use Rattle.std.proofs.Common.{◌≡◌, ◌≢◌, ℕ, Option, Some, None, ⊎_elim, refl, inl, inr, sym, subst, ap, ◌⊎◌}
use Rattle.std.proofs.lemmas.Bool.{cases_eq}
use Rattle.sk_ranges.specs.declared.state.State.{State}
use Rattle.sk_ranges.specs.declared.state.State.TheVariants.{Stale, Valid, Owner}

abbrev pub IsStale : State → Type 0
IsStale Stale = Unit {0}
IsStale Valid = ⊥
IsStale Owner = ⊥

pub stale_not_owner : Stale ≡ Owner → ⊥
stale_not_owner e = subst IsStale e tt

abbrev IsValid : State → Type 0
IsValid Stale = ⊥
IsValid Valid = Unit {0}
IsValid Owner = ⊥

pub valid_not_owner : Valid ≡ Owner → ⊥
valid_not_owner e = subst IsValid e tt

pub owner_not_stale : Owner ≡ Stale → ⊥
owner_not_stale e = stale_not_owner (sym e)

pub valid_not_stale : Valid ≡ Stale → ⊥
valid_not_stale e = subst IsValid e tt

abbrev pub IsThere : Option ℕ → Type 0
IsThere None = ⊥
IsThere (Some x) = Unit {0}

abbrev number_in : Option ℕ → ℕ
number_in None = 0
number_in (Some x) = x

pub same_store : (a b : Option ℕ) → (a ≡ b) ⊎ (a ≢ b)
same_store None None = inl refl
same_store None (Some y) = inr (λ e. subst IsThere (sym e) tt)
same_store (Some x) None = inr (λ e. subst IsThere e tt)
same_store (Some x) (Some y) = ⊎_elim (λ (e : x ≡ y). inl (ap Some e)) (λ (ne : x ≢ y). inr (λ e. ne (ap number_in e))) (cases_eq x y)
