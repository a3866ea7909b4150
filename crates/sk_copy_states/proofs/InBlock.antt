-- What is not stale is in the block.
use Rattle.std.proofs.Common.{◌≡◌, ◌≢◌, ℕ, ◌-◌, ◌<◌, ◌≤◌, List, length, Bool, true, false, nat_lt, arith, ⊎_elim, refl}
use Rattle.std.proofs.lemmas.Bool.{cases_lt}
use Rattle.std.proofs.lemmas.Grind.{common_steps}
use Rattle.sk_ranges.specs.declared.state.State.{State}
use Rattle.sk_ranges.specs.declared.state.State.TheVariants.{Stale}
use Rattle.sk_ranges.specs.States.{state_at}
use Rattle.sk_copy_states.specs.declared.held.Held.{Held}
use Rattle.sk_copy_states.specs.Held.{IsFit, state_of}

past_end : (states : List State) (k : ℕ) → length states ≤ k → state_at states k ≡ Stale
past_end states k above = grind (arith, common_steps)

below_block : (held : Held) (i : ℕ) (t : Bool) → nat_lt i held.lo ≡ t → i < held.lo → state_of held i ≡ Stale
below_block held i true is below = rw is refl
below_block held i false is below = let out : held.lo ≤ i = grind (arith, is) in absurd (omega (arith, out, below))

above_block : (held : Held) (i : ℕ) (t : Bool) → nat_lt i held.lo ≡ t → IsFit held → held.hi ≤ i → state_of held i ≡ Stale
above_block held i true is fit above = rw is refl
above_block held i false is fit above = rw is (past_end held.states.states (i - held.lo) (omega (arith, fit.states, above)))

pub in_block : (held : Held) (i : ℕ) → IsFit held → state_of held i ≢ Stale → (held.lo ≤ i) × (i < held.hi)
in_block held i fit readable = (
  ⊎_elim (λ (x : i < held.lo). absurd (readable (below_block held i (nat_lt i held.lo) refl x))) (λ (x : held.lo ≤ i). x) (cases_lt i held.lo),
  ⊎_elim (λ (x : i < held.hi). x) (λ (x : held.hi ≤ i). absurd (readable (above_block held i (nat_lt i held.lo) refl fit x))) (cases_lt i held.hi),
)
