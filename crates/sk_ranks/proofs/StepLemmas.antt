-- Each act that may come is one step of those that are left.
use Rattle.std.proofs.Common.{◌≡◌, ℕ, zero, suc, ◌+◌, ◌*◌, Bool, true, false, not, List, [], ◌∷◌, length, get_or, set, replicate, refl, arith}
use Rattle.std.proofs.lemmas.Bool.{false≢true, true≢false, and_parts, not-true}
use Rattle.sk_ranks.specs.RankMachine.{Phase, message_steps, job_steps, steps_left, state_of, is_done, is_unsent, is_in_flight, is_free, IsEnabled, performed, start_of, Needs}
use Rattle.sk_ranks.specs.declared.act.Act.{Act}
use Rattle.sk_ranks.specs.declared.act.Act.TheVariants.{Send, Deliver, Run}
use Rattle.sk_ranks.specs.declared.plan.Message.{Message}
use Rattle.sk_ranks.specs.declared.act.MessageState.{MessageState}
use Rattle.sk_ranks.specs.declared.act.MessageState.TheVariants.{Unsent, InFlight, Delivered}

sent-step : (states : List MessageState) (m : ℕ) → is_unsent (get_or states m Delivered) ≡ true → message_steps states ≡ message_steps (set states m InFlight) + 1
sent-step [] m is = absurd (false≢true is)
sent-step (Unsent ∷ states) zero is = omega arith
sent-step (InFlight ∷ states) zero is = absurd (false≢true is)
sent-step (Delivered ∷ states) zero is = absurd (false≢true is)
sent-step (Unsent ∷ states) (suc m) is = let rest = sent-step states m is in omega arith
sent-step (InFlight ∷ states) (suc m) is = let rest = sent-step states m is in omega arith
sent-step (Delivered ∷ states) (suc m) is = sent-step states m is

delivered-step : (states : List MessageState) (m : ℕ) → is_in_flight (get_or states m Delivered) ≡ true → message_steps states ≡ message_steps (set states m Delivered) + 1
delivered-step [] m is = absurd (false≢true is)
delivered-step (Unsent ∷ states) zero is = absurd (false≢true is)
delivered-step (InFlight ∷ states) zero is = omega arith
delivered-step (Delivered ∷ states) zero is = absurd (false≢true is)
delivered-step (Unsent ∷ states) (suc m) is = let rest = delivered-step states m is in omega arith
delivered-step (InFlight ∷ states) (suc m) is = let rest = delivered-step states m is in omega arith
delivered-step (Delivered ∷ states) (suc m) is = delivered-step states m is

run-step : (done : List Bool) (j : ℕ) → get_or done j true ≡ false → job_steps done ≡ job_steps (set done j true) + 1
run-step [] j is = absurd (true≢false is)
run-step (true ∷ done) zero is = absurd (true≢false is)
run-step (false ∷ done) zero is = omega arith
run-step (true ∷ done) (suc j) is = run-step done j is
run-step (false ∷ done) (suc j) is = let rest = run-step done j is in omega arith

-- an act that may come is one step
pub performed-step : (phase : Phase) (act : Act) → IsEnabled phase act → steps_left phase ≡ steps_left (performed act phase) + 1
performed-step phase (Send m) can =
    let step = sent-step phase.states m (and_parts (is_unsent (state_of phase m)) (is_free phase m) can.1).0 in omega arith
performed-step phase (Deliver m) can = let step = delivered-step phase.states m can.1 in omega arith
performed-step phase (Run j) can =
    let step = run-step phase.done j (not-true (is_done phase j) (and_parts (not (is_done phase j)) _ can.1).0) in omega arith

pub unsent-steps : (n : ℕ) → message_steps (replicate n Unsent) ≡ 2 * n
unsent-steps zero = refl
unsent-steps (suc n) = let rest = unsent-steps n in omega arith

pub waiting-steps : (n : ℕ) → job_steps (replicate n false) ≡ n
waiting-steps zero = refl
waiting-steps (suc n) = let rest = waiting-steps n in omega arith

-- a whole run has two steps a message and one a job
pub start-steps : (messages : List Message) (jobs : List Needs) → steps_left (start_of messages jobs) ≡ 2 * length messages + length jobs
start-steps messages jobs =
    let sends = unsent-steps (length messages) in
    let runs = waiting-steps (length jobs) in
    omega arith
