-- What a phase keeps beside its machine: marks of the acts that may come, counts of what each job lacks, and who waits
-- for whom.
use Rattle.std.specs.Prelude.{◌≡◌, ℕ, ◌+◌, ◌^◌, ◌<◌, true, false, not, nat_eq, is_none, List, length, map, option_to_list, slice_index}
use Rattle.sk_ranks.specs.Numbers.{IsMarked, many}
use Rattle.sk_ranks.specs.Followers.{IsInverse}
use Rattle.sk_ranks.specs.RankMachine.{Phase, Needs, IsPlan, is_unsent, is_free, needs_at, after_at, needs_in, state_of, is_done, is_delivered, can_send, can_deliver, can_run}
use Rattle.sk_ranks.specs.declared.phase.RankPhase.TheInside.{Inside}
use Rattle.sk_ranks.specs.declared.plan.Message.{Message}
use Rattle.sk_ranks.specs.declared.sends.Sends.{Sends}
use Rattle.sk_ranks.specs.declared.runs.Runs.{Runs}

-- how many of the messages and jobs that a job waits for are still to come
abbrev pub unmet : Phase → ℕ → ℕ
unmet phase j =
    many (λ m. not (is_delivered (state_of phase m))) (needs_at phase.jobs j).messages +
    many (λ i. not (is_done phase i)) (needs_at phase.jobs j).after

pub record KeepsSends (phase : Phase) (sends : Sends) : Type 0 where
  pub ready : IsMarked (can_send phase) (length phase.messages) sends.ready
  pub count : length sends.after ≡ length phase.jobs
  pub after : IsInverse sends.after (λ m. option_to_list (after_at phase.messages m))

pub record KeepsRuns (phase : Phase) (runs : Runs) : Type 0 where
  pub ready : IsMarked (can_run phase) (length phase.jobs) runs.ready
  pub count : length runs.lacks.items ≡ length phase.jobs
  pub lacks : (j : ℕ) → j < length phase.jobs → slice_index runs.lacks.items j ≡ unmet phase j
  pub messages : length runs.with_message ≡ length phase.messages
  pub with_message : IsInverse runs.with_message (λ j. (needs_at phase.jobs j).messages)
  pub jobs : length runs.after_job ≡ length phase.jobs
  pub after_job : IsInverse runs.after_job (λ j. (needs_at phase.jobs j).after)

-- the sends before the first act: messages that wait for no job
pub record StartsSends (messages : List Message) (jobs : ℕ) (sends : Sends) : Type 0 where
  pub ready : IsMarked (λ m. is_none (after_at messages m)) (length messages) sends.ready
  pub count : length sends.after ≡ jobs
  pub after : IsInverse sends.after (λ m. option_to_list (after_at messages m))

-- the jobs before the first act: each lacks all that it waits for
abbrev pub lacking : Needs → ℕ
lacking needs = length needs.messages + length needs.after

pub record StartsRuns (jobs : List Needs) (messages : ℕ) (runs : Runs) : Type 0 where
  pub ready : IsMarked (λ j. nat_eq (lacking (needs_at jobs j)) 0) (length jobs) runs.ready
  pub lacks : runs.lacks.items ≡ map lacking jobs
  pub message_count : length runs.with_message ≡ messages
  pub with_message : IsInverse runs.with_message (λ j. (needs_at jobs j).messages)
  pub job_count : length runs.after_job ≡ length jobs
  pub after_job : IsInverse runs.after_job (λ j. (needs_at jobs j).after)

-- the machine
abbrev pub phase_of : Inside → Phase
phase_of inside = record {
  messages = inside.messages.items;
  jobs = map needs_in inside.jobs.items;
  states = inside.states.items;
  done = inside.done.items;
}

pub record IsKept (inside : Inside) : Type 0 where
  pub plan : IsPlan inside.messages.items (map needs_in inside.jobs.items)
  pub few_messages : length inside.messages.items < 2 ^ 31
  pub few_jobs : length inside.jobs.items < 2 ^ 31
  pub states : length inside.states.items ≡ length inside.messages.items
  pub done : length inside.done.items ≡ length inside.jobs.items
  pub sends : KeepsSends (phase_of inside) inside.sends
  pub flights : IsMarked (can_deliver (phase_of inside)) (length inside.messages.items) inside.in_flight
  pub runs : KeepsRuns (phase_of inside) inside.runs
  pub sent : (m : ℕ) → is_unsent (state_of (phase_of inside) m) ≡ false → is_free (phase_of inside) m ≡ true
  pub met : (j : ℕ) → is_done (phase_of inside) j ≡ true → unmet (phase_of inside) j ≡ 0
