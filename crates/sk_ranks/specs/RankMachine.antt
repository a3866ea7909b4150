-- The machine of one phase: its messages and jobs, what has come of them so far, and which acts may come next.
use Rattle.std.specs.Prelude.{◌≡◌, ℕ, ◌+◌, ◌<◌, Bool, true, false, not, ◌&&◌, List, [], ◌∷◌, ◌++◌, length, map, replicate, All, Option, IfSome, option_and_then, slice_get, slice_index_or, slice_set}
use Rattle.std.specs.List.{list_all}
use Rattle.std.specs.Option.{option_map_or}
use Rattle.sk_ranks.specs.Numbers.{numbers_where}
use Rattle.sk_ranks.specs.declared.plan.Message.{Message}
use Rattle.sk_ranks.specs.declared.plan.Job.{Job}
use Rattle.sk_ranks.specs.declared.act.Act.{Act}
use Rattle.sk_ranks.specs.declared.act.Act.TheVariants.{Send, Deliver, Run}
use Rattle.sk_ranks.specs.declared.act.MessageState.{MessageState}
use Rattle.sk_ranks.specs.declared.act.MessageState.TheVariants.{Unsent, InFlight, Delivered}

-- what a job waits for: that these messages are delivered, and these jobs done
pub record Needs : Type 0 where
  pub messages : List ℕ
  pub after : List ℕ

-- what a job of the program waits for
abbrev pub needs_in : Job → Needs
needs_in job = record { messages = job.messages.items; after = job.after.items }

-- the messages and jobs by number, the state of each message, and whether each job is done
pub record Phase : Type 0 where
  pub messages : List Message
  pub jobs : List Needs
  pub states : List MessageState
  pub done : List Bool

-- the job that a message waits for, if there is one
abbrev pub after_at : List Message → ℕ → Option ℕ
after_at messages m = option_and_then (λ message. message.after) (slice_get messages m)

-- what a job waits for; a number past the end stands for a job that waits for nothing
abbrev pub needs_at : List Needs → ℕ → Needs
needs_at jobs j = slice_index_or jobs j (record { messages = []; after = [] })

-- every number names a message or a job of the phase; a job waits for earlier jobs alone, and each of its messages waits
-- for no job or for a job before it
pub record IsPlan (messages : List Message) (jobs : List Needs) : Type 0 where
  pub sender : (m : ℕ) → IfSome (after_at messages m) (λ j. j < length jobs)
  pub named : (j : ℕ) → All (λ m. m < length messages) (needs_at jobs j).messages
  pub earlier : (j : ℕ) → All (λ i. i < j) (needs_at jobs j).after
  pub ordered : (j : ℕ) → All (λ m. IfSome (after_at messages m) (λ i. i < j)) (needs_at jobs j).messages

-- the state of a message, and whether a job is done
abbrev pub state_of : Phase → ℕ → MessageState
state_of phase m = slice_index_or phase.states m Delivered

abbrev pub is_done : Phase → ℕ → Bool
is_done phase j = slice_index_or phase.done j true

abbrev pub is_unsent : MessageState → Bool
is_unsent Unsent = true
is_unsent InFlight = false
is_unsent Delivered = false

abbrev pub is_in_flight : MessageState → Bool
is_in_flight Unsent = false
is_in_flight InFlight = true
is_in_flight Delivered = false

abbrev pub is_delivered : MessageState → Bool
is_delivered Unsent = false
is_delivered InFlight = false
is_delivered Delivered = true

-- the job that a message waits for is done, or there is none
abbrev pub is_free : Phase → ℕ → Bool
is_free phase m = option_map_or (is_done phase) (after_at phase.messages m) true

-- a message may be sent where it is unsent and the job that it waits for is done, if there is one
abbrev pub can_send : Phase → ℕ → Bool
can_send phase m = is_unsent (state_of phase m) && is_free phase m

-- a message may be delivered where it is in flight
abbrev pub can_deliver : Phase → ℕ → Bool
can_deliver phase m = is_in_flight (state_of phase m)

-- a job may run where it waits, all its messages are delivered and all jobs that it comes after are done
abbrev pub can_run : Phase → ℕ → Bool
can_run phase j =
    not (is_done phase j) &&
    (list_all (λ m. is_delivered (state_of phase m)) (needs_at phase.jobs j).messages &&
    list_all (is_done phase) (needs_at phase.jobs j).after)

-- the acts that may come next: sends, then deliveries, then jobs, each by number
abbrev pub enabled_of : Phase → List Act
enabled_of phase =
    map Send (numbers_where (can_send phase) (length phase.messages)) ++
    (map Deliver (numbers_where (can_deliver phase) (length phase.messages)) ++
    map Run (numbers_where (can_run phase) (length phase.jobs)))

-- an act may come next
abbrev pub IsEnabled : Phase → Act → Type 0
IsEnabled phase (Send m) = (m < length phase.messages) × (can_send phase m ≡ true)
IsEnabled phase (Deliver m) = (m < length phase.messages) × (can_deliver phase m ≡ true)
IsEnabled phase (Run j) = (j < length phase.jobs) × (can_run phase j ≡ true)

-- the phase after an act
abbrev pub performed : Act → Phase → Phase
performed (Send m) phase = record phase { states = slice_set phase.states m InFlight }
performed (Deliver m) phase = record phase { states = slice_set phase.states m Delivered }
performed (Run j) phase = record phase { done = slice_set phase.done j true }

-- a run of the acts of a list, each of which may come when it comes, from a phase to the one behind them
abbrev pub IsRun : Phase → List Act → Phase → Type 0
IsRun phase [] behind = phase ≡ behind
IsRun phase (act ∷ acts) behind = IsEnabled phase act × IsRun (performed act phase) acts behind

-- every message is delivered and every job done
pub record IsFinished (phase : Phase) : Type 0 where
  pub messages : (m : ℕ) → m < length phase.messages → state_of phase m ≡ Delivered
  pub jobs : (j : ℕ) → j < length phase.jobs → is_done phase j ≡ true

-- the phase before its first act
abbrev pub start_of : List Message → List Needs → Phase
start_of messages jobs = record {
  messages = messages;
  jobs = jobs;
  states = replicate (length messages) Unsent;
  done = replicate (length jobs) false;
}

-- the steps still to come: two for a message that is unsent, one for one in flight, one for a job that waits
abbrev pub message_steps : List MessageState → ℕ
message_steps [] = 0
message_steps (Unsent ∷ states) = 2 + message_steps states
message_steps (InFlight ∷ states) = 1 + message_steps states
message_steps (Delivered ∷ states) = message_steps states

abbrev pub job_steps : List Bool → ℕ
job_steps [] = 0
job_steps (true ∷ done) = job_steps done
job_steps (false ∷ done) = 1 + job_steps done

abbrev pub steps_left : Phase → ℕ
steps_left phase = message_steps phase.states + job_steps phase.done
