-- Whether messages and jobs can be a phase, looked at one after another.
use Rattle.std.proofs.Common.{◌≡◌, ◌∙◌, ap, sym, subst, ℕ, zero, suc, ◌+◌, ◌<◌, ◌≤◌, List, [], ◌∷◌, length, get_or, map, arith, inl, inr}
use Rattle.std.specs.Prelude.{Option, All, IfSome, option_and_then}
use Rattle.std.proofs.lemmas.Bool.{cases_lt}
use Rattle.std.proofs.lemmas.List.{length-map, get_or-map, get_or_past}
use Rattle.sk_ranks.specs.RankMachine.{needs_in, needs_at, after_at, IsPlan}
use Rattle.sk_ranks.specs.Order.{IsOrdered}
use Rattle.sk_ranks.specs.declared.plan.Message.{Message}
use Rattle.sk_ranks.specs.declared.plan.Job.{Job}
use Rattle.sk_ranks.proofs.BuildLemmas.{get-inside}

-- and of the first few
pub record AreOrdered (messages : List Message) (jobs : List Job) (n : ℕ) : Type 0 where
  pub each : (j : ℕ) → j < n → IsOrdered messages j (needs_at (map needs_in jobs) j)

pub needs-are : (jobs : List Job) (i : ℕ) (job : Job) → i < length jobs → job ≡ get_or jobs i job → needs_at (map needs_in jobs) i ≡ needs_in job
needs-are jobs i job inside read = get_or-map needs_in jobs i job (record { messages = []; after = [] }) inside ∙ ap needs_in (sym read)

pub AreOrdered-none : (messages : List Message) (jobs : List Job) → AreOrdered messages jobs 0
AreOrdered-none messages jobs = record { each = λ j low. absurd (omega arith) }

pub AreOrdered-more : (messages : List Message) (jobs : List Job) (n : ℕ) (job : Job) → AreOrdered messages jobs n → n < length jobs → job ≡ get_or jobs n job → IsOrdered messages n (needs_in job) → AreOrdered messages jobs (n + 1)
AreOrdered-more messages jobs n job ordered inside read one = record {
  each = λ j low. elim (cases_lt j n) [
    | inl below ↦ ordered.each j below
    | inr above ↦
        let here : IsOrdered messages n (needs_at (map needs_in jobs) n) =
        subst (IsOrdered messages n) (sym (needs-are jobs n job inside read)) one in
        let same : n ≡ j = omega arith in
        subst (λ (k : ℕ). IsOrdered messages k (needs_at (map needs_in jobs) k)) same here
  ];
}

sender-if : (messages : List Message) (n m : ℕ) → All (λ message. IfSome message.after (λ j. j < n)) messages → IfSome (after_at messages m) (λ j. j < n)
sender-if [] n m all = tt
sender-if (x ∷ messages) n zero all = all 0 x (omega arith)
sender-if (x ∷ messages) n (suc m) all = sender-if messages n m (λ k d inside. all (suc k) d (omega arith))

-- all of them are a plan
pub AreOrdered-plan : (messages : List Message) (jobs : List Job) (n : ℕ) → All (λ message. IfSome message.after (λ j. j < length jobs)) messages → AreOrdered messages jobs n → length jobs ≤ n → IsPlan messages (map needs_in jobs)
AreOrdered-plan messages jobs n senders ordered all =
    let count : length (map needs_in jobs) ≡ length jobs = length-map jobs needs_in in
    let each : (j : ℕ) → IsOrdered messages j (needs_at (map needs_in jobs) j) =
    λ j. elim (cases_lt j n) [
      | inl below ↦ ordered.each j below
      | inr above ↦ subst (IsOrdered messages j) (sym (get_or_past (map needs_in jobs) j (record { messages = []; after = [] }) (omega arith)))
          (record { after = λ k d inside. absurd (omega arith); before = λ k d inside. absurd (omega arith) })
    ] in
    record {
      sender = λ m. subst (λ (k : ℕ). IfSome (after_at messages m) (λ j. j < k)) (sym count) (sender-if messages (length jobs) m senders);
      named = λ j k d inside. ((each j).before k d inside).0;
      earlier = λ j. (each j).after;
      ordered = λ j k d inside. ((each j).before k d inside).1;
    }

-- and a plan is so
pub plan-senders : (messages : List Message) (jobs : List Job) → IsPlan messages (map needs_in jobs) → All (λ message. IfSome message.after (λ j. j < length jobs)) messages
plan-senders messages jobs plan = λ k d inside.
    let count : length (map needs_in jobs) ≡ length jobs = length-map jobs needs_in in
    let found : after_at messages k ≡ (get_or messages k d).after = ap (λ (f : Option Message). option_and_then (λ x. x.after) f) (get-inside messages k d inside) in
    subst (λ (n : ℕ). IfSome ((get_or messages k d).after) (λ j. j < n)) count (subst (λ (after : Option ℕ). IfSome after (λ j. j < length (map needs_in jobs))) found (plan.sender k))

pub plan-ordered : (messages : List Message) (jobs : List Job) (n : ℕ) (job : Job) → IsPlan messages (map needs_in jobs) → n < length jobs → job ≡ get_or jobs n job → IsOrdered messages n (needs_in job)
plan-ordered messages jobs n job plan inside read =
    subst (IsOrdered messages n) (needs-are jobs n job inside read)
    (record { after = plan.earlier n; before = λ k d within. (plan.named n k d within, plan.ordered n k d within) })
