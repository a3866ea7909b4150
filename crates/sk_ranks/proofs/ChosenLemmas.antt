-- The marks of a phase say which act comes at a number.
use Rattle.std.proofs.Common.{◌≡◌, ◌∙◌, ap, subst, ℕ, ◌+◌, ◌<◌, List, length, map, arith}
use Rattle.std.specs.Prelude.{slice_get, Some}
use Rattle.std.proofs.lemmas.List.{length-map}
use Rattle.sk_ranks.specs.Numbers.{marked_from, numbers_where}
use Rattle.sk_ranks.specs.RankMachine.{can_send, can_deliver, can_run, enabled_of}
use Rattle.sk_ranks.specs.Kept.{phase_of, IsKept}
use Rattle.sk_ranks.specs.declared.phase.RankPhase.TheInside.{Inside}
use Rattle.sk_ranks.specs.declared.act.Act.TheVariants.{Send, Deliver, Run}
use Rattle.sk_ranks.proofs.MarkLemmas.{IsMarked-numbers}
use Rattle.sk_ranks.proofs.EnabledLemmas.{get-left, get-right, get-map, length-enabled, enabled-fits}

sends-are : (p : Inside) → IsKept p → marked_from 0 p.sends.ready ≡ numbers_where (can_send (phase_of p)) (length (phase_of p).messages)
sends-are p kept = IsMarked-numbers (can_send (phase_of p)) (length (phase_of p).messages) p.sends.ready kept.sends.ready

flights-are : (p : Inside) → IsKept p → marked_from 0 p.in_flight ≡ numbers_where (can_deliver (phase_of p)) (length (phase_of p).messages)
flights-are p kept = IsMarked-numbers (can_deliver (phase_of p)) (length (phase_of p).messages) p.in_flight kept.flights

runs-are : (p : Inside) → IsKept p → marked_from 0 p.runs.ready ≡ numbers_where (can_run (phase_of p)) (length (phase_of p).jobs)
runs-are p kept = IsMarked-numbers (can_run (phase_of p)) (length (phase_of p).jobs) p.runs.ready kept.runs.ready

-- how many acts may come
pub enabled-count : (p : Inside) → IsKept p → length (marked_from 0 p.sends.ready) + length (marked_from 0 p.in_flight) + length (marked_from 0 p.runs.ready) ≡ length (enabled_of (phase_of p))
enabled-count p kept =
    let s = ap (λ (xs : List ℕ). length xs) (sends-are p kept) in
    let f = ap (λ (xs : List ℕ). length xs) (flights-are p kept) in
    let r = ap (λ (xs : List ℕ). length xs) (runs-are p kept) in
    let all = length-enabled (phase_of p) in
    omega arith

pub enabled-bound : (p : Inside) → IsKept p → length (marked_from 0 p.sends.ready) + length (marked_from 0 p.in_flight) + length (marked_from 0 p.runs.ready) < 4294967296
enabled-bound p kept =
    let s = ap (λ (xs : List ℕ). length xs) (sends-are p kept) in
    let f = ap (λ (xs : List ℕ). length xs) (flights-are p kept) in
    let r = ap (λ (xs : List ℕ). length xs) (runs-are p kept) in
    let jobs : length (phase_of p).jobs ≡ length p.jobs.items = length-map p.jobs.items _ in
    let fits = enabled-fits (phase_of p) kept.few_messages (omega (arith, kept.few_jobs)) in
    omega (arith, fits.0, fits.1, kept.few_messages, kept.few_jobs)

pub chosen-send : (p : Inside) (k m : ℕ) → IsKept p → slice_get (marked_from 0 p.sends.ready) k ≡ Some m → slice_get (enabled_of (phase_of p)) k ≡ Some (Send m)
chosen-send p k m kept found =
    let here = subst (λ (ns : List ℕ). slice_get ns k ≡ Some m) (sends-are p kept) found in
    get-left (map Send (numbers_where (can_send (phase_of p)) (length (phase_of p).messages))) _ k (Send m) (get-map Send _ k m here)

pub chosen-deliver : (p : Inside) (k i m : ℕ) → IsKept p → k ≡ length (marked_from 0 p.sends.ready) + i → slice_get (marked_from 0 p.in_flight) i ≡ Some m → slice_get (enabled_of (phase_of p)) k ≡ Some (Deliver m)
chosen-deliver p k i m kept is found =
    let here = subst (λ (ns : List ℕ). slice_get ns i ≡ Some m) (flights-are p kept) found in
    let s = ap (λ (xs : List ℕ). length xs) (sends-are p kept) in
    let sends = numbers_where (can_send (phase_of p)) (length (phase_of p).messages) in
    let many = length-map sends Send in
    get-right (map Send sends) _ k i (omega arith)
    ∙ get-left (map Deliver (numbers_where (can_deliver (phase_of p)) (length (phase_of p).messages))) _ i (Deliver m) (get-map Deliver _ i m here)

pub chosen-run : (p : Inside) (k i j : ℕ) → IsKept p → k ≡ length (marked_from 0 p.sends.ready) + (length (marked_from 0 p.in_flight) + i) → slice_get (marked_from 0 p.runs.ready) i ≡ Some j → slice_get (enabled_of (phase_of p)) k ≡ Some (Run j)
chosen-run p k i j kept is found =
    let here = subst (λ (ns : List ℕ). slice_get ns i ≡ Some j) (runs-are p kept) found in
    let s = ap (λ (xs : List ℕ). length xs) (sends-are p kept) in
    let f = ap (λ (xs : List ℕ). length xs) (flights-are p kept) in
    let sends = numbers_where (can_send (phase_of p)) (length (phase_of p).messages) in
    let flights = numbers_where (can_deliver (phase_of p)) (length (phase_of p).messages) in
    let many = length-map sends Send in
    let others = length-map flights Deliver in
    get-right (map Send sends) _ k (length flights + i) (omega arith)
    ∙ get-right (map Deliver flights) _ (length flights + i) i (omega arith)
    ∙ get-map Run _ i j here
