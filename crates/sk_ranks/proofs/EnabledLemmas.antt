-- Which act comes at a number, how many may come, and that there is one unless the phase is finished.
use Rattle.std.proofs.Common.{◌≡◌, ◌∙◌, ap, sym, subst, ℕ, zero, suc, ◌+◌, ◌^◌, ◌<◌, ◌≤◌, Bool, true, false, not, ◌&&◌, cond, List, [], ◌∷◌, ◌++◌, length, map, get_or, refl, arith, zero-add}
use Rattle.std.specs.Prelude.{slice_get, Some, None, Option, filter, IfSome}
use Rattle.std.specs.Option.{option_map_or}
use Rattle.std.specs.List.{range_with_len, list_all}
use Rattle.std.proofs.lemmas.Bool.{and_from, false≢true, true≢false}
use Rattle.std.proofs.lemmas.List.{length-append, length-map}
use Rattle.std.proofs.lemmas.List.FromFn.{length-range_with_len}
use Rattle.sk_ranks.specs.Numbers.{numbers_where}
use Rattle.sk_ranks.specs.RankMachine.{Phase, IsPlan, Needs, after_at, needs_at, state_of, is_done, is_unsent, is_in_flight, is_delivered, is_free, can_send, can_deliver, can_run, enabled_of, IsEnabled, IsFinished}
use Rattle.sk_ranks.specs.declared.act.Act.{Act}
use Rattle.sk_ranks.specs.declared.act.Act.TheVariants.{Send, Deliver, Run}
use Rattle.sk_ranks.specs.declared.act.MessageState.{MessageState}
use Rattle.sk_ranks.specs.declared.act.MessageState.TheVariants.{Unsent, InFlight, Delivered}

pub get-left : {X : Type 0} (xs ys : List X) (k : ℕ) (x : X) → slice_get xs k ≡ Some x → slice_get (xs ++ ys) k ≡ Some x
get-left [] ys k x is = absurd cc
get-left (y ∷ xs) ys zero x is = is
get-left (y ∷ xs) ys (suc k) x is = get-left xs ys k x is

pub get-right : {X : Type 0} (xs ys : List X) (k i : ℕ) → k ≡ length xs + i → slice_get (xs ++ ys) k ≡ slice_get ys i
get-right [] ys k i is = ap (slice_get ys) (omega arith)
get-right (y ∷ xs) ys zero i is = absurd (omega arith)
get-right (y ∷ xs) ys (suc k) i is = get-right xs ys k i (omega arith)

pub get-map : {X Y : Type 0} (f : X → Y) (xs : List X) (k : ℕ) (x : X) → slice_get xs k ≡ Some x → slice_get (map f xs) k ≡ Some (f x)
get-map f [] k x is = absurd cc
get-map f (y ∷ xs) zero x is = cc
get-map f (y ∷ xs) (suc k) x is = get-map f xs k x is

-- the number of acts
pub length-enabled : (phase : Phase) → length (enabled_of phase) ≡ length (numbers_where (can_send phase) (length phase.messages)) + (length (numbers_where (can_deliver phase) (length phase.messages)) + length (numbers_where (can_run phase) (length phase.jobs)))
length-enabled phase =
    let sends = numbers_where (can_send phase) (length phase.messages) in
    let deliveries = numbers_where (can_deliver phase) (length phase.messages) in
    let runs = numbers_where (can_run phase) (length phase.jobs) in
    let all = length-append (map Send sends) (map Deliver deliveries ++ map Run runs) in
    let last = length-append (map Deliver deliveries) (map Run runs) in
    let s = length-map sends Send in
    let d = length-map deliveries Deliver in
    let r = length-map runs Run in
    omega arith

filter-le : (p : ℕ → Bool) (xs : List ℕ) → length (filter p xs) ≤ length xs
filter-le p [] = omega arith
filter-le p (x ∷ xs) = by (p x) (filter-le p xs)
  where
    by : (b : Bool) → length (filter p xs) ≤ length xs → length (cond b (x ∷ filter p xs) (filter p xs)) ≤ suc (length xs)
    by true le = omega arith
    by false le = omega arith

filter-disjoint : (p q : ℕ → Bool) (xs : List ℕ) → ((x : ℕ) → p x ≡ true → q x ≡ false) → length (filter p xs) + length (filter q xs) ≤ length xs
filter-disjoint p q [] apart = omega arith
filter-disjoint p q (x ∷ xs) apart = by (p x) (q x) refl refl (filter-disjoint p q xs apart)
  where
    by : (b c : Bool) → p x ≡ b → q x ≡ c → length (filter p xs) + length (filter q xs) ≤ length xs → length (cond b (x ∷ filter p xs) (filter p xs)) + length (cond c (x ∷ filter q xs) (filter q xs)) ≤ suc (length xs)
    by true true is other le = absurd (true≢false (sym other ∙ apart x is))
    by true false is other le = omega arith
    by false true is other le = omega arith
    by false false is other le = omega arith

unsent-apart : (s : MessageState) (free : Bool) → (is_unsent s && free) ≡ true → is_in_flight s ≡ false
unsent-apart Unsent free is = refl
unsent-apart InFlight free is = absurd (false≢true is)
unsent-apart Delivered free is = refl

-- each message has one act at most, and so has each job
pub enabled-fits : (phase : Phase) → length phase.messages < 2 ^ 31 → length phase.jobs < 2 ^ 31 → (length (numbers_where (can_send phase) (length phase.messages)) + length (numbers_where (can_deliver phase) (length phase.messages)) ≤ length phase.messages) × (length (numbers_where (can_run phase) (length phase.jobs)) ≤ length phase.jobs)
enabled-fits phase few_messages few_jobs =
    let ms = range_with_len 0 (length phase.messages) in
    let js = range_with_len 0 (length phase.jobs) in
    let both = filter-disjoint (can_send phase) (can_deliver phase) ms (λ m can. unsent-apart (state_of phase m) (is_free phase m) can) in
    let runs = filter-le (can_run phase) js in
    let m = length-range_with_len 0 (length phase.messages) in
    let j = length-range_with_len 0 (length phase.jobs) in
    (omega arith, omega arith)

-- what passes is listed
filter-none : (p : ℕ → Bool) (start n i : ℕ) → length (filter p (range_with_len start n)) ≡ 0 → i < n → p (start + i) ≡ false
filter-none p start zero i none inside = absurd (omega arith)
filter-none p start (suc n) i none inside = by (p start) refl (λ k nothing low. filter-none p (start + 1) n k nothing low) i none inside
  where
    by : (b : Bool) → p start ≡ b → ((k : ℕ) → length (filter p (range_with_len (start + 1) n)) ≡ 0 → k < n → p (start + 1 + k) ≡ false) → (k : ℕ) → length (cond b (start ∷ filter p (range_with_len (start + 1) n)) (filter p (range_with_len (start + 1) n))) ≡ 0 → k < suc n → p (start + k) ≡ false
    by true is rest k nothing low = absurd (omega arith)
    by false is rest zero nothing low = ap p (omega arith) ∙ is
    by false is rest (suc k) nothing low = ap p (omega arith) ∙ rest k nothing (omega arith)

-- and what is listed passes
filter-some : (p : ℕ → Bool) (start n k i : ℕ) → slice_get (filter p (range_with_len start n)) k ≡ Some i → (start ≤ i) × ((i < start + n) × (p i ≡ true))
filter-some p start zero k i is = absurd cc
filter-some p start (suc n) k i is = by (p start) refl (λ l found. filter-some p (start + 1) n l i found) k is
  where
    by : (b : Bool) → p start ≡ b → ((l : ℕ) → slice_get (filter p (range_with_len (start + 1) n)) l ≡ Some i → (start + 1 ≤ i) × ((i < start + 1 + n) × (p i ≡ true))) → (k : ℕ) → slice_get (cond b (start ∷ filter p (range_with_len (start + 1) n)) (filter p (range_with_len (start + 1) n))) k ≡ Some i → (start ≤ i) × ((i < start + suc n) × (p i ≡ true))
    by true passes others zero found = let same : start ≡ i = cc in (omega arith, (omega arith, ap p (sym same) ∙ passes))
    by true passes others (suc k) found = let rest = others k found in (omega (arith, rest.0), (omega (arith, rest.1.0), rest.1.1))
    by false passes others k found = let rest = others k found in (omega (arith, rest.0), (omega (arith, rest.1.0), rest.1.1))

-- nothing may come where all is done
filter-nothing : (p : ℕ → Bool) (start n : ℕ) → ((i : ℕ) → start ≤ i → i < start + n → p i ≡ false) → length (filter p (range_with_len start n)) ≡ 0
filter-nothing p start zero none = refl
filter-nothing p start (suc n) none =
    by (p start) (none start (omega arith) (omega arith)) (filter-nothing p (start + 1) n (λ i low high. none i (omega arith) (omega arith)))
  where
    by : (b : Bool) → b ≡ false → length (filter p (range_with_len (start + 1) n)) ≡ 0 → length (cond b (start ∷ filter p (range_with_len (start + 1) n)) (filter p (range_with_len (start + 1) n))) ≡ 0
    by true is rest = absurd (true≢false is)
    by false is rest = rest

pub finished-none : (phase : Phase) → IsFinished phase → length (enabled_of phase) ≡ 0
finished-none phase finished =
    let sends = filter-nothing (can_send phase) 0 (length phase.messages) (λ m low high. ap (λ (s : MessageState). is_unsent s && is_free phase m) (finished.messages m (omega arith))) in
    let deliveries = filter-nothing (can_deliver phase) 0 (length phase.messages) (λ m low high. ap is_in_flight (finished.messages m (omega arith))) in
    let runs = filter-nothing (can_run phase) 0 (length phase.jobs) (λ j low high. ap (λ (d : Bool). not d && (list_all (λ m. is_delivered (state_of phase m)) (needs_at phase.jobs j).messages && list_all (is_done phase) (needs_at phase.jobs j).after)) (finished.jobs j (omega arith))) in
    let count = length-enabled phase in
    omega arith

all-pass : (p : ℕ → Bool) (xs : List ℕ) → ((k : ℕ) → k < length xs → p (get_or xs k 0) ≡ true) → list_all p xs ≡ true
all-pass p [] each = refl
all-pass p (x ∷ xs) each = and_from (p x) (list_all p xs) (each 0 (omega arith)) (all-pass p xs (λ k below. each (suc k) (omega arith)))

delivered-if : (s : MessageState) (free : Bool) → free ≡ true → (is_unsent s && free) ≡ false → is_in_flight s ≡ false → s ≡ Delivered
delivered-if Unsent free is sends flies = absurd (true≢false (sym is ∙ sends))
delivered-if InFlight free is sends flies = absurd (true≢false flies)
delivered-if Delivered free is sends flies = refl

free-if : (phase : Phase) (after : Option ℕ) (j : ℕ) → IfSome after (λ i. i < j) → ((i : ℕ) → i < j → is_done phase i ≡ true) → option_map_or (is_done phase) after true ≡ true
free-if phase None j below done = refl
free-if phase (Some i) j below done = done i below

done-if : (d : Bool) (needs : Bool) → (not d && needs) ≡ false → needs ≡ true → d ≡ true
done-if true needs stuck met = refl
done-if false needs stuck met = absurd (true≢false (sym met ∙ stuck))

-- a phase in which nothing may come is finished
pub none-finished : (phase : Phase) → IsPlan phase.messages phase.jobs → length (enabled_of phase) ≡ 0 → IsFinished phase
none-finished phase plan none =
    let count = length-enabled phase in
    let sends : (m : ℕ) → m < length phase.messages → can_send phase m ≡ false =
    λ m inside. ap (can_send phase) (sym (zero-add m)) ∙ filter-none (can_send phase) 0 (length phase.messages) m (omega arith) inside in
    let flights : (m : ℕ) → m < length phase.messages → can_deliver phase m ≡ false =
    λ m inside. ap (can_deliver phase) (sym (zero-add m)) ∙ filter-none (can_deliver phase) 0 (length phase.messages) m (omega arith) inside in
    let runs : (j : ℕ) → j < length phase.jobs → can_run phase j ≡ false =
    λ j inside. ap (can_run phase) (sym (zero-add j)) ∙ filter-none (can_run phase) 0 (length phase.jobs) j (omega arith) inside in
    record {
      messages = λ m inside. delivered-if (state_of phase m) (is_free phase m)
          (free-if phase (after_at phase.messages m) (length phase.jobs) (plan.sender m) (λ i below. all-done phase plan sends flights runs (suc i) i (omega arith) below))
          (sends m inside) (flights m inside);
      jobs = λ j inside. all-done phase plan sends flights runs (suc j) j (omega arith) inside;
    }
  where
    all-done : (phase : Phase) → IsPlan phase.messages phase.jobs → ((m : ℕ) → m < length phase.messages → can_send phase m ≡ false) → ((m : ℕ) → m < length phase.messages → can_deliver phase m ≡ false) → ((j : ℕ) → j < length phase.jobs → can_run phase j ≡ false) → (bound j : ℕ) → j < bound → j < length phase.jobs → is_done phase j ≡ true
    all-done phase plan sends flights runs zero j low inside = absurd (omega arith)
    all-done phase plan sends flights runs (suc bound) j low inside =
        let needs : Needs = needs_at phase.jobs j in
        let earlier : (i : ℕ) → i < j → is_done phase i ≡ true = λ i below. all-done phase plan sends flights runs bound i (omega arith) (omega arith) in
        let after : list_all (is_done phase) needs.after ≡ true = all-pass (is_done phase) needs.after (λ k below. earlier (get_or needs.after k 0) (plan.earlier j k 0 below)) in
        let messages : list_all (λ m. is_delivered (state_of phase m)) needs.messages ≡ true =
        all-pass (λ m. is_delivered (state_of phase m)) needs.messages (λ k below.
        let m = get_or needs.messages k 0 in
        ap is_delivered (delivered-if (state_of phase m) (is_free phase m) (free-if phase (after_at phase.messages m) j (plan.ordered j k 0 below) earlier) (sends m (plan.named j k 0 below)) (flights m (plan.named j k 0 below)))) in
        done-if (is_done phase j) (list_all (λ m. is_delivered (state_of phase m)) needs.messages && list_all (is_done phase) needs.after) (runs j inside) (and_from _ _ messages after)

-- an act that is counted may come
pub counted-enabled : (phase : Phase) (k : ℕ) (act : Act) → slice_get (enabled_of phase) k ≡ Some act → IsEnabled phase act
counted-enabled phase k act is =
    let sends = numbers_where (can_send phase) (length phase.messages) in
    let deliveries = numbers_where (can_deliver phase) (length phase.messages) in
    let runs = numbers_where (can_run phase) (length phase.jobs) in
    split (map Send sends) (map Deliver deliveries ++ map Run runs) k is
    (λ n found. of-send sends n found (λ i m at. let some = filter-some (can_send phase) 0 (length phase.messages) i m at in (omega (arith, some.1.0), some.1.1)))
    (λ n found. split (map Deliver deliveries) (map Run runs) n found
    (λ i there. of-deliver deliveries i there (λ l m at. let some = filter-some (can_deliver phase) 0 (length phase.messages) l m at in (omega (arith, some.1.0), some.1.1)))
    (λ i there. of-run runs i there (λ l m at. let some = filter-some (can_run phase) 0 (length phase.jobs) l m at in (omega (arith, some.1.0), some.1.1))))
  where
    split : (xs ys : List Act) (n : ℕ) → slice_get (xs ++ ys) n ≡ Some act → ((i : ℕ) → slice_get xs i ≡ Some act → IsEnabled phase act) → ((i : ℕ) → slice_get ys i ≡ Some act → IsEnabled phase act) → IsEnabled phase act
    split [] ys n found left right = right n found
    split (x ∷ xs) ys zero found left right = left 0 found
    split (x ∷ xs) ys (suc n) found left right = split xs ys n found (λ i at. left (suc i) at) right

    of-send : (ns : List ℕ) (k : ℕ) → slice_get (map Send ns) k ≡ Some act → ((i m : ℕ) → slice_get ns i ≡ Some m → (m < length phase.messages) × (can_send phase m ≡ true)) → IsEnabled phase act
    of-send [] k found each = absurd cc
    of-send (n ∷ ns) zero found each = let same : Send n ≡ act = cc in subst (IsEnabled phase) same (each 0 n refl)
    of-send (n ∷ ns) (suc k) found each = of-send ns k found (λ i m at. each (suc i) m at)

    of-deliver : (ns : List ℕ) (k : ℕ) → slice_get (map Deliver ns) k ≡ Some act → ((i m : ℕ) → slice_get ns i ≡ Some m → (m < length phase.messages) × (can_deliver phase m ≡ true)) → IsEnabled phase act
    of-deliver [] k found each = absurd cc
    of-deliver (n ∷ ns) zero found each = let same : Deliver n ≡ act = cc in subst (IsEnabled phase) same (each 0 n refl)
    of-deliver (n ∷ ns) (suc k) found each = of-deliver ns k found (λ i m at. each (suc i) m at)

    of-run : (ns : List ℕ) (k : ℕ) → slice_get (map Run ns) k ≡ Some act → ((i m : ℕ) → slice_get ns i ≡ Some m → (m < length phase.jobs) × (can_run phase m ≡ true)) → IsEnabled phase act
    of-run [] k found each = absurd cc
    of-run (n ∷ ns) zero found each = let same : Run n ≡ act = cc in subst (IsEnabled phase) same (each 0 n refl)
    of-run (n ∷ ns) (suc k) found each = of-run ns k found (λ i m at. each (suc i) m at)
