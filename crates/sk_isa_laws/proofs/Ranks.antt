-- Code whose loops all take turns takes few steps from any address before a turn.
use Rattle.std.proofs.Common.{◌≡◌, ℕ, zero, suc, ◌+◌, ◌^◌, ◌<◌, ◌≤◌, ◌⊎◌, max, List, [], ◌∷◌, length, All, Option, Some, None, slice_get, slice_index_or, arith, ap, sym, refl, subst, ◌∙◌, inl, inr}
use Rattle.std.proofs.lemmas.Nat.{pow_pos}
use Rattle.std.proofs.lemmas.Option.{slice_get_within}
use Rattle.sk_isa.specs.declared.code.Instr.{Instr}
use Rattle.sk_isa.specs.declared.code.Instr.TheVariants.{Jump, Zero, Turn, Ret, Halt}
use Rattle.sk_isa.specs.Soundness.{leads_to, JumpsTo, PassesMark, IsTurn, LoopsTakeTurns}
use Rattle.sk_isa_laws.specs.Ranks.{without_turn, above, most_steps, rank}

-- an address is one of a list
abbrev pub IsIn : ℕ → List ℕ → Type 0
IsIn at [] = ⊥
IsIn at (first ∷ others) = (at ≡ first) ⊎ IsIn at others

-- a step without a turn
abbrev pub Steps : List Instr → (at to : ℕ) → Type 0
Steps instrs at to = IsIn to (without_turn (slice_get instrs at) at)

-- a way without turns, of so many steps, all of it below a bound
pub data Way (instrs : List Instr) (bound : ℕ) : (at steps : ℕ) → Type 0 where
  stays : {at : ℕ} → at < bound → Way instrs bound at 0
  goes : {at steps : ℕ} → at < bound → (to : ℕ) → Steps instrs at to → Way instrs bound to steps → Way instrs bound at (suc steps)

-- a way without turns to an end, of so many steps, all of it before the end below that
pub data Into (instrs : List Instr) (end : ℕ) : (at steps : ℕ) → Type 0 where
  arrives : {at : ℕ} → at ≡ end → Into instrs end at 0
  goes_on : {at steps : ℕ} → at < end → (to : ℕ) → Steps instrs at to → Into instrs end to steps → Into instrs end at (suc steps)

-- which instructions lead where
step_of : (instr : Instr) (at to : ℕ) → IsIn to (without_turn (Some instr) at) → (to ≡ suc at) ⊎ ((instr ≡ Jump to) ⊎ (instr ≡ Zero to))
step_of (Jump target) at to (inl e) = inr (inl (ap Jump (sym e)))
step_of (Jump target) at to (inr h) = absurd h
step_of (Zero target) at to (inl e) = inl e
step_of (Zero target) at to (inr (inl e)) = inr (inr (ap Zero (sym e)))
step_of (Zero target) at to (inr (inr h)) = absurd h
step_of Turn at to h = absurd h
step_of Ret at to h = absurd h
step_of Halt at to h = absurd h
step_of instr at to (inl e) = inl e
step_of instr at to (inr h) = absurd h

-- a step goes on by one or jumps
step_from : (instrs : List Instr) (at to : ℕ) (found : Option Instr) → slice_get instrs at ≡ found → IsIn to (without_turn found at)
    → (to ≡ suc at) ⊎ JumpsTo instrs at to
step_from instrs at to None e h = absurd h
step_from instrs at to (Some instr) e h = elim (step_of instr at to h) [
  | inl next ↦ inl next
  | inr jump ↦ elim jump [ inl j ↦ inr (inl (e ∙ ap Some j)) | inr z ↦ inr (inr (e ∙ ap Some z)) ]
]

step_cases : (instrs : List Instr) (at to : ℕ) → Steps instrs at to → (to ≡ suc at) ⊎ JumpsTo instrs at to
step_cases instrs at to h = step_from instrs at to (slice_get instrs at) refl h

-- no step leaves a turn
no_step : (instrs : List Instr) (at to : ℕ) → slice_get instrs at ≡ Some Turn → Steps instrs at to → ⊥
no_step instrs at to e h = subst (λ (found : Option Instr). IsIn to (without_turn found at)) e h

-- a jump is no turn
no_jump : (instrs : List Instr) (at to : ℕ) → slice_get instrs at ≡ Some Turn → JumpsTo instrs at to → ⊥
no_jump instrs at to e (inl j) = cc
no_jump instrs at to e (inr z) = cc

-- only an address of the code is left
step_within : (instrs : List Instr) (at to : ℕ) → Steps instrs at to → at < length instrs
step_within instrs at to h = inside (slice_get instrs at) refl h
  where
    inside : (found : Option Instr) → slice_get instrs at ≡ found → IsIn to (without_turn found at) → at < length instrs
    inside None e none = absurd none
    inside (Some instr) e some = slice_get_within instrs at instr e

into_upto : (instrs : List Instr) (end at steps : ℕ) → Into instrs end at steps → at ≤ end
into_upto instrs end at steps (arrives e) = omega arith
into_upto instrs end at steps (goes_on low to step rest) = omega arith

at_or_below : (a b : ℕ) → a ≤ b → (a ≡ b) ⊎ (a < b)
at_or_below a b h = grind arith

-- A way that begins at or below a turn, over which nothing jumps, does not come past it.
stops_at_turn : (instrs : List Instr) (turn end : ℕ) → slice_get instrs turn ≡ Some Turn → turn < end
    → ((before behind : ℕ) → JumpsTo instrs before behind → before < turn → turn < behind → behind ≤ end → ⊥)
    → (at steps : ℕ) → at ≤ turn → Into instrs end at steps → ⊥
stops_at_turn instrs turn end is_turn low none_over at steps upto (arrives e) = omega arith
stops_at_turn instrs turn end is_turn low none_over at (suc steps) upto (goes_on below to step rest) =
    elim (at_or_below at turn upto) [
      | inl same ↦ no_step instrs turn to is_turn (subst (λ (a : ℕ). Steps instrs a to) same step)
      | inr before ↦ elim (upto_or_past to turn) [
        | inl again ↦ stops_at_turn instrs turn end is_turn low none_over to steps again rest
        | inr past ↦ elim (step_cases instrs at to step) [
          | inl next ↦ omega arith
          | inr jump ↦ none_over at to jump before past (into_upto instrs end to steps rest)
        ]
      ]
    ]
  where
    upto_or_past : (a b : ℕ) → (a ≤ b) ⊎ (b < a)
    upto_or_past a b = grind arith

-- no way comes back to its greatest address
no_return : (instrs : List Instr) → LoopsTakeTurns instrs → (end to steps : ℕ) → Steps instrs end to → Into instrs end to steps → ⊥
no_return instrs loops end to steps step way = elim (step_cases instrs end to step) [
  | inl next ↦ absurd (beyond (into_upto instrs end to steps way) next)
  | inr jump ↦ round jump (loops end to jump (into_upto instrs end to steps way))
]
  where
    beyond : to ≤ end → to ≡ suc end → ⊥
    beyond upto next = omega arith

    round : JumpsTo instrs end to → PassesMark IsTurn instrs end to → ⊥
    round jump passes = elim (at_or_below passes.mark end passes.upto) [
      | inl same ↦ no_jump instrs end to (subst (λ (t : ℕ). slice_get instrs t ≡ Some Turn) same passes.is_mark) jump
      | inr low ↦ stops_at_turn instrs passes.mark end passes.is_mark low passes.none_over to steps passes.from way
    ]

-- A way below the next bound stays below the bound, or it comes to the bound once and goes on from there.
pub record Visits (instrs : List Instr) (bound at steps : ℕ) : Type 0 where
  pub before : ℕ
  pub way_in : Into instrs bound at before
  pub behind : ℕ
  pub way_out : Way instrs (suc bound) bound behind
  pub sum : before + behind ≡ steps

below_or_at : (a b : ℕ) → a < suc b → (a < b) ⊎ (a ≡ b)
below_or_at a b h = grind arith

visits_or_not : (instrs : List Instr) (bound at steps : ℕ) → Way instrs (suc bound) at steps
    → Way instrs bound at steps ⊎ Visits instrs bound at steps
visits_or_not instrs bound at zero (stays low) = elim (below_or_at at bound low) [
  | inl below ↦ inl (stays below)
  | inr same ↦ inr (record { before = 0; way_in = arrives same; behind = 0; way_out = stays (omega arith); sum = refl })
]
visits_or_not instrs bound at (suc steps) (goes low to step rest) = elim (below_or_at at bound low) [
  | inl below ↦ elim (visits_or_not instrs bound to steps rest) [
    | inl stays_below ↦ inl (goes below to step stays_below)
    | inr visits ↦ inr (record {
      before = suc visits.before;
      way_in = goes_on below to step visits.way_in;
      behind = visits.behind;
      way_out = visits.way_out;
      sum = more visits.before visits.behind visits.sum;
    })
  ]
  | inr same ↦ inr (record {
    before = 0;
    way_in = arrives same;
    behind = suc steps;
    way_out = goes (omega arith) to (subst (λ (a : ℕ). Steps instrs a to) same step) rest;
    sum = omega arith;
  })
]
  where
    more : (m k : ℕ) → m + k ≡ steps → suc m + k ≡ suc steps
    more m k e = omega arith

-- the way in, without its last step, stays below the bound
without_last : (instrs : List Instr) (bound at steps : ℕ) → Into instrs bound at (suc steps) → Way instrs bound at steps
without_last instrs bound at zero (goes_on low to step rest) = stays low
without_last instrs bound at (suc steps) (goes_on low to step rest) = goes low to step (without_last instrs bound to steps rest)

-- A way below the next bound is short where those below the bound are.
next_bound : (instrs : List Instr) → LoopsTakeTurns instrs → (bound : ℕ)
    → ((at steps : ℕ) → Way instrs bound at steps → steps + 1 < 2 ^ bound)
    → (at steps : ℕ) → Way instrs (suc bound) at steps → steps + 1 < 2 ^ suc bound
next_bound instrs loops bound short at steps way = elim (visits_or_not instrs bound at steps way) [
  | inl below ↦ smaller (short at steps below)
  | inr visits ↦ both visits.before visits.behind visits.sum (short_in visits.before visits.way_in) (short_out visits.behind visits.way_out)
]
  where
    doubled : 2 ^ suc bound ≡ 2 ^ bound + 2 ^ bound
    doubled = omega arith

    smaller : steps + 1 < 2 ^ bound → steps + 1 < 2 ^ suc bound
    smaller h = omega (arith, doubled)

    both : (m k : ℕ) → m + k ≡ steps → m < 2 ^ bound → k < 2 ^ bound → steps + 1 < 2 ^ suc bound
    both m k e hm hk = omega (arith, doubled)

    short_in : (m : ℕ) → Into instrs bound at m → m < 2 ^ bound
    short_in zero way_in = pow_pos bound
    short_in (suc m) way_in = let h : m + 1 < 2 ^ bound = short at m (without_last instrs bound at m way_in) in omega arith

    short_out : (k : ℕ) → Way instrs (suc bound) bound k → k < 2 ^ bound
    short_out zero way_out = pow_pos bound
    short_out (suc k) (goes low to step rest) = elim (visits_or_not instrs bound to k rest) [
      | inl below ↦ (let h : k + 1 < 2 ^ bound = short to k below in omega arith)
      | inr visits ↦ absurd (no_return instrs loops bound to visits.before step visits.way_in)
    ]

-- So a way below a bound has fewer addresses than the power of two.
way_bound : (instrs : List Instr) → LoopsTakeTurns instrs → (bound at steps : ℕ) → Way instrs bound at steps → steps + 1 < 2 ^ bound
way_bound instrs loops zero at zero (stays low) = omega arith
way_bound instrs loops zero at (suc steps) (goes low to step rest) = omega arith
way_bound instrs loops (suc bound) at steps way = next_bound instrs loops bound (way_bound instrs loops bound) at steps way

-- what the most steps of the next addresses come from
above_cases : (value : ℕ → ℕ) (others : List ℕ)
    → (above value others ≡ 0) ⊎ ((to : ℕ) × IsIn to others × (above value others ≡ suc (value to)))
above_cases value [] = inl refl
above_cases value (first ∷ others) = pick (above value others) (above_cases value others)
  where
    pick : (most : ℕ) → (most ≡ 0) ⊎ ((to : ℕ) × IsIn to others × (most ≡ suc (value to)))
        → (max (suc (value first)) most ≡ 0) ⊎ ((to : ℕ) × IsIn to (first ∷ others) × (max (suc (value first)) most ≡ suc (value to)))
    pick most (inl none) = inr (first, inl refl, omega arith)
    pick most (inr (to, among, e)) = elim (either (suc (value first)) most) [
      | inl one ↦ inr (first, inl refl, one)
      | inr other ↦ inr (to, inr among, other ∙ e)
    ]
      where
        either : (a b : ℕ) → (max a b ≡ a) ⊎ (max a b ≡ b)
        either a b = grind arith

above_at_least : (value : ℕ → ℕ) (others : List ℕ) (to : ℕ) → IsIn to others → value to < above value others
above_at_least value [] to h = absurd h
above_at_least value (first ∷ others) to (inl e) = let same : value to ≡ value first = ap value e in omega arith
above_at_least value (first ∷ others) to (inr h) = let below : value to < above value others = above_at_least value others to h in omega arith

above_same : (value other : ℕ → ℕ) (places : List ℕ) → ((to : ℕ) → IsIn to places → value to ≡ other to) → above value places ≡ above other places
above_same value other [] h = refl
above_same value other (first ∷ places) h =
    λ i. max (suc (h first (inl refl) i)) (above_same value other places (λ to among. h to (inr among)) i)

-- The most steps, as a way of them that is not at its last one.
abbrev pub HasWay : List Instr → (at most : ℕ) → Type 0
HasWay instrs at most = (most ≡ 0) ⊎ ((m : ℕ) × (most ≡ suc m) × Way instrs (length instrs) at m)

way_onward : (instrs : List Instr) (at to most fewer : ℕ) → Steps instrs at to → most ≡ suc fewer → HasWay instrs to fewer → HasWay instrs at most
way_onward instrs at to most fewer step e (inl none) = inr (0, e ∙ ap suc none, stays (step_within instrs at to step))
way_onward instrs at to most fewer step e (inr (m, is, way)) = inr (suc m, e ∙ ap suc is, goes (step_within instrs at to step) to step way)

way_from : (instrs : List Instr) (fuel at most : ℕ) → ((to : ℕ) → HasWay instrs to (most_steps instrs fuel to))
    → (most ≡ 0) ⊎ ((to : ℕ) × Steps instrs at to × (most ≡ suc (most_steps instrs fuel to))) → HasWay instrs at most
way_from instrs fuel at most ways (inl none) = inl none
way_from instrs fuel at most ways (inr (to, step, e)) = way_onward instrs at to most (most_steps instrs fuel to) step e (ways to)

most_steps-way : (instrs : List Instr) (fuel at : ℕ) → HasWay instrs at (most_steps instrs fuel at)
unfolding most_steps
most_steps-way instrs zero at = inl refl
most_steps-way instrs (suc fuel) at =
    way_from instrs fuel at (above (most_steps instrs fuel) (without_turn (slice_get instrs at) at)) (most_steps-way instrs fuel)
    (above_cases (most_steps instrs fuel) (without_turn (slice_get instrs at) at))

most_steps_bound : (instrs : List Instr) → LoopsTakeTurns instrs → (fuel at : ℕ) → most_steps instrs fuel at < 2 ^ length instrs
most_steps_bound instrs loops fuel at = pick (most_steps instrs fuel at) (most_steps-way instrs fuel at)
  where
    pick : (most : ℕ) → HasWay instrs at most → most < 2 ^ length instrs
    pick most (inl none) = let h : 0 < 2 ^ length instrs = pow_pos (length instrs) in omega arith
    pick most (inr (m, e, way)) = let h : m + 1 < 2 ^ length instrs = way_bound instrs loops (length instrs) at m way in omega arith

-- Where the fuel was not used up, more of it changes nothing.
enough_fuel : (instrs : List Instr) (fuel at : ℕ) → most_steps instrs fuel at < fuel → most_steps instrs (suc fuel) at ≡ most_steps instrs fuel at
unfolding most_steps
enough_fuel instrs zero at h = omega arith
enough_fuel instrs (suc fuel) at h =
    above_same (most_steps instrs (suc fuel)) (most_steps instrs fuel) (without_turn (slice_get instrs at) at)
    (λ to step. enough_fuel instrs fuel to (below to (above_at_least (most_steps instrs fuel) (without_turn (slice_get instrs at) at) to step)))
  where
    below : (to : ℕ) → most_steps instrs fuel to < above (most_steps instrs fuel) (without_turn (slice_get instrs at) at) → most_steps instrs fuel to < fuel
    below to less = omega arith

-- one more of the fuel sees the steps from an address
one_more : (instrs : List Instr) (fuel at to : ℕ) → Steps instrs at to → most_steps instrs fuel to < most_steps instrs (suc fuel) at
unfolding most_steps
one_more instrs fuel at to step = above_at_least (most_steps instrs fuel) (without_turn (slice_get instrs at) at) to step

pub rank_bound : (instrs : List Instr) → LoopsTakeTurns instrs → (at : ℕ) → rank instrs at < 2 ^ length instrs
unfolding rank
rank_bound instrs loops at = most_steps_bound instrs loops (2 ^ length instrs) at

rank-step : (instrs : List Instr) → LoopsTakeTurns instrs → (at to : ℕ) → Steps instrs at to → rank instrs to < rank instrs at
unfolding rank
rank-step instrs loops at to step =
    subst (λ (most : ℕ). most_steps instrs (2 ^ length instrs) to < most)
    (enough_fuel instrs (2 ^ length instrs) at (most_steps_bound instrs loops (2 ^ length instrs) at))
    (one_more instrs (2 ^ length instrs) at to step)

-- what leads from an instruction that is no turn
some_step : (instr : Instr) (at : ℕ) → (instr ≡ Turn → ⊥) → without_turn (Some instr) at ≡ leads_to instr at
some_step Turn at h = absurd (h refl)
some_step (Jump to) at h = refl
some_step instr at h = refl

is_in : (others : List ℕ) (k d : ℕ) → k < length others → IsIn (slice_index_or others k d) others
is_in [] k d h = omega arith
is_in (first ∷ others) zero d h = inl refl
is_in (first ∷ others) (suc k) d h = inr (is_in others k d (omega arith))

-- The rank falls with each step that is no turn.
pub rank_falls : (instrs : List Instr) → LoopsTakeTurns instrs → (at : ℕ) (instr : Instr) → slice_get instrs at ≡ Some instr
    → (instr ≡ Turn → ⊥) → All (λ to. rank instrs to < rank instrs at) (leads_to instr at)
rank_falls instrs loops at instr found no_turn k d h =
    rank-step instrs loops at (slice_index_or (leads_to instr at) k d)
    (subst (λ (f : Option Instr). IsIn (slice_index_or (leads_to instr at) k d) (without_turn f at)) (sym found)
    (subst (λ (l : List ℕ). IsIn (slice_index_or (leads_to instr at) k d) l) (sym (some_step instr at no_turn)) (is_in (leads_to instr at) k d h)))

-- outside the code the rank is 0
pub rank_outside : (instrs : List Instr) (at : ℕ) → slice_get instrs at ≡ None → rank instrs at ≡ 0
unfolding rank
rank_outside instrs at outside = none (2 ^ length instrs)
  where
    none : (fuel : ℕ) → most_steps instrs fuel at ≡ 0
    none zero = unfold most_steps in refl
    none (suc fuel) = unfold most_steps in ap (λ (f : Option Instr). above (most_steps instrs fuel) (without_turn f at)) outside
