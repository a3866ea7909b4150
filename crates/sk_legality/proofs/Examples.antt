-- Worked examples of legality and replay.
use Rattle.std.specs.Int.{int_wrap}
use Rattle.std.proofs.Common.{ap, ◌≡◌, ◌<◌, ◌&&◌, ◌||◌, ℕ, zero, suc, List, [], ◌∷◌, Bool, true, false, cond, nat_le, nat_lt, take, slice_index_or, IsSome, Some, pos, refl, subst, sym, arith}
use Rattle.sk_blocks.specs.Calls.{SizedCall}
use Rattle.sk_blocks.specs.Kernels.{KernelRun, reads_index}
use Rattle.sk_blocks.specs.Ranges.{range}
use Rattle.sk_isa.specs.Offers.{same_variant}
use Rattle.sk_isa.specs.Configurations.{run_of}
use Rattle.sk_isa.specs.Coded.{step_limit, code_value, callees_below}
use Rattle.sk_legality.specs.KernelLines.{same_kind, source_of, is_readable}
use Rattle.sk_legality.specs.Legality.{IsLegalStep, IsLegal, IsIllegalAt, states_after}
use Rattle.sk_legality.specs.Replay.{Agrees, AgreesHere, IsCell, replayed}
use Rattle.sk_legality.proofs.ExampleTrace.{incrementing, whole, unfilled, computed}
use Rattle.sk_spaces.specs.Machine.{Machine, stale, owner}
use Rattle.sk_spaces.specs.Rules.{IsReadable, HasRoom}
use Rattle.sk_spaces.specs.declared.step.KernelKind.TheVariants.{Element}
use Rattle.sk_spaces.specs.declared.step.Step.{Step}
use Rattle.sk_spaces.specs.declared.step.Step.TheVariants as line
use Rattle.sk_tree.specs.InstanceSettings.{default_settings}
use Rattle.sk_tree.specs.declared.tree.Skeleton.TheVariants.{Map}

nothing : (false ≡ true) → ⊥
nothing is = subst (λ (b : Bool). cond b ⊥ (Unit {0})) is tt

-- the step of a trace behind so many others is legal
abbrev IsLegalBehind : List Step → (before : ℕ) → Type 0
IsLegalBehind trace before =
    IsLegalStep incrementing (states_after (take before trace)) (slice_index_or trace before line.Flush)

none_below : 0 < 0 → ⊥
none_below outside = omega (arith, outside)

-- the host's space has no end
host-has-room : {len : ℕ} {m : Machine} → HasRoom m 0 len (record { ranks = 1; capacity = 67108864; tile = 1; lineage = 1024 })
host-has-room = record { rank = omega arith; room = λ outside. absurd (none_below outside) }

-- ---- the lines, one after another

memory-legal : IsLegalBehind whole 0
memory-legal = (refl, omega arith)

store-legal : IsLegalBehind whole 1
store-legal = (refl, refl)

alloc-legal : IsLegalBehind whole 2
alloc-legal = (refl, (refl, omega arith, record { ordered = omega arith; below = omega arith }, host-has-room))

fill-legal : IsLegalBehind whole 3
fill-legal = (refl, (refl, record { above = omega arith; ordered = omega arith; below = omega arith }))

bind-legal : IsLegalBehind whole 4
bind-legal = (refl, refl)

result-legal : IsLegalBehind whole 5
result-legal = (refl, refl)

call-legal : IsLegalBehind whole 6
unfolding same_variant
call-legal = (
  refl,
  (
    refl,
    record {
      offered = refl;
      parts = refl;
      there = refl;
      containers = refl;
      uniforms = refl;
      mode = refl;
      runs = refl;
      recorded = λ is. refl;
    },
  ),
)

rebind-legal : IsLegalBehind whole 7
rebind-legal = (refl, refl)

tile-legal : IsLegalBehind whole 8
tile-legal = (refl, (refl, omega arith, record { ordered = omega arith; below = omega arith }, host-has-room))

-- the kernel of tile 1 reads index 1 of the one operand, at which copy 0 is the owner
abbrev mapped : SizedCall
mapped = record {
  skeleton = Map;
  settings = default_settings;
  elements = 1;
  operands = record { store = 0; shape = 2 ∷ [] } ∷ [];
  result = Some (2 ∷ []);
}

abbrev second_tile : KernelRun
second_tile = record { kind = Element; part = 1; lo = 1; hi = 2; units = range 1 2; space = 0 }

only-one : (index : ℕ) → ((nat_le 1 index && nat_lt index 2) || false) ≡ true → index ≡ 1
only-one index reads = search (arith, reads)

reading : (operand index : ℕ) → reads_index mapped second_tile operand index ≡ true
    → IsSome (source_of (states_after (take 9 whole)) (0 ∷ []) (slice_index_or (0 ∷ []) operand 0) index)
reading zero index reads =
    subst (λ (i : ℕ). IsSome (source_of (states_after (take 9 whole)) (0 ∷ []) 0 i)) (sym (only-one index reads)) refl
reading (suc operand) index reads = absurd (nothing reads)

kernel-legal : IsLegalBehind whole 9
unfolding same_kind
kernel-legal = (
  refl,
  record {
    taken = refl;
    written = record { above = omega arith; ordered = omega arith; below = omega arith };
    together = refl;
    operands = reading;
    totals = refl;
  },
)

stale-legal : IsLegalBehind whole 10
stale-legal = (refl, record { ordered = omega arith; below = omega arith })

owner-or-stale : owner ≡ stale → ⊥
owner-or-stale is = nothing (sym (ap is_readable is))

readable : IsReadable (states_after (take 11 whole)) 1 1 2
readable index from below is =
    let at : 1 ≡ index = omega (arith, from, below) in
    owner-or-stale (subst (λ (i : ℕ). (states_after (take 11 whole)).marks 1 i ≡ stale) (sym at) is)

read-legal : IsLegalBehind whole 11
read-legal = (refl, ((refl, record { above = omega arith; ordered = omega arith; below = omega arith }), readable))

-- ---- the trace

whole-legal : IsLegal incrementing whole
whole-legal = (
  memory-legal,
  (
    store-legal,
    (
      alloc-legal,
      (
        fill-legal,
        (
          bind-legal,
          (
            result-legal,
            (call-legal, (rebind-legal, (tile-legal, (kernel-legal, (stale-legal, (read-legal, tt)))))),
          ),
        ),
      ),
    ),
  ),
)

-- it agrees: the kernel does not trap
kernel-agrees : AgreesHere incrementing (replayed incrementing (take 9 whole)) computed
unfolding same_kind run_of step_limit code_value callees_below
kernel-agrees = refl

whole-agrees : Agrees incrementing whole
whole-agrees = (tt, (tt, (tt, (tt, (tt, (tt, (tt, (tt, (tt, (kernel-agrees, (tt, (tt, tt))))))))))))

-- the element that was read is 6
six : IsCell incrementing whole 1 1 (pos 6)
unfolding same_kind run_of step_limit code_value callees_below int_wrap
six = (1, record { there = refl; owns = refl; held = refl })

-- ---- without the line that fills the vector, the kernel is the first step that is not legal

unfilled-call : IsLegalBehind unfilled 5
unfolding same_variant
unfilled-call = (
  refl,
  (
    refl,
    record {
      offered = refl;
      parts = refl;
      there = refl;
      containers = refl;
      uniforms = refl;
      mode = refl;
      runs = refl;
      recorded = λ is. refl;
    },
  ),
)

unfilled-tile : IsLegalBehind unfilled 7
unfilled-tile = (refl, (refl, omega arith, record { ordered = omega arith; below = omega arith }, host-has-room))

unfilled-legal : IsLegal incrementing (take 8 unfilled)
unfilled-legal =
    (memory-legal, (store-legal, (alloc-legal, ((refl, refl), ((refl, refl), (unfilled-call, ((refl, refl), (unfilled-tile, tt))))))))

nothing-to-read : IsIllegalAt incrementing unfilled 9
unfolding same_kind
nothing-to-read = record {
  counted = omega arith;
  before = unfilled-legal;
  here = λ legal. nothing (legal.1.operands 0 1 refl);
}
