-- Worked examples of totals, and of what kernels give.
use Rattle.std.specs.Int.{int_wrap}
use Rattle.std.proofs.Common.{◌≡◌, ◌&&◌, ◌||◌, ℕ, zero, suc, List, [], ◌∷◌, ◌++◌, Bool, true, false, cond, nat_le, nat_lt, take, slice_index_or, IsSome, Some, None, Ok, pos, ◌-ℤ◌, refl, sym, subst, arith, codes}
use Rattle.sk_base.specs.declared.choice.EdgeMode.TheVariants.{Duplicate}
use Rattle.sk_base.specs.declared.choice.Variant.TheVariants.{Sequential, Chunked, Cluster, Lanes}
use Rattle.sk_base.specs.declared.number.Op.TheVariants.{Add as Plus}
use Rattle.sk_base.specs.declared.number.Ty.TheVariants.{Int}
use Rattle.sk_blocks.specs.Calls.{SizedCall}
use Rattle.sk_blocks.specs.Kernels.{KernelRun, reads_index}
use Rattle.sk_blocks.specs.Ranges.{range}
use Rattle.sk_formula.specs.Skeletons.{Functions}
use Rattle.sk_isa.specs.Coded.{step_limit, code_value, callees_below}
use Rattle.sk_isa.specs.Configurations.{run_of}
use Rattle.sk_isa.specs.Offers.{same_variant, offers, offers_of, is_offered}
use Rattle.sk_isa.specs.declared.code.Code.{Code}
use Rattle.sk_isa.specs.declared.code.Instr.TheVariants.{Load, Binary, Ret}
use Rattle.sk_isa.specs.declared.object.Object.{Object}
use Rattle.sk_isa.specs.declared.object.Plan.{Plan}
use Rattle.sk_legality.specs.KernelLines.{same_kind, source_of, is_readable}
use Rattle.sk_legality.specs.KernelValues.{kernel_values}
use Rattle.sk_legality.specs.Legality.{IsLegalStep, states_after}
use Rattle.sk_legality.specs.Replay.{AgreesHere, IsCell, replayed}
use Rattle.sk_spaces.specs.Machine.{stale, owner, is_within}
use Rattle.sk_spaces.specs.declared.step.CallMode.TheVariants.{Row}
use Rattle.sk_spaces.specs.declared.step.KernelKind.TheVariants.{Fold, Join, Scan as ScanKernel}
use Rattle.sk_spaces.specs.declared.step.Step.{Step}
use Rattle.sk_spaces.specs.declared.step.Step.TheVariants as line
use Rattle.sk_tree.specs.InstanceSettings.{default_settings}
use Rattle.sk_tree.specs.declared.operator.OperatorKind.TheVariants.{Add}
use Rattle.sk_tree.specs.declared.tree.ParamKind.TheVariants.{Scalar}
use Rattle.sk_tree.specs.declared.tree.Skeleton.TheVariants.{Reduce, Scan}

nothing : (false ≡ true) → ⊥
nothing is = subst (λ (b : Bool). cond b ⊥ (Unit {0})) is tt

-- ---- a Reduce by addition: int add(int a, int b) { return a + b; }

abbrev adds : Code
adds = record { instrs = Load 0 ∷ Load 1 ∷ Binary Plus Int ∷ Ret ∷ []; slots = 2; depth = 2 }

abbrev sums : Plan
sums = record { name = codes "s"; skeleton = Reduce; functions = 0 ∷ []; elements = 0; variants = Sequential ∷ Chunked ∷ Cluster ∷ Lanes ∷ [] }

-- main's code, at which no trace looks, is left out
abbrev summing : Object
summing = record {
  functions = adds ∷ [];
  signatures = record { ret = Int; params = Scalar Int ∷ Scalar Int ∷ []; slots = Scalar Int ∷ Scalar Int ∷ [] }
      ∷ record { ret = Int; params = []; slots = [] } ∷ [];
  safe = true ∷ [];
  operators = Some (record { kind = Add; ty = Int }) ∷ [];
  instances = sums ∷ [];
  main = record { instrs = []; slots = 0; depth = 0 };
  inputs = [];
  containers = [];
  names = codes "add" ∷ [];
}

-- the plan lists what the marks of its function allow
pub listed-by-marks : offers_of summing sums ≡ sums.variants
listed-by-marks = refl

pub lanes-listed : is_offered sums Lanes ≡ true
unfolding same_variant
lanes-listed = refl

-- a plan that lists less offers less, whatever the marks allow
pub only-listed : is_offered (record sums { variants = Sequential ∷ [] }) Lanes ≡ false
unfolding same_variant
only-listed = refl

pub allowed-by-marks : offers summing (record sums { variants = Sequential ∷ [] }) Lanes ≡ true
allowed-by-marks = refl

-- ---- 1, 2, 3, 4 in two chunks: two folds into a store of two totals, and a join

abbrev call_of_two : Step
call_of_two = line.Call 0 5 0 Chunked 2 false None (0 ∷ []) []
    (record { mode = Row; overlap = (0, 0); edge = Duplicate; pad = pos 0; start = None })

abbrev prepared : List Step
prepared = line.Memory 1 67108864 1024 1024 ∷ line.Store 0 Int (4 ∷ []) ∷ line.Alloc 0 0 0 0 4
    ∷ line.Write 0 0 (pos 1 ∷ pos 2 ∷ pos 3 ∷ pos 4 ∷ []) ∷ call_of_two ∷ line.Store 1 Int (2 ∷ []) ∷ line.Alloc 1 1 0 0 2 ∷ []

abbrev first_fold : Step
first_fold = line.Kernel 0 Fold 0 0 1 1 None (0 ∷ [])

abbrev second_fold : Step
second_fold = line.Kernel 0 Fold 1 1 2 1 None (0 ∷ [])

abbrev join : Step
join = line.Kernel 0 Join 0 1 2 1 None (1 ∷ [])

abbrev summed : List Step
summed = prepared ++ first_fold ∷ second_fold ∷ join ∷ []

call-legal : IsLegalStep summing (states_after (take 4 summed)) call_of_two
unfolding same_variant
call-legal = (
  refl,
  (
    refl,
    record {
      offered = refl;
      parts = refl;
      there = refl;
      containers = refl;
      uniforms = refl;
      mode = refl;
      runs = refl;
      recorded = λ is. absurd (nothing is);
    },
  ),
)

abbrev folded_call : SizedCall
folded_call = record {
  skeleton = Reduce;
  settings = default_settings;
  elements = 1;
  operands = record { store = 0; shape = 4 ∷ [] } ∷ [];
  result = None;
}

abbrev second_part : KernelRun
second_part = record { kind = Fold; part = 1; lo = 1; hi = 2; units = range 2 4; space = 0 }

within : (index : ℕ) → ((nat_le 2 index && nat_lt index 4) || false) ≡ true → is_within 0 4 index ≡ true
within index reads = search (arith, reads)

reading : (operand index : ℕ) → reads_index folded_call second_part operand index ≡ true
    → IsSome (source_of (states_after (take 8 summed)) (0 ∷ []) (slice_index_or (0 ∷ []) operand 0) index)
reading zero index reads =
    subst (λ (inside : Bool). IsSome {T = ℕ} (cond (is_readable (cond inside owner stale)) (Some 0) None)) (sym (within index reads)) refl
reading (suc operand) index reads = absurd (nothing reads)

fold-legal : IsLegalStep summing (states_after (take 8 summed)) second_fold
unfolding same_kind
fold-legal = (
  refl,
  record {
    taken = refl;
    written = record { above = omega arith; ordered = omega arith; below = omega arith };
    together = refl;
    operands = reading;
    totals = refl;
  },
)

join-legal : IsLegalStep summing (states_after (take 9 summed)) join
unfolding same_kind
join-legal = (
  refl,
  record {
    taken = refl;
    written = record { above = omega arith; ordered = omega arith; below = omega arith };
    together = refl;
    operands = λ operand index reads. absurd (nothing reads);
    totals = refl;
  },
)

-- before the second fold the join finds no second total
join-too-early : IsLegalStep summing (states_after (take 8 summed)) join → ⊥
unfolding same_kind
join-too-early legal = nothing legal.1.totals

-- the operand is no store of totals, though it has cells of their type
fold-into-operand : IsLegalStep summing (states_after (take 8 summed)) (line.Kernel 0 Fold 1 1 2 0 None (0 ∷ [])) → ⊥
unfolding same_kind
fold-into-operand legal = nothing legal.1.taken

-- there is no third part
no-third-part : IsLegalStep summing (states_after (take 8 summed)) (line.Kernel 0 Fold 2 2 3 1 None (0 ∷ [])) → ⊥
unfolding same_kind
no-third-part legal = legal.1

-- the join does not trap, and the sum is 10
join-agrees : AgreesHere summing (replayed summing (take 9 summed)) join
unfolding same_kind run_of step_limit code_value callees_below
join-agrees = refl

ten : IsCell summing summed 1 0 (pos 10)
unfolding same_kind run_of step_limit code_value callees_below int_wrap
ten = (1, record { there = refl; owns = refl; held = refl })

-- ---- what kernels give: an exclusive Scan behind 100 of 10, 3, 2 by differences, in parts of two and one

abbrev differences : Functions
differences = record {
  value = λ place pair. Ok (pos 0);
  cell = λ index. slice_index_or (pos 10 ∷ pos 3 ∷ pos 2 ∷ []) index (pos 0);
  join = λ a b. Ok (a -ℤ b);
}

abbrev scanning : SizedCall
scanning = record {
  skeleton = Scan;
  settings = record default_settings { exclusive = true; start = Some (pos 100) };
  elements = 1;
  operands = record { store = 0; shape = 3 ∷ [] } ∷ [];
  result = Some (3 ∷ []);
}

-- the total of the first part is 87, with which the results of the second part begin
first-total : kernel_values scanning differences (λ total. pos 0)
    (record { kind = Fold; part = 0; lo = 0; hi = 1; units = range 0 2; space = 0 }) ≡ Ok (pos 87 ∷ [])
first-total = refl

first-results : kernel_values scanning differences (λ total. pos 0)
    (record { kind = ScanKernel; part = 0; lo = 0; hi = 2; units = range 0 2; space = 0 }) ≡ Ok (pos 100 ∷ pos 90 ∷ [])
first-results = refl

second-results : kernel_values scanning differences (λ total. pos 87)
    (record { kind = ScanKernel; part = 1; lo = 2; hi = 3; units = range 2 3; space = 0 }) ≡ Ok (pos 87 ∷ [])
second-results = refl

-- where there are three parts, the total of the second one takes in that of the first, which stands on the left
second-total : kernel_values scanning differences (λ total. elim total [ zero ↦ pos 87 | suc more ↦ pos 3 ])
    (record { kind = Join; part = 1; lo = 0; hi = 1; units = range 0 0; space = 0 }) ≡ Ok (pos 84 ∷ [])
second-total = refl
