-- A trace of a call that is run at once in two parts, whose first kernels come in either order.
use Rattle.std.proofs.Common.{zero, suc, List, [], ◌∷◌, ◌++◌, false, pos, None, refl, arith}
use Rattle.std.specs.Prelude.{All}
use Rattle.sk_base.specs.declared.choice.EdgeMode.TheVariants.{Duplicate}
use Rattle.sk_base.specs.declared.choice.Variant.TheVariants.{Chunked}
use Rattle.sk_base.specs.declared.number.Ty.TheVariants.{Int}
use Rattle.sk_demand.proofs.Fixtures.{object, table_of, call_on}
use Rattle.sk_demand.specs.Follows.{Follows}
use Rattle.sk_demand.specs.OwnSteps.{StepIn, RunsInto}
use Rattle.sk_isa.specs.Offers.{same_variant}
use Rattle.sk_select.specs.Choice.{same_skeleton}
use Rattle.sk_select.specs.declared.tuning.Tuning.{Tuning}
use Rattle.sk_spaces.specs.declared.step.CallMode.TheVariants.{Row}
use Rattle.sk_spaces.specs.declared.step.KernelKind.TheVariants.{Fold, Join}
use Rattle.sk_spaces.specs.declared.step.Step.{Step}
use Rattle.sk_spaces.specs.declared.step.Step.TheVariants as line
use Rattle.sk_tree.specs.InstanceSettings.{default_settings}
use Rattle.sk_tree.specs.declared.tree.Skeleton.TheVariants.{Reduce}
use Rattle.sk_world.specs.Events.{Event, Made, Ran}

-- a vector of two elements is reduced in two chunks
abbrev table : Tuning
table = record (table_of 1 1024) { rules = record { skeleton = Reduce; upto = 1000000; variant = Chunked; parts = 2 } ∷ [] }

abbrev events : List Event
events = Made 0 (2 ∷ []) (pos 5) ∷ Ran (call_on 2 (0 ∷ [])) default_settings None false ∷ []

abbrev declared : List Step
declared = line.Store 0 Int (2 ∷ []) ∷ line.Alloc 0 0 0 0 2 ∷ line.Fill 0 0 2 (pos 5) ∷ line.Bind 0 0 ∷ []

-- the second part is folded before the first one; then both totals are joined, and the number is read
abbrev reduced : List Step
reduced =
    line.Call 0 0 2 Chunked 2 false None (0 ∷ []) [] (record { mode = Row; overlap = (0, 0); edge = Duplicate; pad = pos 0; start = None })
    ∷ line.Store 1 Int (2 ∷ []) ∷ line.Alloc 1 1 0 0 2
    ∷ line.Kernel 0 Fold 1 1 2 1 None (0 ∷ []) ∷ line.Kernel 0 Fold 0 0 1 1 None (0 ∷ []) ∷ line.Kernel 0 Join 0 1 2 1 None (1 ∷ [])
    ∷ line.Read 1 0 1 ∷ []

of_three : (P : StepIn → Type 0) (a b c : StepIn) → P a → P b → P c → All P (a ∷ b ∷ c ∷ [])
of_three P a b c first second third zero default below = first
of_three P a b c first second third (suc zero) default below = second
of_three P a b c first second third (suc (suc zero)) default below = third
of_three P a b c first second third (suc (suc (suc k))) default below = absurd (omega arith)

pub follows : Follows object table events (line.Memory 1 67108864 1 1024 ∷ declared ++ reduced)
unfolding same_skeleton same_variant
follows = (
  refl,
  (
    declared,
    reduced,
    0,
    refl,
    (0, _, _, refl, refl, (refl, refl, refl), record { step = refl; sized = refl; typed = refl }),
    (
      reduced,
      [],
      0,
      refl,
      record {
        demanded = [];
        named = _;
        kernels = _ ∷ _ ∷ _ ∷ [];
        last = _ ∷ [];
        whole = refl;
        computed = record { order = []; once = record { moves = []; below = tt; is = refl }; joins = λ total. refl; each = tt };
        store = None;
        target = refl;
        told = refl;
        ran = (
          _ ∷ _ ∷ [],
          _ ∷ [],
          refl,
          record {
            order = _ ∷ _ ∷ [];
            once = record { moves = (0, 1) ∷ []; below = (omega arith, omega arith, tt); is = refl };
            joins = λ total. refl;
            each = ((refl, refl, refl, refl, refl, refl), ((refl, refl, refl, refl, refl, refl), tt));
          },
          (
            _ ∷ [],
            [],
            refl,
            record {
              order = _ ∷ [];
              once = record { moves = []; below = tt; is = refl };
              joins = λ total. refl;
              each = ((refl, refl, refl, refl, refl, refl), tt);
            },
            refl,
          ),
        );
        ended = (_, refl, (1, of_three (RunsInto 1) _ _ _ refl refl refl, (refl, refl, refl)));
      },
      refl,
    ),
  ),
)
