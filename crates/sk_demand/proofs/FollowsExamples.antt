-- A trace that follows the events of its run, and one that stops behind its first line.
use Rattle.std.proofs.Common.{◌≡◌, ℕ, List, [], ◌∷◌, ◌++◌, true, pos, Some, None, refl}
use Rattle.sk_base.specs.declared.choice.EdgeMode.TheVariants.{Duplicate}
use Rattle.sk_base.specs.declared.choice.Variant.TheVariants.{Sequential}
use Rattle.sk_base.specs.declared.number.Ty.TheVariants.{Int}
use Rattle.sk_demand.proofs.Fixtures.{object, table_of}
use Rattle.sk_demand.specs.Follows.{Follows, first_standing}
use Rattle.sk_demand.specs.OwnSteps.{own_steps}
use Rattle.sk_demand.specs.Pieces.{IsPiece}
use Rattle.sk_spaces.specs.declared.step.CallMode.TheVariants.{Absent}
use Rattle.sk_spaces.specs.declared.step.KernelKind.TheVariants.{Element}
use Rattle.sk_spaces.specs.declared.step.Step.{Step}
use Rattle.sk_spaces.specs.declared.step.Step.TheVariants as line
use Rattle.sk_world.specs.Events.{Event, Made, Mapped, Read}

-- a vector of two elements is mapped into itself by tiles of one, and its second element is read
abbrev events : List Event
events =
    Made 0 (2 ∷ []) (pos 5) ∷ Mapped (record { line = 4; instance = 0; operands = 0 ∷ []; uniforms = [] }) 0 ∷ Read 0 1 ∷ []

abbrev declared : List Step
declared = line.Store 0 Int (2 ∷ []) ∷ line.Alloc 0 0 0 0 2 ∷ line.Fill 0 0 2 (pos 5) ∷ line.Bind 0 0 ∷ []

abbrev called : List Step
called =
    line.Store 1 Int (2 ∷ [])
    ∷ line.Call 0 4 0 Sequential 1 true (Some 1) (0 ∷ []) [] (record { mode = Absent; overlap = (0, 0); edge = Duplicate; pad = pos 0; start = None })
    ∷ line.Bind 0 1 ∷ []

-- one kernel, of the second tile; then that tile of the first version is needed no more
abbrev computed : List Step
computed = line.Alloc 1 1 0 1 2 ∷ line.Kernel 0 Element 1 1 2 1 None (0 ∷ []) ∷ line.Stale 0 1 2 ∷ line.Read 1 1 2 ∷ []

abbrev pub told : List Step
told = line.Memory 1 67108864 1 1024 ∷ declared ++ called ++ computed

pub follows : Follows object (table_of 1 1024) events told
follows = (
  refl,
  (
    declared,
    called ++ computed,
    0,
    refl,
    (0, _, _, refl, refl, (refl, refl, refl), record { step = refl; sized = refl; typed = refl }),
    (
      called,
      computed,
      0,
      refl,
      record {
        flush = [];
        named = _;
        bind = _;
        whole = refl;
        store = 1;
        new = refl;
        flushed = refl;
        told = refl;
        bound = record { step = refl; sized = refl; typed = refl };
      },
      (
        computed,
        [],
        0,
        refl,
        record {
          demanded = _ ∷ [];
          read = _;
          whole = refl;
          computed = record {
            order = _;
            once = record { moves = []; below = tt; is = refl };
            joins = λ total. refl;
            each = ((refl, refl, refl, refl, refl, refl), tt);
          };
          reads = (refl, refl, refl);
        },
        refl,
      ),
    ),
  ),
)

-- the first line alone does not: the vector is not there
begins : (piece later : List Step) (number : ℕ) → [] ≡ piece ++ later
    → IsPiece object (table_of 1 1024) (first_standing (table_of 1 1024)) (Made 0 (2 ∷ []) (pos 5)) number
    (own_steps (first_standing (table_of 1 1024)).machine piece) → ⊥
begins [] later number cut made = absurd (cc made.3)
begins (step ∷ piece) later number cut made = absurd (cc cut)

pub stops : Follows object (table_of 1 1024) events (line.Memory 1 67108864 1 1024 ∷ []) → ⊥
stops all = begins all.1.0 all.1.1 all.1.2 all.1.3 all.1.4
