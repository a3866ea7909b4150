-- The trace that follows its events is thrifty as well.
use Rattle.std.proofs.Common.{◌≡◌, ℕ, zero, suc, Bool, true, false, List, [], ◌∷◌, None, refl, ap, subst, arith}
use Rattle.std.specs.Prelude.{◌==◌, ◌/◌, All, if◌then◌else◌, take}
use Rattle.sk_demand.proofs.Fixtures.{object}
use Rattle.sk_demand.proofs.FollowsExamples.{told}
use Rattle.sk_demand.specs.Reads.{reads}
use Rattle.sk_demand.specs.Retiring.{LiesIn, KeepsTiles, RetiresTiles}
use Rattle.sk_demand.specs.Thrift.{IsThrifty}
use Rattle.sk_demand.specs.Versions.{Version, State}
use Rattle.sk_legality.specs.KernelLines.{same_kind}
use Rattle.sk_legality.specs.Legality.{after_states}
use Rattle.sk_spaces.specs.Machine.{Machine, Home, CopyState, unused, live, freed, start}
use Rattle.sk_spaces.specs.Rules.{after_all_by}
use Rattle.sk_spaces.specs.declared.step.KernelKind.TheVariants.{Element}
use Rattle.sk_spaces.specs.declared.step.Step.TheVariants as line

-- the whole first store, and the second tile of the second one
abbrev first_copy : Home
first_copy = record { store = 0; space = 0; lo = 0; hi = 2 }

abbrev second_copy : Home
second_copy = record { store = 1; space = 0; lo = 1; hi = 2 }

-- the memories behind so many lines
abbrev moment : ℕ → Machine
moment n = after_all_by after_states start (take n told)

-- the version that is recorded, with the tiles that were computed
abbrev recorded : (tiles : List ℕ) → Version
recorded tiles = record { number = 1; recorded = true; inputs = 0 ∷ []; cells = 2; tiles = tiles }

-- the container has the second store
abbrev bound : State
bound = record { versions = recorded [] ∷ []; bindings = record { container = 0; sizes = 2 ∷ []; version = 1 } ∷ [] }

of_one : (P : Version → Type 0) (only : Version) → P only → All P (only ∷ [])
of_one P only holds zero default below = holds
of_one P only holds (suc k) default below = absurd (omega arith)

of_none : (P : Version → Type 0) → All P []
of_none P k default below = absurd (omega arith)

-- among the copies there is none of the second store but the second copy
one_tile : (second first : Bool) (home : Home)
    → (if second then live second_copy else if first then live first_copy else unused) ≡ live home → home.store ≡ 1 → LiesIn 1 (home.lo / 1) home
one_tile true first home there here = subst (λ (home : Home). LiesIn 1 (home.lo / 1) home) {x = second_copy} (cc there) (record { first = refl; last = refl })
one_tile false true home there here = absurd (cc (there, here))
one_tile false false home there here = absurd (cc there)

no_tile : (first : Bool) (home : Home) → (if first then live first_copy else unused) ≡ live home → home.store ≡ 1 → LiesIn 1 (home.lo / 1) home
no_tile first home there here = one_tile false first home there here

-- the store of a copy that is there
abbrev store_in : CopyState → ℕ
store_in unused = 0
store_in (live home) = home.store
store_in freed = 0

apart : (first : Bool) → (if first then live first_copy else unused) ≡ live second_copy → ⊥
apart true same = absurd (omega (arith, ap store_in same))
apart false same = absurd (cc same)

pub thrifty : IsThrifty object told
thrifty = record {
  fills = (tt, (tt, (tt, (tt, (tt, (tt, (tt, (tt, (tt, (tt, (tt, (tt, tt))))))))))));
  settles = record {
    taken = (
      (λ copy index takes. refl),
      (
        (λ copy index takes. refl),
        (
          (λ copy index takes. refl),
          (
            (λ copy index takes. refl),
            (
              (λ copy index takes. refl),
              (
                (λ copy index takes. refl),
                (
                  (λ copy index takes. refl),
                  (
                    (λ copy index takes. refl),
                    (
                      (λ copy index takes. refl),
                      (
                        (λ copy index takes. refl),
                        (
                          (λ copy index takes. refl),
                          (
                            (λ copy index takes. refl),
                            tt,
                          ),
                        ),
                      ),
                    ),
                  ),
                ),
              ),
            ),
          ),
        ),
      ),
    );
    owed = λ copy index. refl;
    arrived = λ message. tt;
  };
  backs = (tt, (tt, (tt, (tt, (tt, (tt, (tt, (tt, (tt, (tt, (tt, (tt, tt))))))))))));
  retires = (
    of_none (KeepsTiles (moment 0)),
    tt,
    (
      of_none (KeepsTiles (moment 1)),
      tt,
      (
        of_none (KeepsTiles (moment 2)),
        tt,
        (
          of_none (KeepsTiles (moment 3)),
          tt,
          (
            of_none (KeepsTiles (moment 4)),
            tt,
            (
              of_none (KeepsTiles (moment 5)),
              tt,
              (
                of_none (KeepsTiles (moment 6)),
                tt,
                (
                  of_one (KeepsTiles (moment 7)) (recorded []) (λ incomplete copy home there here. no_tile (copy == 0) home there here),
                  tt,
                  (
                    of_one (KeepsTiles (moment 8)) (recorded []) (λ incomplete copy home there here. no_tile (copy == 0) home there here),
                    tt,
                    (
                      of_one (KeepsTiles (moment 9)) (recorded []) (λ incomplete copy home there here. one_tile (copy == 1) (copy == 0) home there here),
                      (λ told. of_one (RetiresTiles (moment 9) bound 1) (recorded []) (λ unbound. absurd (cc unbound))),
                      (
                        of_one (KeepsTiles (moment 10)) (recorded (1 ∷ [])) (λ incomplete copy home there here. one_tile (copy == 1) (copy == 0) home there here),
                        tt,
                        (
                          of_one (KeepsTiles (moment 11)) (recorded (1 ∷ [])) (λ incomplete copy home there here. one_tile (copy == 1) (copy == 0) home there here),
                          tt,
                          of_one (KeepsTiles (moment 12)) (recorded (1 ∷ [])) (λ incomplete copy home there here. one_tile (copy == 1) (copy == 0) home there here),
                        ),
                      ),
                    ),
                  ),
                ),
              ),
            ),
          ),
        ),
      ),
    ),
  );
  evicts = (tt, (tt, ((λ other same. absurd (cc same)), (tt, (tt, (tt, (tt, (tt, ((λ other same. apart (other == 0) same), (tt, (tt, (tt, tt))))))))))));
}

-- its kernel reads the second cell of the first store, and not the first one
pub reads-second : reads object (moment 9) (line.Kernel 0 Element 1 1 2 1 None (0 ∷ [])) 0 1 ≡ true
unfolding same_kind
reads-second = refl

pub reads-no-first : reads object (moment 9) (line.Kernel 0 Element 1 1 2 1 None (0 ∷ [])) 0 0 ≡ false
unfolding same_kind
reads-no-first = refl
