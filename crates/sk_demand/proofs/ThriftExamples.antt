-- Traces of a few steps that are thrifty, and ones that are not.
use Rattle.std.proofs.Common.{Some, None, ◌≡◌, ◌≢◌, Bool, true, false, List, [], ◌∷◌, ◌++◌, pos, refl, arith}
use Rattle.std.specs.Prelude.{not, ◌==◌, ◌&&◌, ◌||◌, if◌then◌else◌}
use Rattle.sk_base.specs.declared.number.Ty.TheVariants.{Int}
use Rattle.sk_demand.proofs.Fixtures.{object}
use Rattle.sk_demand.specs.Thrift.{Throughout, FillsStale, Settles, is_freed_before_kernel, next_room}
use Rattle.sk_legality.specs.Legality.{after_states}
use Rattle.sk_spaces.specs.Machine.{Mark, stale, valid, owner, filled_mark, is_within, start}
use Rattle.sk_spaces.specs.declared.step.KernelKind.TheVariants.{Element}
use Rattle.sk_spaces.specs.declared.step.Step.{Step}
use Rattle.sk_spaces.specs.declared.step.Step.TheVariants as line

-- A store of two cells on the host, written whole, and a copy of its first cell, which is still stale.
abbrev two_copies : List Step
two_copies =
    line.Memory 1 8 4 4 ∷ line.Store 0 Int (2 ∷ []) ∷ line.Alloc 0 0 0 0 2 ∷ line.Fill 0 0 2 (pos 5) ∷ line.Alloc 1 0 0 0 1 ∷ []

abbrev filled : List Step
filled = two_copies ++ line.Copy 0 1 0 1 ∷ []

-- ---- filling

-- a stale cell is filled
pub fills-once : Throughout after_states FillsStale start filled
fills-once = (tt, (tt, (tt, (tt, (tt, ((λ index above below. refl), tt))))))

-- filled again, it is not stale
pub fills-twice : Throughout after_states FillsStale start (filled ++ line.Copy 0 1 0 1 ∷ []) → ⊥
fills-twice all = absurd (cc (all.1.1.1.1.1.1.0 0 (omega arith) (omega arith)))

-- ---- reading what was brought

-- what was filled is not stale then
was_filled : (b : Bool) (mark : Mark) → mark ≢ stale → (if b then filled_mark mark else mark) ≡ stale → b ≡ false
was_filled true stale readable now = absurd (cc now)
was_filled true valid readable now = absurd (cc now)
was_filled true owner readable now = absurd (cc now)
was_filled false mark readable now = refl

never_both : (b : Bool) → ((b && not b) || false) ≡ false
never_both true = refl
never_both false = refl

-- the cell is read from the copy to which it came
pub settles : Settles after_states object (filled ++ line.Read 1 0 1 ∷ [])
settles = record {
  taken = (
    (λ copy index takes. refl),
    (
      (λ copy index takes. refl),
      (
        (λ copy index takes. refl),
        (
          (λ copy index takes. refl),
          (
            (λ copy index takes. refl),
            (
              (λ copy index takes. was_filled ((copy == 1) && is_within 0 1 index) _ takes.0 takes.1),
              ((λ copy index takes. never_both ((copy == 1) && is_within 0 1 index)), tt),
            ),
          ),
        ),
      ),
    ),
  );
  owed = λ copy index. never_both ((copy == 1) && is_within 0 1 index);
  arrived = λ message. tt;
}

-- it is not
pub owes : Settles after_states object filled → ⊥
owes all = absurd (cc (all.owed 1 0))

-- it becomes stale before it is read
pub staled : Settles after_states object (filled ++ line.Poke 0 0 (pos 9) ∷ line.Read 0 0 1 ∷ []) → ⊥
staled all = absurd (cc (all.taken.1.1.1.1.1.1.0 1 0 ((λ same. absurd (cc same)), refl)))

-- the copy goes before it is read
pub freed : Settles after_states object (filled ++ line.Free 1 ∷ []) → ⊥
freed all = absurd (cc (all.taken.1.1.1.1.1.1.0 1 0 refl))

-- ---- messages

-- the same cell on its way to a rank
abbrev sent : List Step
sent = two_copies ++ line.Alloc 2 0 1 0 1 ∷ line.Send 0 0 2 0 1 ∷ []

-- a message has to come
pub flies : Settles after_states object sent → ⊥
flies all = absurd (cc (all.arrived 0))

-- and its cell has to be read there: on the rank, by a kernel or by what brings it further
pub comes : Settles after_states object (sent ++ line.Deliver 0 ∷ []) → ⊥
comes all = absurd (cc (all.owed 2 0))

-- ---- copies that go

-- a copy whose cells went back goes before the next kernel
pub back-and-free : is_freed_before_kernel 2 (line.Read 0 0 1 ∷ line.Free 2 ∷ []) ≡ true
back-and-free = refl

pub back-and-stay : is_freed_before_kernel 2 (line.Read 0 0 1 ∷ line.Kernel 0 Element 0 0 1 0 None [] ∷ []) ≡ false
back-and-stay = refl

-- and may stay where no kernel comes
pub back-and-end : is_freed_before_kernel 2 (line.Read 0 0 1 ∷ []) ≡ true
back-and-end = refl

-- the next copy that is made in the space of rank 1 has 4 cells
pub room-wanted : next_room 1 (line.Alloc 4 0 2 0 8 ∷ line.Alloc 5 0 1 4 8 ∷ line.Alloc 6 0 1 0 4 ∷ []) ≡ Some 4
room-wanted = refl
