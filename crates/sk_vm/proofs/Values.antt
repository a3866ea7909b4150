-- Values that lie in a buffer.
use Rattle.std.proofs.Common.{◌≡◌, ◌≢◌, ℕ, zero, suc, ◌<◌, ◌≤◌, ◌-◌, List, ◌∷◌, length, ℤ, pos, slice_set, slice_index_or, refl, sym, ap, ◌∙◌, arith}
use Rattle.std.proofs.lemmas.List.{get_or-set_same, get_or-set_other}
use Rattle.sk_base.specs.declared.number.Op.{Op}
use Rattle.sk_base.specs.declared.number.Ty.{Ty}
use Rattle.sk_base.specs.declared.number.Trap.{Trap}
use Rattle.sk_base.specs.Arithmetic.{op_of}
use Rattle.std.specs.Prelude.{Ok, Err}
use Rattle.sk_isa.specs.Coded.{Routine, Next, by_trap, next_of}
use Rattle.sk_isa.specs.Configurations.{Goes, Ends, going, giving, with_two}
use Rattle.sk_isa.specs.declared.code.Instr.TheVariants.{Binary}
use Rattle.sk_vm.specs.declared.stack.Stand.{Stand}
use Rattle.sk_vm.specs.Points.{values_in, point_at}

-- the topmost value lies at the place below the height
pub values_in-last : (buffer : List ℤ) (top : ℕ) → 0 < top → values_in buffer top ≡ slice_index_or buffer (top - 1) (pos 0) ∷ values_in buffer (top - 1)
unfolding values_in
values_in-last buffer zero some = absurd (omega arith)
values_in-last buffer (suc fewer) some = let one : suc fewer - 1 ≡ fewer = omega arith in rw one refl

-- a value is put on the first ones
values_in-set_above : (buffer : List ℤ) (place top : ℕ) (value : ℤ) → top ≤ place → values_in (slice_set buffer place value) top ≡ values_in buffer top
unfolding values_in
values_in-set_above buffer place zero value below = refl
values_in-set_above buffer place (suc fewer) value below =
    let other : fewer ≢ place = λ same. absurd (omega (arith, same)) in
    ap (λ (x : ℤ). x ∷ values_in (slice_set buffer place value) fewer) (get_or-set_other buffer place fewer value (pos 0) other)
    ∙ ap (λ (xs : List ℤ). slice_index_or buffer fewer (pos 0) ∷ xs) (values_in-set_above buffer place fewer value (omega arith))

pub values_in-set : (buffer : List ℤ) (top : ℕ) (value : ℤ) → top < length buffer → values_in (slice_set buffer top value) (suc top) ≡ value ∷ values_in buffer top
unfolding values_in
values_in-set buffer top value room =
    ap (λ (x : ℤ). x ∷ values_in (slice_set buffer top value) top) (get_or-set_same buffer top value (pos 0) room)
    ∙ ap (λ (xs : List ℤ). value ∷ xs) (values_in-set_above buffer top top value (omega arith))

pub length-values_in : (buffer : List ℤ) (top : ℕ) → length (values_in buffer top) ≡ top
unfolding values_in
length-values_in buffer zero = refl
length-values_in buffer (suc fewer) = ap suc (length-values_in buffer fewer)

-- an operator finds its two operands
pub with_two-in : (buffer : List ℤ) (top : ℕ) (next : ℤ → ℤ → List ℤ → Next) → 1 < top
    → with_two (values_in buffer top) next ≡ next (slice_index_or buffer (top - 2) (pos 0)) (slice_index_or buffer (top - 1) (pos 0)) (values_in buffer (top - 2))
with_two-in buffer top next two =
    let less : top - 1 - 1 ≡ top - 2 = omega arith in
    let under : values_in buffer (top - 1) ≡ slice_index_or buffer (top - 2) (pos 0) ∷ values_in buffer (top - 2) =
    values_in-last buffer (top - 1) (omega arith) ∙ ap (λ (n : ℕ). slice_index_or buffer n (pos 0) ∷ values_in buffer n) less in
    ap (λ (xs : List ℤ). with_two xs next)
    (values_in-last buffer top (omega arith) ∙ ap (λ (xs : List ℤ). slice_index_or buffer (top - 1) (pos 0) ∷ xs) under)

-- an instruction that only moves values leads to the next address
pub going-in : (stand next : Stand) (stack after slots slots_after values : List ℤ) → next.at ≡ suc stand.at → next.turns ≡ stand.turns → slots_after ≡ slots → values_in after next.top ≡ values
    → going {F = Trap} (point_at stand stack slots) values ≡ Goes (point_at next after slots_after)
going-in stand next stack after slots slots_after values at turns same top = cc

-- an operator's value in place of its operands
pub combines : (op : Op) (ty : Ty) (stand next : Stand) (stack after slots : List ℤ) (routine : Routine) (value : ℤ) → 1 < stand.top
    → op_of op ty (slice_index_or stack (stand.top - 2) (pos 0)) (slice_index_or stack (stand.top - 1) (pos 0)) ≡ Ok value
    → next ≡ record { at = suc stand.at; top = stand.top - 1; turns = stand.turns }
    → values_in after (stand.top - 1) ≡ value ∷ values_in stack (stand.top - 2)
    → next_of routine (Binary op ty) (point_at stand stack slots) ≡ Goes (point_at next after slots)
combines op ty stand next stack after slots routine value two is to top =
    with_two-in stack stand.top _ two
    ∙ ap (giving by_trap (point_at stand stack slots) (values_in stack (stand.top - 2))) is
    ∙ going-in stand next stack after slots slots (value ∷ values_in stack (stand.top - 2)) (ap (λ (s : Stand). s.at) to) (ap (λ (s : Stand). s.turns) to) refl
    (ap (λ (s : Stand). values_in after s.top) to ∙ top)

pub combining_traps : (op : Op) (ty : Ty) (stand : Stand) (stack slots : List ℤ) (routine : Routine) (trap : Trap) → 1 < stand.top
    → op_of op ty (slice_index_or stack (stand.top - 2) (pos 0)) (slice_index_or stack (stand.top - 1) (pos 0)) ≡ Err trap
    → next_of routine (Binary op ty) (point_at stand stack slots) ≡ Ends (Err trap)
combining_traps op ty stand stack slots routine trap two is =
    with_two-in stack stand.top _ two ∙ ap (giving by_trap (point_at stand stack slots) (values_in stack (stand.top - 2))) is

-- which value the topmost one is
pub last-is : (buffer : List ℤ) (top : ℕ) (value : ℤ) (rest : List ℤ) → 0 < top → values_in buffer top ≡ value ∷ rest → value ≡ slice_index_or buffer (top - 1) (pos 0)
last-is buffer top value rest some is =
    let both : value ∷ rest ≡ slice_index_or buffer (top - 1) (pos 0) ∷ values_in buffer (top - 1) = sym is ∙ values_in-last buffer top some in
    cc
