-- Elements of containers in place of their coordinates.
use Rattle.std.proofs.Common.{◌≡◌, ℕ, suc, ◌+◌, ◌-◌, ◌≤◌, nat_le, List, [], ◌∷◌, length, take, drop, reverse, ℤ, Option, Some, None, Result, Ok, Err, slice_get, refl, sym, ap, subst, ◌∙◌, arith}
use Rattle.std.proofs.lemmas.Bool.{cond-true, le-leb}
use Rattle.sk_base.specs.declared.number.Trap.{Trap}
use Rattle.sk_meaning.specs.Evaluation.{Argument, element_at}
use Rattle.sk_isa.specs.Coded.{Routine, Next, by_trap, next_of}
use Rattle.sk_isa.specs.Configurations.{Goes, Ends, Stuck, giving}
use Rattle.sk_isa.specs.declared.code.Instr.TheVariants.{Item, Call}
use Rattle.sk_vm.specs.declared.stack.Stand.{Stand}
use Rattle.sk_vm.specs.declared.step.Lead.{Lead}
use Rattle.sk_vm.specs.declared.step.Lead.TheVariants as lead
use Rattle.sk_vm.specs.Points.{KeepsForCall, ReadsItem, point_at, values_in}
use Rattle.sk_vm.proofs.Calls.{arguments-in, values_in-under}
use Rattle.sk_vm.proofs.Values.{going-in, length-values_in}

-- what the instruction leads to, by the element
module _ (slot places : ℕ) (other : ℕ → Argument) (stand : Stand) (stack : List ℤ) (base : ℕ) (base_is : base ≡ stand.top - places)
    (enough : places ≤ stand.top) (inside : stand.top ≤ length stack) (place : List ℤ) (place_is : place ≡ take places (drop base stack)) where
  up : base + places ≡ stand.top
  up = omega arith

  taken_is : reverse (take places (values_in stack stand.top)) ≡ place
  taken_is =
      ap (λ (n : ℕ). reverse (take places (values_in stack n))) (sym up) ∙ sym (arguments-in places base stack (omega (arith, up))) ∙ sym place_is

  under_is : drop places (values_in stack stand.top) ≡ values_in stack base
  under_is = ap (λ (n : ℕ). drop places (values_in stack n)) (sym up) ∙ values_in-under places base stack

  leads : (routine : Routine) → slice_get routine.arguments slot ≡ Some (other slot) → (slots : List ℤ) (result : Result ℤ Trap) → element_at (other slot) place ≡ result
      → next_of routine (Item slot places) (point_at stand stack slots) ≡ giving by_trap (point_at stand stack slots) (values_in stack base) result
  leads routine finds slots result is =
      let size = length-values_in stack stand.top in
      cond-true (nat_le places (length (values_in stack stand.top))) _ Stuck (le-leb places (length (values_in stack stand.top)) (omega arith))
      ∙ ap (λ (o : Option Argument). elim o [
        | Some argument ↦
            giving by_trap (point_at stand stack slots) (drop places (values_in stack stand.top)) (element_at argument (reverse (take places (values_in stack stand.top))))
        | None ↦ Stuck
      ]) finds
      ∙ ap (λ (xs : List ℤ). giving by_trap (point_at stand stack slots) (drop places (values_in stack stand.top)) (element_at (other slot) xs)) taken_is
      ∙ ap (λ (xs : List ℤ). giving by_trap (point_at stand stack slots) xs (element_at (other slot) place)) under_is
      ∙ ap (λ (r : Result ℤ Trap). giving by_trap (point_at stand stack slots) (values_in stack base) r) is

  pub item-goes : (after : List ℤ) (value : ℤ) (next : Stand) → element_at (other slot) place ≡ Ok value
      → next ≡ record { at = suc stand.at; top = base + 1; turns = stand.turns } → values_in after (suc base) ≡ value ∷ values_in stack base
      → ReadsItem slot places other stand stack after (lead.Goes next)
  item-goes after value next is to values slots routine finds =
      let top : next.top ≡ suc base = ap (λ (s : Stand). s.top) to ∙ omega arith in
      leads routine finds slots (Ok value) is
      ∙ going-in stand next stack after slots slots (value ∷ values_in stack base) (ap (λ (s : Stand). s.at) to) (ap (λ (s : Stand). s.turns) to) refl
      (ap (λ (n : ℕ). values_in after n) top ∙ values)

  pub item-traps : (after : List ℤ) (trap : Trap) → element_at (other slot) place ≡ Err trap → ReadsItem slot places other stand stack after (lead.Traps trap)
  item-traps after trap is slots routine finds = leads routine finds slots (Err trap) is

-- the instruction is no call
pub kept-item : (slot places : ℕ) (other : ℕ → Argument) (stand : Stand) (before after slots : List ℤ) (result : Lead) → ReadsItem slot places other stand before after result
    → KeepsForCall result before after slots slots
kept-item slot places other stand before after slots (lead.Goes next) h = tt
kept-item slot places other stand before after slots (lead.Ends value turns) h = tt
kept-item slot places other stand before after slots (lead.Traps trap) h = tt
kept-item slot places other stand before after slots (lead.Calls function) h = let no : Item slot places ≡ Call function = h [] in cc
