-- Runs of places in parts.
use Rattle.std.proofs.Common.{◌≡◌, inl, inr, ℕ, ◌+◌, ◌-◌, ◌<◌, ◌≤◌, Bool, true, false, List, ◌++◌, length, ℤ, pos, Ok, refl, sym, ap, subst, ◌∙◌, arith}
use Rattle.std.specs.Prelude.{All, Err, IsOk, Result, slice_index_or}
use Rattle.std.proofs.lemmas.List.{get_or_append_left, get_or-append_right}
use Rattle.std.proofs.lemmas.Bool.{cases_lt}
use Rattle.sk_arguments.specs.Arguments.{Given}
use Rattle.sk_base.specs.Arithmetic.{InRange}
use Rattle.sk_base.specs.declared.number.Trap.{Trap}
use Rattle.sk_base.specs.declared.number.Ty.{Ty}
use Rattle.sk_kernel.specs.Kernels.{Agree, AgreeRun, AreValues, Meaning, Source, Suits, SuitsRun, given_by, run_pair, run_place, run_value}
use Rattle.sk_kernel.specs.declared.kernel.RunTrap.{RunTrap}
use Rattle.sk_vm.specs.Lent.{ArePart, ArePartOfType, pair_at, place_at}
use Rattle.sk_vm.proofs.Ran.{Ran}

place_shift : (pairs : Bool) (place done behind : ℕ) → place_at pairs (place_at pairs place done) behind ≡ place_at pairs place (done + behind)
place_shift true place done behind = refl
place_shift false place done behind = omega arith

pair_shift : (pairs : Bool) (pair done behind : ℕ) → pair_at pairs (pair_at pairs pair done) behind ≡ pair_at pairs pair (done + behind)
pair_shift true pair done behind = omega arith
pair_shift false pair done behind = refl

-- a part that begins so many places behind the first one
module _ (meaning : Meaning) (source : Source) (place pair total done count first second : ℕ) (within : done + count ≤ total)
    (first_is : first ≡ run_place meaning place done) (second_is : second ≡ run_pair meaning pair done) where
  place_is : (behind : ℕ) → run_place meaning place (done + behind) ≡ run_place meaning first behind
  place_is behind = sym (ap (λ (n : ℕ). run_place meaning n behind) first_is ∙ place_shift meaning.pairs place done behind)

  pair_is : (behind : ℕ) → run_pair meaning pair (done + behind) ≡ run_pair meaning second behind
  pair_is behind = sym (ap (λ (n : ℕ). run_pair meaning n behind) second_is ∙ pair_shift meaning.pairs pair done behind)

  pub suits_part : SuitsRun meaning source place pair total → SuitsRun meaning source first second count
  suits_part suits behind less =
      subst (λ (n : ℕ). Suits meaning source (run_place meaning first behind) n) (pair_is behind)
      (subst (λ (n : ℕ). Suits meaning source n (run_pair meaning pair (done + behind))) (place_is behind) (suits (done + behind) (omega arith)))

  pub agree_part : (cells : ℕ → ℕ → ℤ) → AgreeRun meaning source place pair total cells → AgreeRun meaning source first second count cells
  agree_part cells agree behind less =
      subst (λ (n : ℕ). Agree meaning source (run_place meaning first behind) n cells) (pair_is behind)
      (subst (λ (n : ℕ). Agree meaning source n (run_pair meaning pair (done + behind)) cells) (place_is behind) (agree (done + behind) (omega arith)))

  value_is : (given : Given) (behind : ℕ) → run_value meaning given place pair (done + behind) ≡ run_value meaning given first second behind
  value_is given behind =
      ap (λ (n : ℕ). meaning.value given n (run_pair meaning pair (done + behind))) (place_is behind)
      ∙ ap (λ (n : ℕ). meaning.value given (run_place meaning first behind) n) (pair_is behind)

  value_behind : (given : Given) (behind : ℕ) → done ≤ behind → run_value meaning given place pair behind ≡ run_value meaning given first second (behind - done)
  value_behind given behind upto =
      let back : behind ≡ done + (behind - done) = omega arith in
      ap (λ (n : ℕ). run_value meaning given place pair n) back ∙ value_is given (behind - done)

  -- its cells stand in the middle of all
  module _ (front block back out : List ℤ) (front_size : length front ≡ done) (block_size : length block ≡ count) (out_is : out ≡ front ++ (block ++ back)) where
    at_part : (behind : ℕ) → done ≤ behind → behind < done + count → slice_index_or out behind (pos 0) ≡ slice_index_or block (behind - done) (pos 0)
    at_part behind upto less =
        ap (λ (xs : List ℤ). slice_index_or xs behind (pos 0)) out_is
        ∙ get_or-append_right front (block ++ back) done behind (pos 0) front_size upto
        ∙ get_or_append_left block back (pos 0) (behind - done) (omega arith)

    pub part_done : (given : Given) → AreValues (run_value meaning given first second) block (Ok tt)
        → ArePart done count (run_value meaning given place pair) out (Ok tt)
    part_done given values behind upto less =
        value_behind given behind upto ∙ values (behind - done) (omega arith) ∙ ap Ok (sym (at_part behind upto less))

    pub part_trapped : (given : Given) (trapped : RunTrap) (offset : ℕ) → offset ≡ done + trapped.offset
        → AreValues (run_value meaning given first second) block (Err trapped)
        → ArePart done count (run_value meaning given place pair) out (Err (record { trap = trapped.trap; offset = offset }))
    part_trapped given trapped offset is values =
        let upto : done ≤ offset = omega arith in
        let less : offset < done + count = omega (arith, values.0) in
        let back : offset - done ≡ trapped.offset = omega arith in (
          upto,
          less,
          value_behind given offset upto ∙ ap (λ (n : ℕ). run_value meaning given first second n) back ∙ values.1,
          λ behind from below. subst IsOk (sym (value_behind given behind from)) (values.2 (behind - done) (omega arith)),
        )

    pub part_range : (ty : Ty) → All (InRange ty) block → ArePartOfType ty done count out
    part_range ty all behind upto less = subst (InRange ty) (sym (at_part behind upto less)) (all (behind - done) (pos 0) (omega arith))

-- one part more
pub ran_part : (meaning : Meaning) (source : Source) (place pair total : ℕ) (out after : List ℤ) (done count : ℕ)
    → Ran meaning source place pair total out done
    → ((behind : ℕ) → behind < done → slice_index_or after behind (pos 0) ≡ slice_index_or out behind (pos 0))
    → ((cells : ℕ → ℕ → ℤ) → AgreeRun meaning source place pair total cells → ArePart done count (run_value meaning (given_by source cells) place pair) after (Ok tt))
    → ArePartOfType meaning.ty done count after
    → Ran meaning source place pair total after (done + count)
ran_part meaning source place pair total out after done count ran before values range = record {
  values = λ cells agree behind less. elim (cases_lt behind done) [
    | inl small ↦ ran.values cells agree behind small ∙ ap Ok (sym (before behind small))
    | inr upto ↦ values cells agree behind upto less
  ];
  range = λ behind less. elim (cases_lt behind done) [
    | inl small ↦ subst (InRange meaning.ty) (sym (before behind small)) (ran.range behind small)
    | inr upto ↦ range behind upto less
  ];
}

-- all places before a trap have values
pub ran_before : (meaning : Meaning) (source : Source) (place pair total : ℕ) (out after : List ℤ) (done count : ℕ) (trapped : RunTrap)
    → length after ≡ total → done + count ≤ total → Ran meaning source place pair total out done
    → (cells : ℕ → ℕ → ℤ) → AgreeRun meaning source place pair total cells
    → ArePart done count (run_value meaning (given_by source cells) place pair) after (Err trapped)
    → AreValues (run_value meaning (given_by source cells) place pair) after (Err trapped)
ran_before meaning source place pair total out after done count trapped size within ran cells agree part = (
  omega (arith, part.1),
  part.2,
  λ behind less. elim (cases_lt behind done) [
    | inl small ↦ ok_from (run_value meaning (given_by source cells) place pair behind) _ (ran.values cells agree behind small)
    | inr upto ↦ part.3 behind upto less
  ],
)
  where
    ok_from : (r : Result ℤ Trap) (x : ℤ) → r ≡ Ok x → IsOk r
    ok_from r x is = subst IsOk (sym is) refl
