-- What the code of arguments gives in main, and what takes them.
use Rattle.std.proofs.Common.{◌≡◌, ℕ, suc, ◌+◌, List, [], ◌∷◌, ◌++◌, length, reverse, take, drop, ℤ, Some, sym, ap, ◌∙◌, subst, arith, length-append}
use Rattle.std.proofs.lemmas.Bool.{le-leb}
use Rattle.std.proofs.lemmas.List.{length-reverse, reverse-reverse}
use Rattle.std.proofs.Math.Seq.{take-append_seam, drop-append_seam}
use Rattle.std.specs.Prelude.{slice_get, Result, Ok, Err, nat_le, if◌then◌else◌, true, Bool}
use Rattle.sk_base.specs.Arithmetic.{InRange}
use Rattle.sk_base.specs.declared.number.Ty.{Ty}
use Rattle.sk_isa.specs.Configurations.{Stuck, returning, with_many}
use Rattle.sk_isa.specs.declared.code.Instr.{Instr}
use Rattle.sk_isa.specs.declared.object.Object.{Object}
use Rattle.sk_main_code.specs.MainSteps.{MainNext, next_in_main}
use Rattle.sk_main_runs.proofs.Runs.{IsLike, like_on, stands, Finishes, Leads, leads_on, step, last_step, leads_same, Gives, after}
use Rattle.sk_meaning.specs.Expressions.{then_do}
use Rattle.sk_plain.proofs.Lists.{reverse-onto}
use Rattle.sk_world.specs.World.{World, Over}

-- what is given is of the type, in a world that is like the one before
abbrev pub IsGiven : Ty → World → Result (ℤ × World) Over → Type 0
IsGiven ty world (Ok done) = InRange ty done.0 × IsLike world done.1
IsGiven ty world (Err over) = Unit {0}

module _ (object : Object) where
  -- What the code of arguments does: their values come onto the stack in a shape, such as that of the parameters' types.
  abbrev pub GivesMany : (List ℤ → List ℤ) → ℕ → List ℤ → ℕ → List ℤ → World → ℕ → Result (List ℤ × World) Over → Type 0
  GivesMany shape count slots at stack world to (Ok done) =
      (length done.0 ≡ count) × IsLike world done.1 × Leads object (stands at stack slots world) (stands to (reverse (shape done.0) ++ stack) slots done.1)
  GivesMany shape count slots at stack world to (Err over) = Finishes object (stands at stack slots world) (Err over)

  many_after : (one : ℤ → ℤ) (rest shape : List ℤ → List ℤ) → ((v : ℤ) (vs : List ℤ) → shape (v ∷ vs) ≡ one v ∷ rest vs)
      → (count : ℕ) (slots : List ℤ) (at at1 to : ℕ) (stack : List ℤ) (world world1 : World) (value : ℤ) (o : Result (List ℤ × World) Over)
      → IsLike world world1 → Leads object (stands at stack slots world) (stands at1 (one value ∷ stack) slots world1)
      → GivesMany rest count slots at1 (one value ∷ stack) world1 to o
      → GivesMany shape (suc count) slots at stack world to (then_do o (λ values w. Ok (value ∷ values, w)))
  many_after one rest shape split count slots at at1 to stack world world1 value (Ok done) like l g =
      let turned : reverse (rest done.0) ++ (one value ∷ stack) ≡ reverse (shape (value ∷ done.0)) ++ stack =
      reverse-onto (one value) (rest done.0) stack ∙ ap (λ (vs : List ℤ). reverse vs ++ stack) (sym (split value done.0)) in (
        ap suc g.0,
        like_on world world1 done.1 like g.1,
        subst (λ (st : List ℤ). Leads object (stands at stack slots world) (stands to st slots done.1)) turned (leads_on object _ _ _ l g.2),
      )
  many_after one rest shape split count slots at at1 to stack world world1 value (Err over) like l g = l.by _ g

  -- the first argument, and those behind it
  pub more_gives : (one : ℤ → ℤ) (rest shape : List ℤ → List ℤ) → ((v : ℤ) (vs : List ℤ) → shape (v ∷ vs) ≡ one v ∷ rest vs)
      → (count : ℕ) (slots : List ℤ) (at to : ℕ) (stack : List ℤ) (world : World) (o : Result (ℤ × World) Over) (next : World → Result (List ℤ × World) Over) (wide : Ty) (at1 : ℕ)
      → Gives object wide slots at stack world at1 stack (then_do o (λ a w. Ok (one a, w)))
      → ((v : ℤ) (w : World) → IsLike world w → GivesMany rest count slots at1 (v ∷ stack) w to (next w))
      → GivesMany shape (suc count) slots at stack world to (then_do o (λ value w. then_do (next w) (λ values w. Ok (value ∷ values, w))))
  more_gives one rest shape split count slots at to stack world (Ok done) next wide at1 g h =
      many_after one rest shape split count slots at at1 to stack world done.1 done.0 (next done.1) g.1 g.2 (h (one done.0) done.1 g.1)
  more_gives one rest shape split count slots at to stack world (Err over) next wide at1 g h = g

  -- a value as it is
  pub same_gives : (ty : Ty) (slots : List ℤ) (at to : ℕ) (stack rest : List ℤ) (world : World) (o : Result (ℤ × World) Over)
      → Gives object ty slots at stack world to rest o → Gives object ty slots at stack world to rest (then_do o (λ a w. Ok (a, w)))
  same_gives ty slots at to stack rest world (Ok done) g = g
  same_gives ty slots at to stack rest world (Err over) g = g

  -- an instruction finds the values that were pushed
  pub many_found : (f stack : List ℤ) (count : ℕ) (next : List ℤ → List ℤ → MainNext) → count ≡ length f
      → with_many count (reverse f ++ stack) next ≡ next f stack
  many_found f stack count next e =
      let n : count ≡ length (reverse f) = e ∙ sym (length-reverse f) in
      let enough : nat_le (length (reverse f)) (length (reverse f ++ stack)) ≡ true =
      le-leb _ _ (omega (arith, length-append (reverse f) stack)) in
      ap (λ c. with_many c (reverse f ++ stack) next) n
      ∙ ap (λ (b : Bool). if b then next (reverse (take (length (reverse f)) (reverse f ++ stack))) (drop (length (reverse f)) (reverse f ++ stack)) else Stuck) enough
      ∙ ap (λ (l : List ℤ). next (reverse l) (drop (length (reverse f)) (reverse f ++ stack))) (take-append_seam (reverse f) stack)
      ∙ ap (λ (l : List ℤ). next l (drop (length (reverse f)) (reverse f ++ stack))) (reverse-reverse f)
      ∙ ap (λ (l : List ℤ). next f l) (drop-append_seam (reverse f) stack)

  -- an instruction that gives a value, or ends the run
  pub returned_gives : (ty : Ty) (slots : List ℤ) (at to : ℕ) (stack rest : List ℤ) (world : World) (i : Instr) (o : Result (ℤ × World) Over)
      → slice_get object.main.instrs at ≡ Some i → suc at ≡ to → next_in_main object i (stands at stack slots world) ≡ returning (stands at stack slots world) rest o
      → IsGiven ty world o → Gives object ty slots at stack world to rest o
  returned_gives ty slots at to stack rest world i (Ok done) here e does fits =
      (fits.0, fits.1, leads_on object _ _ _ (step object i _ _ here does) (leads_same object (suc at) to (done.0 ∷ rest) slots done.1 e))
  returned_gives ty slots at to stack rest world i (Err over) here e does fits = last_step object i _ (Err over) here does

  -- arguments, and an instruction that takes them and gives a value
  pub applied_gives : (ty : Ty) (shape : List ℤ → List ℤ) (count : ℕ) (slots : List ℤ) (at : ℕ) (stack : List ℤ) (world : World) (code : List Instr) (i : Instr)
      (o : Result (List ℤ × World) Over) (next : List ℤ → World → Result (ℤ × World) Over)
      → slice_get object.main.instrs (at + length code) ≡ Some i → GivesMany shape count slots at stack world (at + length code) o
      → ((values : List ℤ) (w : World) → length values ≡ count → IsLike world w
      → (next_in_main object i (stands (at + length code) (reverse (shape values) ++ stack) slots w)
      ≡ returning (stands (at + length code) (reverse (shape values) ++ stack) slots w) stack (next values w)) × IsGiven ty w (next values w))
      → Gives object ty slots at stack world (at + length (code ++ i ∷ [])) stack (then_do o next)
  applied_gives ty shape count slots at stack world code i (Ok done) next here g f =
      let to : ℕ = at + length (code ++ i ∷ []) in
      let e : suc (at + length code) ≡ to = omega (arith, length-append code (i ∷ [])) in
      let d = f done.0 done.1 g.0 g.1 in
      after object ty slots at (at + length code) to stack (reverse (shape done.0) ++ stack) stack world done.1 (next done.0 done.1) g.1 g.2
      (returned_gives ty slots (at + length code) to (reverse (shape done.0) ++ stack) stack done.1 i (next done.0 done.1) here e d.0 d.1)
  applied_gives ty shape count slots at stack world code i (Err over) next here g f = g
