-- Objects whose marks are true: those without marks, and those that lack some of an object's whose marks are.
use Rattle.std.proofs.Common.{◌≡◌, ◌∙◌, ℕ, zero, suc, Bool, true, false, List, [], ◌∷◌, map, All, Some, None, refl, sym, subst}
use Rattle.std.proofs.lemmas.List.Elements.{All-nil, All-cons}
use Rattle.std.specs.Prelude.{slice_get}
use Rattle.sk_base.specs.declared.choice.Variant.{Variant}
use Rattle.sk_base.specs.declared.choice.Variant.TheVariants.{Sequential}
use Rattle.sk_isa.specs.Offers.{offers}
use Rattle.sk_isa.specs.SoundObjects.{IsSafe}
use Rattle.sk_isa.specs.declared.object.Object.{Object}
use Rattle.sk_isa.specs.declared.object.Plan.{Plan}
use Rattle.sk_main_scheme.specs.Objects.{AreSomeMarks, unmarked_of, unmarked_plan, object_of}
use Rattle.sk_plain.proofs.Lists.{all_one}
use Rattle.sk_vector_laws.specs.Marks.{BareMarksAreTrue, StandingMarksAreSafe}

abbrev mark_in : List Bool → ℕ → Bool
mark_in marks n = elim (slice_get marks n) as (λ _. Bool) [ Some marked ↦ marked | None ↦ false ]

-- ---- no marks

no_mark : (all : List Bool) (n : ℕ) → mark_in (map (λ mark. false) all) n ≡ false
no_mark [] n = refl
no_mark (one ∷ all) zero = refl
no_mark (one ∷ all) (suc n) = no_mark all n

unmarked_offered : (object : Object) (plans : List Plan) → All (λ (plan : Plan). All (λ (variant : Variant). offers object plan variant ≡ true) plan.variants) (map unmarked_plan plans)
unmarked_offered object [] = All-nil (λ (plan : Plan). All (λ (variant : Variant). offers object plan variant ≡ true) plan.variants)
unmarked_offered object (plan ∷ plans) =
    All-cons (λ (plan : Plan). All (λ (variant : Variant). offers object plan variant ≡ true) plan.variants) (unmarked_plan plan) (map unmarked_plan plans)
    (all_one (λ (variant : Variant). offers object (unmarked_plan plan) variant ≡ true) Sequential refl) (unmarked_offered object plans)

pub absent_true : BareMarksAreTrue
absent_true program = record {
  safe = λ function e. let no : false ≡ true = sym (no_mark (object_of program).safe function) ∙ e in absurd (cc no);
  offered = unmarked_offered (unmarked_of (object_of program)) (object_of program).instances;
}

-- ---- some marks

some_mark : (marks all : List Bool) → AreSomeMarks marks all → (n : ℕ) → mark_in marks n ≡ true → mark_in all n ≡ true
some_mark [] [] h n e = e
some_mark [] (one ∷ all) h n e = absurd h
some_mark (mark ∷ marks) [] h n e = absurd h
some_mark (mark ∷ marks) (one ∷ all) h zero e = h.0 e
some_mark (mark ∷ marks) (one ∷ all) h (suc n) e = some_mark marks all h.1 n e

-- an object that stands for a program whose own object has true marks
pub standing_safe : StandingMarksAreSafe
standing_safe program object stands marks function e =
    let safe = subst (λ (o : Object). IsSafe o function) (sym stands.same) (marks function (some_mark object.safe (object_of program).safe stands.safe function e)) in
    record { plain = safe.plain; has_value = safe.has_value }
