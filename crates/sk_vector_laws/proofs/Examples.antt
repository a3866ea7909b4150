-- An object that stands for a program and is not sound: it lacks all operators, and keeps a variant that only an operator
-- offers.
use Rattle.std.proofs.Common.{◌≡◌, ◌∙◌, ℕ, zero, suc, ◌<◌, Bool, true, false, List, [], ◌∷◌, length, map, Option, Some, None, inl, refl, sym, ap, subst, arith}
use Rattle.std.specs.Prelude.{◌&&◌, ◌==◌, is_some, Contains, slice_get, slice_index_or}
use Rattle.sk_base.specs.declared.choice.Variant.{Variant}
use Rattle.sk_base.specs.declared.choice.Variant.TheVariants.{Lanes}
use Rattle.sk_isa.specs.Objects.{function_at}
use Rattle.sk_isa.specs.Offers.{has_lanes, is_listed, offers, offers_of}
use Rattle.sk_isa.specs.SoundObjects.{HasSoundFunctions, IsSoundPlan}
use Rattle.sk_isa.specs.declared.object.Object.{Object}
use Rattle.sk_isa.specs.declared.object.Plan.{Plan}
use Rattle.sk_main_scheme.specs.Objects.{AreSomeMarks, AreSomeOperators, AreSomePlans, IsPart, StandsFor, object_of, offering}
use Rattle.sk_tree.specs.declared.operator.Operator.{Operator}
use Rattle.sk_tree.specs.declared.tree.Program.{Program}
use Rattle.sk_tree.specs.declared.tree.Skeleton.{Skeleton}
use Rattle.sk_tree.specs.declared.tree.Skeleton.TheVariants.{Call, Map, MapOverlap, MapPairs, MapPairsReduce, MapReduce, Reduce, Scan}
use Rattle.sk_vector_laws.proofs.Main.{full_object}

abbrev unlisted : Object → Object
unlisted object = record object { operators = map (λ operator. None) object.operators }

same_marks : (all : List Bool) → AreSomeMarks all all
same_marks [] = tt
same_marks (one ∷ all) = ((λ e. e), same_marks all)

no_operators : (all : List (Option Operator)) → AreSomeOperators (map (λ operator. None) all) all
no_operators [] = tt
no_operators (one ∷ all) = ((λ kind e. absurd (cc e)), no_operators all)

same_part : (all : List Variant) → IsPart all all
same_part [] = tt
same_part (variant ∷ all) = inl (refl, same_part all)

same_plans : (full : Object) (plans : List Plan) → AreSomePlans (map (offering full) plans) (map (offering full) plans)
same_plans full [] = tt
same_plans full (plan ∷ plans) = (record { same = refl; part = same_part (offers_of full plan); sequential = (0, omega arith, refl) }, same_plans full plans)

-- it stands for the program
pub unlisted_stands : (program : Program) → StandsFor (unlisted (object_of program)) program
unlisted_stands program = record {
  same = refl;
  safe = same_marks (object_of program).safe;
  operators = no_operators (object_of program).operators;
  instances = same_plans (full_object program) (full_object program).instances;
}

nowhere : (all : List (Option Operator)) (n : ℕ) → (elim (slice_get {X = Option Operator} (map (λ operator. None) all) n) as (λ _. Option Operator) [ Some operator ↦ operator | None ↦ None ]) ≡ None
nowhere [] n = refl
nowhere (one ∷ all) zero = refl
nowhere (one ∷ all) (suc n) = nowhere all n

never_both : (b : Bool) → (b && false) ≡ false
never_both true = refl
never_both false = refl

-- without operators no plan has lanes
no_lanes : (object : Object) (plan : Plan) → has_lanes (unlisted object) plan ≡ false
no_lanes object plan = by_kind plan.skeleton
  where
    none : is_listed (unlisted object) plan 0 ≡ false
    none = ap is_some (nowhere object.operators (function_at plan 0))

    by_kind : (kind : Skeleton) → (elim kind as (λ _. Bool) [
      | Map ↦ plan.elements == 2 && is_listed (unlisted object) plan 0
      | Reduce ↦ is_listed (unlisted object) plan 0
      | MapOverlap ↦ false
      | MapPairs ↦ false
      | Scan ↦ false
      | MapReduce ↦ false
      | MapPairsReduce ↦ false
      | Call ↦ false
    ]) ≡ false
    by_kind Map = ap (λ b. plan.elements == 2 && b) none ∙ never_both (plan.elements == 2)
    by_kind Reduce = none
    by_kind MapOverlap = refl
    by_kind MapPairs = refl
    by_kind Scan = refl
    by_kind MapReduce = refl
    by_kind MapPairsReduce = refl
    by_kind Call = refl

-- and it is not sound where an instance may be run in lanes
pub unlisted_is_unsound : (program : Program) (number : ℕ) (default : Plan) → number < length (object_of program).instances
    → Contains (slice_index_or (object_of program).instances number default).variants Lanes → HasSoundFunctions (unlisted (object_of program)) → ⊥
unlisted_is_unsound program number default within has sound =
    let plan : Plan = slice_index_or (object_of program).instances number default in
    let own : IsSoundPlan (unlisted (object_of program)) plan = sound.instances number default within in
    let offered : offers (unlisted (object_of program)) (slice_index_or (object_of program).instances number default) Lanes ≡ true =
    subst (λ (v : Variant). offers (unlisted (object_of program)) plan v ≡ true) has.2 (own.offered has.0 Lanes has.1) in
    let no : false ≡ true = sym (no_lanes (object_of program) plan) ∙ offered in
    absurd (cc no)
