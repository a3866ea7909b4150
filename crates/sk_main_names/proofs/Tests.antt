-- What tests tell where they hold: of numbers and types, and of what fits.
use Rattle.std.proofs.Common.{◌≡◌, ℕ, zero, suc, List, [], ◌∷◌, map, take, drop, Option, Some, None, refl, sym, subst, arith}
use Rattle.std.proofs.lemmas.Bool.{and_from}
use Rattle.std.specs.Prelude.{true, Bool, ◌&&◌, ◌||◌, ◌==◌}
use Rattle.sk_base.specs.declared.number.Ty.{Ty}
use Rattle.sk_base.specs.declared.number.Ty.TheVariants.{Int, Long}
use Rattle.sk_main_fits.specs.Fits.{all_fit, fits, is_whole}
use Rattle.sk_main_fits.specs.StatementFits.{is_whole_of}
use Rattle.sk_main_scheme.specs.MainScheme.{Around, Named, Number, Whole, Called}
use Rattle.sk_plain.proofs.Truths.{and_left, and_right}
use Rattle.sk_tree.specs.Parameters.{same_type}
use Rattle.sk_tree.specs.declared.tree.Expr.{Expr}

pub same_number : (n m : ℕ) → (n == m) ≡ true → n ≡ m
same_number n m e = grind (arith, e)

pub number_itself : (n : ℕ) → (n == n) ≡ true
number_itself n = grind arith

pub type_same : (one other : Ty) → same_type one other ≡ true → one ≡ other
type_same Int Int e = refl
type_same Long Long e = refl
type_same Int Long e = let no : ⊥ = cc in absurd no
type_same Long Int e = let no : ⊥ = cc in absurd no

pub type_itself : (ty : Ty) → same_type ty ty ≡ true
type_itself Int = refl
type_itself Long = refl

-- a container of some type is a container
pub whole_is : (ty : Ty) (n : Option Named) → is_whole_of ty n ≡ true → is_whole n ≡ true
whole_is ty (Some (Whole container other)) e = refl
whole_is ty (Some (Number slot other)) e = e
whole_is ty (Some (Called made)) e = e
whole_is ty None e = e

-- the size of a vector, and at most one value behind it
pub made_few : (kind count : ℕ) → ((kind == 1) && (count == 1 || count == 2)) ≡ true → (count == kind || count == suc kind) ≡ true
made_few kind count e =
    let kind_is : kind ≡ 1 = same_number kind 1 (and_left (kind == 1) (count == 1 || count == 2) e) in
    subst (λ k. (count == k || count == suc k) ≡ true) (sym kind_is) (and_right (kind == 1) (count == 1 || count == 2) e)

-- an element of a container is written: the container, one place, and what fits
pub record IsPoked (named : Bool) (count : ℕ) (fit value_fits : Bool) : Type 0 where
  pub whole : named ≡ true
  pub one : count ≡ 1
  pub places : fit ≡ true
  pub value : value_fits ≡ true

pub poked_parts : (named : Bool) (count : ℕ) (fit value_fits : Bool) → (named && (count == 1) && fit && value_fits) ≡ true → IsPoked named count fit value_fits
poked_parts named count fit value_fits e =
    let three = and_left (named && (count == 1) && fit) value_fits e in
    let two = and_left (named && (count == 1)) fit three in
    record {
      whole = and_left named (count == 1) two;
      one = same_number count 1 (and_right named (count == 1) two);
      places = and_right (named && (count == 1)) fit three;
      value = and_right (named && (count == 1) && fit) value_fits e;
    }

-- ---- expressions of which each fits

pub fit_take : (around : Around) (n : ℕ) (es : List Expr) → all_fit (map fits es) around ≡ true → all_fit (map fits (take n es)) around ≡ true
fit_take around zero es e = refl
fit_take around (suc n) [] e = refl
fit_take around (suc n) (x ∷ es) e =
    and_from (fits x around) (all_fit (map fits (take n es)) around) (and_left (fits x around) (all_fit (map fits es) around) e)
    (fit_take around n es (and_right (fits x around) (all_fit (map fits es) around) e))

pub fit_drop : (around : Around) (n : ℕ) (es : List Expr) → all_fit (map fits es) around ≡ true → all_fit (map fits (drop n es)) around ≡ true
fit_drop around zero es e = e
fit_drop around (suc n) [] e = refl
fit_drop around (suc n) (x ∷ es) e = fit_drop around n es (and_right (fits x around) (all_fit (map fits es) around) e)
