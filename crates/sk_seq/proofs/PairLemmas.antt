-- Rows of pairs.
use Rattle.std.proofs.Common.{◌≡◌, ◌∙◌, ℕ, zero, suc, ◌+◌, ◌-◌, ◌*◌, ◌/◌, ◌%◌, ◌<◌, ◌≤◌, Bool, true, List, ◌++◌, length, ℤ, pos, Ok, refl, ap, sym, subst, arith, inl, inr}
use Rattle.std.specs.Prelude.{if◌then◌else◌, All, Err, IsOk, slice_index_or}
use Rattle.std.proofs.lemmas.Bool.{cases_lt}
use Rattle.std.proofs.lemmas.List.{get_or_append_left, get_or-append_right}
use Rattle.std.proofs.lemmas.Nat.{div-mul-add, mod-mul-add}
use Rattle.sk_arguments.specs.Arguments.{Given}
use Rattle.sk_base.specs.Arithmetic.{InRange}
use Rattle.sk_base.specs.declared.number.Ty.{Ty}
use Rattle.sk_formula.specs.Elements.{mapped}
use Rattle.sk_formula.specs.Skeletons.{Functions, pair_value}
use Rattle.sk_kernel.specs.Kernels.{AreValues, Meaning, Source, given_by, run_value}
use Rattle.sk_kernel.specs.declared.kernel.RunTrap.{RunTrap}
use Rattle.sk_seq.proofs.Mapped.{all_values, least_trap}
use Rattle.sk_seq.specs.Given.{functions_over}
use Rattle.sk_seq.specs.Pairs.{AreOf, ArePairs, pair_from}

-- the pair for which an index stands
pub pair_is : (functions : Functions) (unit width pair place : ℕ) → place ≡ unit * width + pair → pair < width
    → pair_value functions width place ≡ functions.value unit pair
pair_is functions unit width pair place is less =
    ap (λ (n : ℕ). functions.value (n / width) (n % width)) is
    ∙ ap (λ (n : ℕ). functions.value n ((unit * width + pair) % width)) (div-mul-add unit width pair less)
    ∙ ap (functions.value unit) (mod-mul-add unit width pair less)

pair_run : (meaning : Meaning) (given : Given) (place k : ℕ) → meaning.pairs ≡ true → run_value meaning given place 0 k ≡ meaning.value given place k
pair_run meaning given place k is =
    ap (λ (b : Bool). meaning.value given (if b then place else place + k) (if b then 0 + k else 0)) is
    ∙ ap (meaning.value given place) (none_plus k)
  where
    none_plus : (n : ℕ) → 0 + n ≡ n
    none_plus n = omega arith

-- the pairs of one place
module _ (meaning : Meaning) (source : Source) (cells : ℕ → ℕ → ℤ) (unit width done : ℕ) (front line back : List ℤ)
    (pairs : meaning.pairs ≡ true) (front_size : length front ≡ done) (line_size : length line ≡ width) where
  at_pair : (pair : ℕ) → pair < width → slice_index_or (front ++ (line ++ back)) (done + pair) (pos 0) ≡ slice_index_or line pair (pos 0)
  at_pair pair less =
      get_or-append_right front (line ++ back) done (done + pair) (pos 0) front_size (omega arith)
      ∙ ap (λ (n : ℕ). slice_index_or (line ++ back) n (pos 0)) back_is
      ∙ get_or_append_left line back (pos 0) pair (subst (λ (n : ℕ). pair < n) (sym line_size) less)
    where
      back_is : done + pair - done ≡ pair
      back_is = omega arith

  pub row_done : AreValues (run_value meaning (given_by source cells) unit 0) line (Ok tt)
      → ArePairs (functions_over meaning source cells) unit width done (front ++ (line ++ back)) (Ok tt)
  row_done values pair less =
      sym (pair_run meaning (given_by source cells) unit pair pairs)
      ∙ values pair (subst (λ (n : ℕ). pair < n) (sym line_size) less)
      ∙ ap Ok (sym (at_pair pair less))

  pub row_range : (ty : Ty) → All (InRange ty) line → (k : ℕ) → done ≤ k → k < done + width → InRange ty (slice_index_or (front ++ (line ++ back)) k (pos 0))
  row_range ty all k upto less =
      let back_is : done + (k - done) ≡ k = omega arith in
      let small : k - done < width = omega arith in
      subst (λ (n : ℕ). InRange ty (slice_index_or (front ++ (line ++ back)) n (pos 0))) back_is
      (subst (InRange ty) (sym (at_pair (k - done) small)) (all (k - done) (pos 0) (subst (λ (n : ℕ). k - done < n) (sym line_size) small)))

  pub row_trapped : (trapped : RunTrap) → AreValues (run_value meaning (given_by source cells) unit 0) line (Err trapped)
      → ArePairs (functions_over meaning source cells) unit width done (front ++ (line ++ back)) (Err (record { trap = trapped.trap; offset = done + trapped.offset }))
  row_trapped trapped values =
      let less : trapped.offset < width = subst (λ (n : ℕ). trapped.offset < n) line_size values.0 in (
        omega arith,
        omega arith,
        λ pair is.
            let same : pair ≡ trapped.offset = omega arith in
            ap (meaning.value (given_by source cells) unit) same ∙ sym (pair_run meaning (given_by source cells) unit trapped.offset pairs) ∙ values.1,
        λ pair below.
            let before : pair < trapped.offset = omega arith in
            subst IsOk (pair_run meaning (given_by source cells) unit pair pairs) (values.2 pair before),
      )

-- rows one after another
module _ (now meaning : Meaning) (source : Source) (cells : ℕ → ℕ → ℤ) (unit width first done : ℕ) (out after : List ℤ)
    (same : now ≡ meaning) (from : first + done ≡ unit * width)
    (before : (k : ℕ) → k < done → pair_from (functions_over meaning source cells) width first k ≡ Ok (slice_index_or out k (pos 0))) where
  at_place : (k : ℕ) → done ≤ k → k < done + width → pair_from (functions_over meaning source cells) width first k ≡ (functions_over meaning source cells).value unit (k - done)
  at_place k upto less = pair_is (functions_over meaning source cells) unit width (k - done) (first + k) (omega arith) (omega arith)

  pub rows_more : ((k : ℕ) → k < done → slice_index_or after k (pos 0) ≡ slice_index_or out k (pos 0))
      → ArePairs (functions_over now source cells) unit width done after (Ok tt)
      → (k : ℕ) → k < done + width → pair_from (functions_over meaning source cells) width first k ≡ Ok (slice_index_or after k (pos 0))
  rows_more kept are k less = elim (cases_lt k done) [
    | inl small ↦ before k small ∙ ap Ok (sym (kept k small))
    | inr upto ↦
        at_place k upto less
        ∙ subst (λ (m : Meaning). ArePairs (functions_over m source cells) unit width done after (Ok tt)) same are (k - done) (omega arith)
        ∙ ap (λ (n : ℕ). Ok (slice_index_or after n (pos 0))) (back_is k upto)
  ]
    where
      back_is : (k : ℕ) → done ≤ k → done + (k - done) ≡ k
      back_is k upto = omega arith

  pub rows_trapped : (trapped : RunTrap) → trapped.offset < length after
      → ArePairs (functions_over now source cells) unit width done after (Err trapped)
      → AreValues (pair_from (functions_over meaning source cells) width first) after (Err trapped)
  rows_trapped trapped inside given =
      let are = subst (λ (m : Meaning). ArePairs (functions_over m source cells) unit width done after (Err trapped)) same given in (
        inside,
        at_place trapped.offset are.0 are.1 ∙ are.2 (trapped.offset - done) (omega (arith, are.0)),
        λ k less. elim (cases_lt k done) [
          | inl small ↦ subst IsOk (sym (before k small)) refl
          | inr upto ↦ subst IsOk (sym (at_place k upto (omega (arith, are.1)))) (are.3 (k - done) (omega arith))
        ],
      )

-- all of them
pub pairs_done : (functions : Functions) (width first n : ℕ) (out : List ℤ) → length out ≡ n → AreValues (pair_from functions width first) out (Ok tt)
    → mapped (pair_value functions width) first n ≡ Ok out
pairs_done functions width first n out long values = all_values (pair_value functions width) first out n long values

pub pairs_trapped : (functions : Functions) (width first n : ℕ) (out : List ℤ) (trapped : RunTrap) → length out ≡ n → AreValues (pair_from functions width first) out (Err trapped)
    → mapped (pair_value functions width) first n ≡ Err (record { trap = trapped.trap; element = first + trapped.offset })
pairs_trapped functions width first n out trapped long values =
    least_trap (pair_value functions width) first trapped.offset trapped.trap n (subst (λ (m : ℕ). trapped.offset < m) long values.0) values.1 values.2

-- how many cells are left
pub row_left : (hi unit width : ℕ) → unit < hi → (hi - unit) * width ≡ width + (hi - (unit + 1)) * width
row_left hi unit width less = ap (λ (n : ℕ). n * width) whole ∙ spread (hi - (unit + 1))
  where
    whole : hi - unit ≡ 1 + (hi - (unit + 1))
    whole = omega arith

    spread : (n : ℕ) → (1 + n) * width ≡ width + n * width
    spread n = grind arith

pub row_next : (unit width : ℕ) → (unit + 1) * width ≡ unit * width + width
row_next unit width = grind arith

pub none_left : (hi unit width : ℕ) → hi ≤ unit → (hi - unit) * width ≡ 0
none_left hi unit width upto = ap (λ (n : ℕ). n * width) none ∙ zero_rows width
  where
    none : hi - unit ≡ 0
    none = omega arith

    zero_rows : (w : ℕ) → 0 * w ≡ 0
    zero_rows w = omega arith

-- a place, and as many pairs as each place has
pub place_fits : (unit hi width bound : ℕ) → unit < hi → hi * width < bound → unit < bound → unit + width < bound
place_fits unit hi zero bound less few small = omega arith
place_fits unit hi (suc w) bound less few small =
    let whole : hi ≡ unit + 1 + (hi - (unit + 1)) = omega arith in
    let product : hi * suc w ≡ unit * w + unit + suc w + (hi - (unit + 1)) * suc w = ap (λ (n : ℕ). n * suc w) whole ∙ spread (hi - (unit + 1)) in
    omega arith
  where
    spread : (d : ℕ) → (unit + 1 + d) * suc w ≡ unit * w + unit + suc w + d * suc w
    spread d = grind arith

pub range_more : (now meaning : Meaning) (out after : List ℤ) (done width : ℕ) → now ≡ meaning → AreOf meaning.ty out done
    → ((k : ℕ) → k < done → slice_index_or after k (pos 0) ≡ slice_index_or out k (pos 0))
    → ((k : ℕ) → done ≤ k → k < done + width → InRange now.ty (slice_index_or after k (pos 0)))
    → AreOf meaning.ty after (done + width)
range_more now meaning out after done width same before kept more k less = elim (cases_lt k done) [
  | inl small ↦ subst (InRange meaning.ty) (sym (kept k small)) (before k small)
  | inr upto ↦ subst (λ (m : Meaning). InRange m.ty (slice_index_or after k (pos 0))) same (more k upto less)
]
