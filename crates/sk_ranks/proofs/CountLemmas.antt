-- What a set of numbers knows of its marks.
use Rattle.std.proofs.Common.{◌≡◌, ◌∙◌, ap, sym, subst, ℕ, ◌+◌, ◌-◌, ◌^◌, ◌<◌, ◌≤◌, List, length, take, drop, set, get_or, arith, zero-add}
use Rattle.std.specs.Prelude.{slice_get, Some}
use Rattle.std.proofs.lemmas.List.{length-set, length-drop, get_or-drop}
use Rattle.sk_ranks.specs.Sums.{total, part}
use Rattle.sk_ranks.specs.Numbers.{marked_from}
use Rattle.sk_ranks.specs.NumberSet.{IsCounted, marks_of}
use Rattle.sk_ranks.specs.declared.number_set.NumberSet.TheInside.{Inside}
use Rattle.sk_ranks.proofs.SumLemmas.{root-is, IsPower-positive}
use Rattle.sk_ranks.proofs.MarkLemmas.{total-le, each-set, length-marked, marked-at}

-- there is a root
pub root-there : (numbers : Inside) → IsCounted numbers → 1 < length numbers.sums.items
root-there numbers counted =
    let some = IsPower-positive numbers.leaves counted.tree.power in
    omega (arith, counted.tree.length)

-- a new mark of 0 or 1 keeps the sum small
pub mark-fits : (numbers : Inside) (sums : List ℕ) (at mark : ℕ) → IsCounted numbers → sums ≡ numbers.sums.items → mark ≤ 1 → total (set (drop numbers.leaves sums) at mark) < 2 ^ 32
mark-fits numbers sums at mark counted is small =
    let same : drop numbers.leaves sums ≡ marks_of numbers = ap (λ (s : List ℕ). drop numbers.leaves s) is in
    let le : total (set (marks_of numbers) at mark) ≤ length (set (marks_of numbers) at mark) =
    total-le (set (marks_of numbers) at mark) (each-set (marks_of numbers) at mark small counted.marks) in
    let long : length (set (marks_of numbers) at mark) ≡ length (marks_of numbers) = length-set (marks_of numbers) at mark in
    let many : length (marks_of numbers) ≡ length numbers.sums.items - numbers.leaves = length-drop numbers.leaves numbers.sums.items in
    subst (λ (m : List ℕ). total (set m at mark) < 2 ^ 32) (sym same) (omega (arith, counted.short, counted.tree.length))

-- the root counts the numbers
pub root-count : (numbers : Inside) → IsCounted numbers → get_or numbers.sums.items 1 0 ≡ length (marked_from 0 (marks_of numbers))
root-count numbers counted = root-is numbers.sums.items numbers.leaves counted.tree ∙ length-marked 0 (marks_of numbers) counted.marks

-- a rank below the count is below the sum
pub rank-below : (numbers : Inside) (sums : List ℕ) (rank : ℕ) → IsCounted numbers → sums ≡ numbers.sums.items → rank < length (marked_from 0 (marks_of numbers)) → rank < total (drop numbers.leaves sums)
rank-below numbers sums rank counted is below =
    let same : total (drop numbers.leaves sums) ≡ total (marks_of numbers) = ap (λ (s : List ℕ). total (drop numbers.leaves s)) is in
    let count = length-marked 0 (marks_of numbers) counted.marks in
    omega arith

-- the number found has the rank
pub found-at : (numbers : Inside) (sums : List ℕ) (rank found : ℕ) → IsCounted numbers → sums ≡ numbers.sums.items → part sums numbers.leaves found ≤ rank → rank < part sums numbers.leaves found + get_or sums (numbers.leaves + found) 0 → slice_get (marked_from 0 (marks_of numbers)) rank ≡ Some found
found-at numbers sums rank found counted is before within =
    let same : part sums numbers.leaves found ≡ total (take found (marks_of numbers)) = ap (λ (s : List ℕ). part s numbers.leaves found) is in
    let here : get_or (marks_of numbers) found 0 ≡ get_or sums (numbers.leaves + found) 0 =
    get_or-drop numbers.leaves numbers.sums.items found 0 ∙ ap (λ (s : List ℕ). get_or s (numbers.leaves + found) 0) (sym is) in
    marked-at 0 found rank (marks_of numbers) counted.marks (omega arith) (omega arith) ∙ ap (λ (n : ℕ). Some n) (zero-add found)
