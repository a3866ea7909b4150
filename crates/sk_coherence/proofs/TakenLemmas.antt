-- The pinned cells of a space are among those that are taken there.
use Rattle.std.proofs.Common.{◌≡◌, ◌≢◌, ℕ, ◌+◌, ◌-◌, ◌≤◌, ◌==◌, ◌&&◌, if◌then◌else◌, Bool, true, false, not, List, [], ◌∷◌, Option, Some, None, IfSome, arith, ⊎_elim, refl, sym, subst, ◌∙◌, ap}
use Rattle.std.proofs.lemmas.Bool.{cases_eq}
use Rattle.std.proofs.lemmas.List.Sums.{sum_by-cons}
use Rattle.std.proofs.lemmas.Map.{lookup-none}
use Rattle.std.proofs.lemmas.Map.Entries.{none_past_head}
use Rattle.std.proofs.lemmas.Map.Keys.{IsDistinct-from_sorted}
use Rattle.std.specs.Cmp.{nat_cmp_total, eq_by_cmp_equiv}
use Rattle.std.specs.List.{IsDistinct}
use Rattle.std.specs.List.Sorted.{IsStrictlySortedBy}
use Rattle.std.specs.Ordering.{nat_cmp, eq_by_cmp}
use Rattle.std.specs.BTreeMap.{is_at}
use Rattle.std.specs.Map.{lookup, remove_entry, keys_of}
use Rattle.sk_spaces.specs.Blocks.{BlockView, block_in, len_in, taken_in, used_in}
use Rattle.sk_spaces.specs.Spaces.{used_at}
use Rattle.sk_copy_states.specs.declared.held.Held.{Held}
use Rattle.sk_copy_states.specs.Held.{home_of}
use Rattle.sk_copy_states.specs.Copies.{held_in, home_in}
use Rattle.sk_copy_states.specs.Loose.{kept_by, pinned_in}
use Rattle.sk_coherence_laws.specs.Directory.{DirectoryView, copy_at, cells_of_copy, block_home, IsSound}

-- each listed copy has its block
abbrev HasBlocks : List (ℕ × Held) → List (ℕ × BlockView) → Type 0
HasBlocks copies blocks = (q : ℕ) → IfSome (held_in copies q) (λ held. block_home (block_in blocks q) ≡ Some (home_of held))

-- no number is listed twice: what is behind the first entry has another one
abbrev pub AreApart : List (ℕ × Held) → Type 0
AreApart [] = Unit {0}
AreApart (entry ∷ rest) = (held_in rest entry.0 ≡ None) × AreApart rest

at_self : (k : ℕ) → is_at (nat_cmp k) k ≡ true
at_self k = grind arith

at_else : (q k : ℕ) → q ≢ k → is_at (nat_cmp q) k ≡ false
at_else q k ne = grind (arith, ne)

used_removed : (test : ℕ → Bool) (space : ℕ) (blocks : List (ℕ × BlockView)) → used_in (remove_entry test blocks) space + taken_in space (lookup test blocks) ≡ used_in blocks space
used_removed test space [] = refl
used_removed test space (entry ∷ rest) = by_test (test entry.0) (used_removed test space rest)
  where
    all : used_in (entry ∷ rest) space ≡ len_in space entry.1 + used_in rest space
    all = sum_by-cons (λ (e : ℕ × BlockView). len_in space e.1) entry rest

    more : used_in (entry ∷ remove_entry test rest) space ≡ len_in space entry.1 + used_in (remove_entry test rest) space
    more = sum_by-cons (λ (e : ℕ × BlockView). len_in space e.1) entry (remove_entry test rest)

    by_test : (t : Bool) → used_in (remove_entry test rest) space + taken_in space (lookup test rest) ≡ used_in rest space
        → used_in (if t then rest else entry ∷ remove_entry test rest) space + taken_in space (if t then Some entry.1 else lookup test rest) ≡ used_in (entry ∷ rest) space
    by_test true below = omega (arith, all)
    by_test false below = omega (arith, all, more, below)

found_else : (q k : ℕ) → q ≢ k → (blocks : List (ℕ × BlockView)) → block_in (remove_entry (is_at (nat_cmp k)) blocks) q ≡ block_in blocks q
found_else q k ne [] = refl
found_else q k ne (entry ∷ rest) = by_test (is_at (nat_cmp k) entry.0) refl (found_else q k ne rest)
  where
    by_test : (t : Bool) → is_at (nat_cmp k) entry.0 ≡ t → block_in (remove_entry (is_at (nat_cmp k)) rest) q ≡ block_in rest q
        → block_in (if t then rest else entry ∷ remove_entry (is_at (nat_cmp k)) rest) q ≡ block_in (entry ∷ rest) q
    by_test true is below =
        let same : k ≡ entry.0 = grind (arith, is) in
        sym (ap (λ (t : Bool). if t then Some entry.1 else block_in rest q) (at_else q entry.0 (λ e. ne (e ∙ sym same))))
    by_test false is below = ap (λ (o : Option BlockView). if is_at (nat_cmp q) entry.0 then Some entry.1 else o) below

kept_taken : (space : ℕ) (held : Held) (b : Option BlockView) → block_home b ≡ Some (home_of held) → kept_by space held ≤ taken_in space b
kept_taken space held None same = cc
kept_taken space held (Some x) same =
    let at : x.space ≡ held.space = grind arith in
    let lo : x.lo ≡ held.lo = grind arith in
    let hi : x.hi ≡ held.hi = grind arith in
    rw (at, lo, hi) (by_space (held.space == space) (held.pins == 0))
  where
    by_space : (s p : Bool) → (if s && not p then held.hi - held.lo else 0) ≤ (if s then held.hi - held.lo else 0)
    by_space true true = omega arith
    by_space true false = omega arith
    by_space false p = omega arith

pinned_within : (space : ℕ) (copies : List (ℕ × Held)) (blocks : List (ℕ × BlockView)) → AreApart copies → HasBlocks copies blocks → pinned_in space copies ≤ used_in blocks space
pinned_within space [] blocks apart has = omega arith
pinned_within space (entry ∷ rest) blocks apart has =
    let k = entry.0 in
    let own : block_home (block_in blocks k) ≡ Some (home_of entry.1)
    = subst (λ (o : Option Held). IfSome o (λ held. block_home (block_in blocks k) ≡ Some (home_of held))) (ap (λ (t : Bool). if t then Some entry.1 else held_in rest k) (at_self k)) (has k) in
    let here = kept_taken space entry.1 (block_in blocks k) own in
    let others = pinned_within space rest (remove_entry (is_at (nat_cmp k)) blocks) apart.1 rest_has in
    let all : pinned_in space (entry ∷ rest) ≡ kept_by space entry.1 + pinned_in space rest = sum_by-cons (λ (e : ℕ × Held). kept_by space e.1) entry rest in
    omega (arith, all, here, others, used_removed (is_at (nat_cmp k)) space blocks)
  where
    rest_has : HasBlocks rest (remove_entry (is_at (nat_cmp entry.0)) blocks)
    rest_has q = ⊎_elim
        (λ (e : q ≡ entry.0). subst (λ (o : Option Held). IfSome o (λ held. block_home (block_in (remove_entry (is_at (nat_cmp entry.0)) blocks) q) ≡ Some (home_of held)))
        (sym (ap (held_in rest) e ∙ apart.0)) tt)
        (λ (ne : q ≢ entry.0). subst (λ (b : Option BlockView). IfSome (held_in rest q) (λ held. block_home b ≡ Some (home_of held))) (sym (found_else q entry.0 ne blocks))
        (subst (λ (o : Option Held). IfSome o (λ held. block_home (block_in blocks q) ≡ Some (home_of held))) (ap (λ (t : Bool). if t then Some entry.1 else held_in rest q) (at_else q entry.0 ne)) (has q)))
        (cases_eq q entry.0)

tied_home : (o : Option Held) (b : Option BlockView) → block_home b ≡ home_in o → IfSome o (λ held. block_home b ≡ Some (home_of held))
tied_home None b same = tt
tied_home (Some held) b same = same

pub pinned-taken : (d : DirectoryView) (space : ℕ) → IsSound d → AreApart d.copies → pinned_in space d.copies ≤ used_at d.spaces space
pinned-taken d space sound apart = pinned_within space d.copies d.spaces.memories.blocks apart
    (λ q. tied_home (copy_at d q) (cells_of_copy d q) (sound.tied q))

apart_of : (copies : List (ℕ × Held)) → IsDistinct (eq_by_cmp nat_cmp) (keys_of copies) → AreApart copies
unfolding IsDistinct
apart_of [] distinct = tt
apart_of (entry ∷ rest) distinct = (
  lookup-none (is_at (nat_cmp entry.0)) rest (none_past_head (eq_by_cmp_equiv nat_cmp_total) entry.0 entry rest distinct (at_self entry.0)),
  apart_of rest distinct.1,
)

-- in a map that is in order
pub apart-sorted : (copies : List (ℕ × Held)) → IsStrictlySortedBy nat_cmp (keys_of copies) → AreApart copies
apart-sorted copies sorted = apart_of copies (IsDistinct-from_sorted nat_cmp (keys_of copies) sorted)
