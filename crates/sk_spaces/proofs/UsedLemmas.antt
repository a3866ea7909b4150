-- How many cells are taken where one block changes.
use Rattle.std.proofs.Common.{◌≡◌, ℕ, ◌+◌, List, [], ◌∷◌, Option, Some, None, Bool, true, false, cond, sum_by, arith, refl, sym, ap, ◌∙◌, add_assoc, add_comm}
use Rattle.std.specs.Ordering.{nat_cmp}
use Rattle.std.specs.declared.cmp.Ordering.{Ordering}
use Rattle.std.proofs.lemmas.List.Sums.{sum_by-cons}
use Rattle.std.specs.declared.cmp.Ordering.TheVariants.{Less, Equal, Greater}
use Rattle.std.specs.Ordering.{match_ordering, is_eq}
use Rattle.std.specs.BTreeMap.{is_at, insert_entry}
use Rattle.std.specs.Map.{lookup, remove_entry, set_value}
use Rattle.sk_spaces.specs.Blocks.{BlockView, len_in, used_in}

used-cons : (e : ℕ × BlockView) (es : List (ℕ × BlockView)) (space : ℕ) → used_in (e ∷ es) space ≡ len_in space e.1 + used_in es space
used-cons e es space = sum_by-cons (λ entry. len_in space entry.1) e es

-- one step of the walk that finds a number's place
insert_first : (e : ℕ × BlockView) (es : List (ℕ × BlockView)) (id : ℕ) (block : BlockView) (space : ℕ) (order : Ordering)
    → (lookup (is_at (nat_cmp id)) es ≡ None
    → used_in (insert_entry nat_cmp es id block) space ≡ used_in es space + len_in space block)
    → cond (is_eq order) (Some e.1) (lookup (is_at (nat_cmp id)) es) ≡ None
    → used_in (match_ordering order ((id, block) ∷ e ∷ es) ((e.0, block) ∷ es) (e ∷ insert_entry nat_cmp es id block)) space
    ≡ used_in (e ∷ es) space + len_in space block
insert_first e es id block space Less more absent =
    used-cons (id, block) (e ∷ es) space ∙ add_comm (len_in space block) (used_in (e ∷ es) space)
insert_first e es id block space Equal more absent = cc
insert_first e es id block space Greater more absent =
    used-cons e (insert_entry nat_cmp es id block) space
    ∙ ap (λ n. len_in space e.1 + n) (more absent) ∙ sym (add_assoc (len_in space e.1) (used_in es space) (len_in space block))
    ∙ ap (λ n. n + len_in space block) (sym (used-cons e es space))

-- a new block takes its cells besides
pub used-insert : (es : List (ℕ × BlockView)) (id : ℕ) (block : BlockView) (space : ℕ)
    → lookup (is_at (nat_cmp id)) es ≡ None
    → used_in (insert_entry nat_cmp es id block) space ≡ used_in es space + len_in space block
used-insert [] id block space absent = omega arith
used-insert (e ∷ es) id block space absent =
    insert_first e es id block space (nat_cmp id e.0) (used-insert es id block space) absent

set_first : (e : ℕ × BlockView) (es : List (ℕ × BlockView)) (id : ℕ) (new : BlockView) (space : ℕ) (here : Bool) (block : BlockView)
    → (lookup (is_at (nat_cmp id)) es ≡ Some block → used_in (set_value (is_at (nat_cmp id)) es new) space ≡ used_in es space)
    → len_in space new ≡ len_in space block
    → cond here (Some e.1) (lookup (is_at (nat_cmp id)) es) ≡ Some block
    → used_in (cond here ((e.0, new) ∷ es) (e ∷ set_value (is_at (nat_cmp id)) es new)) space ≡ used_in (e ∷ es) space
set_first e es id new space true block more same found =
    let is : e.1 ≡ block = cc in
    used-cons (e.0, new) es space ∙ ap (λ n. n + used_in es space) (same ∙ ap (len_in space) (sym is)) ∙ sym (used-cons e es space)
set_first e es id new space false block more same found =
    used-cons e (set_value (is_at (nat_cmp id)) es new) space ∙ ap (λ n. len_in space e.1 + n) (more found)
    ∙ sym (used-cons e es space)

-- a block that takes as many cells as before
pub used-set : (es : List (ℕ × BlockView)) (id : ℕ) (new block : BlockView) (space : ℕ)
    → len_in space new ≡ len_in space block → lookup (is_at (nat_cmp id)) es ≡ Some block
    → used_in (set_value (is_at (nat_cmp id)) es new) space ≡ used_in es space
used-set [] id new block space same found = refl
used-set (e ∷ es) id new block space same found =
    set_first e es id new space (is_at (nat_cmp id) e.0) block (used-set es id new block space same) same found

remove_first : (e : ℕ × BlockView) (es : List (ℕ × BlockView)) (id : ℕ) (space : ℕ) (here : Bool) (block : BlockView)
    → (lookup (is_at (nat_cmp id)) es ≡ Some block
    → used_in (remove_entry (is_at (nat_cmp id)) es) space + len_in space block ≡ used_in es space)
    → cond here (Some e.1) (lookup (is_at (nat_cmp id)) es) ≡ Some block
    → used_in (cond here es (e ∷ remove_entry (is_at (nat_cmp id)) es)) space + len_in space block ≡ used_in (e ∷ es) space
remove_first e es id space true block more found =
    let is : e.1 ≡ block = cc in
    ap (λ b. used_in es space + len_in space b) (sym is) ∙ add_comm (used_in es space) (len_in space e.1) ∙ sym (used-cons e es space)
remove_first e es id space false block more found =
    ap (λ n. n + len_in space block) (used-cons e (remove_entry (is_at (nat_cmp id)) es) space)
    ∙ add_assoc (len_in space e.1) (used_in (remove_entry (is_at (nat_cmp id)) es) space) (len_in space block)
    ∙ ap (λ n. len_in space e.1 + n) (more found) ∙ sym (used-cons e es space)

-- without a block its cells are free
pub used-remove : (es : List (ℕ × BlockView)) (id : ℕ) (block : BlockView) (space : ℕ)
    → lookup (is_at (nat_cmp id)) es ≡ Some block
    → used_in (remove_entry (is_at (nat_cmp id)) es) space + len_in space block ≡ used_in es space
used-remove [] id block space found = cc
used-remove (e ∷ es) id block space found =
    remove_first e es id space (is_at (nat_cmp id) e.0) block (used-remove es id block space) found
