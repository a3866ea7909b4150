-- Cells that are put where they are already.
use Rattle.std.proofs.Common.{◌≡◌, ℕ, ℤ, ◌+◌, ◌-◌, ◌≤◌, List, ◌++◌, length, take, drop, slice_range, Option, Some, None, IfSome, arith, ap, sym, ◌∙◌, append_assoc, refl, length-drop, length-take}
use Rattle.std.proofs.lemmas.List.{take-append-drop}
use Rattle.std.proofs.lemmas.Grind.{common_steps}
use Rattle.sk_spaces.specs.Blocks.{BlockView, IsWhole, Reaches, overwritten, written, cells_at, copied, taken_in}
use Rattle.std.specs.Option.{option_map}

length_part : (xs : List ℤ) (at to : ℕ) → at ≤ to → to ≤ length xs → at + length (slice_range xs at to) ≡ to
length_part xs at to ordered within = grind (arith, common_steps)

-- a part of a list in its own place
pub overwritten-part : (xs : List ℤ) (at to : ℕ) → at ≤ to → to ≤ length xs → overwritten xs at (slice_range xs at to) ≡ xs
overwritten-part xs at to ordered within =
    let n : at + length (slice_range xs at to) ≡ to = length_part xs at to ordered within in
    let d : drop to xs ≡ drop (to - at) (drop at xs) = grind (arith, common_steps) in
    ap (λ k. (take at xs ++ slice_range xs at to) ++ drop k xs) n
    ∙ append_assoc (take at xs) (slice_range xs at to) (drop to xs)
    ∙ ap (λ ys. take at xs ++ (slice_range xs at to ++ ys)) d
    ∙ ap (λ ys. take at xs ++ ys) (take-append-drop (to - at) (drop at xs))
    ∙ take-append-drop at xs

-- a block copied onto itself
pub written-part : (block : BlockView) (lo hi : ℕ) → IsWhole block → Reaches lo hi block → written lo (cells_at block lo hi) block ≡ block
written-part block lo hi whole reaches =
    ap (λ (xs : List ℤ). let b : BlockView = record block { cells = xs } in b)
    (overwritten-part block.cells (lo - block.lo) (hi - block.lo) (omega (arith, whole.cells, reaches.above, reaches.ordered, reaches.below))
    (omega (arith, whole.cells, reaches.above, reaches.ordered, reaches.below)))

pub copied-same : (b : Option BlockView) (lo hi : ℕ) → IfSome b IsWhole → IfSome b (Reaches lo hi) → copied lo hi b b ≡ b
copied-same None lo hi whole reaches = refl
copied-same (Some b) lo hi whole reaches = ap Some (written-part b lo hi whole reaches)

-- a write takes no room
pub taken-written : (o : Option BlockView) (space lo : ℕ) (cells : List ℤ) → taken_in space (option_map (written lo cells) o) ≡ taken_in space o
taken-written None space lo cells = refl
taken-written (Some b) space lo cells = refl

-- nor does a copy
pub taken-copied : (source target : Option BlockView) (space lo hi : ℕ) → taken_in space (copied lo hi source target) ≡ taken_in space target
taken-copied (Some a) (Some b) space lo hi = refl
taken-copied (Some a) None space lo hi = refl
taken-copied None (Some b) space lo hi = refl
taken-copied None None space lo hi = refl
