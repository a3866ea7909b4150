-- Cells that were copied from one block to another one, by index.
use Rattle.std.proofs.Common.{◌≡◌, ℕ, ℤ, ◌+◌, ◌-◌, ◌<◌, ◌≤◌, List, length, slice_index_or, slice_range, Option, Some, None, IfSome, IsSome, false, nat_lt, pos, arith, refl, sym, subst, ◌∙◌, ap}
use Rattle.std.proofs.lemmas.Grind.{common_steps}
use Rattle.sk_spaces.specs.Blocks.{BlockView, IsWhole, Reaches, written, cells_at, copied, cell_of}
use Rattle.sk_copy_states.specs.Copies.{cell_in}
use Rattle.sk_coherence_laws.specs.Directory.{block_home}
use Rattle.sk_coherence_laws.specs.Writes.{WritesIn}
use Rattle.sk_coherence_laws.specs.Moves.{TakesIn}
use Rattle.sk_coherence_laws.proofs.SoundWrite as write

length_part : (xs : List ℤ) (a b : ℕ) → a ≤ b → b ≤ length xs → a + length (slice_range xs a b) ≡ b
length_part xs a b ordered within = grind (arith, common_steps)

part_at : (xs : List ℤ) (a b k : ℕ) → a ≤ b → b ≤ length xs → a + k < b → slice_index_or (slice_range xs a b) k (pos 0) ≡ slice_index_or xs (a + k) (pos 0)
part_at xs a b k ordered within below = grind (arith, common_steps)

pub length_cells : (b : BlockView) (lo hi : ℕ) → IsWhole b → Reaches lo hi b → lo + length (cells_at b lo hi) ≡ hi
length_cells b lo hi whole reaches =
    omega (arith, length_part b.cells (lo - b.lo) (hi - b.lo) (omega (arith, reaches.ordered)) (omega (arith, whole.cells, reaches.above, reaches.below)), reaches.above, reaches.ordered)

-- the cell of one of the indices
pub cell_part : (b : BlockView) (lo hi i : ℕ) → IsWhole b → Reaches lo hi b → lo ≤ i → i < hi
    → slice_index_or (cells_at b lo hi) (i - lo) (pos 0) ≡ cell_of b i
cell_part b lo hi i whole reaches above below =
    let p = part_at b.cells (lo - b.lo) (hi - b.lo) (i - lo) (omega (arith, reaches.ordered)) (omega (arith, whole.cells, reaches.above, reaches.below)) (omega (arith, reaches.above, above, below)) in
    let at : lo - b.lo + (i - lo) ≡ i - b.lo = omega (arith, reaches.above, above) in
    let past : nat_lt i b.lo ≡ false = grind (arith, reaches.above, above) in
    p ∙ ap (λ k. slice_index_or b.cells k (pos 0)) at ∙ sym (rw past refl)

takes_blocks : (a b : BlockView) (lo hi : ℕ) → IsWhole a → IsWhole b → Reaches lo hi a → Reaches lo hi b
    → TakesIn (cell_of a) (cell_of b) (cell_of (written lo (cells_at a lo hi) b)) lo hi
takes_blocks a b lo hi wa wb ra rb =
    let n = length_cells a lo hi wa ra in
    let w : WritesIn (cell_of b) (cell_of (written lo (cells_at a lo hi) b)) lo (lo + length (cells_at a lo hi)) (cells_at a lo hi)
    = write.writes_in b lo (cells_at a lo hi) wb (subst (λ (h : ℕ). Reaches lo h b) (sym n) rb) in
    record {
      before = w.before;
      inside = λ i above below. w.inside i above (omega (arith, below, n)) ∙ cell_part a lo hi i wa ra above below;
      after = λ i above. w.after i (omega (arith, above, n));
    }

pub takes-option : (o t p : Option BlockView) (lo hi : ℕ) → p ≡ copied lo hi o t → IfSome o IsWhole → IfSome t IsWhole
    → IfSome o (Reaches lo hi) → IfSome t (Reaches lo hi) → IsSome o → IsSome t → TakesIn (cell_in o) (cell_in t) (cell_in p) lo hi
takes-option None t p lo hi is wo wt ro rt so st = cc
takes-option (Some a) None p lo hi is wo wt ro rt so st = cc
takes-option (Some a) (Some b) p lo hi is wo wt ro rt so st =
    subst (λ (q : Option BlockView). TakesIn (cell_of a) (cell_of b) (cell_in q) lo hi) (sym is) (takes_blocks a b lo hi wo wt ro rt)

pub whole-moved : (o t p : Option BlockView) (lo hi : ℕ) → p ≡ copied lo hi o t → IfSome o IsWhole → IfSome t IsWhole
    → IfSome o (Reaches lo hi) → IfSome t (Reaches lo hi) → IfSome p IsWhole
whole-moved None t p lo hi is wo wt ro rt = subst (λ (q : Option BlockView). IfSome q IsWhole) (sym is) wt
whole-moved (Some a) None p lo hi is wo wt ro rt = subst (λ (q : Option BlockView). IfSome q IsWhole) (sym is) tt
whole-moved (Some a) (Some b) p lo hi is wo wt ro rt =
    subst (λ (q : Option BlockView). IfSome q IsWhole) (sym is)
    (write.whole-written b lo (cells_at a lo hi) wt (subst (λ (h : ℕ). Reaches lo h b) (sym (length_cells a lo hi wo ro)) rt))

pub home-moved : (o t p : Option BlockView) (lo hi : ℕ) → p ≡ copied lo hi o t → block_home p ≡ block_home t
home-moved None t p lo hi is = ap block_home is
home-moved (Some a) None p lo hi is = ap block_home is
home-moved (Some a) (Some b) p lo hi is = ap block_home is
