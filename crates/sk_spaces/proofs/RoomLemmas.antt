-- What is taken in the spaces of the ranks, where a block comes.
use Rattle.std.proofs.Common.{◌≡◌, ◌≢◌, ℕ, ◌+◌, ◌-◌, ◌^◌, ◌<◌, ◌≤◌, ◌==◌, if◌then◌else◌, List, length, slice_index, Option, Some, None, IfSome, Bool, true, false, arith, ⊎_elim, refl, sym, subst, ap, ◌∙◌}
use Rattle.std.proofs.lemmas.Bool.{cases_eq, cases_lt}
use Rattle.sk_spaces.specs.Blocks.{BlockView, len_in, used_in, block_in, IsWhole, ChangesBlock}
use Rattle.sk_spaces.specs.Memories.{MemoriesView, block_of, used_of, AreSound, LacksRoom}

-- where room does not lack, there is room
pub fits_in : (m : MemoriesView) (space len : ℕ) → (LacksRoom m space len → ⊥) → 0 < space → used_of m space + len ≤ m.capacity
fits_in m space len room some = ⊎_elim
    (λ (full : m.capacity < used_of m space + len). absurd (room (record { limited = some; full = full })))
    (λ (fits : used_of m space + len ≤ m.capacity). fits)
    (cases_lt m.capacity (used_of m space + len))

-- a fact of every block, where one changes to a block of which it holds
pub for_each : (P : BlockView → Type 0) (old new : List (ℕ × BlockView)) (id : ℕ) (block : BlockView)
    → ChangesBlock old new id (Some block) → P block
    → ((q : ℕ) → IfSome (block_in old q) P) → (q : ℕ) → IfSome (block_in new q) P
for_each P old new id block changes here all q = ⊎_elim
    (λ (e : q ≡ id). subst (λ (o : Option BlockView). IfSome o P) (sym changes.here ∙ ap (block_in new) (sym e)) here)
    (λ (ne : q ≢ id). subst (λ (o : Option BlockView). IfSome o P) (sym (changes.others q ne)) (all q))
    (cases_eq q id)

len_within : (block : BlockView) (k used capacity : ℕ) → used ≤ capacity
    → (block.space ≡ k + 1 → used + (block.hi - block.lo) ≤ capacity) → used + len_in (k + 1) block ≤ capacity
len_within block k used capacity before room = grind arith

-- the counts where a block was added
pub sound-alloc : (old new : MemoriesView) (used now : List ℕ) (block : BlockView)
    → AreSound old used
    → new.next ≡ old.next + 1 → new.capacity ≡ old.capacity
    → ChangesBlock old.blocks new.blocks old.next (Some block)
    → IsWhole block → block.space ≤ length used
    → ((space : ℕ) → used_of new space ≡ used_of old space + len_in space block)
    → length now ≡ length used
    → ((k : ℕ) → k < length used → slice_index now k ≡ slice_index used k + (if block.space == k + 1 then block.hi - block.lo else 0))
    → (0 < block.space → used_of old block.space + (block.hi - block.lo) ≤ old.capacity)
    → AreSound new now
sound-alloc old new used now block s next capacity changes whole placed sum len taken room = record {
  fresh = λ q above. changes.others q (λ e. omega (arith, above, e, next)) ∙ s.fresh q (omega (arith, above, next));
  whole = for_each IsWhole old.blocks new.blocks old.next block changes whole s.whole;
  placed = subst (λ (n : ℕ). (q : ℕ) → IfSome (block_of new q) (λ b. b.space ≤ n)) (sym len)
      (for_each (λ b. b.space ≤ length used) old.blocks new.blocks old.next block changes placed s.placed);
  counted = λ k below. let b : k < length used = subst (λ (n : ℕ). k < n) len below in
      taken k b ∙ ap (λ n. n + len_in (k + 1) block) (s.counted k b) ∙ sym (sum (k + 1));
  within = λ k below. let b : k < length used = subst (λ (n : ℕ). k < n) len below in
      let h : slice_index used k + len_in (k + 1) block ≤ old.capacity =
      len_within block k (slice_index used k) old.capacity (s.within k b)
      (λ e. rw (s.counted k b) (subst (λ (n : ℕ). used_of old n + (block.hi - block.lo) ≤ old.capacity) e (room (omega (arith, e))))) in
      omega (arith, h, taken k b, capacity);
}

-- the count of a space with a block more fits its type
pub count-fits : (m : MemoriesView) (used : List ℕ) (space len : ℕ) → AreSound m used → (LacksRoom m space len → ⊥)
    → space ≤ length used → m.capacity < 2 ^ 32 → 0 < space → slice_index used (space - 1) + len < 2 ^ 32
count-fits m used space len s room placed capacity some =
    let one : space - 1 + 1 ≡ space = omega (arith, some) in
    let h : slice_index used (space - 1) ≡ used_of m space = s.counted (space - 1) (omega (arith, some, placed)) ∙ ap (used_of m) one in
    omega (arith, h, fits_in m space len room some, capacity)
