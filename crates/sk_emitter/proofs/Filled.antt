-- A jump is written after the instructions that it passes.
use Rattle.std.proofs.Common.{◌≡◌, ℕ, ◌+◌, pos, List, [], ◌∷◌, ◌++◌, length, sym, ap, ◌∙◌, arith, append_assoc, length-append}
use Rattle.std.specs.Prelude.{slice_set}
use Rattle.std.proofs.Math.Seq.{set-append_seam}
use Rattle.sk_isa.specs.declared.code.Instr.{Instr}
use Rattle.sk_isa.specs.declared.code.Instr.TheVariants.{Push, Zero, Jump, Turn}

two_writes : (c a b : List Instr) (x y i j : Instr)
    → slice_set (slice_set (c ++ x ∷ (a ++ y ∷ b)) (length c) i) (length (c ++ i ∷ a)) j ≡ c ++ i ∷ (a ++ j ∷ b)
two_writes c a b x y i j =
    ap (λ l. slice_set l (length (c ++ i ∷ a)) j) (set-append_seam c x (a ++ y ∷ b) i ∙ sym (append_assoc c (i ∷ a) (y ∷ b)))
    ∙ set-append_seam (c ++ i ∷ a) y b j
    ∙ append_assoc c (i ∷ a) (j ∷ b)

-- two places in code that was appended piece by piece are written
two_filled : (base one a b c1 c2 c3 c4 c5 : List Instr) (x y i j : Instr) (n m : ℕ)
    → c1 ≡ base ++ one → n ≡ length c1 → c2 ≡ c1 ++ x ∷ [] → c3 ≡ c2 ++ a → m ≡ length c3 → c4 ≡ c3 ++ y ∷ [] → c5 ≡ c4 ++ b
    → slice_set (slice_set c5 n i) m j ≡ base ++ ((one ++ i ∷ a) ++ j ∷ b)
two_filled base one a b c1 c2 c3 c4 c5 x y i j n m e1 en e2 e3 em e4 e5 =
    let l2 = ap length e2 ∙ length-append c1 (x ∷ []) in
    let l3 = ap length e3 ∙ length-append c2 a in
    let at : m ≡ length (c1 ++ i ∷ a) = omega (arith, length-append c1 (i ∷ a)) in
    let all : c5 ≡ (((c1 ++ x ∷ []) ++ a) ++ y ∷ []) ++ b = cc in
    let flat : (((c1 ++ x ∷ []) ++ a) ++ y ∷ []) ++ b ≡ c1 ++ x ∷ (a ++ y ∷ b) = simp append_assoc in
    let regroup : (base ++ one) ++ i ∷ (a ++ j ∷ b) ≡ base ++ ((one ++ i ∷ a) ++ j ∷ b) = simp append_assoc in
    ap (λ l. slice_set (slice_set l n i) m j) (all ∙ flat)
    ∙ ap (λ k. slice_set (slice_set (c1 ++ x ∷ (a ++ y ∷ b)) k i) m j) en
    ∙ ap (λ k. slice_set (slice_set (c1 ++ x ∷ (a ++ y ∷ b)) (length c1) i) k j) at
    ∙ two_writes c1 a b x y i j
    ∙ ap (λ l. l ++ i ∷ (a ++ j ∷ b)) e1
    ∙ regroup

-- one place in code that was appended piece by piece is written
one_filled : (base one a c1 c2 c3 : List Instr) (x i : Instr) (n : ℕ)
    → c1 ≡ base ++ one → n ≡ length c1 → c2 ≡ c1 ++ x ∷ [] → c3 ≡ c2 ++ a
    → slice_set c3 n i ≡ base ++ (one ++ i ∷ a)
one_filled base one a c1 c2 c3 x i n e1 en e2 e3 =
    let all : c3 ≡ (c1 ++ x ∷ []) ++ a = cc in
    let flat : (c1 ++ x ∷ []) ++ a ≡ c1 ++ x ∷ a = simp append_assoc in
    ap (λ l. slice_set l n i) (all ∙ flat)
    ∙ ap (λ k. slice_set (c1 ++ x ∷ a) k i) en
    ∙ set-append_seam c1 x a i
    ∙ ap (λ l. l ++ i ∷ a) e1
    ∙ append_assoc base one (i ∷ a)

-- where code behind code and one instruction begins
pub behind_one : (base one c1 c2 : List Instr) (x : Instr) → c1 ≡ base ++ one → c2 ≡ c1 ++ x ∷ []
    → length c2 ≡ length base + length one + 1
behind_one base one c1 c2 x e1 e2 =
    omega (arith, ap length e1, length-append base one, ap length e2, length-append c1 (x ∷ []))

pub both_filled : (base one other c1 c2 c3 c4 c5 : List Instr) (n m fails ends : ℕ)
    → c1 ≡ base ++ one → n ≡ length c1 → c2 ≡ c1 ++ Zero 0 ∷ [] → c3 ≡ c2 ++ other → m ≡ length c3 → c4 ≡ c3 ++ Zero 0 ∷ []
    → fails ≡ length c4 + 2 → ends ≡ length c4 + 3 → c5 ≡ c4 ++ Push (pos 1) ∷ Jump ends ∷ Push (pos 0) ∷ []
    → slice_set (slice_set c5 n (Zero fails)) m (Zero fails)
    ≡ base ++ ((one ++ Zero (length base + length one + length other + 4) ∷ other)
    ++ Zero (length base + length one + length other + 4) ∷ Push (pos 1) ∷ Jump (length base + length one + length other + 4 + 1) ∷ Push (pos 0) ∷ [])
both_filled base one other c1 c2 c3 c4 c5 n m fails ends e1 en e2 e3 em e4 ef ee e5 =
    let l1 = ap length e1 ∙ length-append base one in
    let l2 = ap length e2 ∙ length-append c1 (Zero 0 ∷ []) in
    let l3 = ap length e3 ∙ length-append c2 other in
    let l4 = ap length e4 ∙ length-append c3 (Zero 0 ∷ []) in
    let df : fails ≡ length base + length one + length other + 4 = omega arith in
    let de : ends ≡ length base + length one + length other + 4 + 1 = omega arith in
    two_filled base one other (Push (pos 1) ∷ Jump ends ∷ Push (pos 0) ∷ []) c1 c2 c3 c4 c5 (Zero 0) (Zero 0) (Zero fails) (Zero fails) n m e1 en e2 e3 em e4 e5
    ∙ ap (λ f. base ++ ((one ++ Zero f ∷ other) ++ Zero f ∷ Push (pos 1) ∷ Jump ends ∷ Push (pos 0) ∷ [])) df
    ∙ ap (λ k. base ++ ((one ++ Zero (length base + length one + length other + 4) ∷ other) ++ Zero (length base + length one + length other + 4) ∷ Push (pos 1) ∷ Jump k ∷ Push (pos 0) ∷ [])) de

pub choice_filled : (base one a b c1 c2 c3 c4 c5 : List Instr) (n m third ends : ℕ)
    → c1 ≡ base ++ one → n ≡ length c1 → c2 ≡ c1 ++ Zero 0 ∷ [] → c3 ≡ c2 ++ a → m ≡ length c3 → c4 ≡ c3 ++ Zero 0 ∷ []
    → third ≡ length c4 → c5 ≡ c4 ++ b → ends ≡ length c5
    → slice_set (slice_set c5 n (Zero third)) m (Jump ends)
    ≡ base ++ ((one ++ Zero (length base + length one + length a + 2) ∷ a) ++ Jump (length base + length one + length a + 2 + length b) ∷ b)
choice_filled base one a b c1 c2 c3 c4 c5 n m third ends e1 en e2 e3 em e4 et e5 ee =
    let l1 = ap length e1 ∙ length-append base one in
    let l2 = ap length e2 ∙ length-append c1 (Zero 0 ∷ []) in
    let l3 = ap length e3 ∙ length-append c2 a in
    let l4 = ap length e4 ∙ length-append c3 (Zero 0 ∷ []) in
    let l5 = ap length e5 ∙ length-append c4 b in
    let dt : third ≡ length base + length one + length a + 2 = omega arith in
    let de : ends ≡ length base + length one + length a + 2 + length b = omega arith in
    two_filled base one a b c1 c2 c3 c4 c5 (Zero 0) (Zero 0) (Zero third) (Jump ends) n m e1 en e2 e3 em e4 e5
    ∙ ap (λ f. base ++ ((one ++ Zero f ∷ a) ++ Jump ends ∷ b)) dt
    ∙ ap (λ k. base ++ ((one ++ Zero (length base + length one + length a + 2) ∷ a) ++ Jump k ∷ b)) de

-- where the third piece of a choice begins
pub behind_two : (base one a c1 c2 c3 c4 : List Instr) (x y : Instr)
    → c1 ≡ base ++ one → c2 ≡ c1 ++ x ∷ [] → c3 ≡ c2 ++ a → c4 ≡ c3 ++ y ∷ []
    → length c4 ≡ length base + length one + length a + 2
behind_two base one a c1 c2 c3 c4 x y e1 e2 e3 e4 =
    omega (arith, ap length e1, length-append base one, ap length e2, length-append c1 (x ∷ []), ap length e3, length-append c2 a, ap length e4, length-append c3 (y ∷ []))

pub if_filled : (base one a c1 c2 c3 : List Instr) (n ends : ℕ)
    → c1 ≡ base ++ one → n ≡ length c1 → c2 ≡ c1 ++ Zero 0 ∷ [] → c3 ≡ c2 ++ a → ends ≡ length c3
    → slice_set c3 n (Zero ends) ≡ base ++ (one ++ Zero (length base + length one + 1 + length a) ∷ a)
if_filled base one a c1 c2 c3 n ends e1 en e2 e3 ee =
    let l1 = ap length e1 ∙ length-append base one in
    let l2 = ap length e2 ∙ length-append c1 (Zero 0 ∷ []) in
    let l3 = ap length e3 ∙ length-append c2 a in
    let de : ends ≡ length base + length one + 1 + length a = omega arith in
    one_filled base one a c1 c2 c3 (Zero 0) (Zero ends) n e1 en e2 e3
    ∙ ap (λ f. base ++ (one ++ Zero f ∷ a)) de

pub either_filled : (base one other c1 c2 c3 c4 c5 c6 c7 : List Instr) (second n fails ends : ℕ)
    → c1 ≡ base ++ one → second ≡ length c1 + 3 → c2 ≡ c1 ++ Zero second ∷ [] → c3 ≡ c2 ++ Push (pos 1) ∷ []
    → n ≡ length c3 → c4 ≡ c3 ++ Zero 0 ∷ [] → c5 ≡ c4 ++ other → fails ≡ length c5 + 3 → ends ≡ length c5 + 4
    → c6 ≡ c5 ++ Zero fails ∷ [] → c7 ≡ c6 ++ Push (pos 1) ∷ Jump ends ∷ Push (pos 0) ∷ []
    → slice_set c7 n (Jump ends)
    ≡ base ++ ((one ++ Zero (length base + length one + 3) ∷ Push (pos 1) ∷ Jump (length base + length one + 3 + length other + 3 + 1) ∷ other)
    ++ Zero (length base + length one + 3 + length other + 3) ∷ Push (pos 1) ∷ Jump (length base + length one + 3 + length other + 3 + 1) ∷ Push (pos 0) ∷ [])
either_filled base one other c1 c2 c3 c4 c5 c6 c7 second n fails ends e1 es e2 e3 en e4 e5 ef ee e6 e7 =
    let l1 = ap length e1 ∙ length-append base one in
    let l2 = ap length e2 ∙ length-append c1 (Zero second ∷ []) in
    let l3 = ap length e3 ∙ length-append c2 (Push (pos 1) ∷ []) in
    let l4 = ap length e4 ∙ length-append c3 (Zero 0 ∷ []) in
    let l5 = ap length e5 ∙ length-append c4 other in
    let ds : second ≡ length base + length one + 3 = omega arith in
    let df : fails ≡ length base + length one + 3 + length other + 3 = omega arith in
    let de : ends ≡ length base + length one + 3 + length other + 3 + 1 = omega arith in
    let first : c3 ≡ base ++ (one ++ Zero second ∷ Push (pos 1) ∷ []) = (let all : c3 ≡ ((base ++ one) ++ Zero second ∷ []) ++ Push (pos 1) ∷ [] = cc in all ∙ simp append_assoc) in
    let rest : c7 ≡ c4 ++ (other ++ Zero fails ∷ Push (pos 1) ∷ Jump ends ∷ Push (pos 0) ∷ []) = (let all : c7 ≡ ((c4 ++ other) ++ Zero fails ∷ []) ++ Push (pos 1) ∷ Jump ends ∷ Push (pos 0) ∷ [] = cc in all ∙ simp append_assoc) in
    let regroup : base ++ ((one ++ Zero second ∷ Push (pos 1) ∷ []) ++ Jump ends ∷ (other ++ Zero fails ∷ Push (pos 1) ∷ Jump ends ∷ Push (pos 0) ∷ []))
    ≡ base ++ ((one ++ Zero second ∷ Push (pos 1) ∷ Jump ends ∷ other) ++ Zero fails ∷ Push (pos 1) ∷ Jump ends ∷ Push (pos 0) ∷ []) = simp append_assoc in
    one_filled base (one ++ Zero second ∷ Push (pos 1) ∷ []) (other ++ Zero fails ∷ Push (pos 1) ∷ Jump ends ∷ Push (pos 0) ∷ []) c3 c4 c7 (Zero 0) (Jump ends) n first en e4 rest
    ∙ regroup
    ∙ ap (λ s. base ++ ((one ++ Zero s ∷ Push (pos 1) ∷ Jump ends ∷ other) ++ Zero fails ∷ Push (pos 1) ∷ Jump ends ∷ Push (pos 0) ∷ [])) ds
    ∙ ap (λ f. base ++ ((one ++ Zero (length base + length one + 3) ∷ Push (pos 1) ∷ Jump ends ∷ other) ++ Zero f ∷ Push (pos 1) ∷ Jump ends ∷ Push (pos 0) ∷ [])) df
    ∙ ap (λ k. base ++ ((one ++ Zero (length base + length one + 3) ∷ Push (pos 1) ∷ Jump k ∷ other) ++ Zero (length base + length one + 3 + length other + 3) ∷ Push (pos 1) ∷ Jump k ∷ Push (pos 0) ∷ [])) de

-- where the right operand of `||` begins
pub behind_three : (base one c1 c2 c3 c4 : List Instr) (x y z : Instr)
    → c1 ≡ base ++ one → c2 ≡ c1 ++ x ∷ [] → c3 ≡ c2 ++ y ∷ [] → c4 ≡ c3 ++ z ∷ []
    → length c4 ≡ length base + length one + 3
behind_three base one c1 c2 c3 c4 x y z e1 e2 e3 e4 =
    omega (arith, ap length e1, length-append base one, ap length e2, length-append c1 (x ∷ []), ap length e3, length-append c2 (y ∷ []), ap length e4, length-append c3 (z ∷ []))

pub loop_filled : (base one a b c1 c2 c3 c4 c5 c6 : List Instr) (start n ends : ℕ)
    → start ≡ length base → c1 ≡ base ++ one → n ≡ length c1 → c2 ≡ c1 ++ Zero 0 ∷ [] → c3 ≡ c2 ++ Turn ∷ []
    → c4 ≡ c3 ++ a → c5 ≡ c4 ++ b → c6 ≡ c5 ++ Jump start ∷ [] → ends ≡ length c6
    → slice_set c6 n (Zero ends)
    ≡ base ++ (((one ++ Zero (length base + length one + length a + length b + 3) ∷ Turn ∷ a) ++ b) ++ Jump (length base) ∷ [])
loop_filled base one a b c1 c2 c3 c4 c5 c6 start n ends es e1 en e2 e3 e4 e5 e6 ee =
    let l1 = ap length e1 ∙ length-append base one in
    let l2 = ap length e2 ∙ length-append c1 (Zero 0 ∷ []) in
    let l3 = ap length e3 ∙ length-append c2 (Turn ∷ []) in
    let l4 = ap length e4 ∙ length-append c3 a in
    let l5 = ap length e5 ∙ length-append c4 b in
    let l6 = ap length e6 ∙ length-append c5 (Jump start ∷ []) in
    let de : ends ≡ length base + length one + length a + length b + 3 = omega arith in
    let rest : c6 ≡ c2 ++ (Turn ∷ (a ++ b) ++ Jump start ∷ []) = (let all : c6 ≡ (((c2 ++ Turn ∷ []) ++ a) ++ b) ++ Jump start ∷ [] = cc in all ∙ simp append_assoc) in
    let regroup : base ++ (one ++ Zero ends ∷ (Turn ∷ (a ++ b) ++ Jump start ∷ [])) ≡ base ++ (((one ++ Zero ends ∷ Turn ∷ a) ++ b) ++ Jump start ∷ []) = simp append_assoc in
    one_filled base one (Turn ∷ (a ++ b) ++ Jump start ∷ []) c1 c2 c6 (Zero 0) (Zero ends) n e1 en e2 rest
    ∙ regroup
    ∙ ap (λ f. base ++ (((one ++ Zero f ∷ Turn ∷ a) ++ b) ++ Jump start ∷ [])) de
    ∙ ap (λ s. base ++ (((one ++ Zero (length base + length one + length a + length b + 3) ∷ Turn ∷ a) ++ b) ++ Jump s ∷ [])) es
