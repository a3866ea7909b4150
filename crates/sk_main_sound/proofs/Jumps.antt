-- Jumps of pieces of main's code: where they lead, and the counted statements that the backward ones pass.
use Rattle.std.proofs.Common.{◌≡◌, ◌⊎◌, ℕ, suc, ◌+◌, ◌<◌, ◌≤◌, List, [], ◌∷◌, ◌++◌, length, Some, slice_get, refl, ◌∙◌, subst, arith, length-append, inl, inr}
use Rattle.sk_isa.specs.Soundness.{JumpsTo, LoopsPass, PassesMark}
use Rattle.sk_isa.specs.declared.code.Instr.{Instr}
use Rattle.sk_isa.specs.declared.code.Instr.TheVariants as instr
use Rattle.sk_main_code.specs.MainSoundness.{IsCount}
use Rattle.sk_plain.proofs.Lists.{slice_get-front, slice_get-back}
use Rattle.sk_scheme_sound.proofs.Each.{each_append, each_at}
use Rattle.sk_scheme_sound.proofs.SoundJumps.{AllJumps, Over, jumps_map, late_jumps}
use Rattle.sk_scheme_sound.proofs.SoundPieces.{Aims}

-- On the way from a jump's target to the jump stands a counted statement of the piece, over which nothing in the piece jumps.
pub record PassesIn (at : ℕ) (code : List Instr) (jump target : ℕ) : Type 0 where
  pub mark : ℕ
  pub place : ℕ
  pub line : ℕ
  pub stands : mark ≡ at + place
  pub is_mark : slice_get code place ≡ Some (instr.Count line)
  pub from : target ≤ mark
  pub upto : mark ≤ jump
  pub none_over : AllJumps (Over mark jump) at code

passes_front : (at mid jump target : ℕ) (a b : List Instr) → at + length a ≡ mid → jump < mid → PassesIn at a jump target → PassesIn at (a ++ b) jump target
passes_front at mid jump target a b long within p = record {
  mark = p.mark;
  place = p.place;
  line = p.line;
  stands = p.stands;
  is_mark = slice_get-front a b p.place (instr.Count p.line) p.is_mark;
  from = p.from;
  upto = p.upto;
  none_over = each_append (λ k i. Aims (Over p.mark jump k) i) at mid a b long p.none_over
      (late_jumps (Over p.mark jump) mid b (λ k to low before behind upto. absurd (omega (arith, low, before, within, p.upto))));
}

passes_back : (at mid jump target : ℕ) (a b : List Instr) → at + length a ≡ mid → mid ≤ target → AllJumps (λ k to. (to ≤ mid) ⊎ (jump < to)) at a → PassesIn mid b jump target → PassesIn at (a ++ b) jump target
passes_back at mid jump target a b long low jumps p = record {
  mark = p.mark;
  place = length a + p.place;
  line = p.line;
  stands = omega (arith, p.stands, long);
  is_mark = slice_get-back a b p.place (instr.Count p.line) p.is_mark;
  from = p.from;
  upto = p.upto;
  none_over = each_append (λ k i. Aims (Over p.mark jump k) i) at mid a b long
      (jumps_map (λ k to. (to ≤ mid) ⊎ (jump < to)) (Over p.mark jump) at a (λ k to lowk high either. by_case k to either) jumps) p.none_over;
}
  where
    by_case : (k to : ℕ) → (to ≤ mid) ⊎ (jump < to) → Over p.mark jump k to
    by_case k to (inl near) before behind upto = absurd (omega (arith, near, behind, low, p.from))
    by_case k to (inr far) before behind upto = absurd (omega (arith, far, upto))

-- a jump of a piece: it leads into the piece or to its end, or to a place that is far behind it
abbrev pub IsJump : (at : ℕ) (code : List Instr) (end far : ℕ) → ℕ → ℕ → Type 0
IsJump at code end far k to = (at ≤ to) × ((to ≤ end) ⊎ (to ≡ far)) × (to ≤ k → PassesIn at code k to)

pub record Jumps (at : ℕ) (code : List Instr) (end far : ℕ) : Type 0 where
  pub long : at + length code ≡ end
  pub all : AllJumps (IsJump at code end far) at code

-- jumps that go forward
pub forward_jumps : (at end far : ℕ) (code : List Instr) → at + length code ≡ end → AllJumps (λ k to. (k < to) × (to ≤ end)) at code → Jumps at code end far
forward_jumps at end far code long h = record {
  long = long;
  all = jumps_map (λ k to. (k < to) × (to ≤ end)) (IsJump at code end far) at code
      (λ k to low high b. (omega (arith, low, b.0), inl b.1, λ back. absurd (omega (arith, back, b.0)))) h;
}

-- a jump far away
pub far_zero : (at far : ℕ) → at < far → Jumps at (instr.Zero far ∷ []) (suc at) far
far_zero at far low = record { long = omega arith; all = ((omega (arith, low), inr refl, λ back. absurd (omega (arith, back, low))), tt) }

pub far_jump : (at far : ℕ) → at < far → Jumps at (instr.Jump far ∷ []) (suc at) far
far_jump at far low = record { long = omega arith; all = ((omega (arith, low), inr refl, λ back. absurd (omega (arith, back, low))), tt) }

-- a piece none of whose jumps goes far
pub near_jumps : (at end far : ℕ) (code : List Instr) → Jumps at code end end → Jumps at code end far
near_jumps at end far code f = record {
  long = f.long;
  all = jumps_map (IsJump at code end end) (IsJump at code end far) at code (λ k to low high j. (j.0, near to j.1, j.2)) f.all;
}
  where
    near : (to : ℕ) → (to ≤ end) ⊎ (to ≡ end) → (to ≤ end) ⊎ (to ≡ far)
    near to (inl le) = inl le
    near to (inr e) = inl (omega (arith, e))

-- pieces one behind the other, where the far jumps of the first lead to the end of the second or further
pub join_jumps : (at mid end fa fb : ℕ) (a b : List Instr) → Jumps at a mid fa → Jumps mid b end fb → end ≤ fa → (fa ≡ end) ⊎ (fa ≡ fb) → Jumps at (a ++ b) end fb
join_jumps at mid end fa fb a b f g far which = record {
  long = omega (arith, length-append a b, f.long, g.long);
  all = each_append (λ k i. Aims (IsJump at (a ++ b) end fb k) i) at mid a b f.long
      (jumps_map (IsJump at a mid fa) (IsJump at (a ++ b) end fb) at a
      (λ k to low high j. (j.0, front to which j.1, λ back. passes_front at mid k to a b f.long (omega (arith, high, f.long)) (j.2 back))) f.all)
      (jumps_map (IsJump mid b end fb) (IsJump at (a ++ b) end fb) mid b
      (λ k to low high j. (
        omega (arith, j.0, f.long),
        j.1,
        λ back. passes_back at mid k to a b f.long j.0 (jumps_map (IsJump at a mid fa) (λ before behind. (behind ≤ mid) ⊎ (k < behind)) at a
            (λ before behind lower higher jump. over k behind (omega (arith, high, g.long)) jump.1) f.all) (j.2 back),
      )) g.all);
}
  where
    front : (to : ℕ) → (fa ≡ end) ⊎ (fa ≡ fb) → (to ≤ mid) ⊎ (to ≡ fa) → (to ≤ end) ⊎ (to ≡ fb)
    front to w (inl near) = inl (omega (arith, near, g.long))
    front to (inl e) (inr is) = inl (omega (arith, e, is))
    front to (inr e) (inr is) = inr (is ∙ e)

    over : (k behind : ℕ) → k < end → (behind ≤ mid) ⊎ (behind ≡ fa) → (behind ≤ mid) ⊎ (k < behind)
    over k behind high (inl near) = inl near
    over k behind high (inr is) = inr (omega (arith, is, far, high))

-- behind the way back of a loop that begins with a counted statement
pub loop_jumps : (at r far line : ℕ) (rest : List Instr) → Jumps at (instr.Count line ∷ rest) r far → far ≡ suc r
    → Jumps at ((instr.Count line ∷ rest) ++ instr.Jump at ∷ []) (suc r) (suc r)
loop_jumps at r far line rest f far_is = record {
  long = omega (arith, length-append (instr.Count line ∷ rest) (instr.Jump at ∷ []), f.long);
  all = each_append (λ k i. Aims (IsJump at ((instr.Count line ∷ rest) ++ instr.Jump at ∷ []) (suc r) (suc r) k) i) at r (instr.Count line ∷ rest) (instr.Jump at ∷ []) f.long
      (jumps_map (IsJump at (instr.Count line ∷ rest) r far) (IsJump at ((instr.Count line ∷ rest) ++ instr.Jump at ∷ []) (suc r) (suc r)) at (instr.Count line ∷ rest)
      (λ k to low high j. (j.0, near to j.1, λ back. passes_front at r k to (instr.Count line ∷ rest) (instr.Jump at ∷ []) f.long (omega (arith, high, f.long)) (j.2 back))) f.all)
      ((omega arith, inl (omega (arith, f.long)), λ back. way_back), tt);
}
  where
    near : (to : ℕ) → (to ≤ r) ⊎ (to ≡ far) → (to ≤ suc r) ⊎ (to ≡ suc r)
    near to (inl le) = inl (omega (arith, le))
    near to (inr e) = inr (e ∙ far_is)

    way_back : PassesIn at ((instr.Count line ∷ rest) ++ instr.Jump at ∷ []) r at
    way_back = record {
      mark = at;
      place = 0;
      line = line;
      stands = omega arith;
      is_mark = refl;
      from = omega arith;
      upto = omega (arith, f.long);
      none_over = late_jumps (Over at r) at ((instr.Count line ∷ rest) ++ instr.Jump at ∷ []) (λ k to low before behind upto. absurd (omega (arith, low, before)));
    }

-- each way round a loop passes a counted statement
pub loops_count : (code : List Instr) (end : ℕ) → Jumps 0 code end end → LoopsPass IsCount code
loops_count code end f at target jumps back = passes ((holds (IsJump 0 code end end) f.all at target jumps).2 back)
  where
    holds : (R : ℕ → ℕ → Type 0) → AllJumps R 0 code → (k to : ℕ) → JumpsTo code k to → R k to
    holds R all k to (inl e) = let here : 0 + k ≡ k = omega arith in subst (λ n. R n to) here (each_at (λ k i. Aims (R k) i) 0 k (instr.Jump to) code all e)
    holds R all k to (inr e) = let here : 0 + k ≡ k = omega arith in subst (λ n. R n to) here (each_at (λ k i. Aims (R k) i) 0 k (instr.Zero to) code all e)

    passes : PassesIn 0 code at target → PassesMark IsCount code at target
    passes p =
        let place : p.place ≡ p.mark = omega (arith, p.stands) in
        record {
          mark = p.mark;
          from = p.from;
          upto = p.upto;
          is_mark = (p.line, subst (λ n. slice_get code n ≡ Some (instr.Count p.line)) place p.is_mark);
          none_over = λ before behind jump low high upto. holds (Over p.mark at) p.none_over before behind jump low high upto;
        }
