-- Jumps of pieces of code: where they lead, and the turns that the backward ones pass.
use Rattle.std.proofs.Common.{◌≡◌, ◌⊎◌, ℕ, suc, ◌+◌, ◌<◌, ◌≤◌, List, [], ◌∷◌, ◌++◌, length, Some, slice_get, refl, ◌∙◌, subst, arith, length-append, inl, inr}
use Rattle.sk_isa.specs.Soundness.{IsTurn, JumpsTo, LoopsTakeTurns, PassesMark}
use Rattle.sk_isa.specs.declared.code.Instr.{Instr}
use Rattle.sk_isa.specs.declared.code.Instr.TheVariants as instr
use Rattle.sk_plain.proofs.Lists.{slice_get-front, slice_get-back}
use Rattle.sk_scheme_sound.proofs.Each.{Each, each_append, each_map, each_at}
use Rattle.sk_scheme_sound.proofs.SoundPieces.{Aims, aims_map}

-- what holds of each jump, from its address to its target
abbrev pub AllJumps : (ℕ → ℕ → Type 0) → ℕ → List Instr → Type 0
AllJumps R at code = Each (λ k i. Aims (R k) i) at code

pub jumps_map : (R S : ℕ → ℕ → Type 0) (at : ℕ) (code : List Instr) → ((k to : ℕ) → at ≤ k → k < at + length code → R k to → S k to) → AllJumps R at code → AllJumps S at code
jumps_map R S at code f h = each_map (λ k i. Aims (R k) i) (λ k i. Aims (S k) i) at code (λ k i low high a. aims_map (R k) (S k) i (λ to r. f k to low high r) a) h

aims_all : (R : ℕ → Type 0) (i : Instr) → ((to : ℕ) → R to) → Aims R i
aims_all R (instr.Jump to) f = f to
aims_all R (instr.Zero to) f = f to
aims_all R i f = tt

-- what holds of every jump that stands so late
pub late_jumps : (R : ℕ → ℕ → Type 0) (at : ℕ) (code : List Instr) → ((k to : ℕ) → at ≤ k → R k to) → AllJumps R at code
late_jumps R at [] f = tt
late_jumps R at (i ∷ code) f = (aims_all (R at) i (λ to. f at to (omega arith)), late_jumps R (suc at) code (λ k to low. f k to (omega (arith, low))))

-- no jump leads over a turn and no further than to an address
abbrev pub Over : (turn jump : ℕ) → ℕ → ℕ → Type 0
Over turn jump before behind = before < turn → turn < behind → behind ≤ jump → ⊥

-- On the way from a jump's target to the jump stands a turn of the piece, over which nothing in the piece jumps.
pub record PassesIn (at : ℕ) (code : List Instr) (jump target : ℕ) : Type 0 where
  pub turn : ℕ
  pub place : ℕ
  pub stands : turn ≡ at + place
  pub is_turn : slice_get code place ≡ Some instr.Turn
  pub from : target ≤ turn
  pub upto : turn ≤ jump
  pub none_over : AllJumps (Over turn jump) at code

passes_front : (at mid jump target : ℕ) (a b : List Instr) → at + length a ≡ mid → jump < mid → PassesIn at a jump target → PassesIn at (a ++ b) jump target
passes_front at mid jump target a b long within p = record {
  turn = p.turn;
  place = p.place;
  stands = p.stands;
  is_turn = slice_get-front a b p.place instr.Turn p.is_turn;
  from = p.from;
  upto = p.upto;
  none_over = each_append (λ k i. Aims (Over p.turn jump k) i) at mid a b long p.none_over
      (late_jumps (Over p.turn jump) mid b (λ k to low before behind upto. absurd (omega (arith, low, before, within, p.upto))));
}

passes_back : (at mid jump target : ℕ) (a b : List Instr) → at + length a ≡ mid → mid ≤ target → AllJumps (λ k to. (to ≤ mid) ⊎ (jump < to)) at a → PassesIn mid b jump target → PassesIn at (a ++ b) jump target
passes_back at mid jump target a b long low jumps p = record {
  turn = p.turn;
  place = length a + p.place;
  stands = omega (arith, p.stands, long);
  is_turn = slice_get-back a b p.place instr.Turn p.is_turn;
  from = p.from;
  upto = p.upto;
  none_over = each_append (λ k i. Aims (Over p.turn jump k) i) at mid a b long
      (jumps_map (λ k to. (to ≤ mid) ⊎ (jump < to)) (Over p.turn jump) at a (λ k to lowk high either. by_case k to either) jumps) p.none_over;
}
  where
    by_case : (k to : ℕ) → (to ≤ mid) ⊎ (jump < to) → Over p.turn jump k to
    by_case k to (inl near) before behind upto = absurd (omega (arith, near, behind, low, p.from))
    by_case k to (inr far) before behind upto = absurd (omega (arith, far, upto))

-- a jump of a piece: it leads into the piece or to its end, or to a place that is far behind it
abbrev pub IsJump : (at : ℕ) (code : List Instr) (end far : ℕ) → ℕ → ℕ → Type 0
IsJump at code end far k to = (at ≤ to) × ((to ≤ end) ⊎ (to ≡ far)) × (to ≤ k → PassesIn at code k to)

pub record Jumps (at : ℕ) (code : List Instr) (end far : ℕ) : Type 0 where
  pub long : at + length code ≡ end
  pub all : AllJumps (IsJump at code end far) at code

-- jumps that go forward
pub forward_jumps : (at end far : ℕ) (code : List Instr) → at + length code ≡ end → AllJumps (λ k to. (k < to) × (to ≤ end)) at code → Jumps at code end far
forward_jumps at end far code long h = record {
  long = long;
  all = jumps_map (λ k to. (k < to) × (to ≤ end)) (IsJump at code end far) at code
      (λ k to low high b. (omega (arith, low, b.0), inl b.1, λ back. absurd (omega (arith, back, b.0)))) h;
}

-- a jump far away
pub far_zero : (at far : ℕ) → at < far → Jumps at (instr.Zero far ∷ []) (suc at) far
far_zero at far low = record { long = omega arith; all = ((omega (arith, low), inr refl, λ back. absurd (omega (arith, back, low))), tt) }

pub far_jump : (at far : ℕ) → at < far → Jumps at (instr.Jump far ∷ []) (suc at) far
far_jump at far low = record { long = omega arith; all = ((omega (arith, low), inr refl, λ back. absurd (omega (arith, back, low))), tt) }

-- a piece none of whose jumps goes far
pub near_jumps : (at end far : ℕ) (code : List Instr) → Jumps at code end end → Jumps at code end far
near_jumps at end far code f = record {
  long = f.long;
  all = jumps_map (IsJump at code end end) (IsJump at code end far) at code (λ k to low high j. (j.0, near to j.1, j.2)) f.all;
}
  where
    near : (to : ℕ) → (to ≤ end) ⊎ (to ≡ end) → (to ≤ end) ⊎ (to ≡ far)
    near to (inl le) = inl le
    near to (inr e) = inl (omega (arith, e))

-- pieces one behind the other, where the far jumps of the first lead to the end of the second or further
pub join_jumps : (at mid end fa fb : ℕ) (a b : List Instr) → Jumps at a mid fa → Jumps mid b end fb → end ≤ fa → (fa ≡ end) ⊎ (fa ≡ fb) → Jumps at (a ++ b) end fb
join_jumps at mid end fa fb a b f g far which = record {
  long = omega (arith, length-append a b, f.long, g.long);
  all = each_append (λ k i. Aims (IsJump at (a ++ b) end fb k) i) at mid a b f.long
      (jumps_map (IsJump at a mid fa) (IsJump at (a ++ b) end fb) at a
      (λ k to low high j. (j.0, front to which j.1, λ back. passes_front at mid k to a b f.long (omega (arith, high, f.long)) (j.2 back))) f.all)
      (jumps_map (IsJump mid b end fb) (IsJump at (a ++ b) end fb) mid b
      (λ k to low high j. (
        omega (arith, j.0, f.long),
        j.1,
        λ back. passes_back at mid k to a b f.long j.0 (jumps_map (IsJump at a mid fa) (λ before behind. (behind ≤ mid) ⊎ (k < behind)) at a
            (λ before behind lower higher jump. over k behind (omega (arith, high, g.long)) jump.1) f.all) (j.2 back),
      )) g.all);
}
  where
    front : (to : ℕ) → (fa ≡ end) ⊎ (fa ≡ fb) → (to ≤ mid) ⊎ (to ≡ fa) → (to ≤ end) ⊎ (to ≡ fb)
    front to w (inl near) = inl (omega (arith, near, g.long))
    front to (inl e) (inr is) = inl (omega (arith, e, is))
    front to (inr e) (inr is) = inr (is ∙ e)

    over : (k behind : ℕ) → k < end → (behind ≤ mid) ⊎ (behind ≡ fa) → (behind ≤ mid) ⊎ (k < behind)
    over k behind high (inl near) = inl near
    over k behind high (inr is) = inr (omega (arith, is, far, high))

-- behind the way back of a loop
pub loop_jumps : (at p r far : ℕ) (first rest : List Instr) → AllJumps (λ k to. (k < to) × (to ≤ p)) at first → at + length first ≡ p
    → Jumps at (first ++ instr.Zero far ∷ instr.Turn ∷ rest) r far → far ≡ suc r
    → Jumps at ((first ++ instr.Zero far ∷ instr.Turn ∷ rest) ++ instr.Jump at ∷ []) (suc r) (suc r)
loop_jumps at p r far first rest forward long f far_is = record {
  long = omega (arith, length-append (first ++ instr.Zero far ∷ instr.Turn ∷ rest) (instr.Jump at ∷ []), f.long);
  all = each_append (λ k i. Aims (IsJump at ((first ++ instr.Zero far ∷ instr.Turn ∷ rest) ++ instr.Jump at ∷ []) (suc r) (suc r) k) i) at r (first ++ instr.Zero far ∷ instr.Turn ∷ rest) (instr.Jump at ∷ []) f.long
      (jumps_map (IsJump at (first ++ instr.Zero far ∷ instr.Turn ∷ rest) r far) (IsJump at ((first ++ instr.Zero far ∷ instr.Turn ∷ rest) ++ instr.Jump at ∷ []) (suc r) (suc r)) at (first ++ instr.Zero far ∷ instr.Turn ∷ rest)
      (λ k to low high j. (j.0, near to j.1, λ back. passes_front at r k to (first ++ instr.Zero far ∷ instr.Turn ∷ rest) (instr.Jump at ∷ []) f.long (omega (arith, high, f.long)) (j.2 back))) f.all)
      ((omega arith, inl (omega (arith, f.long)), λ back. way_back), tt);
}
  where
    near : (to : ℕ) → (to ≤ r) ⊎ (to ≡ far) → (to ≤ suc r) ⊎ (to ≡ suc r)
    near to (inl le) = inl (omega (arith, le))
    near to (inr e) = inr (e ∙ far_is)

    size : at + length (first ++ instr.Zero far ∷ instr.Turn ∷ rest) ≡ p + 2 + length rest
    size = omega (arith, length-append first (instr.Zero far ∷ instr.Turn ∷ rest), long)

    way_back : PassesIn at ((first ++ instr.Zero far ∷ instr.Turn ∷ rest) ++ instr.Jump at ∷ []) r at
    way_back = record {
      turn = suc p;
      place = length first + 1;
      stands = omega (arith, long);
      is_turn = slice_get-front (first ++ instr.Zero far ∷ instr.Turn ∷ rest) (instr.Jump at ∷ []) (length first + 1) instr.Turn
          (slice_get-back first (instr.Zero far ∷ instr.Turn ∷ rest) 1 instr.Turn refl);
      from = omega (arith, long);
      upto = omega (arith, size, f.long);
      none_over = each_append (λ k i. Aims (Over (suc p) r k) i) at r (first ++ instr.Zero far ∷ instr.Turn ∷ rest) (instr.Jump at ∷ []) f.long
          (each_append (λ k i. Aims (Over (suc p) r k) i) at p first (instr.Zero far ∷ instr.Turn ∷ rest) long
          (jumps_map (λ k to. (k < to) × (to ≤ p)) (Over (suc p) r) at first (λ k to low high b before behind upto. absurd (omega (arith, b.1, behind))) forward) (
            (λ before behind upto. absurd (omega (arith, far_is, upto))),
            (tt, late_jumps (Over (suc p) r) (suc (suc p)) rest (λ k to low before behind upto. absurd (omega (arith, low, before)))),
          ))
          (late_jumps (Over (suc p) r) r (instr.Jump at ∷ []) (λ k to low before behind upto. absurd (omega (arith, low, before, size, f.long))));
    }

-- each way round a loop passes a turn
pub loops_take_turns : (code : List Instr) (end : ℕ) → Jumps 0 code end end → LoopsTakeTurns code
loops_take_turns code end f at target jumps back = passes ((holds (IsJump 0 code end end) f.all at target jumps).2 back)
  where
    holds : (R : ℕ → ℕ → Type 0) → AllJumps R 0 code → (k to : ℕ) → JumpsTo code k to → R k to
    holds R all k to (inl e) = let here : 0 + k ≡ k = omega arith in subst (λ n. R n to) here (each_at (λ k i. Aims (R k) i) 0 k (instr.Jump to) code all e)
    holds R all k to (inr e) = let here : 0 + k ≡ k = omega arith in subst (λ n. R n to) here (each_at (λ k i. Aims (R k) i) 0 k (instr.Zero to) code all e)

    passes : PassesIn 0 code at target → PassesMark IsTurn code at target
    passes p =
        let place : p.place ≡ p.turn = omega (arith, p.stands) in
        record {
          mark = p.turn;
          from = p.from;
          upto = p.upto;
          is_mark = subst (λ n. slice_get code n ≡ Some instr.Turn) place p.is_turn;
          none_over = λ before behind jump low high upto. holds (Over p.turn at) p.none_over before behind jump low high upto;
        }
