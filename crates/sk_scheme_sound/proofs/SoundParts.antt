-- Pieces of code of statements: their stack types, what their instructions name, and their jumps.
use Rattle.std.proofs.Common.{◌≡◌, ℕ, suc, ◌+◌, ◌<◌, ◌≤◌, List, [], ◌∷◌, ◌++◌, length, Option, Some, None, refl, sym, ap, ◌∙◌, subst, arith, length-append, append_assoc, inl, inr}
use Rattle.std.specs.Prelude.{true, false, Bool, ◌&&◌, ◌||◌}
use Rattle.sk_base.specs.declared.number.Ty.{Ty}
use Rattle.sk_meaning.specs.Evaluation.{kind_type}
use Rattle.sk_tree.specs.declared.tree.ParamKind.TheVariants.{Scalar}
use Rattle.sk_scheme.specs.Scheme.{Slot}
use Rattle.sk_isa.specs.Soundness.{Named, Types, left_by, left_if, names_what_is_there, serves, is_there}
use Rattle.sk_isa.specs.declared.code.Instr.{Instr}
use Rattle.sk_isa.specs.declared.code.Instr.TheVariants as instr
use Rattle.sk_scheme_sound.proofs.Each.{Each, each_append, each_map}
use Rattle.sk_scheme_sound.proofs.SoundPieces.{Aims, Exits, Fits, then_fits, nothing_fits, last_fits, never_fits, left_fits, type_serves, IsLow}
use Rattle.sk_scheme_sound.proofs.SoundFrames.{choice_fits, if_fits, loop_fits}
use Rattle.sk_scheme_sound.proofs.SoundScopes.{HasSlot}
use Rattle.sk_scheme_sound.proofs.SoundValues.{Well, Piece, then_one, slot_type}
use Rattle.sk_scheme_sound.proofs.SoundJumps.{AllJumps, Jumps, forward_jumps, far_zero, far_jump, near_jumps, join_jumps, loop_jumps}

-- behind a statement that returns nothing is reached, and else the stack is empty
abbrev pub exit_of : Bool → Option (List Ty)
exit_of true = None
exit_of false = Some []

module _ (named : Named) (depth : ℕ) where
  abbrev Names : ℕ → Instr → Type 0
  Names k i = names_what_is_there named i ≡ true

  well_names : (limit at : ℕ) (code : List Instr) → Each (Well named limit) at code → Each Names at code
  well_names limit at code h = each_map (Well named limit) Names at code (λ k i low high w. w.0) h

  well_forward : (limit at : ℕ) (code : List Instr) → Each (Well named limit) at code → AllJumps (λ k to. (k < to) × (to ≤ limit)) at code
  well_forward limit at code h = each_map (Well named limit) (λ k i. Aims (λ to. (k < to) × (to ≤ limit)) i) at code (λ k i low high w. w.1) h

  -- A piece of code of a statement, before which the stack is empty.
  pub record Part (at : ℕ) (code : List Instr) (end : ℕ) (exit : Option (List Ty)) : Type 0 where
    pub fits : Fits named depth at code end (Some []) exit
    pub names : Each Names at code
    pub jumps : Jumps at code end end

  pub part_end : (at end : ℕ) (code : List Instr) (exit : Option (List Ty)) → Part at code end exit → Part at code (at + length code) exit
  part_end at end code exit f = subst (λ n. Part at code n exit) (sym f.fits.long) f

  pub part_at : (at to end : ℕ) (code : List Instr) (exit : Option (List Ty)) → at ≡ to → Part at code end exit → Part to code end exit
  part_at at to end code exit e f = subst (λ n. Part n code end exit) e f

  -- a piece that may go on to its end
  pub going_part : (at end : ℕ) (code : List Instr) (returns : Bool) → Part at code end (exit_of returns) → Part at code end (Some [])
  going_part at end code true f = record { fits = left_fits named depth at end code (Some []) (Some []) f.fits; names = f.names; jumps = f.jumps }
  going_part at end code false f = f

  pub nothing_part : (at : ℕ) → Part at [] (at + 0) (Some [])
  nothing_part at = part_end at at [] (Some []) (record {
    fits = nothing_fits named depth at (Some []);
    names = tt;
    jumps = record { long = omega arith; all = tt };
  })

  -- a value, and an instruction that takes it
  value_part : (at end : ℕ) (code : List Instr) → Piece named depth at code end (Some []) (Some []) → Part at code end (Some [])
  value_part at end code f = record {
    fits = f.fits;
    names = well_names end at code f.well;
    jumps = forward_jumps at end end code f.fits.long (well_forward end at code f.well);
  }

  pub store_part : (slot : Slot) (scalar : Ty) (at mid : ℕ) (code : List Instr) → slot.kind ≡ Scalar scalar → HasSlot named.own.params named.own.slots slot → 1 ≤ depth → Piece named depth at code mid (Some []) (Some (kind_type slot.kind ∷ []))
      → Part at (code ++ instr.Store slot.number ∷ []) (at + length (code ++ instr.Store slot.number ∷ [])) (Some [])
  store_part slot scalar at mid code kind has low f =
      let ty : Ty = kind_type slot.kind in
      let here = slot_type named depth slot scalar kind has in
      let empty : List Ty = [] in
      let effect : left_by named (instr.Store slot.number) (ty ∷ []) ≡ Some empty =
      ap (λ (o : Option Ty). elim o as (λ x. Option (List Ty)) [ Some wanted ↦ left_if (serves ty wanted) empty | None ↦ None ]) here
      ∙ ap (λ (b : Bool). left_if b empty) (type_serves ty) in
      value_part at (at + length (code ++ instr.Store slot.number ∷ [])) (code ++ instr.Store slot.number ∷ [])
      (then_one named depth at mid code (instr.Store slot.number) (Some []) (ty ∷ []) [] f effect low refl (ap is_there here) tt)

  pub return_part : (at mid : ℕ) (code : List Instr) → 1 ≤ depth → Piece named depth at code mid (Some []) (Some (named.own.ret ∷ []))
      → Part at (code ++ instr.Ret ∷ []) (at + length (code ++ instr.Ret ∷ [])) None
  return_part at mid code low f =
      let ty : Ty = named.own.ret in
      let empty : List Ty = [] in
      let effect : left_by named instr.Ret (ty ∷ []) ≡ Some empty = ap (λ (b : Bool). left_if b empty) (type_serves ty) in
      part_end at (suc mid) (code ++ instr.Ret ∷ []) None (record {
        fits = then_fits named depth at mid (suc mid) code (instr.Ret ∷ []) (Some []) (Some (ty ∷ [])) None f.fits
            (last_fits named depth instr.Ret mid (ty ∷ []) [] effect low refl);
        names = each_append Names at mid code (instr.Ret ∷ []) f.fits.long (well_names mid at code f.well) (refl, tt);
        jumps = join_jumps at mid (suc mid) (suc mid) (suc mid) code (instr.Ret ∷ [])
            (forward_jumps at mid (suc mid) code f.fits.long (well_forward mid at code f.well))
            (record { long = omega arith; all = (tt, tt) }) (omega arith) (inl refl);
      })

  fits_behind : (r1 r2 : Bool) (at mid end : ℕ) (a b : List Instr) → Fits named depth at a mid (Some []) (exit_of r1) → Fits named depth mid b end (Some []) (exit_of r2)
      → Fits named depth at (a ++ b) end (Some []) (exit_of (r1 || r2))
  fits_behind true r2 at mid end a b f g = then_fits named depth at mid end a b (Some []) None None f (never_fits named depth mid end b None g.long)
  fits_behind false r2 at mid end a b f g = then_fits named depth at mid end a b (Some []) (Some []) (exit_of r2) f g

  -- one behind the other
  pub then_part : (r1 r2 : Bool) (at mid end : ℕ) (a b : List Instr) → Part at a mid (exit_of r1) → Part mid b end (exit_of r2)
      → Part at (a ++ b) (at + length (a ++ b)) (exit_of (r1 || r2))
  then_part r1 r2 at mid end a b f g = part_end at end (a ++ b) (exit_of (r1 || r2)) (record {
    fits = fits_behind r1 r2 at mid end a b f.fits g.fits;
    names = each_append Names at mid a b f.fits.long f.names g.names;
    jumps = join_jumps at mid end end end a b (near_jumps at mid end a f.jumps) g.jumps (omega arith) (inl refl);
  })

  -- a test, and where it holds a piece
  pub if_part : (ty : Ty) (at p end to : ℕ) (first second : List Instr) → 1 ≤ depth → Piece named depth at first p (Some []) (Some (ty ∷ [])) → Part (suc p) second end (Some [])
      → to ≡ end → Part at (first ++ instr.Zero to ∷ second) (at + length (first ++ instr.Zero to ∷ second)) (Some [])
  if_part ty at p end to first second low f g to_is = part_end at end (first ++ instr.Zero to ∷ second) (Some []) (record {
    fits = if_fits named depth first second at p to end ty [] (Some []) f.fits g.fits to_is low (λ chosen exits. exits);
    names = each_append Names at p first (instr.Zero to ∷ second) f.fits.long (well_names p at first f.well) (refl, g.names);
    jumps = subst (λ n. Jumps at (first ++ instr.Zero to ∷ second) end n) to_is
        (join_jumps at p end to to first (instr.Zero to ∷ second) (forward_jumps at p to first f.fits.long (well_forward p at first f.well))
        (join_jumps p (suc p) end to to (instr.Zero to ∷ []) second (far_zero p to (omega (arith, to_is, g.fits.long))) (near_jumps (suc p) end to second g.jumps) (omega (arith, to_is)) (inr refl))
        (omega (arith, to_is)) (inr refl));
  })

  exits_both : (r1 r2 : Bool) (chosen : Types) (end : ℕ) → Exits chosen end (exit_of (r1 && r2)) → Exits chosen end (exit_of r1) × Exits chosen end (exit_of r2)
  exits_both true r2 chosen end h = (tt, h)
  exits_both false true chosen end h = (h, tt)
  exits_both false false chosen end h = (h, h)

  exit_low : (r : Bool) → IsLow named depth (exit_of r)
  exit_low true = tt
  exit_low false = omega arith

  -- a test, and one of two pieces
  pub if_else_part : (r1 r2 : Bool) (ty : Ty) (at p q third end to : ℕ) (first second last : List Instr) → 1 ≤ depth → Piece named depth at first p (Some []) (Some (ty ∷ []))
      → Part (suc p) second q (exit_of r1) → Part (suc q) last end (exit_of r2) → third ≡ suc q → to ≡ end
      → Part at (first ++ instr.Zero third ∷ second ++ instr.Jump to ∷ last) (at + length (first ++ instr.Zero third ∷ second ++ instr.Jump to ∷ last)) (exit_of (r1 && r2))
  if_else_part r1 r2 ty at p q third end to first second last low f g h third_is to_is =
      let head : List Instr = first ++ instr.Zero third ∷ second in
      let code : List Instr = first ++ instr.Zero third ∷ second ++ instr.Jump to ∷ last in
      let head_long : at + length head ≡ q = omega (arith, length-append first (instr.Zero third ∷ second), f.fits.long, g.fits.long) in
      let head_jumps : Jumps at head q third =
      join_jumps at p q third third first (instr.Zero third ∷ second) (forward_jumps at p third first f.fits.long (well_forward p at first f.well))
      (join_jumps p (suc p) q third third (instr.Zero third ∷ []) second (far_zero p third (omega (arith, third_is, g.fits.long))) (near_jumps (suc p) q third second g.jumps) (omega (arith, third_is)) (inr refl))
      (omega (arith, third_is)) (inr refl) in
      let with_jump : Jumps at (head ++ instr.Jump to ∷ []) (suc q) to =
      join_jumps at q (suc q) third to head (instr.Jump to ∷ []) head_jumps (far_jump q to (omega (arith, to_is, h.fits.long))) (omega (arith, third_is)) (inl third_is) in
      let all_jumps : Jumps at ((head ++ instr.Jump to ∷ []) ++ last) end to =
      join_jumps at (suc q) end to to (head ++ instr.Jump to ∷ []) last with_jump (near_jumps (suc q) end to last h.jumps) (omega (arith, to_is)) (inr refl) in
      part_end at end code (exit_of (r1 && r2)) (record {
        fits = choice_fits named depth first second last at p q third to end ty [] (exit_of r1) (exit_of r2) (exit_of (r1 && r2)) f.fits g.fits h.fits third_is to_is low (exit_low r1)
            (λ chosen exits. exits_both r1 r2 chosen end exits);
        names = each_append Names at q head (instr.Jump to ∷ last) head_long
            (each_append Names at p first (instr.Zero third ∷ second) f.fits.long (well_names p at first f.well) (refl, g.names))
            (refl, h.names);
        jumps = subst (λ n. Jumps at code end n) to_is (subst (λ (l : List Instr). Jumps at l end to) (append_assoc head (instr.Jump to ∷ []) last) all_jumps);
      })

  -- a test, and where it holds a turn, two pieces, and the way back
  pub loop_part : (ty : Ty) (at p q r to : ℕ) (first second last : List Instr) → 1 ≤ depth → Piece named depth at first p (Some []) (Some (ty ∷ []))
      → Part (suc (suc p)) second q (Some []) → Part q last r (Some []) → to ≡ suc r
      → Part at (first ++ instr.Zero to ∷ instr.Turn ∷ second ++ last ++ instr.Jump at ∷ []) (at + length (first ++ instr.Zero to ∷ instr.Turn ∷ second ++ last ++ instr.Jump at ∷ [])) (Some [])
  loop_part ty at p q r to first second last low f g h to_is =
      let head : List Instr = first ++ instr.Zero to ∷ instr.Turn ∷ second in
      let code : List Instr = first ++ instr.Zero to ∷ instr.Turn ∷ second ++ last ++ instr.Jump at ∷ [] in
      let head_long : at + length head ≡ q = omega (arith, length-append first (instr.Zero to ∷ instr.Turn ∷ second), f.fits.long, g.fits.long) in
      let all_long : at + length (head ++ last) ≡ r = omega (arith, length-append head last, head_long, h.fits.long) in
      let inner : Jumps (suc (suc p)) (second ++ last) r to =
      join_jumps (suc (suc p)) q r to to second last (near_jumps (suc (suc p)) q to second g.jumps) (near_jumps q r to last h.jumps) (omega (arith, to_is)) (inr refl) in
      let turns : Jumps (suc p) (instr.Turn ∷ (second ++ last)) r to =
      join_jumps (suc p) (suc (suc p)) r to to (instr.Turn ∷ []) (second ++ last) (record { long = omega arith; all = (tt, tt) }) inner (omega (arith, to_is)) (inr refl) in
      let tests : Jumps p (instr.Zero to ∷ instr.Turn ∷ (second ++ last)) r to =
      join_jumps p (suc p) r to to (instr.Zero to ∷ []) (instr.Turn ∷ (second ++ last)) (far_zero p to (omega (arith, to_is, g.fits.long, h.fits.long))) turns (omega (arith, to_is)) (inr refl) in
      let forward : Jumps at (first ++ instr.Zero to ∷ instr.Turn ∷ (second ++ last)) r to =
      join_jumps at p r to to first (instr.Zero to ∷ instr.Turn ∷ (second ++ last)) (forward_jumps at p to first f.fits.long (well_forward p at first f.well)) tests (omega (arith, to_is)) (inr refl) in
      let all_jumps = loop_jumps at p r to first (second ++ last) (well_forward p at first f.well) f.fits.long forward to_is in
      part_end at (suc r) code (Some []) (record {
        fits = loop_fits named depth first second last at p q r to (suc r) ty (Some []) f.fits g.fits h.fits to_is refl low;
        names = each_append Names at r (head ++ last) (instr.Jump at ∷ []) all_long
            (each_append Names at q head last head_long
            (each_append Names at p first (instr.Zero to ∷ instr.Turn ∷ second) f.fits.long (well_names p at first f.well) (refl, (refl, g.names)))
            h.names)
            (refl, tt);
        jumps = subst (λ (l : List Instr). Jumps at (l ++ instr.Jump at ∷ []) (suc r) (suc r)) (sym (append_assoc first (instr.Zero to ∷ instr.Turn ∷ second) last)) all_jumps;
      })
