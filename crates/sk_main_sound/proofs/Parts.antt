-- Pieces of the code of statements of main, before and behind which the stack is empty: their stages and their jumps.
use Rattle.std.proofs.Common.{◌≡◌, ℕ, suc, ◌+◌, ◌≤◌, List, [], ◌∷◌, ◌++◌, length, All, Some, refl, sym, ap, ◌∙◌, subst, arith, append_assoc, inl, inr}
use Rattle.std.proofs.lemmas.List.Elements.{All-nil}
use Rattle.std.specs.Prelude.{true, false, Bool, not, ◌&&◌, ◌||◌, ◌==◌}
use Rattle.sk_base.specs.declared.number.Ty.{Ty}
use Rattle.sk_isa.specs.Soundness.{leads_to, left_if}
use Rattle.sk_isa.specs.declared.code.Instr.{Instr}
use Rattle.sk_isa.specs.declared.code.Instr.TheVariants as instr
use Rattle.sk_isa.specs.declared.object.Object.{Object}
use Rattle.sk_main_code.specs.MainSoundness.{left_in_main, lives_after, made_by, names_in_main, names_of_main, used_by}
use Rattle.sk_main_scheme.specs.MainScheme.{Named, Number, Whole, Called, dropped}
use Rattle.sk_main_sound.proofs.Frames.{choice_fits, if_fits, loop_fits}
use Rattle.sk_main_sound.proofs.Jumps.{IsJump, Jumps, forward_jumps, far_zero, far_jump, near_jumps, join_jumps, loop_jumps}
use Rattle.sk_main_sound.proofs.Pieces.{Stage, staged, Fits, then_fits, nothing_fits, one_fits, halt_fits, wider_fits}
use Rattle.sk_main_sound.proofs.Scopes.{Scope, AreBelow, IsBelow, below_it, is_container, live_in, none_live}
use Rattle.sk_main_sound.proofs.Values.{Stretch, many_taken}
use Rattle.sk_plain.proofs.Lists.{all_one}
use Rattle.sk_scheme_sound.proofs.SoundPieces.{Aims, aims_map}

module _ (object : Object) (depth : ℕ) where
  -- A piece of code of a statement, with the containers that are live before and behind it.
  pub record Part (at : ℕ) (code : List Instr) (end : ℕ) (before after : ℕ → Bool) : Type 0 where
    pub fits : Fits object depth at code end (staged [] before) (staged [] after)
    pub jumps : Jumps at code end end

  pub part_end : (at end : ℕ) (code : List Instr) (before after : ℕ → Bool) → Part at code end before after → Part at code (at + length code) before after
  part_end at end code before after f = subst (λ n. Part at code n before after) (sym f.fits.long) f

  pub part_to : (at end to : ℕ) (code : List Instr) (before after : ℕ → Bool) → end ≡ to → Part at code end before after → Part at code to before after
  part_to at end to code before after e f = subst (λ n. Part at code n before after) e f

  pub part_at : (at to end : ℕ) (code : List Instr) (before after : ℕ → Bool) → at ≡ to → Part at code end before after → Part to code end before after
  part_at at to end code before after e f = subst (λ n. Part n code end before after) e f

  -- the same live containers, as another function
  pub part_same : (at end : ℕ) (code : List Instr) (before after other : ℕ → Bool) → ((container : ℕ) → other container ≡ after container)
      → Part at code end before after → Part at code end before other
  part_same at end code before after other e f =
      record { fits = wider_fits object depth at end code (staged [] before) (staged [] after) (staged [] other) (refl, e) f.fits; jumps = f.jumps }

  pub nothing_part : (at : ℕ) (live : ℕ → Bool) → Part at [] (at + 0) live live
  nothing_part at live = part_end at at [] live live (record {
    fits = nothing_fits object depth at (staged [] live);
    jumps = record { long = omega arith; all = tt };
  })

  -- one behind the other
  pub then_part : (at mid end : ℕ) (a b : List Instr) (before between after : ℕ → Bool) → Part at a mid before between → Part mid b end between after
      → Part at (a ++ b) end before after
  then_part at mid end a b before between after f g = record {
    fits = then_fits object depth at mid end a b (staged [] before) (staged [] between) (staged [] after) f.fits g.fits;
    jumps = join_jumps at mid end end end a b (near_jumps at mid end a f.jumps) g.jumps (let long = g.fits.long in omega arith) (inl refl);
  }

  -- an instruction that takes all values, and may make or end a container
  pub one_part : (i : Instr) (at : ℕ) (types : List Ty) (before after : ℕ → Bool) → (names_in_main object i ≡ true → left_in_main object i types ≡ Some []) → length types ≤ depth
      → ((container : ℕ) → made_by i ≡ Some container → before container ≡ false) → All (λ container. before container ≡ true) (used_by i)
      → ((container : ℕ) → after container ≡ lives_after i before container) → leads_to i at ≡ suc at ∷ [] → Fits object depth at (i ∷ []) (suc at) (staged types before) (staged [] after)
  one_part i at types before after effect low made used lives leads =
      one_fits object depth i at (staged types before) (staged [] after) effect low made used lives leads

  -- values, and an instruction that takes them
  pub taking_part : (i : Instr) (at mid : ℕ) (code : List Instr) (types : List Ty) (before after : ℕ → Bool) → Stretch object depth before at code mid [] types
      → (names_in_main object i ≡ true → left_in_main object i types ≡ Some []) → length types ≤ depth
      → ((container : ℕ) → made_by i ≡ Some container → before container ≡ false) → All (λ container. before container ≡ true) (used_by i)
      → ((container : ℕ) → after container ≡ lives_after i before container) → leads_to i mid ≡ suc mid ∷ [] → Aims (λ to. ⊥) i
      → Part at (code ++ i ∷ []) (at + length (code ++ i ∷ [])) before after
  taking_part i at mid code types before after f effect low made used lives leads aims =
      part_end at (suc mid) (code ++ i ∷ []) before after (record {
        fits = then_fits object depth at mid (suc mid) code (i ∷ []) (staged [] before) (staged types before) (staged [] after) f.fits
            (one_part i mid types before after effect low made used lives leads);
        jumps = join_jumps at mid (suc mid) (suc mid) (suc mid) code (i ∷ []) (forward_jumps at mid (suc mid) code f.fits.long f.forward)
            (record { long = omega arith; all = (aims_map (λ to. ⊥) (IsJump mid (i ∷ []) (suc mid) (suc mid) mid) i (λ to no. absurd no) aims, tt) }) (omega arith) (inl refl);
      })

  count_left : (line : ℕ) (types : List Ty) → left_in_main object (instr.Count line) types ≡ Some types
  count_left line types = many_taken [] types 0 (λ given rest. left_if true rest) refl

  pub count_part : (line at : ℕ) (live : ℕ → Bool) → Part at (instr.Count line ∷ []) (suc at) live live
  count_part line at live = record {
    fits = one_fits object depth (instr.Count line) at (staged [] live) (staged [] live) (λ names. count_left line []) (omega arith) (λ container e. let no : ⊥ = cc in absurd no)
        (All-nil (λ container. live container ≡ true)) (λ container. refl) refl;
    jumps = record { long = omega arith; all = (tt, tt) };
  }

  -- a piece that is counted first
  pub counted_part : (line at end : ℕ) (code : List Instr) (before after : ℕ → Bool) → Part (at + 1) code end before after → Part at (instr.Count line ∷ code) end before after
  counted_part line at end code before after f =
      let here : at + 1 ≡ suc at = omega arith in
      then_part at (suc at) end (instr.Count line ∷ []) code before before after (count_part line at before) (part_at (at + 1) (suc at) end code before after here f)

  -- a value, and the end of the run
  pub return_part : (ty : Ty) (at mid : ℕ) (code : List Instr) (before after : ℕ → Bool) → 1 ≤ depth → Stretch object depth before at code mid [] (ty ∷ [])
      → Part at (code ++ instr.Pop ∷ instr.Halt ∷ []) (at + length (code ++ instr.Pop ∷ instr.Halt ∷ [])) before after
  return_part ty at mid code before after low f =
      let ends : List Instr = instr.Pop ∷ instr.Halt ∷ [] in
      part_end at (suc (suc mid)) (code ++ ends) before after (record {
        fits = then_fits object depth at mid (suc (suc mid)) code ends (staged [] before) (staged (ty ∷ []) before) (staged [] after) f.fits
            (then_fits object depth mid (suc mid) (suc (suc mid)) (instr.Pop ∷ []) (instr.Halt ∷ []) (staged (ty ∷ []) before) (staged [] before) (staged [] after)
            (one_part instr.Pop mid (ty ∷ []) before before (λ names. refl) low (λ container e. let no : ⊥ = cc in absurd no) (All-nil (λ container. before container ≡ true)) (λ container. refl) refl)
            (halt_fits object depth (suc mid) [] before (staged [] after) (omega arith)));
        jumps = join_jumps at mid (suc (suc mid)) (suc (suc mid)) (suc (suc mid)) code ends (forward_jumps at mid (suc (suc mid)) code f.fits.long f.forward)
            (record { long = omega arith; all = (tt, (tt, tt)) }) (omega arith) (inl refl);
      })

  -- the end of main
  pub halt_part : (at : ℕ) (before after : ℕ → Bool) → Part at (instr.Halt ∷ []) (suc at) before after
  halt_part at before after = record {
    fits = halt_fits object depth at [] before (staged [] after) (omega arith);
    jumps = record { long = omega arith; all = (tt, tt) };
  }

  -- a test, and where it holds a piece
  pub if_part : (ty : Ty) (at p end to : ℕ) (first second : List Instr) (live : ℕ → Bool) → 1 ≤ depth → Stretch object depth live at first p [] (ty ∷ []) → Part (suc p) second end live live
      → to ≡ end → Part at (first ++ instr.Zero to ∷ second) end live live
  if_part ty at p end to first second live low f g to_is = record {
    fits = if_fits object depth live first second at p to end ty [] (staged [] live) f.fits g.fits to_is low (λ chosen exits. exits);
    jumps = subst (λ n. Jumps at (first ++ instr.Zero to ∷ second) end n) to_is
        (join_jumps at p end to to first (instr.Zero to ∷ second) (forward_jumps at p to first f.fits.long f.forward)
        (join_jumps p (suc p) end to to (instr.Zero to ∷ []) second (far_zero p to (omega (arith, to_is, g.fits.long))) (near_jumps (suc p) end to second g.jumps) (omega (arith, to_is)) (inr refl))
        (omega (arith, to_is)) (inr refl));
  }

  -- a test, and one of two pieces
  pub choice_part : (ty : Ty) (at p q third to end : ℕ) (first second last : List Instr) (live : ℕ → Bool) → 1 ≤ depth → Stretch object depth live at first p [] (ty ∷ [])
      → Part (suc p) second q live live → Part (suc q) last end live live → third ≡ suc q → to ≡ end
      → Part at (first ++ instr.Zero third ∷ second ++ instr.Jump to ∷ last) end live live
  choice_part ty at p q third to end first second last live low f g h third_is to_is =
      let head : List Instr = first ++ instr.Zero third ∷ second in
      let code : List Instr = first ++ instr.Zero third ∷ second ++ instr.Jump to ∷ last in
      let head_jumps : Jumps at head q third =
      join_jumps at p q third third first (instr.Zero third ∷ second) (forward_jumps at p third first f.fits.long f.forward)
      (join_jumps p (suc p) q third third (instr.Zero third ∷ []) second (far_zero p third (omega (arith, third_is, g.fits.long))) (near_jumps (suc p) q third second g.jumps) (omega (arith, third_is)) (inr refl))
      (omega (arith, third_is)) (inr refl) in
      let with_jump : Jumps at (head ++ instr.Jump to ∷ []) (suc q) to =
      join_jumps at q (suc q) third to head (instr.Jump to ∷ []) head_jumps (far_jump q to (omega (arith, to_is, h.fits.long))) (omega (arith, third_is)) (inl third_is) in
      let all_jumps : Jumps at ((head ++ instr.Jump to ∷ []) ++ last) end to =
      join_jumps at (suc q) end to to (head ++ instr.Jump to ∷ []) last with_jump (near_jumps (suc q) end to last h.jumps) (omega (arith, to_is)) (inr refl) in
      let after : Stage = staged [] live in
      record {
        fits = choice_fits object depth live first second last at p q third to end ty [] after after after f.fits g.fits h.fits third_is to_is low (omega arith) (λ chosen exits. (exits, exits));
        jumps = subst (λ n. Jumps at code end n) to_is (subst (λ (l : List Instr). Jumps at l end to) (append_assoc head (instr.Jump to ∷ []) last) all_jumps);
      }

  -- a counted test, and where it holds a piece and the way back
  pub loop_part : (ty : Ty) (line at p r to : ℕ) (test inner : List Instr) (live : ℕ → Bool) → 1 ≤ depth → Stretch object depth live (suc at) test p [] (ty ∷ [])
      → Part (suc p) inner r live live → to ≡ suc r
      → Part at ((instr.Count line ∷ test) ++ instr.Zero to ∷ inner ++ instr.Jump at ∷ []) (suc r) live live
  loop_part ty line at p r to test inner live low f g to_is =
      let first : List Instr = instr.Count line ∷ test in
      let rest : List Instr = test ++ instr.Zero to ∷ inner in
      let first_fits : Fits object depth at first p (staged [] live) (staged (ty ∷ []) live) =
      then_fits object depth at (suc at) p (instr.Count line ∷ []) test (staged [] live) (staged [] live) (staged (ty ∷ []) live) (count_part line at live).fits f.fits in
      let tests : Jumps p (instr.Zero to ∷ inner) r to =
      join_jumps p (suc p) r to to (instr.Zero to ∷ []) inner (far_zero p to (omega (arith, to_is, g.fits.long))) (near_jumps (suc p) r to inner g.jumps) (omega (arith, to_is)) (inr refl) in
      let rest_jumps : Jumps (suc at) rest r to =
      join_jumps (suc at) p r to to test (instr.Zero to ∷ inner) (forward_jumps (suc at) p to test f.fits.long f.forward) tests (omega (arith, to_is)) (inr refl) in
      let head_jumps : Jumps at (instr.Count line ∷ rest) r to =
      join_jumps at (suc at) r to to (instr.Count line ∷ []) rest (record { long = omega arith; all = (tt, tt) }) rest_jumps (omega (arith, to_is)) (inr refl) in
      record {
        fits = loop_fits object depth live first inner at p r to (suc r) ty first_fits g.fits to_is refl low;
        jumps = loop_jumps at r to line rest head_jumps to_is;
      }

  -- ---- the end of a block

  -- the containers that are left live
  abbrev pub left_live : (ℕ → Bool) → Scope → ℕ → Bool
  left_live live new container = live container && not (live_in new container)

  and_true : (a b : Bool) → a ≡ true → b ≡ false → (a && not b) ≡ true
  and_true true false e f = refl
  and_true false b e f = let no : ⊥ = cc in absurd no
  and_true a true e f = let no : ⊥ = cc in absurd no

  drop_bools : (a b c : Bool) → (a && not (b || c)) ≡ ((a && not b) && not c)
  drop_bools true true c = refl
  drop_bools true false c = refl
  drop_bools false b c = refl

  drop_none : (a b : Bool) → (a && not (b || false)) ≡ (a && not b)
  drop_none true true = refl
  drop_none true false = refl
  drop_none false b = refl

  or_first : (a b : Bool) → a ≡ true → (a || b) ≡ true
  or_first true b e = refl
  or_first false b e = let no : ⊥ = cc in absurd no

  or_itself : (a : Bool) (n : ℕ) → (a || n == n) ≡ true
  or_itself true n = refl
  or_itself false n = grind arith

  -- the containers of the latest names are dropped
  pub drops_part : (bound : ℕ) (new : Scope) (live : ℕ → Bool) → AreBelow bound new → ((container : ℕ) → live_in new container ≡ true → live container ≡ true)
      → (at : ℕ) → Part at (dropped new) (at + length (dropped new)) live (left_live live new)
  drops_part bound [] live below has at = part_same at (at + 0) [] live live (left_live live []) (λ container. and_one (live container)) (nothing_part at live)
    where
      and_one : (a : Bool) → (a && true) ≡ a
      and_one true = refl
      and_one false = refl
  drops_part bound (one ∷ new) live below has at = by_named one.0 one.1 below has (λ more b h. drops_part more new live b h at)
    where
      by_named : (name : List ℕ) (named : Named) → IsBelow bound named × AreBelow (below_it named bound) new → ((container : ℕ) → (live_in new container || is_container named container) ≡ true → live container ≡ true)
          → ((more : ℕ) → AreBelow more new → ((container : ℕ) → live_in new container ≡ true → live container ≡ true) → Part at (dropped new) (at + length (dropped new)) live (left_live live new))
          → Part at (dropped ((name, named) ∷ new)) (at + length (dropped ((name, named) ∷ new))) live (left_live live ((name, named) ∷ new))
      by_named name (Whole number ty) b h later =
          let f = later number b.1 (λ container e. h container (or_first (live_in new container) (container == number) e)) in
          let first : List Instr = dropped new in
          let mid : ℕ = at + length first in
          let i : Instr = instr.Drop number in
          let there : left_live live new number ≡ true = and_true (live number) (live_in new number) (h number (or_itself (live_in new number) number)) (none_live number number new (omega arith) b.1) in
          part_end at (suc mid) (first ++ i ∷ []) live (left_live live ((name, Whole number ty) ∷ new))
          (then_part at mid (suc mid) first (i ∷ []) live (left_live live new) (left_live live ((name, Whole number ty) ∷ new)) f (record {
            fits = one_part i mid [] (left_live live new) (left_live live ((name, Whole number ty) ∷ new))
                (λ names. many_taken [] [] 0 (λ given rest. left_if (names_of_main object i) rest) refl ∙ ap (λ (b : Bool). left_if b []) names) (omega arith)
                (λ container e. let no : ⊥ = cc in absurd no) (all_one (λ container. left_live live new container ≡ true) number there)
                (λ container. drop_bools (live container) (live_in new container) (container == number)) refl;
            jumps = record { long = omega arith; all = (tt, tt) };
          }))
      by_named name (Number slot ty) b h later =
          part_same at (at + length (dropped new)) (dropped new) live (left_live live new) (left_live live ((name, Number slot ty) ∷ new)) (λ container. drop_none (live container) (live_in new container))
          (later bound b.1 (λ container e. h container (or_first (live_in new container) false e)))
      by_named name (Called made) b h later =
          part_same at (at + length (dropped new)) (dropped new) live (left_live live new) (left_live live ((name, Called made) ∷ new)) (λ container. drop_none (live container) (live_in new container))
          (later bound b.1 (λ container e. h container (or_first (live_in new container) false e)))
