-- Pieces of main's code that are joined by jumps.
use Rattle.std.proofs.Common.{◌≡◌, ℕ, suc, ◌+◌, ◌≤◌, List, [], ◌∷◌, ◌++◌, length, Some, ℤ, pos, refl, sym, ◌∙◌, subst, arith, length-append}
use Rattle.std.proofs.lemmas.List.Elements.{All-nil}
use Rattle.std.specs.Prelude.{true, Bool}
use Rattle.sk_base.specs.declared.number.Ty.{Ty}
use Rattle.sk_base.specs.declared.number.Ty.TheVariants.{Int}
use Rattle.sk_isa.specs.declared.code.Instr.{Instr}
use Rattle.sk_isa.specs.declared.code.Instr.TheVariants as instr
use Rattle.sk_isa.specs.declared.object.Object.{Object}
use Rattle.sk_main_code.specs.MainSoundness.{left_in_main}
use Rattle.sk_main_sound.proofs.Pieces.{Stage, Stages, staged, Serves, serves_exact, Fits, FineAt, fine_some, fine_zero, fine_jump}
use Rattle.sk_plain.proofs.Lists.{all_one}
use Rattle.sk_scheme_sound.proofs.Each.{Each, each_append, each_front, each_back}

module _ (object : Object) (depth : ℕ) (live : ℕ → Bool) where
  abbrev Is : Stages → ℕ → Stage → Type 0
  Is chosen k stage = chosen k ≡ Some stage

  -- a number that is pushed
  fine_push : (chosen : Stages) (at : ℕ) (number : ℤ) (types : List Ty) → chosen at ≡ Some (staged types live) → length types ≤ depth
      → left_in_main object (instr.Push number) types ≡ Some (Int ∷ types) → Serves chosen (suc at) (staged (Int ∷ types) live) → FineAt object depth chosen at (instr.Push number)
  fine_push chosen at number types here low effect next =
      fine_some object depth chosen at (instr.Push number) (staged types live) (Int ∷ types) here low (λ names. effect) (λ container e. let no : ⊥ = cc in absurd no)
      (All-nil (λ container. live container ≡ true)) (all_one (λ n. Serves chosen n (staged (Int ∷ types) live)) (suc at) next)

  -- a test, and one of two pieces
  pub choice_fits : (first second last : List Instr) (at p q third to end : ℕ) (ty : Ty) (types : List Ty) (x1 x2 exit : Stage)
      → Fits object depth at first p (staged types live) (staged (ty ∷ types) live) → Fits object depth (suc p) second q (staged types live) x1 → Fits object depth (suc q) last end (staged types live) x2
      → third ≡ suc q → to ≡ end → suc (length types) ≤ depth → length x1.types ≤ depth
      → ((chosen : Stages) → Serves chosen end exit → Serves chosen end x1 × Serves chosen end x2)
      → Fits object depth at (first ++ instr.Zero third ∷ second ++ instr.Jump to ∷ last) end (staged types live) exit
  choice_fits first second last at p q third to end ty types x1 x2 exit f g h third_is to_is low low1 link = record {
    stages = f.stages ++ staged (ty ∷ types) live ∷ g.stages ++ x1 ∷ h.stages;
    size = omega (arith, length-append f.stages (staged (ty ∷ types) live ∷ g.stages), length-append (f.stages ++ staged (ty ∷ types) live ∷ g.stages) (x1 ∷ h.stages), f.size, g.size, h.size);
    long = omega (arith, code_long, length-append (first ++ instr.Zero third ∷ second) (instr.Jump to ∷ last), h.long);
    fine = λ chosen has exits.
        let l = link chosen exits in
        let has_head = each_front (Is chosen) at (f.stages ++ staged (ty ∷ types) live ∷ g.stages) (x1 ∷ h.stages) has in
        let has_tail = each_back (Is chosen) at q (f.stages ++ staged (ty ∷ types) live ∷ g.stages) (x1 ∷ h.stages) stages_long has in
        let has_first = each_front (Is chosen) at f.stages (staged (ty ∷ types) live ∷ g.stages) has_head in
        let has_second = each_back (Is chosen) at p f.stages (staged (ty ∷ types) live ∷ g.stages) f.size has_head in
        let three = h.fine chosen has_tail.1 l.1 in
        let two = g.fine chosen has_second.1 (serves_exact chosen q x1 has_tail.0) in
        let one = f.fine chosen has_first (serves_exact chosen p (staged (ty ∷ types) live) has_second.0) in
        let jumps : Serves chosen to x1 = subst (λ n. Serves chosen n x1) (sym to_is) l.0 in
        let skips : Serves chosen third (staged types live) = subst (λ n. Serves chosen n (staged types live)) (sym third_is) three.0 in (
          one.0,
          each_append (FineAt object depth chosen) at q (first ++ instr.Zero third ∷ second) (instr.Jump to ∷ last) code_long
              (each_append (FineAt object depth chosen) at p first (instr.Zero third ∷ second) f.long one.1
              (fine_zero object depth chosen p third ty types live has_second.0 low two.0 skips, two.1))
              (fine_jump object depth chosen q to x1 has_tail.0 low1 jumps, three.1),
        );
  }
    where
      stages_long : at + length (f.stages ++ staged (ty ∷ types) live ∷ g.stages) ≡ q
      stages_long = omega (arith, length-append f.stages (staged (ty ∷ types) live ∷ g.stages), f.size, g.size)

      code_long : at + length (first ++ instr.Zero third ∷ second) ≡ q
      code_long = omega (arith, length-append first (instr.Zero third ∷ second), f.long, g.long)

  -- a test, and where it holds a piece
  pub if_fits : (first second : List Instr) (at p to end : ℕ) (ty : Ty) (types : List Ty) (x : Stage)
      → Fits object depth at first p (staged types live) (staged (ty ∷ types) live) → Fits object depth (suc p) second end (staged types live) x
      → to ≡ end → suc (length types) ≤ depth → ((chosen : Stages) → Serves chosen end (staged types live) → Serves chosen end x)
      → Fits object depth at (first ++ instr.Zero to ∷ second) end (staged types live) (staged types live)
  if_fits first second at p to end ty types x f g to_is low link = record {
    stages = f.stages ++ staged (ty ∷ types) live ∷ g.stages;
    size = omega (arith, length-append f.stages (staged (ty ∷ types) live ∷ g.stages), f.size, g.size);
    long = omega (arith, length-append first (instr.Zero to ∷ second), f.long, g.long);
    fine = λ chosen has exits.
        let has_first = each_front (Is chosen) at f.stages (staged (ty ∷ types) live ∷ g.stages) has in
        let has_second = each_back (Is chosen) at p f.stages (staged (ty ∷ types) live ∷ g.stages) f.size has in
        let two = g.fine chosen has_second.1 (link chosen exits) in
        let one = f.fine chosen has_first (serves_exact chosen p (staged (ty ∷ types) live) has_second.0) in
        let skips : Serves chosen to (staged types live) = subst (λ n. Serves chosen n (staged types live)) (sym to_is) exits in (
          one.0,
          each_append (FineAt object depth chosen) at p first (instr.Zero to ∷ second) f.long one.1
              (fine_zero object depth chosen p to ty types live has_second.0 low two.0 skips, two.1),
        );
  }

  -- code that ends with a test, and where it holds a piece and the way back
  pub loop_fits : (first inner : List Instr) (at p r to end : ℕ) (ty : Ty) → Fits object depth at first p (staged [] live) (staged (ty ∷ []) live)
      → Fits object depth (suc p) inner r (staged [] live) (staged [] live) → to ≡ suc r → end ≡ suc r → 1 ≤ depth
      → Fits object depth at (first ++ instr.Zero to ∷ inner ++ instr.Jump at ∷ []) end (staged [] live) (staged [] live)
  loop_fits first inner at p r to end ty f g to_is end_is low = record {
    stages = f.stages ++ staged (ty ∷ []) live ∷ g.stages ++ staged [] live ∷ [];
    size = omega (arith, all_size, length-append (f.stages ++ staged (ty ∷ []) live ∷ g.stages) (staged [] live ∷ []), end_is);
    long = omega (arith, all_long, length-append (first ++ instr.Zero to ∷ inner) (instr.Jump at ∷ []), end_is);
    fine = λ chosen has exits.
        let has_all = each_front (Is chosen) at (f.stages ++ staged (ty ∷ []) live ∷ g.stages) (staged [] live ∷ []) has in
        let has_jump = each_back (Is chosen) at r (f.stages ++ staged (ty ∷ []) live ∷ g.stages) (staged [] live ∷ []) all_size has in
        let has_first = each_front (Is chosen) at f.stages (staged (ty ∷ []) live ∷ g.stages) has_all in
        let has_inner = each_back (Is chosen) at p f.stages (staged (ty ∷ []) live ∷ g.stages) f.size has_all in
        let two = g.fine chosen has_inner.1 (serves_exact chosen r (staged [] live) has_jump.0) in
        let one = f.fine chosen has_first (serves_exact chosen p (staged (ty ∷ []) live) has_inner.0) in
        let skips : Serves chosen to (staged [] live) = subst (λ n. Serves chosen n (staged [] live)) (end_is ∙ sym to_is) exits in (
          one.0,
          each_append (FineAt object depth chosen) at r (first ++ instr.Zero to ∷ inner) (instr.Jump at ∷ []) all_long
              (each_append (FineAt object depth chosen) at p first (instr.Zero to ∷ inner) f.long one.1
              (fine_zero object depth chosen p to ty [] live has_inner.0 low two.0 skips, two.1))
              (fine_jump object depth chosen r at (staged [] live) has_jump.0 (omega arith) one.0, tt),
        );
  }
    where
      all_size : at + length (f.stages ++ staged (ty ∷ []) live ∷ g.stages) ≡ r
      all_size = omega (arith, length-append f.stages (staged (ty ∷ []) live ∷ g.stages), f.size, g.size)

      all_long : at + length (first ++ instr.Zero to ∷ inner) ≡ r
      all_long = omega (arith, length-append first (instr.Zero to ∷ inner), f.long, g.long)

  -- a test becomes 1 or 0; where it fails, the code comes to the last push
  flag_fine : (chosen : Stages) (at fails behind end : ℕ) (ty : Ty) (types : List Ty) → Each (Is chosen) at (staged (ty ∷ types) live ∷ staged types live ∷ staged (Int ∷ types) live ∷ staged types live ∷ [])
      → fails ≡ at + 3 → behind ≡ end → end ≡ at + 4 → suc (length types) ≤ depth → Serves chosen end (staged (Int ∷ types) live)
      → Serves chosen fails (staged types live) × Each (FineAt object depth chosen) at (instr.Zero fails ∷ instr.Push (pos 1) ∷ instr.Jump behind ∷ instr.Push (pos 0) ∷ [])
  flag_fine chosen at fails behind end ty types has fails_is behind_is end_is low exits =
      let fails_there : suc (suc (suc at)) ≡ fails = omega (arith, fails_is) in
      let skips : Serves chosen fails (staged types live) = subst (λ n. Serves chosen n (staged types live)) fails_there (serves_exact chosen (suc (suc (suc at))) (staged types live) has.1.1.1.0) in
      let jumps : Serves chosen behind (staged (Int ∷ types) live) = subst (λ n. Serves chosen n (staged (Int ∷ types) live)) (sym behind_is) exits in
      let last_there : end ≡ suc (suc (suc (suc at))) = omega (arith, end_is) in
      let last : Serves chosen (suc (suc (suc (suc at)))) (staged (Int ∷ types) live) = subst (λ n. Serves chosen n (staged (Int ∷ types) live)) last_there exits in (
        skips,
        (
          fine_zero object depth chosen at fails ty types live has.0 low (serves_exact chosen (suc at) (staged types live) has.1.0) skips,
          (
            fine_push chosen (suc at) (pos 1) types has.1.0 (omega (arith, low)) refl (serves_exact chosen (suc (suc at)) (staged (Int ∷ types) live) has.1.1.0),
            (
              fine_jump object depth chosen (suc (suc at)) behind (staged (Int ∷ types) live) has.1.1.0 low jumps,
              (fine_push chosen (suc (suc (suc at))) (pos 0) types has.1.1.1.0 (omega (arith, low)) refl last, tt),
            ),
          ),
        ),
      )

  -- the right operand is evaluated only where the left one holds
  pub both_fits : (one other : List Instr) (at p q fails behind end : ℕ) (left right : Ty) (types : List Ty)
      → Fits object depth at one p (staged types live) (staged (left ∷ types) live) → Fits object depth (suc p) other q (staged types live) (staged (right ∷ types) live)
      → fails ≡ q + 3 → behind ≡ end → end ≡ q + 4 → suc (length types) ≤ depth
      → Fits object depth at (one ++ instr.Zero fails ∷ other ++ instr.Zero fails ∷ instr.Push (pos 1) ∷ instr.Jump behind ∷ instr.Push (pos 0) ∷ []) end (staged types live) (staged (Int ∷ types) live)
  both_fits one other at p q fails behind end left right types f g fails_is behind_is end_is low = record {
    stages = (f.stages ++ staged (left ∷ types) live ∷ g.stages) ++ (staged (right ∷ types) live ∷ staged types live ∷ staged (Int ∷ types) live ∷ staged types live ∷ []);
    size = omega (arith, length-append (f.stages ++ staged (left ∷ types) live ∷ g.stages) (staged (right ∷ types) live ∷ staged types live ∷ staged (Int ∷ types) live ∷ staged types live ∷ []), head_size, end_is);
    long = omega (arith, length-append (one ++ instr.Zero fails ∷ other) (instr.Zero fails ∷ instr.Push (pos 1) ∷ instr.Jump behind ∷ instr.Push (pos 0) ∷ []), code_long, end_is);
    fine = λ chosen has exits.
        let has_head = each_front (Is chosen) at (f.stages ++ staged (left ∷ types) live ∷ g.stages) (staged (right ∷ types) live ∷ staged types live ∷ staged (Int ∷ types) live ∷ staged types live ∷ []) has in
        let has_tail = each_back (Is chosen) at q (f.stages ++ staged (left ∷ types) live ∷ g.stages) (staged (right ∷ types) live ∷ staged types live ∷ staged (Int ∷ types) live ∷ staged types live ∷ []) head_size has in
        let has_first = each_front (Is chosen) at f.stages (staged (left ∷ types) live ∷ g.stages) has_head in
        let has_second = each_back (Is chosen) at p f.stages (staged (left ∷ types) live ∷ g.stages) f.size has_head in
        let two = g.fine chosen has_second.1 (serves_exact chosen q (staged (right ∷ types) live) has_tail.0) in
        let first = f.fine chosen has_first (serves_exact chosen p (staged (left ∷ types) live) has_second.0) in
        let flag = flag_fine chosen q fails behind end right types has_tail fails_is behind_is end_is low exits in (
          first.0,
          each_append (FineAt object depth chosen) at q (one ++ instr.Zero fails ∷ other) (instr.Zero fails ∷ instr.Push (pos 1) ∷ instr.Jump behind ∷ instr.Push (pos 0) ∷ []) code_long
              (each_append (FineAt object depth chosen) at p one (instr.Zero fails ∷ other) f.long first.1
              (fine_zero object depth chosen p fails left types live has_second.0 low two.0 flag.0, two.1)) flag.1,
        );
  }
    where
      head_size : at + length (f.stages ++ staged (left ∷ types) live ∷ g.stages) ≡ q
      head_size = omega (arith, length-append f.stages (staged (left ∷ types) live ∷ g.stages), f.size, g.size)

      code_long : at + length (one ++ instr.Zero fails ∷ other) ≡ q
      code_long = omega (arith, length-append one (instr.Zero fails ∷ other), f.long, g.long)

  -- the right operand is evaluated only where the left one does not hold
  pub either_fits : (one other : List Instr) (at p q second fails behind end : ℕ) (left right : Ty) (types : List Ty)
      → Fits object depth at one p (staged types live) (staged (left ∷ types) live) → Fits object depth (suc (suc (suc p))) other q (staged types live) (staged (right ∷ types) live)
      → second ≡ suc (suc (suc p)) → fails ≡ q + 3 → behind ≡ end → end ≡ q + 4 → suc (length types) ≤ depth
      → Fits object depth at (one ++ instr.Zero second ∷ instr.Push (pos 1) ∷ instr.Jump behind ∷ other
      ++ instr.Zero fails ∷ instr.Push (pos 1) ∷ instr.Jump behind ∷ instr.Push (pos 0) ∷ []) end (staged types live) (staged (Int ∷ types) live)
  either_fits one other at p q second fails behind end left right types f g second_is fails_is behind_is end_is low = record {
    stages = (f.stages ++ (staged (left ∷ types) live ∷ staged types live ∷ staged (Int ∷ types) live ∷ g.stages)) ++ (staged (right ∷ types) live ∷ staged types live ∷ staged (Int ∷ types) live ∷ staged types live ∷ []);
    size = omega (arith, length-append (f.stages ++ (staged (left ∷ types) live ∷ staged types live ∷ staged (Int ∷ types) live ∷ g.stages)) (staged (right ∷ types) live ∷ staged types live ∷ staged (Int ∷ types) live ∷ staged types live ∷ []), head_size, end_is);
    long = omega (arith, length-append (one ++ instr.Zero second ∷ instr.Push (pos 1) ∷ instr.Jump behind ∷ other) (instr.Zero fails ∷ instr.Push (pos 1) ∷ instr.Jump behind ∷ instr.Push (pos 0) ∷ []), code_long, end_is);
    fine = λ chosen has exits.
        let has_head = each_front (Is chosen) at (f.stages ++ (staged (left ∷ types) live ∷ staged types live ∷ staged (Int ∷ types) live ∷ g.stages)) (staged (right ∷ types) live ∷ staged types live ∷ staged (Int ∷ types) live ∷ staged types live ∷ []) has in
        let has_tail = each_back (Is chosen) at q (f.stages ++ (staged (left ∷ types) live ∷ staged types live ∷ staged (Int ∷ types) live ∷ g.stages)) (staged (right ∷ types) live ∷ staged types live ∷ staged (Int ∷ types) live ∷ staged types live ∷ []) head_size has in
        let has_first = each_front (Is chosen) at f.stages (staged (left ∷ types) live ∷ staged types live ∷ staged (Int ∷ types) live ∷ g.stages) has_head in
        let has_second = each_back (Is chosen) at p f.stages (staged (left ∷ types) live ∷ staged types live ∷ staged (Int ∷ types) live ∷ g.stages) f.size has_head in
        let two = g.fine chosen has_second.1.1.1 (serves_exact chosen q (staged (right ∷ types) live) has_tail.0) in
        let first = f.fine chosen has_first (serves_exact chosen p (staged (left ∷ types) live) has_second.0) in
        let flag = flag_fine chosen q fails behind end right types has_tail fails_is behind_is end_is low exits in
        let jumps : Serves chosen behind (staged (Int ∷ types) live) = subst (λ n. Serves chosen n (staged (Int ∷ types) live)) (sym behind_is) exits in
        let to_second : Serves chosen second (staged types live) = subst (λ n. Serves chosen n (staged types live)) (sym second_is) two.0 in (
          first.0,
          each_append (FineAt object depth chosen) at q (one ++ instr.Zero second ∷ instr.Push (pos 1) ∷ instr.Jump behind ∷ other) (instr.Zero fails ∷ instr.Push (pos 1) ∷ instr.Jump behind ∷ instr.Push (pos 0) ∷ []) code_long
              (each_append (FineAt object depth chosen) at p one (instr.Zero second ∷ instr.Push (pos 1) ∷ instr.Jump behind ∷ other) f.long first.1 (
                fine_zero object depth chosen p second left types live has_second.0 low (serves_exact chosen (suc p) (staged types live) has_second.1.0) to_second,
                (
                  fine_push chosen (suc p) (pos 1) types has_second.1.0 (omega (arith, low)) refl (serves_exact chosen (suc (suc p)) (staged (Int ∷ types) live) has_second.1.1.0),
                  (fine_jump object depth chosen (suc (suc p)) behind (staged (Int ∷ types) live) has_second.1.1.0 low jumps, two.1),
                ),
              )) flag.1,
        );
  }
    where
      head_size : at + length (f.stages ++ (staged (left ∷ types) live ∷ staged types live ∷ staged (Int ∷ types) live ∷ g.stages)) ≡ q
      head_size = omega (arith, length-append f.stages (staged (left ∷ types) live ∷ staged types live ∷ staged (Int ∷ types) live ∷ g.stages), f.size, g.size)

      code_long : at + length (one ++ instr.Zero second ∷ instr.Push (pos 1) ∷ instr.Jump behind ∷ other) ≡ q
      code_long = omega (arith, length-append one (instr.Zero second ∷ instr.Push (pos 1) ∷ instr.Jump behind ∷ other), f.long, g.long)
