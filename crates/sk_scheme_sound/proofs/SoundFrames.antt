-- Pieces of code that are joined by jumps.
use Rattle.std.proofs.Common.{◌≡◌, ℕ, suc, ◌+◌, ◌≤◌, List, [], ◌∷◌, ◌++◌, length, Option, Some, ℤ, pos, refl, sym, ◌∙◌, subst, arith, length-append}
use Rattle.sk_base.specs.declared.number.Ty.{Ty}
use Rattle.sk_base.specs.declared.number.Ty.TheVariants.{Int}
use Rattle.sk_isa.specs.declared.code.Instr.{Instr}
use Rattle.sk_isa.specs.declared.code.Instr.TheVariants as instr
use Rattle.sk_isa.specs.Soundness.{Named, Types, left_by}
use Rattle.sk_plain.proofs.Lists.{all_one}
use Rattle.sk_scheme_sound.proofs.Each.{Each, each_append, each_front, each_back}
use Rattle.sk_scheme_sound.proofs.SoundPieces.{Serves, Exits, serves_exact, exits_exact, Fits, FineAt, fine_some, fine_zero, fine_jump, IsLow}

module _ (named : Named) (depth : ℕ) where
  abbrev Is : Types → ℕ → Option (List Ty) → Type 0
  Is chosen k choice = chosen k ≡ choice

  -- a number that is pushed
  fine_push : (chosen : Types) (at : ℕ) (number : ℤ) (types : List Ty) → chosen at ≡ Some types → length types ≤ depth
      → left_by named (instr.Push number) types ≡ Some (Int ∷ types) → Serves chosen (suc at) (Int ∷ types) → FineAt named depth chosen at (instr.Push number)
  fine_push chosen at number types here low effect next =
      fine_some named depth chosen at (instr.Push number) types (Int ∷ types) here low effect (all_one (λ n. Serves chosen n (Int ∷ types)) (suc at) next)

  -- a test, and one of two pieces
  pub choice_fits : (first second last : List Instr) (at p q third to end : ℕ) (ty : Ty) (types : List Ty) (x1 x2 exit : Option (List Ty))
      → Fits named depth at first p (Some types) (Some (ty ∷ types)) → Fits named depth (suc p) second q (Some types) x1 → Fits named depth (suc q) last end (Some types) x2
      → third ≡ suc q → to ≡ end → suc (length types) ≤ depth → IsLow named depth x1
      → ((chosen : Types) → Exits chosen end exit → Exits chosen end x1 × Exits chosen end x2)
      → Fits named depth at (first ++ instr.Zero third ∷ second ++ instr.Jump to ∷ last) end (Some types) exit
  choice_fits first second last at p q third to end ty types x1 x2 exit f g h third_is to_is low low1 link = record {
    choices = f.choices ++ Some (ty ∷ types) ∷ g.choices ++ x1 ∷ h.choices;
    size = omega (arith, length-append f.choices (Some (ty ∷ types) ∷ g.choices), length-append (f.choices ++ Some (ty ∷ types) ∷ g.choices) (x1 ∷ h.choices), f.size, g.size, h.size);
    long = omega (arith, code_long, length-append (first ++ instr.Zero third ∷ second) (instr.Jump to ∷ last), h.long);
    fine = λ chosen has exits.
        let l = link chosen exits in
        let has_head = each_front (Is chosen) at (f.choices ++ Some (ty ∷ types) ∷ g.choices) (x1 ∷ h.choices) has in
        let has_tail = each_back (Is chosen) at q (f.choices ++ Some (ty ∷ types) ∷ g.choices) (x1 ∷ h.choices) choices_long has in
        let has_first = each_front (Is chosen) at f.choices (Some (ty ∷ types) ∷ g.choices) has_head in
        let has_second = each_back (Is chosen) at p f.choices (Some (ty ∷ types) ∷ g.choices) f.size has_head in
        let three = h.fine chosen has_tail.1 l.1 in
        let two = g.fine chosen has_second.1 (exits_exact chosen q x1 has_tail.0) in
        let one = f.fine chosen has_first (serves_exact chosen p (ty ∷ types) has_second.0) in
        let jumps : Exits chosen to x1 = subst (λ n. Exits chosen n x1) (sym to_is) l.0 in
        let skips : Serves chosen third types = subst (λ n. Serves chosen n types) (sym third_is) three.0 in (
          one.0,
          each_append (FineAt named depth chosen) at q (first ++ instr.Zero third ∷ second) (instr.Jump to ∷ last) code_long
              (each_append (FineAt named depth chosen) at p first (instr.Zero third ∷ second) f.long one.1
              (fine_zero named depth chosen p third ty types has_second.0 low two.0 skips, two.1))
              (fine_jump named depth chosen q to x1 has_tail.0 low1 jumps, three.1),
        );
  }
    where
      choices_long : at + length (f.choices ++ Some (ty ∷ types) ∷ g.choices) ≡ q
      choices_long = omega (arith, length-append f.choices (Some (ty ∷ types) ∷ g.choices), f.size, g.size)

      code_long : at + length (first ++ instr.Zero third ∷ second) ≡ q
      code_long = omega (arith, length-append first (instr.Zero third ∷ second), f.long, g.long)

  -- a test, and where it holds a piece
  pub if_fits : (first second : List Instr) (at p to end : ℕ) (ty : Ty) (types : List Ty) (x : Option (List Ty))
      → Fits named depth at first p (Some types) (Some (ty ∷ types)) → Fits named depth (suc p) second end (Some types) x
      → to ≡ end → suc (length types) ≤ depth → ((chosen : Types) → Serves chosen end types → Exits chosen end x)
      → Fits named depth at (first ++ instr.Zero to ∷ second) end (Some types) (Some types)
  if_fits first second at p to end ty types x f g to_is low link = record {
    choices = f.choices ++ Some (ty ∷ types) ∷ g.choices;
    size = omega (arith, length-append f.choices (Some (ty ∷ types) ∷ g.choices), f.size, g.size);
    long = omega (arith, length-append first (instr.Zero to ∷ second), f.long, g.long);
    fine = λ chosen has exits.
        let has_first = each_front (Is chosen) at f.choices (Some (ty ∷ types) ∷ g.choices) has in
        let has_second = each_back (Is chosen) at p f.choices (Some (ty ∷ types) ∷ g.choices) f.size has in
        let two = g.fine chosen has_second.1 (link chosen exits) in
        let one = f.fine chosen has_first (serves_exact chosen p (ty ∷ types) has_second.0) in
        let skips : Serves chosen to types = subst (λ n. Serves chosen n types) (sym to_is) exits in (
          one.0,
          each_append (FineAt named depth chosen) at p first (instr.Zero to ∷ second) f.long one.1
              (fine_zero named depth chosen p to ty types has_second.0 low two.0 skips, two.1),
        );
  }

  -- a test, and where it holds a turn, two pieces, and the way back
  pub loop_fits : (first second last : List Instr) (at p q r to end : ℕ) (ty : Ty) (x1 : Option (List Ty))
      → Fits named depth at first p (Some []) (Some (ty ∷ [])) → Fits named depth (suc (suc p)) second q (Some []) x1 → Fits named depth q last r x1 (Some [])
      → to ≡ suc r → end ≡ suc r → 1 ≤ depth
      → Fits named depth at (first ++ instr.Zero to ∷ instr.Turn ∷ second ++ last ++ instr.Jump at ∷ []) end (Some []) (Some [])
  loop_fits first second last at p q r to end ty x1 f g h to_is end_is low = record {
    choices = (f.choices ++ Some (ty ∷ []) ∷ Some [] ∷ g.choices) ++ h.choices ++ Some [] ∷ [];
    size = omega (arith, all_size, length-append ((f.choices ++ Some (ty ∷ []) ∷ Some [] ∷ g.choices) ++ h.choices) (Some [] ∷ []), end_is);
    long = omega (arith, all_long, length-append ((first ++ instr.Zero to ∷ instr.Turn ∷ second) ++ last) (instr.Jump at ∷ []), end_is);
    fine = λ chosen has exits.
        let has_all = each_front (Is chosen) at ((f.choices ++ Some (ty ∷ []) ∷ Some [] ∷ g.choices) ++ h.choices) (Some [] ∷ []) has in
        let has_jump = each_back (Is chosen) at r ((f.choices ++ Some (ty ∷ []) ∷ Some [] ∷ g.choices) ++ h.choices) (Some [] ∷ []) all_size has in
        let has_head = each_front (Is chosen) at (f.choices ++ Some (ty ∷ []) ∷ Some [] ∷ g.choices) h.choices has_all in
        let has_last = each_back (Is chosen) at q (f.choices ++ Some (ty ∷ []) ∷ Some [] ∷ g.choices) h.choices head_size has_all in
        let has_first = each_front (Is chosen) at f.choices (Some (ty ∷ []) ∷ Some [] ∷ g.choices) has_head in
        let has_second = each_back (Is chosen) at p f.choices (Some (ty ∷ []) ∷ Some [] ∷ g.choices) f.size has_head in
        let three = h.fine chosen has_last (serves_exact chosen r [] has_jump.0) in
        let two = g.fine chosen has_second.1.1 three.0 in
        let one = f.fine chosen has_first (serves_exact chosen p (ty ∷ []) has_second.0) in
        let skips : Serves chosen to [] = subst (λ n. Serves chosen n []) (end_is ∙ sym to_is) exits in
        let turns : FineAt named depth chosen (suc p) instr.Turn =
        fine_some named depth chosen (suc p) instr.Turn [] [] has_second.1.0 (omega arith) refl (all_one (λ n. Serves chosen n []) (suc (suc p)) two.0) in
        let fine_code = each_append (FineAt named depth chosen) at p first (instr.Zero to ∷ instr.Turn ∷ second) f.long one.1
        (fine_zero named depth chosen p to ty [] has_second.0 low (serves_exact chosen (suc p) [] has_second.1.0) skips, (turns, two.1)) in (
          one.0,
          each_append (FineAt named depth chosen) at r ((first ++ instr.Zero to ∷ instr.Turn ∷ second) ++ last) (instr.Jump at ∷ []) all_long
              (each_append (FineAt named depth chosen) at q (first ++ instr.Zero to ∷ instr.Turn ∷ second) last code_long fine_code three.1)
              (fine_jump named depth chosen r at (Some []) has_jump.0 (omega arith) one.0, tt),
        );
  }
    where
      head_size : at + length (f.choices ++ Some (ty ∷ []) ∷ Some [] ∷ g.choices) ≡ q
      head_size = omega (arith, length-append f.choices (Some (ty ∷ []) ∷ Some [] ∷ g.choices), f.size, g.size)

      code_long : at + length (first ++ instr.Zero to ∷ instr.Turn ∷ second) ≡ q
      code_long = omega (arith, length-append first (instr.Zero to ∷ instr.Turn ∷ second), f.long, g.long)

      all_size : at + length ((f.choices ++ Some (ty ∷ []) ∷ Some [] ∷ g.choices) ++ h.choices) ≡ r
      all_size = omega (arith, length-append (f.choices ++ Some (ty ∷ []) ∷ Some [] ∷ g.choices) h.choices, head_size, h.size)

      all_long : at + length ((first ++ instr.Zero to ∷ instr.Turn ∷ second) ++ last) ≡ r
      all_long = omega (arith, length-append (first ++ instr.Zero to ∷ instr.Turn ∷ second) last, code_long, h.long)

  -- a test becomes 1 or 0; where it fails, the code comes to the last push
  flag_fine : (chosen : Types) (at fails behind end : ℕ) (ty : Ty) (types : List Ty) → Each (Is chosen) at (Some (ty ∷ types) ∷ Some types ∷ Some (Int ∷ types) ∷ Some types ∷ [])
      → fails ≡ at + 3 → behind ≡ end → end ≡ at + 4 → suc (length types) ≤ depth → Serves chosen end (Int ∷ types)
      → Serves chosen fails types × Each (FineAt named depth chosen) at (instr.Zero fails ∷ instr.Push (pos 1) ∷ instr.Jump behind ∷ instr.Push (pos 0) ∷ [])
  flag_fine chosen at fails behind end ty types has fails_is behind_is end_is low exits =
      let fails_there : suc (suc (suc at)) ≡ fails = omega (arith, fails_is) in
      let skips : Serves chosen fails types = subst (λ n. Serves chosen n types) fails_there (serves_exact chosen (suc (suc (suc at))) types has.1.1.1.0) in
      let jumps : Serves chosen behind (Int ∷ types) = subst (λ n. Serves chosen n (Int ∷ types)) (sym behind_is) exits in
      let last_there : end ≡ suc (suc (suc (suc at))) = omega (arith, end_is) in
      let last : Serves chosen (suc (suc (suc (suc at)))) (Int ∷ types) = subst (λ n. Serves chosen n (Int ∷ types)) last_there exits in (
        skips,
        (
          fine_zero named depth chosen at fails ty types has.0 low (serves_exact chosen (suc at) types has.1.0) skips,
          (
            fine_push chosen (suc at) (pos 1) types has.1.0 (omega (arith, low)) refl (serves_exact chosen (suc (suc at)) (Int ∷ types) has.1.1.0),
            (
              fine_jump named depth chosen (suc (suc at)) behind (Some (Int ∷ types)) has.1.1.0 low jumps,
              (fine_push chosen (suc (suc (suc at))) (pos 0) types has.1.1.1.0 (omega (arith, low)) refl last, tt),
            ),
          ),
        ),
      )

  -- the right operand is evaluated only where the left one holds
  pub both_fits : (one other : List Instr) (at p q fails behind end : ℕ) (left right : Ty) (types : List Ty)
      → Fits named depth at one p (Some types) (Some (left ∷ types)) → Fits named depth (suc p) other q (Some types) (Some (right ∷ types))
      → fails ≡ q + 3 → behind ≡ end → end ≡ q + 4 → suc (length types) ≤ depth
      → Fits named depth at (one ++ instr.Zero fails ∷ other ++ instr.Zero fails ∷ instr.Push (pos 1) ∷ instr.Jump behind ∷ instr.Push (pos 0) ∷ []) end (Some types) (Some (Int ∷ types))
  both_fits one other at p q fails behind end left right types f g fails_is behind_is end_is low = record {
    choices = (f.choices ++ Some (left ∷ types) ∷ g.choices) ++ (Some (right ∷ types) ∷ Some types ∷ Some (Int ∷ types) ∷ Some types ∷ []);
    size = omega (arith, length-append (f.choices ++ Some (left ∷ types) ∷ g.choices) (Some (right ∷ types) ∷ Some types ∷ Some (Int ∷ types) ∷ Some types ∷ []), head_size, end_is);
    long = omega (arith, length-append (one ++ instr.Zero fails ∷ other) (instr.Zero fails ∷ instr.Push (pos 1) ∷ instr.Jump behind ∷ instr.Push (pos 0) ∷ []), code_long, end_is);
    fine = λ chosen has exits.
        let has_head = each_front (Is chosen) at (f.choices ++ Some (left ∷ types) ∷ g.choices) (Some (right ∷ types) ∷ Some types ∷ Some (Int ∷ types) ∷ Some types ∷ []) has in
        let has_tail = each_back (Is chosen) at q (f.choices ++ Some (left ∷ types) ∷ g.choices) (Some (right ∷ types) ∷ Some types ∷ Some (Int ∷ types) ∷ Some types ∷ []) head_size has in
        let has_first = each_front (Is chosen) at f.choices (Some (left ∷ types) ∷ g.choices) has_head in
        let has_second = each_back (Is chosen) at p f.choices (Some (left ∷ types) ∷ g.choices) f.size has_head in
        let two = g.fine chosen has_second.1 (serves_exact chosen q (right ∷ types) has_tail.0) in
        let first = f.fine chosen has_first (serves_exact chosen p (left ∷ types) has_second.0) in
        let flag = flag_fine chosen q fails behind end right types has_tail fails_is behind_is end_is low exits in (
          first.0,
          each_append (FineAt named depth chosen) at q (one ++ instr.Zero fails ∷ other) (instr.Zero fails ∷ instr.Push (pos 1) ∷ instr.Jump behind ∷ instr.Push (pos 0) ∷ []) code_long
              (each_append (FineAt named depth chosen) at p one (instr.Zero fails ∷ other) f.long first.1
              (fine_zero named depth chosen p fails left types has_second.0 low two.0 flag.0, two.1)) flag.1,
        );
  }
    where
      head_size : at + length (f.choices ++ Some (left ∷ types) ∷ g.choices) ≡ q
      head_size = omega (arith, length-append f.choices (Some (left ∷ types) ∷ g.choices), f.size, g.size)

      code_long : at + length (one ++ instr.Zero fails ∷ other) ≡ q
      code_long = omega (arith, length-append one (instr.Zero fails ∷ other), f.long, g.long)

  -- the right operand is evaluated only where the left one does not hold
  pub either_fits : (one other : List Instr) (at p q second fails behind end : ℕ) (left right : Ty) (types : List Ty)
      → Fits named depth at one p (Some types) (Some (left ∷ types)) → Fits named depth (suc (suc (suc p))) other q (Some types) (Some (right ∷ types))
      → second ≡ suc (suc (suc p)) → fails ≡ q + 3 → behind ≡ end → end ≡ q + 4 → suc (length types) ≤ depth
      → Fits named depth at (one ++ instr.Zero second ∷ instr.Push (pos 1) ∷ instr.Jump behind ∷ other
      ++ instr.Zero fails ∷ instr.Push (pos 1) ∷ instr.Jump behind ∷ instr.Push (pos 0) ∷ []) end (Some types) (Some (Int ∷ types))
  either_fits one other at p q second fails behind end left right types f g second_is fails_is behind_is end_is low = record {
    choices = (f.choices ++ (Some (left ∷ types) ∷ Some types ∷ Some (Int ∷ types) ∷ g.choices)) ++ (Some (right ∷ types) ∷ Some types ∷ Some (Int ∷ types) ∷ Some types ∷ []);
    size = omega (arith, length-append (f.choices ++ (Some (left ∷ types) ∷ Some types ∷ Some (Int ∷ types) ∷ g.choices)) (Some (right ∷ types) ∷ Some types ∷ Some (Int ∷ types) ∷ Some types ∷ []), head_size, end_is);
    long = omega (arith, length-append (one ++ instr.Zero second ∷ instr.Push (pos 1) ∷ instr.Jump behind ∷ other) (instr.Zero fails ∷ instr.Push (pos 1) ∷ instr.Jump behind ∷ instr.Push (pos 0) ∷ []), code_long, end_is);
    fine = λ chosen has exits.
        let has_head = each_front (Is chosen) at (f.choices ++ (Some (left ∷ types) ∷ Some types ∷ Some (Int ∷ types) ∷ g.choices)) (Some (right ∷ types) ∷ Some types ∷ Some (Int ∷ types) ∷ Some types ∷ []) has in
        let has_tail = each_back (Is chosen) at q (f.choices ++ (Some (left ∷ types) ∷ Some types ∷ Some (Int ∷ types) ∷ g.choices)) (Some (right ∷ types) ∷ Some types ∷ Some (Int ∷ types) ∷ Some types ∷ []) head_size has in
        let has_first = each_front (Is chosen) at f.choices (Some (left ∷ types) ∷ Some types ∷ Some (Int ∷ types) ∷ g.choices) has_head in
        let has_second = each_back (Is chosen) at p f.choices (Some (left ∷ types) ∷ Some types ∷ Some (Int ∷ types) ∷ g.choices) f.size has_head in
        let two = g.fine chosen has_second.1.1.1 (serves_exact chosen q (right ∷ types) has_tail.0) in
        let first = f.fine chosen has_first (serves_exact chosen p (left ∷ types) has_second.0) in
        let flag = flag_fine chosen q fails behind end right types has_tail fails_is behind_is end_is low exits in
        let jumps : Serves chosen behind (Int ∷ types) = subst (λ n. Serves chosen n (Int ∷ types)) (sym behind_is) exits in
        let to_second : Serves chosen second types = subst (λ n. Serves chosen n types) (sym second_is) two.0 in (
          first.0,
          each_append (FineAt named depth chosen) at q (one ++ instr.Zero second ∷ instr.Push (pos 1) ∷ instr.Jump behind ∷ other) (instr.Zero fails ∷ instr.Push (pos 1) ∷ instr.Jump behind ∷ instr.Push (pos 0) ∷ []) code_long
              (each_append (FineAt named depth chosen) at p one (instr.Zero second ∷ instr.Push (pos 1) ∷ instr.Jump behind ∷ other) f.long first.1 (
                fine_zero named depth chosen p second left types has_second.0 low (serves_exact chosen (suc p) types has_second.1.0) to_second,
                (
                  fine_push chosen (suc p) (pos 1) types has_second.1.0 (omega (arith, low)) refl (serves_exact chosen (suc (suc p)) (Int ∷ types) has_second.1.1.0),
                  (fine_jump named depth chosen (suc (suc p)) behind (Some (Int ∷ types)) has_second.1.1.0 low jumps, two.1),
                ),
              )) flag.1,
        );
  }
    where
      head_size : at + length (f.choices ++ (Some (left ∷ types) ∷ Some types ∷ Some (Int ∷ types) ∷ g.choices)) ≡ q
      head_size = omega (arith, length-append f.choices (Some (left ∷ types) ∷ Some types ∷ Some (Int ∷ types) ∷ g.choices), f.size, g.size)

      code_long : at + length (one ++ instr.Zero second ∷ instr.Push (pos 1) ∷ instr.Jump behind ∷ other) ≡ q
      code_long = omega (arith, length-append one (instr.Zero second ∷ instr.Push (pos 1) ∷ instr.Jump behind ∷ other), f.long, g.long)
