-- Pieces of main's code that give a value: their stages, and their jumps, all forward.
use Rattle.std.proofs.Common.{◌≡◌, ℕ, suc, ◌+◌, ◌<◌, ◌≤◌, List, [], ◌∷◌, ◌++◌, length, reverse, take, drop, All, Some, None, ℤ, pos, negsuc, refl, sym, ap, ◌∙◌, subst, arith, length-append}
use Rattle.std.proofs.Math.Seq.{take-append_seam, drop-append_seam}
use Rattle.std.proofs.lemmas.Bool.{and_from, le-leb, leb-true}
use Rattle.std.proofs.lemmas.Bool.Decides.{nat_tests}
use Rattle.std.proofs.lemmas.List.{length-reverse, reverse-reverse}
use Rattle.std.proofs.lemmas.List.Elements.{All-nil}
use Rattle.std.specs.Cmp.Lexicographic.{pointwise}
use Rattle.std.specs.Prelude.{true, Bool, ◌&&◌, ◌||◌, if◌then◌else◌, nat_le}
use Rattle.sk_base.specs.Arithmetic.{is_shift}
use Rattle.sk_base.specs.declared.number.Op.{Op}
use Rattle.sk_base.specs.declared.number.Op.TheVariants.{Shl, Shr, Lt, Le, Gt, Ge, Eq, Ne}
use Rattle.sk_base.specs.declared.number.Ty.{Ty}
use Rattle.sk_base.specs.declared.number.Ty.TheVariants.{Int, Long}
use Rattle.sk_isa.specs.Soundness.{Left, leads_to, left_if, of_many, serves, is_number, number_type}
use Rattle.sk_isa.specs.declared.code.Instr.{Instr}
use Rattle.sk_isa.specs.declared.code.Instr.TheVariants as instr
use Rattle.sk_isa.specs.declared.object.Object.{Object}
use Rattle.sk_main_code.specs.MainSoundness.{left_in_main, lives_after, made_by, names_in_main, used_by}
use Rattle.sk_main_sound.proofs.Frames.{choice_fits, both_fits, either_fits}
use Rattle.sk_main_sound.proofs.Pieces.{Stage, staged, Fits, then_fits, nothing_fits, one_fits, wider_fits, nothing_made}
use Rattle.sk_meaning.specs.Expressions.{wider, operation_type, result_type, prefix_type}
use Rattle.sk_plain.proofs.Truths.{and_left}
use Rattle.sk_plain.specs.Plain.{fits_type}
use Rattle.sk_scheme.specs.Pieces.{Placed, narrowed, prefix_code, both_code, either_code, choice_code}
use Rattle.sk_scheme_sound.proofs.Each.{Each, each_append, each_map}
use Rattle.sk_scheme_sound.proofs.SoundPieces.{Aims, aims_map, type_serves, types_serve}
use Rattle.sk_scheme_sound.proofs.SoundValues.{serves_left, serves_right}
use Rattle.sk_tree.specs.declared.tree.Un.{Un}
use Rattle.sk_tree.specs.declared.tree.Un.TheVariants as prefix

-- jumps that go forward, no further than to a limit
abbrev pub Forward : ℕ → ℕ → Instr → Type 0
Forward limit k i = Aims (λ to. (k < to) × (to ≤ limit)) i

pub forward_wider : (limit more at : ℕ) (code : List Instr) → limit ≤ more → Each (Forward limit) at code → Each (Forward more) at code
forward_wider limit more at code le h =
    each_map (Forward limit) (Forward more) at code
    (λ k i low high w. aims_map (λ to. (k < to) × (to ≤ limit)) (λ to. (k < to) × (to ≤ more)) i (λ to b. (b.0, omega (arith, b.1, le))) w) h

wider_same : (ty : Ty) → wider ty ty ≡ ty
wider_same Int = refl
wider_same Long = refl

operands_serve : (op : Op) (left right : Ty) → (serves left (operation_type op left right) && (is_shift op || serves right (operation_type op left right))) ≡ true
operands_serve Shl left right = and_from (serves left left) true (type_serves left) refl
operands_serve Shr left right = and_from (serves left left) true (type_serves left) refl
operands_serve op left right = and_from (serves left (wider left right)) (serves right (wider left right)) (serves_left left right) (serves_right left right)

result_same : (op : Op) (left right : Ty) → result_type op (operation_type op left right) (operation_type op left right) ≡ result_type op left right
result_same Lt left right = refl
result_same Le left right = refl
result_same Gt left right = refl
result_same Ge left right = refl
result_same Eq left right = refl
result_same Ne left right = refl
result_same Shl left right = refl
result_same Shr left right = refl
result_same op left right = wider_same (wider left right)

number_is : (ty : Ty) (number : ℤ) → fits_type ty number ≡ true → is_number number ≡ true
number_is Int (pos n) e = let low = leb-true n 2147483647 e in grind (arith, nat_tests)
number_is Int (negsuc n) e = let low = leb-true n 2147483647 (and_left _ true e) in grind (arith, nat_tests)
number_is Long number e = e

serves_long : (given : Ty) → serves given Long ≡ true
serves_long Int = refl
serves_long Long = refl

number_serves : (ty : Ty) (number : ℤ) → fits_type ty number ≡ true → serves (number_type number) ty ≡ true
number_serves Int number e = ap (λ (b : Bool). serves (if b then Int else Long) Int) e
number_serves Long number e = serves_long (number_type number)

-- an instruction finds the values that were pushed
pub many_taken : (fs types : List Ty) (count : ℕ) (next : List Ty → List Ty → Left) → count ≡ length fs → of_many count (reverse fs ++ types) next ≡ next fs types
many_taken fs types count next e =
    let n : count ≡ length (reverse fs) = e ∙ sym (length-reverse fs) in
    let enough : nat_le (length (reverse fs)) (length (reverse fs ++ types)) ≡ true = le-leb _ _ (omega (arith, length-append (reverse fs) types)) in
    ap (λ c. of_many c (reverse fs ++ types) next) n
    ∙ ap (λ (b : Bool). if b then next (reverse (take (length (reverse fs)) (reverse fs ++ types))) (drop (length (reverse fs)) (reverse fs ++ types)) else None) enough
    ∙ ap (λ (l : List Ty). next (reverse l) (drop (length (reverse fs)) (reverse fs ++ types))) (take-append_seam (reverse fs) types)
    ∙ ap (λ (l : List Ty). next l (drop (length (reverse fs)) (reverse fs ++ types))) (reverse-reverse fs)
    ∙ ap (λ (l : List Ty). next fs l) (drop-append_seam (reverse fs) types)

-- an instruction that makes and ends no container, and uses live ones
pub record IsKept (live : ℕ → Bool) (i : Instr) : Type 0 where
  pub made : made_by i ≡ None
  pub used : All (λ container. live container ≡ true) (used_by i)
  pub lives : (container : ℕ) → live container ≡ lives_after i live container

-- an instruction that has nothing to do with containers
pub quiet : (live : ℕ → Bool) (i : Instr) → made_by i ≡ None → used_by i ≡ [] → ((container : ℕ) → live container ≡ lives_after i live container) → IsKept live i
quiet live i made used lives = record {
  made = made;
  used = subst (λ (l : List ℕ). All (λ container. live container ≡ true) l) (sym used) (All-nil (λ container. live container ≡ true));
  lives = lives;
}

module _ (object : Object) (depth : ℕ) (live : ℕ → Bool) where
  -- A stretch of code over which the live containers stay, whose stages can be chosen, and whose jumps go forward, no further
  -- than to its end.
  pub record Stretch (at : ℕ) (code : List Instr) (end : ℕ) (entry exit : List Ty) : Type 0 where
    pub fits : Fits object depth at code end (staged entry live) (staged exit live)
    pub forward : Each (Forward end) at code

  pub piece_end : (at end : ℕ) (code : List Instr) (entry exit : List Ty) → Stretch at code end entry exit → Stretch at code (at + length code) entry exit
  piece_end at end code entry exit f = subst (λ n. Stretch at code n entry exit) (sym f.fits.long) f

  pub piece_at : (at to : ℕ) (code : List Instr) (end : ℕ) (entry exit : List Ty) → at ≡ to → Stretch at code end entry exit → Stretch to code end entry exit
  piece_at at to code end entry exit e f = subst (λ n. Stretch n code end entry exit) e f

  pub then_piece : (at mid end : ℕ) (a b : List Instr) (entry between exit : List Ty) → Stretch at a mid entry between → Stretch mid b end between exit
      → Stretch at (a ++ b) (at + length (a ++ b)) entry exit
  then_piece at mid end a b entry between exit f g = piece_end at end (a ++ b) entry exit (record {
    fits = then_fits object depth at mid end a b (staged entry live) (staged between live) (staged exit live) f.fits g.fits;
    forward = each_append (Forward end) at mid a b f.fits.long (forward_wider mid end at a (omega (arith, g.fits.long)) f.forward) g.forward;
  })

  pub nothing_piece : (at : ℕ) (types : List Ty) → Stretch at [] (at + 0) types types
  nothing_piece at types = piece_end at at [] types types (record { fits = nothing_fits object depth at (staged types live); forward = tt })

  -- an instruction that goes on to the next
  pub one_piece : (i : Instr) (at : ℕ) (types left : List Ty) → (names_in_main object i ≡ true → left_in_main object i types ≡ Some left) → length types ≤ depth → IsKept live i
      → leads_to i at ≡ suc at ∷ [] → Aims (λ to. ⊥) i → Stretch at (i ∷ []) (suc at) types left
  one_piece i at types left effect low kept leads jumps = record {
    fits = one_fits object depth i at (staged types live) (staged left live) effect low (λ container e. nothing_made (made_by i) container live kept.made e) kept.used kept.lives leads;
    forward = (aims_map (λ to. ⊥) (λ to. (at < to) × (to ≤ suc at)) i (λ to no. absurd no) jumps, tt);
  }

  -- the topmost type alone is wider
  pub wider_top : (at end : ℕ) (code : List Instr) (entry : List Ty) (a b : Ty) (types : List Ty) → serves a b ≡ true → Stretch at code end entry (a ∷ types) → Stretch at code end entry (b ∷ types)
  wider_top at end code entry a b types e f = record {
    fits = wider_fits object depth at end code (staged entry live) (staged (a ∷ types) live) (staged (b ∷ types) live)
        (and_from (serves a b) (pointwise serves types types) e (types_serve types), λ container. refl) f.fits;
    forward = f.forward;
  }

  -- code, and an instruction that takes what it left
  pub then_one : (at mid : ℕ) (code : List Instr) (i : Instr) (entry types left : List Ty) → Stretch at code mid entry types
      → (names_in_main object i ≡ true → left_in_main object i types ≡ Some left) → length types ≤ depth → IsKept live i → leads_to i mid ≡ suc mid ∷ [] → Aims (λ to. ⊥) i
      → Stretch at (code ++ i ∷ []) (at + length (code ++ i ∷ [])) entry left
  then_one at mid code i entry types left f effect low kept leads jumps =
      then_piece at mid (suc mid) code (i ∷ []) entry types left f (one_piece i mid types left effect low kept leads jumps)

  pub number_piece : (ty : Ty) (number : ℤ) (at : ℕ) (types : List Ty) → length types ≤ depth → fits_type ty number ≡ true → Stretch at (instr.Push number ∷ []) (at + 1) types (ty ∷ types)
  number_piece ty number at types low fits =
      let effect : left_in_main object (instr.Push number) types ≡ Some (number_type number ∷ types) =
      ap (λ (b : Bool). left_if b (number_type number ∷ types)) (number_is ty number fits) in
      piece_end at (suc at) (instr.Push number ∷ []) types (ty ∷ types)
      (wider_top at (suc at) (instr.Push number ∷ []) types (number_type number) ty types (number_serves ty number fits)
      (one_piece (instr.Push number) at types (number_type number ∷ types) (λ names. effect) low (quiet live (instr.Push number) refl refl (λ container. refl)) refl tt))

  pub prefix_piece : (op : Un) (ty : Ty) (at mid : ℕ) (code : List Instr) (entry types : List Ty) → suc (length types) ≤ depth
      → Stretch at code mid entry (ty ∷ types) → Stretch at (code ++ prefix_code op ty ∷ []) (at + length (code ++ prefix_code op ty ∷ [])) entry (prefix_type op ty ∷ types)
  prefix_piece prefix.Neg ty at mid code entry types low f =
      then_one at mid code (instr.Neg ty) entry (ty ∷ types) (ty ∷ types) f (λ names. ap (λ (b : Bool). left_if b (ty ∷ types)) (type_serves ty)) low
      (quiet live (instr.Neg ty) refl refl (λ container. refl)) refl tt
  prefix_piece prefix.Inv ty at mid code entry types low f =
      then_one at mid code (instr.Inv ty) entry (ty ∷ types) (ty ∷ types) f (λ names. ap (λ (b : Bool). left_if b (ty ∷ types)) (type_serves ty)) low
      (quiet live (instr.Inv ty) refl refl (λ container. refl)) refl tt
  prefix_piece prefix.Not ty at mid code entry types low f =
      then_one at mid code instr.Not entry (ty ∷ types) (Int ∷ types) f (λ names. refl) low (quiet live instr.Not refl refl (λ container. refl)) refl tt

  -- a value of a type, where it is wanted
  pub wanted_piece : (wanted given : Ty) (at mid : ℕ) (code : List Instr) (entry types : List Ty) → suc (length types) ≤ depth
      → Stretch at code mid entry (given ∷ types) → Stretch at (code ++ narrowed wanted given) (at + length (code ++ narrowed wanted given)) entry (wanted ∷ types)
  wanted_piece Int Int at mid code entry types low f = then_piece at mid (mid + 0) code [] entry (Int ∷ types) (Int ∷ types) f (nothing_piece mid (Int ∷ types))
  wanted_piece Int Long at mid code entry types low f =
      then_one at mid code instr.Wrap entry (Long ∷ types) (Int ∷ types) f (λ names. refl) low (quiet live instr.Wrap refl refl (λ container. refl)) refl tt
  wanted_piece Long given at mid code entry types low f =
      then_piece at mid (mid + 0) code [] entry (Long ∷ types) (Long ∷ types) (wider_top at mid code entry given Long types (serves_long given) f) (nothing_piece mid (Long ∷ types))

  pub binary_piece : (op : Op) (left right : Ty) (at mid : ℕ) (code : List Instr) (entry types : List Ty) → suc (suc (length types)) ≤ depth
      → Stretch at code mid entry (right ∷ left ∷ types)
      → Stretch at (code ++ instr.Binary op (operation_type op left right) ∷ []) (at + length (code ++ instr.Binary op (operation_type op left right) ∷ [])) entry (result_type op left right ∷ types)
  binary_piece op left right at mid code entry types low f =
      let ty : Ty = operation_type op left right in
      then_one at mid code (instr.Binary op ty) entry (right ∷ left ∷ types) (result_type op left right ∷ types) f
      (λ names. ap (λ (b : Bool). left_if b (result_type op ty ty ∷ types)) (operands_serve op left right) ∙ ap (λ (t : Ty). Some (t ∷ types)) (result_same op left right)) low
      (quiet live (instr.Binary op ty) refl refl (λ container. refl)) refl tt

  pub both_piece : (left right : Placed) (one_ty other_ty : Ty) (at : ℕ) (types : List Ty) → suc (length types) ≤ depth
      → Stretch at (left at) (at + length (left at)) types (one_ty ∷ types)
      → ((at : ℕ) → Stretch at (right at) (at + length (right at)) types (other_ty ∷ types))
      → Stretch at (both_code left right at) (at + length (both_code left right at)) types (Int ∷ types)
  both_piece left right one_ty other_ty at types low f g =
      let one : List Instr = left at in
      let p : ℕ = at + length one in
      let other : List Instr = right (p + 1) in
      let q : ℕ = p + 1 + length other in
      let fails : ℕ = at + length one + length other + 4 in
      let end : ℕ = q + 4 in
      let h = piece_at (p + 1) (suc p) other q types (other_ty ∷ types) (omega arith) (g (p + 1)) in
      let code : List Instr = one ++ instr.Zero fails ∷ other in
      let flags : List Instr = instr.Zero fails ∷ instr.Push (pos 1) ∷ instr.Jump (fails + 1) ∷ instr.Push (pos 0) ∷ [] in
      piece_end at end (both_code left right at) types (Int ∷ types) (record {
        fits = both_fits object depth live one other at p q fails (fails + 1) end one_ty other_ty types f.fits h.fits (omega arith) (omega arith) refl low;
        forward = each_append (Forward end) at q code flags (omega (arith, length-append one (instr.Zero fails ∷ other)))
            (each_append (Forward end) at p one (instr.Zero fails ∷ other) refl (forward_wider p end at one (omega arith) f.forward)
            ((omega arith, omega arith), forward_wider q end (suc p) other (omega arith) h.forward))
            ((omega arith, omega arith), (tt, ((omega arith, omega arith), (tt, tt))));
      })

  pub either_piece : (left right : Placed) (one_ty other_ty : Ty) (at : ℕ) (types : List Ty) → suc (length types) ≤ depth
      → Stretch at (left at) (at + length (left at)) types (one_ty ∷ types)
      → ((at : ℕ) → Stretch at (right at) (at + length (right at)) types (other_ty ∷ types))
      → Stretch at (either_code left right at) (at + length (either_code left right at)) types (Int ∷ types)
  either_piece left right one_ty other_ty at types low f g =
      let one : List Instr = left at in
      let p : ℕ = at + length one in
      let second : ℕ = p + 3 in
      let other : List Instr = right second in
      let q : ℕ = second + length other in
      let fails : ℕ = second + length other + 3 in
      let end : ℕ = q + 4 in
      let h = piece_at second (suc (suc (suc p))) other q types (other_ty ∷ types) (omega arith) (g second) in
      let code : List Instr = one ++ instr.Zero second ∷ instr.Push (pos 1) ∷ instr.Jump (fails + 1) ∷ other in
      let flags : List Instr = instr.Zero fails ∷ instr.Push (pos 1) ∷ instr.Jump (fails + 1) ∷ instr.Push (pos 0) ∷ [] in
      piece_end at end (either_code left right at) types (Int ∷ types) (record {
        fits = either_fits object depth live one other at p q second fails (fails + 1) end one_ty other_ty types f.fits h.fits (omega arith) (omega arith) (omega arith) refl low;
        forward = each_append (Forward end) at q code flags (omega (arith, length-append one (instr.Zero second ∷ instr.Push (pos 1) ∷ instr.Jump (fails + 1) ∷ other)))
            (each_append (Forward end) at p one (instr.Zero second ∷ instr.Push (pos 1) ∷ instr.Jump (fails + 1) ∷ other) refl (forward_wider p end at one (omega arith) f.forward)
            ((omega arith, omega arith), (tt, ((omega arith, omega arith), forward_wider q end (suc (suc (suc p))) other (omega arith) h.forward))))
            ((omega arith, omega arith), (tt, ((omega arith, omega arith), (tt, tt))));
      })

  pub choice_piece : (test one other : Placed) (test_ty ty : Ty) (at : ℕ) (types : List Ty) → suc (length types) ≤ depth
      → Stretch at (test at) (at + length (test at)) types (test_ty ∷ types)
      → ((at : ℕ) → Stretch at (one at) (at + length (one at)) types (ty ∷ types))
      → ((at : ℕ) → Stretch at (other at) (at + length (other at)) types (ty ∷ types))
      → Stretch at (choice_code test one other at) (at + length (choice_code test one other at)) types (ty ∷ types)
  choice_piece test one other test_ty ty at types low f g h =
      let first : List Instr = test at in
      let p : ℕ = at + length first in
      let second : List Instr = one (p + 1) in
      let q : ℕ = p + 1 + length second in
      let third : ℕ = at + length first + length second + 2 in
      let last : List Instr = other third in
      let end : ℕ = third + length last in
      let g' = piece_at (p + 1) (suc p) second q types (ty ∷ types) (omega arith) (g (p + 1)) in
      let h' = piece_at third (suc q) last end types (ty ∷ types) (omega arith) (h third) in
      let code : List Instr = first ++ instr.Zero third ∷ second in
      let after : Stage = staged (ty ∷ types) live in
      piece_end at end (choice_code test one other at) types (ty ∷ types) (record {
        fits = choice_fits object depth live first second last at p q third end end test_ty types after after after f.fits g'.fits h'.fits
            (omega arith) refl low low (λ chosen exits. (exits, exits));
        forward = each_append (Forward end) at q code (instr.Jump end ∷ last) (omega (arith, length-append first (instr.Zero third ∷ second)))
            (each_append (Forward end) at p first (instr.Zero third ∷ second) refl (forward_wider p end at first (omega arith) f.forward)
            ((omega arith, omega arith), forward_wider q end (suc p) second (omega arith) g'.forward))
            ((omega arith, omega arith), h'.forward);
      })
