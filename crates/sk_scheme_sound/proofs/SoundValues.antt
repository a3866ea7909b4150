-- Pieces of code that give a value: their stack types, what their instructions name, and their jumps, all forward.
use Rattle.std.proofs.Common.{◌≡◌, ℕ, suc, ◌+◌, ◌<◌, ◌≤◌, List, [], ◌∷◌, ◌++◌, length, map, reverse, take, drop, Option, Some, None, ℤ, pos, negsuc, slice_get, refl, sym, ap, ◌∙◌, subst, arith, length-append}
use Rattle.std.proofs.lemmas.List.{length-map, length-reverse, reverse-reverse}
use Rattle.std.proofs.Math.Seq.{take-append_seam, drop-append_seam}
use Rattle.std.proofs.lemmas.Bool.{and_from, le-leb, leb-true, lt-ltb}
use Rattle.std.proofs.lemmas.Bool.Decides.{nat_tests}
use Rattle.std.specs.Prelude.{true, false, Bool, ◌&&◌, ◌||◌, ◌==◌, if◌then◌else◌, nat_lt, nat_le}
use Rattle.std.specs.List.{list_all}
use Rattle.std.specs.Cmp.Lexicographic.{pointwise}
use Rattle.sk_base.specs.declared.number.Op.{Op}
use Rattle.sk_base.specs.declared.number.Op.TheVariants.{Shl, Shr, Lt, Le, Gt, Ge, Eq, Ne}
use Rattle.sk_base.specs.declared.number.Ty.{Ty}
use Rattle.sk_base.specs.declared.number.Ty.TheVariants.{Int, Long}
use Rattle.sk_base.specs.Arithmetic.{is_shift}
use Rattle.sk_meaning.specs.Evaluation.{kind_type}
use Rattle.sk_meaning.specs.Expressions.{wider, operation_type, result_type, prefix_type}
use Rattle.sk_tree.specs.Parameters.{is_field}
use Rattle.sk_tree.specs.declared.tree.ParamKind.{ParamKind}
use Rattle.sk_tree.specs.declared.tree.ParamKind.TheVariants.{Scalar, Index, Proxy, Region}
use Rattle.sk_tree.specs.declared.tree.Un.{Un}
use Rattle.sk_tree.specs.declared.tree.Un.TheVariants as prefix
use Rattle.sk_scheme.specs.Pieces.{Placed, narrowed, prefix_code, both_code, either_code, choice_code}
use Rattle.sk_scheme.specs.Scheme.{Slot, Known}
use Rattle.sk_isa.specs.Soundness.{Named, Left, has_field, item_type, region_type, left_by, left_by_call, left_if, left_with, leads_to, names_what_is_there, of_many, scalar_in, serve_for, serves, is_number, number_type, is_scalar, is_there, takes_scalars}
use Rattle.sk_isa.specs.declared.code.Instr.{Instr}
use Rattle.sk_isa.specs.declared.code.Instr.TheVariants as instr
use Rattle.sk_isa.specs.declared.object.Signature.{Signature}
use Rattle.sk_plain.specs.Plain.{fits_type}
use Rattle.sk_plain.proofs.Truths.{and_left}
use Rattle.sk_plain.proofs.Lists.{reverse-onto}
use Rattle.sk_scheme_sound.proofs.Each.{Each, each_append, each_map}
use Rattle.sk_scheme_sound.proofs.SoundPieces.{Aims, aims_map, Fits, then_fits, nothing_fits, one_fits, wider_fits, type_serves, types_serve}
use Rattle.sk_scheme_sound.proofs.SoundFrames.{choice_fits, both_fits, either_fits}
use Rattle.sk_scheme_sound.proofs.SoundScopes.{HasSlot, IsCallee}

module _ (named : Named) where
  -- what an instruction names is there, and it jumps forward to an address up to a limit
  abbrev pub Well : ℕ → ℕ → Instr → Type 0
  Well limit k i = (names_what_is_there named i ≡ true) × Aims (λ to. (k < to) × (to ≤ limit)) i

  pub well_wider : (limit more at : ℕ) (code : List Instr) → limit ≤ more → Each (Well limit) at code → Each (Well more) at code
  well_wider limit more at code le h =
      each_map (Well limit) (Well more) at code
      (λ k i low high w. (w.0, aims_map (λ to. (k < to) × (to ≤ limit)) (λ to. (k < to) × (to ≤ more)) i (λ to b. (b.0, omega (arith, b.1, le))) w.1)) h

-- a type serves for a wider one
pub serves_left : (left right : Ty) → serves left (wider left right) ≡ true
serves_left Int right = refl
serves_left Long right = refl

pub serves_right : (left right : Ty) → serves right (wider left right) ≡ true
serves_right Int right = type_serves right
serves_right Long Int = refl
serves_right Long Long = refl

wider_same : (ty : Ty) → wider ty ty ≡ ty
wider_same Int = refl
wider_same Long = refl

operands_serve : (op : Op) (left right : Ty) → (serves left (operation_type op left right) && (is_shift op || serves right (operation_type op left right))) ≡ true
operands_serve Shl left right = and_from (serves left left) true (type_serves left) refl
operands_serve Shr left right = and_from (serves left left) true (type_serves left) refl
operands_serve op left right = and_from (serves left (wider left right)) (serves right (wider left right)) (serves_left left right) (serves_right left right)

result_same : (op : Op) (left right : Ty) → result_type op (operation_type op left right) (operation_type op left right) ≡ result_type op left right
result_same Lt left right = refl
result_same Le left right = refl
result_same Gt left right = refl
result_same Ge left right = refl
result_same Eq left right = refl
result_same Ne left right = refl
result_same Shl left right = refl
result_same Shr left right = refl
result_same op left right = wider_same (wider left right)

number_is : (ty : Ty) (number : ℤ) → fits_type ty number ≡ true → is_number number ≡ true
number_is Int (pos n) e = let low = leb-true n 2147483647 e in grind (arith, nat_tests)
number_is Int (negsuc n) e = let low = leb-true n 2147483647 (and_left _ true e) in grind (arith, nat_tests)
number_is Long number e = e

number_serves : (ty : Ty) (number : ℤ) → fits_type ty number ≡ true → serves (number_type number) ty ≡ true
number_serves Int number e = ap (λ (b : Bool). serves (if b then Int else Long) Int) e
number_serves Long number e = long_serves (number_type number)
  where
    long_serves : (given : Ty) → serves given Long ≡ true
    long_serves Int = refl
    long_serves Long = refl

-- the types of arguments on the stack, the latest first
abbrev pub pushed : List ParamKind → List Ty → List Ty
pushed kinds types = reverse (map kind_type kinds) ++ types

pub pushed-more : (kind : ParamKind) (kinds : List ParamKind) (types : List Ty) → pushed kinds (kind_type kind ∷ types) ≡ pushed (kind ∷ kinds) types
pushed-more kind kinds types = reverse-onto (kind_type kind) (map kind_type kinds) types

kinds_serve : (kinds : List ParamKind) → list_all is_scalar kinds ≡ true → serve_for (map kind_type kinds) kinds ≡ true
kinds_serve [] e = refl
kinds_serve (Scalar ty ∷ kinds) e = and_from (serves ty ty) (serve_for (map kind_type kinds) kinds) (type_serves ty) (kinds_serve kinds e)
kinds_serve (Index dimension ∷ kinds) e = let no : ⊥ = cc in absurd no
kinds_serve (Proxy dimension ty ∷ kinds) e = let no : ⊥ = cc in absurd no
kinds_serve (Region dimension ty ∷ kinds) e = let no : ⊥ = cc in absurd no

many_taken : (fs types : List Ty) (count : ℕ) (next : List Ty → List Ty → Left) → count ≡ length fs → of_many count (reverse fs ++ types) next ≡ next fs types
many_taken fs types count next e =
    let n : count ≡ length (reverse fs) = e ∙ sym (length-reverse fs) in
    let enough : nat_le (length (reverse fs)) (length (reverse fs ++ types)) ≡ true = le-leb _ _ (omega (arith, length-append (reverse fs) types)) in
    ap (λ c. of_many c (reverse fs ++ types) next) n
    ∙ ap (λ (b : Bool). if b then next (reverse (take (length (reverse fs)) (reverse fs ++ types))) (drop (length (reverse fs)) (reverse fs ++ types)) else None) enough
    ∙ ap (λ (l : List Ty). next (reverse l) (drop (length (reverse fs)) (reverse fs ++ types))) (take-append_seam (reverse fs) types)
    ∙ ap (λ (l : List Ty). next l (drop (length (reverse fs)) (reverse fs ++ types))) (reverse-reverse fs)
    ∙ ap (λ (l : List Ty). next fs l) (drop-append_seam (reverse fs) types)

module _ (named : Named) (depth : ℕ) where
  -- A piece of code whose stack types can be chosen, whose instructions name what is there, and whose jumps go forward,
  -- and no further than to its end.
  pub record Piece (at : ℕ) (code : List Instr) (end : ℕ) (entry exit : Option (List Ty)) : Type 0 where
    pub fits : Fits named depth at code end entry exit
    pub well : Each (Well named end) at code

  pub piece_end : (at end : ℕ) (code : List Instr) (entry exit : Option (List Ty)) → Piece at code end entry exit → Piece at code (at + length code) entry exit
  piece_end at end code entry exit f = subst (λ n. Piece at code n entry exit) (sym f.fits.long) f

  pub piece_at : (at to : ℕ) (code : List Instr) (end : ℕ) (entry exit : Option (List Ty)) → at ≡ to → Piece at code end entry exit → Piece to code end entry exit
  piece_at at to code end entry exit e f = subst (λ n. Piece n code end entry exit) e f

  pub then_piece : (at mid end : ℕ) (a b : List Instr) (entry between exit : Option (List Ty)) → Piece at a mid entry between → Piece mid b end between exit
      → Piece at (a ++ b) (at + length (a ++ b)) entry exit
  then_piece at mid end a b entry between exit f g = piece_end at end (a ++ b) entry exit (record {
    fits = then_fits named depth at mid end a b entry between exit f.fits g.fits;
    well = each_append (Well named end) at mid a b f.fits.long (well_wider named mid end at a (omega (arith, g.fits.long)) f.well) g.well;
  })

  pub nothing_piece : (at : ℕ) (types : Option (List Ty)) → Piece at [] (at + 0) types types
  nothing_piece at types = piece_end at at [] types types (record { fits = nothing_fits named depth at types; well = tt })

  -- an instruction that goes on to the next
  pub one_piece : (i : Instr) (at : ℕ) (types left : List Ty) → left_by named i types ≡ Some left → length types ≤ depth → leads_to i at ≡ suc at ∷ []
      → names_what_is_there named i ≡ true → Aims (λ to. ⊥) i → Piece at (i ∷ []) (suc at) (Some types) (Some left)
  one_piece i at types left effect low leads names jumps = record {
    fits = one_fits named depth i at types left effect low leads;
    well = ((names, aims_map (λ to. ⊥) (λ to. (at < to) × (to ≤ suc at)) i (λ to no. absurd no) jumps), tt);
  }

  pub wider_piece : (at end : ℕ) (code : List Instr) (entry : Option (List Ty)) (a b : List Ty) → pointwise serves a b ≡ true → Piece at code end entry (Some a) → Piece at code end entry (Some b)
  wider_piece at end code entry a b e f = record { fits = wider_fits named depth at end code entry a b e f.fits; well = f.well }

  -- the topmost type alone is wider
  pub wider_top : (at end : ℕ) (code : List Instr) (entry : Option (List Ty)) (a b : Ty) (types : List Ty) → serves a b ≡ true → Piece at code end entry (Some (a ∷ types))
      → Piece at code end entry (Some (b ∷ types))
  wider_top at end code entry a b types e f =
      wider_piece at end code entry (a ∷ types) (b ∷ types) (and_from (serves a b) (pointwise serves types types) e (types_serve types)) f

  -- code, and an instruction that takes what it left
  pub then_one : (at mid : ℕ) (code : List Instr) (i : Instr) (entry : Option (List Ty)) (types left : List Ty) → Piece at code mid entry (Some types)
      → left_by named i types ≡ Some left → length types ≤ depth → leads_to i mid ≡ suc mid ∷ []
      → names_what_is_there named i ≡ true → Aims (λ to. ⊥) i → Piece at (code ++ i ∷ []) (at + length (code ++ i ∷ [])) entry (Some left)
  then_one at mid code i entry types left f effect low leads names jumps =
      then_piece at mid (suc mid) code (i ∷ []) entry (Some types) (Some left) f (one_piece i mid types left effect low leads names jumps)

  pub number_piece : (ty : Ty) (number : ℤ) (at : ℕ) (types : List Ty) → length types ≤ depth → fits_type ty number ≡ true → Piece at (instr.Push number ∷ []) (at + 1) (Some types) (Some (ty ∷ types))
  number_piece ty number at types low fits =
      let effect : left_by named (instr.Push number) types ≡ Some (number_type number ∷ types) =
      ap (λ (b : Bool). left_if b (number_type number ∷ types)) (number_is ty number fits) in
      piece_end at (suc at) (instr.Push number ∷ []) (Some types) (Some (ty ∷ types))
      (wider_top at (suc at) (instr.Push number ∷ []) (Some types) (number_type number) ty types (number_serves ty number fits)
      (one_piece (instr.Push number) at types (number_type number ∷ types) effect low refl refl tt))

  -- the type of a scalar's slot that is there
  pub slot_type : (slot : Slot) (ty : Ty) → slot.kind ≡ Scalar ty → HasSlot named.own.params named.own.slots slot → scalar_in named slot.number ≡ Some (kind_type slot.kind)
  slot_type slot ty kind h =
      ap (λ (o : Option ParamKind). elim o as (λ x. Option Ty) [
        | Some kind ↦ elim kind as (λ x. Option Ty) [ Scalar ty ↦ Some ty | Index dimension ↦ None | Proxy dimension ty ↦ None | Region dimension ty ↦ None ]
        | None ↦ None
      ]) (h.there ∙ ap (λ (k : ParamKind). Some k) kind)
      ∙ ap (λ (k : ParamKind). Some (kind_type k)) (sym kind)

  pub load_piece : (slot : Slot) (ty : Ty) (at : ℕ) (types : List Ty) → slot.kind ≡ Scalar ty → HasSlot named.own.params named.own.slots slot → length types ≤ depth
      → Piece at (instr.Load slot.number ∷ []) (at + 1) (Some types) (Some (kind_type slot.kind ∷ types))
  load_piece slot ty at types kind h low =
      let here = slot_type slot ty kind h in
      piece_end at (suc at) (instr.Load slot.number ∷ []) (Some types) (Some (kind_type slot.kind ∷ types))
      (one_piece (instr.Load slot.number) at types (kind_type slot.kind ∷ types) (ap (λ (o : Option Ty). left_with o types) here) low refl (ap is_there here) tt)

  -- a field of a parameter
  pub field_piece : (slot : Slot) (field : List ℕ) (at : ℕ) (types : List Ty) → is_field slot.kind field ≡ true → slice_get named.own.params slot.number ≡ Some slot.kind → length types ≤ depth
      → Piece at (instr.Field slot.number field ∷ []) (at + 1) (Some types) (Some (Int ∷ types))
  field_piece slot field at types has there low =
      let here : has_field named slot.number field ≡ true =
      ap (λ (o : Option ParamKind). elim o as (λ x. Bool) [ Some kind ↦ is_field kind field | None ↦ false ]) there ∙ has in
      piece_end at (suc at) (instr.Field slot.number field ∷ []) (Some types) (Some (Int ∷ types))
      (one_piece (instr.Field slot.number field) at types (Int ∷ types) (ap (λ (b : Bool). left_if b (Int ∷ types)) here) low refl here tt)

  -- an element of a proxy, where its place is on the stack
  pub item_piece : (number dimension places : ℕ) (ty : Ty) (at mid : ℕ) (code : List Instr) (entry : Option (List Ty)) (given types : List Ty)
      → slice_get named.own.params number ≡ Some (Proxy dimension ty) → (dimension == places) ≡ true → length given ≡ places → length types + places ≤ depth
      → Piece at code mid entry (Some (reverse given ++ types))
      → Piece at (code ++ instr.Item number places ∷ []) (at + length (code ++ instr.Item number places ∷ [])) entry (Some (ty ∷ types))
  item_piece number dimension places ty at mid code entry given types there same many low f =
      let here : item_type named number places ≡ Some ty =
      ap (λ (o : Option ParamKind). elim o as (λ x. Option Ty) [
        | Some kind ↦ elim kind as (λ x. Option Ty) [
          | Scalar ty ↦ None
          | Index dimension ↦ None
          | Proxy dimension ty ↦ if dimension == places then Some ty else None
          | Region dimension ty ↦ None
        ]
        | None ↦ None
      ]) there
      ∙ ap (λ (b : Bool). if b then Some ty else None) same in
      let effect : left_by named (instr.Item number places) (reverse given ++ types) ≡ Some (ty ∷ types) =
      many_taken given types places (λ taken rest. left_with (item_type named number places) rest) (sym many) ∙ ap (λ (o : Option Ty). left_with o types) here in
      then_one at mid code (instr.Item number places) entry (reverse given ++ types) (ty ∷ types) f effect
      (omega (arith, length-append (reverse given) types, length-reverse given, many, low)) refl (ap is_there here) tt

  -- an element of a region, where its distances are on the stack
  pub region_piece : (number dimension places : ℕ) (ty : Ty) (at mid : ℕ) (code : List Instr) (entry : Option (List Ty)) (given types : List Ty)
      → slice_get named.own.params number ≡ Some (Region dimension ty) → (dimension == places) ≡ true → length given ≡ places → length types + places ≤ depth
      → Piece at code mid entry (Some (reverse given ++ types))
      → Piece at (code ++ instr.Region number places ∷ []) (at + length (code ++ instr.Region number places ∷ [])) entry (Some (ty ∷ types))
  region_piece number dimension places ty at mid code entry given types there same many low f =
      let here : region_type named number places ≡ Some ty =
      ap (λ (o : Option ParamKind). elim o as (λ x. Option Ty) [
        | Some kind ↦ elim kind as (λ x. Option Ty) [
          | Scalar ty ↦ None
          | Index dimension ↦ None
          | Proxy dimension ty ↦ None
          | Region dimension ty ↦ if dimension == places then Some ty else None
        ]
        | None ↦ None
      ]) there
      ∙ ap (λ (b : Bool). if b then Some ty else None) same in
      let effect : left_by named (instr.Region number places) (reverse given ++ types) ≡ Some (ty ∷ types) =
      many_taken given types places (λ taken rest. left_with (region_type named number places) rest) (sym many) ∙ ap (λ (o : Option Ty). left_with o types) here in
      then_one at mid code (instr.Region number places) entry (reverse given ++ types) (ty ∷ types) f effect
      (omega (arith, length-append (reverse given) types, length-reverse given, many, low)) refl (ap is_there here) tt

  pub prefix_piece : (op : Un) (ty : Ty) (at mid : ℕ) (code : List Instr) (entry : Option (List Ty)) (types : List Ty) → suc (length types) ≤ depth
      → Piece at code mid entry (Some (ty ∷ types)) → Piece at (code ++ prefix_code op ty ∷ []) (at + length (code ++ prefix_code op ty ∷ [])) entry (Some (prefix_type op ty ∷ types))
  prefix_piece prefix.Neg ty at mid code entry types low f =
      then_one at mid code (instr.Neg ty) entry (ty ∷ types) (ty ∷ types) f (ap (λ (b : Bool). left_if b (ty ∷ types)) (type_serves ty)) low refl refl tt
  prefix_piece prefix.Inv ty at mid code entry types low f =
      then_one at mid code (instr.Inv ty) entry (ty ∷ types) (ty ∷ types) f (ap (λ (b : Bool). left_if b (ty ∷ types)) (type_serves ty)) low refl refl tt
  prefix_piece prefix.Not ty at mid code entry types low f =
      then_one at mid code instr.Not entry (ty ∷ types) (Int ∷ types) f refl low refl refl tt

  -- a value of a type, where it is wanted
  pub wanted_piece : (wanted given : Ty) (at mid : ℕ) (code : List Instr) (entry : Option (List Ty)) (types : List Ty) → suc (length types) ≤ depth
      → Piece at code mid entry (Some (given ∷ types)) → Piece at (code ++ narrowed wanted given) (at + length (code ++ narrowed wanted given)) entry (Some (wanted ∷ types))
  wanted_piece Int Int at mid code entry types low f =
      then_piece at mid (mid + 0) code [] entry (Some (Int ∷ types)) (Some (Int ∷ types)) f (nothing_piece mid (Some (Int ∷ types)))
  wanted_piece Int Long at mid code entry types low f =
      then_one at mid code instr.Wrap entry (Long ∷ types) (Int ∷ types) f refl low refl refl tt
  wanted_piece Long given at mid code entry types low f =
      then_piece at mid (mid + 0) code [] entry (Some (Long ∷ types)) (Some (Long ∷ types))
      (wider_top at mid code entry given Long types (serves_right' given) f) (nothing_piece mid (Some (Long ∷ types)))
    where
      serves_right' : (given : Ty) → serves given Long ≡ true
      serves_right' Int = refl
      serves_right' Long = refl

  pub binary_piece : (op : Op) (left right : Ty) (at mid : ℕ) (code : List Instr) (entry : Option (List Ty)) (types : List Ty) → suc (suc (length types)) ≤ depth
      → Piece at code mid entry (Some (right ∷ left ∷ types))
      → Piece at (code ++ instr.Binary op (operation_type op left right) ∷ []) (at + length (code ++ instr.Binary op (operation_type op left right) ∷ [])) entry (Some (result_type op left right ∷ types))
  binary_piece op left right at mid code entry types low f =
      let ty : Ty = operation_type op left right in
      then_one at mid code (instr.Binary op ty) entry (right ∷ left ∷ types) (result_type op left right ∷ types) f
      (ap (λ (b : Bool). left_if b (result_type op ty ty ∷ types)) (operands_serve op left right) ∙ ap (λ (t : Ty). Some (t ∷ types)) (result_same op left right)) low refl refl tt

  -- a call, where its arguments are on the stack
  pub call_piece : (kinds : List ParamKind) (known : Known) (callee : IsCallee named.signatures named.function kinds known) (at mid : ℕ) (code : List Instr) (entry : Option (List Ty)) (types : List Ty)
      → list_all is_scalar known.kinds ≡ true → length types + length known.kinds ≤ depth → Piece at code mid entry (Some (pushed known.kinds types))
      → Piece at (code ++ instr.Call known.number ∷ []) (at + length (code ++ instr.Call known.number ∷ [])) entry (Some (known.ret ∷ types))
  call_piece kinds known callee at mid code entry types all_scalars low f =
      let fs : List Ty = map kind_type known.kinds in
      let signature : Signature = callee.signature in
      let below = lt-ltb known.number named.function callee.below in
      let n : length signature.params ≡ length fs = ap length callee.params ∙ sym (length-map known.kinds kind_type) in
      let serve : serve_for fs signature.params ≡ true = ap (serve_for fs) callee.params ∙ kinds_serve known.kinds all_scalars in
      let effect : left_by named (instr.Call known.number) (pushed known.kinds types) ≡ Some (known.ret ∷ types) =
      ap (λ (b : Bool). if b then left_by_call (slice_get named.signatures known.number) (pushed known.kinds types) else None) below
      ∙ ap (λ (o : Option Signature). left_by_call o (pushed known.kinds types)) callee.there
      ∙ many_taken fs types (length signature.params) (λ given rest. left_if (serve_for given signature.params) (signature.ret ∷ rest)) n
      ∙ ap (λ (b : Bool). left_if b (signature.ret ∷ types)) serve
      ∙ ap (λ (t : Ty). Some (t ∷ types)) callee.ret in
      let scalars : takes_scalars (slice_get named.signatures known.number) ≡ true =
      ap takes_scalars callee.there ∙ ap (list_all is_scalar) callee.params ∙ all_scalars in
      let names : names_what_is_there named (instr.Call known.number) ≡ true =
      and_from (nat_lt known.number named.function) (takes_scalars (slice_get named.signatures known.number)) below scalars in
      let height : length (pushed known.kinds types) ≤ depth =
      omega (arith, length-append (reverse fs) types, length-reverse fs, length-map known.kinds kind_type, low) in
      then_one at mid code (instr.Call known.number) entry (pushed known.kinds types) (known.ret ∷ types) f effect height refl names tt

  pub both_piece : (left right : Placed) (one_ty other_ty : Ty) (at : ℕ) (types : List Ty) → suc (length types) ≤ depth
      → Piece at (left at) (at + length (left at)) (Some types) (Some (one_ty ∷ types))
      → ((at : ℕ) → Piece at (right at) (at + length (right at)) (Some types) (Some (other_ty ∷ types)))
      → Piece at (both_code left right at) (at + length (both_code left right at)) (Some types) (Some (Int ∷ types))
  both_piece left right one_ty other_ty at types low f g =
      let one : List Instr = left at in
      let p : ℕ = at + length one in
      let other : List Instr = right (p + 1) in
      let q : ℕ = p + 1 + length other in
      let fails : ℕ = at + length one + length other + 4 in
      let end : ℕ = q + 4 in
      let h = piece_at (p + 1) (suc p) other q (Some types) (Some (other_ty ∷ types)) (omega arith) (g (p + 1)) in
      let code : List Instr = one ++ instr.Zero fails ∷ other in
      let flags : List Instr = instr.Zero fails ∷ instr.Push (pos 1) ∷ instr.Jump (fails + 1) ∷ instr.Push (pos 0) ∷ [] in
      piece_end at end (both_code left right at) (Some types) (Some (Int ∷ types)) (record {
        fits = both_fits named depth one other at p q fails (fails + 1) end one_ty other_ty types f.fits h.fits (omega arith) (omega arith) refl low;
        well = each_append (Well named end) at q code flags (omega (arith, length-append one (instr.Zero fails ∷ other)))
            (each_append (Well named end) at p one (instr.Zero fails ∷ other) refl (well_wider named p end at one (omega arith) f.well)
            ((refl, (omega arith, omega arith)), well_wider named q end (suc p) other (omega arith) h.well))
            ((refl, (omega arith, omega arith)), ((refl, tt), ((refl, (omega arith, omega arith)), ((refl, tt), tt))));
      })

  pub either_piece : (left right : Placed) (one_ty other_ty : Ty) (at : ℕ) (types : List Ty) → suc (length types) ≤ depth
      → Piece at (left at) (at + length (left at)) (Some types) (Some (one_ty ∷ types))
      → ((at : ℕ) → Piece at (right at) (at + length (right at)) (Some types) (Some (other_ty ∷ types)))
      → Piece at (either_code left right at) (at + length (either_code left right at)) (Some types) (Some (Int ∷ types))
  either_piece left right one_ty other_ty at types low f g =
      let one : List Instr = left at in
      let p : ℕ = at + length one in
      let second : ℕ = p + 3 in
      let other : List Instr = right second in
      let q : ℕ = second + length other in
      let fails : ℕ = second + length other + 3 in
      let end : ℕ = q + 4 in
      let h = piece_at second (suc (suc (suc p))) other q (Some types) (Some (other_ty ∷ types)) (omega arith) (g second) in
      let code : List Instr = one ++ instr.Zero second ∷ instr.Push (pos 1) ∷ instr.Jump (fails + 1) ∷ other in
      let flags : List Instr = instr.Zero fails ∷ instr.Push (pos 1) ∷ instr.Jump (fails + 1) ∷ instr.Push (pos 0) ∷ [] in
      piece_end at end (either_code left right at) (Some types) (Some (Int ∷ types)) (record {
        fits = either_fits named depth one other at p q second fails (fails + 1) end one_ty other_ty types f.fits h.fits (omega arith) (omega arith) (omega arith) refl low;
        well = each_append (Well named end) at q code flags (omega (arith, length-append one (instr.Zero second ∷ instr.Push (pos 1) ∷ instr.Jump (fails + 1) ∷ other)))
            (each_append (Well named end) at p one (instr.Zero second ∷ instr.Push (pos 1) ∷ instr.Jump (fails + 1) ∷ other) refl (well_wider named p end at one (omega arith) f.well)
            ((refl, (omega arith, omega arith)), ((refl, tt), ((refl, (omega arith, omega arith)), well_wider named q end (suc (suc (suc p))) other (omega arith) h.well))))
            ((refl, (omega arith, omega arith)), ((refl, tt), ((refl, (omega arith, omega arith)), ((refl, tt), tt))));
      })

  pub choice_piece : (test one other : Placed) (test_ty ty : Ty) (at : ℕ) (types : List Ty) → suc (length types) ≤ depth
      → Piece at (test at) (at + length (test at)) (Some types) (Some (test_ty ∷ types))
      → ((at : ℕ) → Piece at (one at) (at + length (one at)) (Some types) (Some (ty ∷ types)))
      → ((at : ℕ) → Piece at (other at) (at + length (other at)) (Some types) (Some (ty ∷ types)))
      → Piece at (choice_code test one other at) (at + length (choice_code test one other at)) (Some types) (Some (ty ∷ types))
  choice_piece test one other test_ty ty at types low f g h =
      let first : List Instr = test at in
      let p : ℕ = at + length first in
      let second : List Instr = one (p + 1) in
      let q : ℕ = p + 1 + length second in
      let third : ℕ = at + length first + length second + 2 in
      let last : List Instr = other third in
      let end : ℕ = third + length last in
      let g' = piece_at (p + 1) (suc p) second q (Some types) (Some (ty ∷ types)) (omega arith) (g (p + 1)) in
      let h' = piece_at third (suc q) last end (Some types) (Some (ty ∷ types)) (omega arith) (h third) in
      let code : List Instr = first ++ instr.Zero third ∷ second in
      piece_end at end (choice_code test one other at) (Some types) (Some (ty ∷ types)) (record {
        fits = choice_fits named depth first second last at p q third end end test_ty types (Some (ty ∷ types)) (Some (ty ∷ types)) (Some (ty ∷ types)) f.fits g'.fits h'.fits
            (omega arith) refl low low (λ chosen exits. (exits, exits));
        well = each_append (Well named end) at q code (instr.Jump end ∷ last) (omega (arith, length-append first (instr.Zero third ∷ second)))
            (each_append (Well named end) at p first (instr.Zero third ∷ second) refl (well_wider named p end at first (omega arith) f.well)
            ((refl, (omega arith, omega arith)), well_wider named q end (suc p) second (omega arith) g'.well))
            ((refl, (omega arith, omega arith)), h'.well);
      })
