-- Arguments, one after another, and what is done with their values.
use Rattle.std.proofs.Common.{◌≡◌, ℕ, zero, suc, ◌+◌, max, List, [], ◌∷◌, ◌++◌, length, drop, take, Option, Some, refl, sym, ap, ◌∙◌, arith, append_assoc, length-append, append-nil}
use Rattle.std.specs.Prelude.{slice_get}
use Rattle.std.proofs.Math.Seq.{take-append_seam}
use Rattle.sk_tree.specs.declared.tree.ParamKind.{ParamKind}
use Rattle.sk_scheme.specs.Pieces.{Piece, then_code, arguments_code, places_code, parts_depth}
use Rattle.sk_isa.specs.declared.code.Instr.{Instr}
use Rattle.sk_isa.specs.declared.code.Instr.TheVariants as instr
use Rattle.sk_emitter.specs.Applications.{argument_code, numbers_in, use_code, used_code}
use Rattle.sk_emitter.specs.declared.applied.Use.{Use}
use Rattle.sk_emitter.specs.declared.applied.Use.TheVariants.{Nothing, Left, Item, Region, Call, Get}

module _ {A : Type 0} where
  pub arguments-none : (parts : List (Piece A)) (around : A) (at : ℕ) → arguments_code [] parts around at ≡ places_code parts around at
  arguments-none [] around at = refl
  arguments-none (part ∷ parts) around at = refl

  -- the first of the arguments that are left
  pub arguments-step : (kinds : List ParamKind) (i : ℕ) (part : Piece A) (parts : List (Piece A)) (around : A) (at : ℕ)
      → arguments_code (drop i kinds) (part ∷ parts) around at
      ≡ then_code (argument_code (slice_get kinds i) part around at) (arguments_code (drop (suc i) kinds) parts around) at
  arguments-step [] zero part parts around at =
      ap (λ rest. part.code around at ++ rest) (sym (arguments-none parts around (at + length (part.code around at))))
  arguments-step [] (suc i) part parts around at =
      ap (λ rest. part.code around at ++ rest) (sym (arguments-none parts around (at + length (part.code around at))))
  arguments-step (kind ∷ kinds) zero part parts around at = refl
  arguments-step (kind ∷ kinds) (suc i) part parts around at = arguments-step kinds i part parts around at

  -- one argument was appended
  pub arguments-more : (kinds : List ParamKind) (i j : ℕ) (part : Piece A) (parts : List (Piece A)) (around : A) (old new : List Instr)
      → j ≡ suc i → new ≡ old ++ argument_code (slice_get kinds i) part around (length old)
      → new ++ arguments_code (drop j kinds) parts around (length new) ≡ old ++ arguments_code (drop i kinds) (part ∷ parts) around (length old)
  arguments-more kinds i j part parts around old new next appended =
      let one : List Instr = argument_code (slice_get kinds i) part around (length old) in
      let at : length new ≡ length old + length one = ap length appended ∙ length-append old one in
      ap (λ k. new ++ arguments_code (drop k kinds) parts around (length new)) next
      ∙ ap (λ n. new ++ arguments_code (drop (suc i) kinds) parts around n) at
      ∙ ap (λ l. l ++ arguments_code (drop (suc i) kinds) parts around (length old + length one)) appended
      ∙ append_assoc old one (arguments_code (drop (suc i) kinds) parts around (length old + length one))
      ∙ ap (λ l. old ++ l) (sym (arguments-step kinds i part parts around (length old)))

  -- the depth of the same parts
  pub same_depth : (parts others : List (Piece A)) (around : A) → parts ≡ others → parts_depth parts around ≡ parts_depth others around
  same_depth parts others around same = ap (λ (left : List (Piece A)). parts_depth left around) same

  -- the values of parts are used
  pub values-used : (used : Use) (passed : ℕ) (kinds : List ParamKind) (number : A → List ℕ → ℕ) (parts : List (Piece A)) (around : A)
      (front back : List (Piece A)) (old middle new : List Instr) (containers : List ℕ) (start count : ℕ)
      → front ≡ take passed parts → back ≡ drop passed parts
      → middle ≡ old ++ arguments_code kinds back around (length old)
      → containers ≡ numbers_in number front around → start ≡ length old → count ≡ length back
      → new ≡ used_code used start middle containers count
      → new ≡ old ++ use_code used passed kinds number parts around (length old)
  values-used used passed kinds number parts around front back old middle new containers start count fronts backs appended named starts counted is =
      by used (is
      ∙ ap (λ n. used_code used n middle containers count) starts
      ∙ ap (λ l. used_code used (length old) l containers count)
      (appended ∙ ap (λ (left : List (Piece A)). old ++ arguments_code kinds left around (length old)) backs)
      ∙ ap (λ l. used_code used (length old) (old ++ code) l count)
      (named ∙ ap (λ (left : List (Piece A)). numbers_in number left around) fronts)
      ∙ ap (λ n. used_code used (length old) (old ++ code) numbers n)
      (counted ∙ ap (λ (left : List (Piece A)). length left) backs))
    where
      code : List Instr
      code = arguments_code kinds (drop passed parts) around (length old)

      numbers : List ℕ
      numbers = numbers_in number (take passed parts) around

      by : (used : Use) → new ≡ used_code used (length old) (old ++ code) numbers (length (drop passed parts))
          → new ≡ old ++ use_code used passed kinds number parts around (length old)
      by Nothing is = is ∙ take-append_seam old code ∙ sym (append-nil old)
      by Left is = is
      by (Item slot) is = is ∙ append_assoc old code (instr.Item slot (length (drop passed parts)) ∷ [])
      by (Region slot) is = is ∙ append_assoc old code (instr.Region slot (length (drop passed parts)) ∷ [])
      by (Call function) is = is ∙ append_assoc old code (instr.Call function ∷ [])
      by (Get made) is = is ∙ append_assoc old code (instr.Get made numbers (length (drop passed parts)) ∷ [])

-- the most values on the stack, where one more argument is evaluated
pub depth_more : (depth i own rest all result : ℕ) → result ≡ max depth (i + own) → max depth (i + max own (suc rest)) ≡ all → max result (i + 1 + rest) ≡ all
depth_more depth i own rest all result is whole = omega (arith, is, whole)
