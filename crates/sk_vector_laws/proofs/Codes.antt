-- The code of an expression of main prints no text.
use Rattle.std.proofs.Common.{◌≡◌, ℕ, zero, suc, true, List, [], ◌∷◌, ◌++◌, drop, map, Option, Some, None, refl, sym, subst}
use Rattle.std.proofs.lemmas.Bool.{and_from}
use Rattle.std.specs.Prelude.{length}
use Rattle.std.specs.List.{list_all}
use Rattle.sk_base.specs.declared.number.Ty.{Ty}
use Rattle.sk_base.specs.declared.number.Ty.TheVariants.{Int, Long}
use Rattle.sk_isa.specs.declared.code.Instr.{Instr}
use Rattle.sk_isa.specs.declared.code.Instr.TheVariants as instr
use Rattle.sk_main_code.specs.Sound.{prints_short_text}
use Rattle.sk_main_scheme.specs.MainScheme.{Around, Named, Number, Whole, Called, applied_code, main_leaves, main_piece, method_leaf, name_leaf, operands_of}
use Rattle.sk_meaning.specs.Evaluation.{kind_type}
use Rattle.sk_names.specs.Bindings.{bound_to}
use Rattle.sk_plain.proofs.Lists.{all_append}
use Rattle.sk_plain.proofs.Parts.{exprs_of}
use Rattle.sk_scheme.specs.Pieces.{Piece, arguments_code, narrowed, piece_step, places_code, prefix_code, wanted_code}
use Rattle.sk_scheme.specs.Scheme.{Known}
use Rattle.sk_tree.specs.declared.tree.Expr.{Expr, Expr-F, fold-roll-Expr, ind-Expr, map-Expr, roll-Expr}
use Rattle.sk_tree.specs.declared.tree.Expr.TheOpen as layer
use Rattle.sk_tree.specs.declared.tree.ParamKind.{ParamKind}
use Rattle.sk_tree.specs.declared.tree.Un.{Un}
use Rattle.sk_tree.specs.declared.tree.Un.TheVariants as prefix

-- each text that code prints is short
pub record PrintsShortly (code : List Instr) : Type 0 where
  pub each : list_all prints_short_text code ≡ true

pub prints_both : (one other : List Instr) → PrintsShortly one → PrintsShortly other → PrintsShortly (one ++ other)
prints_both one other h g = record { each = all_append prints_short_text one other h.each g.each }

pub prints_first : (first : Instr) (code : List Instr) → prints_short_text first ≡ true → PrintsShortly code → PrintsShortly (first ∷ code)
prints_first first code e h = record { each = and_from (prints_short_text first) (list_all prints_short_text code) e h.each }

pub prints_one : (only : Instr) → prints_short_text only ≡ true → PrintsShortly (only ∷ [])
prints_one only e = record { each = and_from (prints_short_text only) true e refl }

pub prints_none : PrintsShortly []
prints_none = record { each = refl }

abbrev pub IsQuiet : Piece Around → Type 0
IsQuiet piece = (around : Around) (at : ℕ) → PrintsShortly (piece.code around at)

abbrev pub AreQuiet : List (Piece Around) → Type 0
AreQuiet [] = Unit {0}
AreQuiet (piece ∷ pieces) = IsQuiet piece × AreQuiet pieces

pub quiet_drop : (n : ℕ) (pieces : List (Piece Around)) → AreQuiet pieces → AreQuiet (drop n pieces)
quiet_drop zero pieces h = h
quiet_drop (suc n) [] h = tt
quiet_drop (suc n) (piece ∷ pieces) h = quiet_drop n pieces h.1

narrowed_quiet : (wanted given : Ty) → PrintsShortly (narrowed wanted given)
narrowed_quiet Int Int = prints_none
narrowed_quiet Int Long = prints_one instr.Wrap refl
narrowed_quiet Long given = prints_none

pub wanted_quiet : (ty : Ty) (piece : Piece Around) → IsQuiet piece → (around : Around) (at : ℕ) → PrintsShortly (wanted_code ty piece around at)
wanted_quiet ty piece h around at = prints_both (piece.code around at) (narrowed ty (piece.ty around)) (h around at) (narrowed_quiet ty (piece.ty around))

pub places_quiet : (pieces : List (Piece Around)) → AreQuiet pieces → (around : Around) (at : ℕ) → PrintsShortly (places_code pieces around at)
places_quiet [] h around at = prints_none
places_quiet (piece ∷ pieces) h around at = prints_both (piece.code around at) _ (h.0 around at) (places_quiet pieces h.1 around _)

pub arguments_quiet : (kinds : List ParamKind) (pieces : List (Piece Around)) → AreQuiet pieces → (around : Around) (at : ℕ) → PrintsShortly (arguments_code kinds pieces around at)
arguments_quiet [] [] h around at = prints_none
arguments_quiet (kind ∷ kinds) [] h around at = prints_none
arguments_quiet [] (piece ∷ pieces) h around at = places_quiet (piece ∷ pieces) h around at
arguments_quiet (kind ∷ kinds) (piece ∷ pieces) h around at =
    prints_both (wanted_code (kind_type kind) piece around at) _ (wanted_quiet (kind_type kind) piece h.0 around at) (arguments_quiet kinds pieces h.1 around _)

-- ---- one level

name_quiet : (found : Option Named) → PrintsShortly (name_leaf found).code
name_quiet (Some (Number slot ty)) = prints_one (instr.Load slot) refl
name_quiet (Some (Whole container ty)) = prints_none
name_quiet (Some (Called made)) = prints_none
name_quiet None = prints_none

method_quiet : (found : Option Named) (method : List ℕ) → PrintsShortly (method_leaf found method).code
method_quiet (Some (Number slot ty)) method = prints_none
method_quiet (Some (Whole container ty)) method = prints_one (instr.Size container method) refl
method_quiet (Some (Called made)) method = prints_none
method_quiet None method = prints_none

prefix_quiet : (op : Un) (ty : Ty) → PrintsShortly (prefix_code op ty ∷ [])
prefix_quiet prefix.Neg ty = prints_one (instr.Neg ty) refl
prefix_quiet prefix.Inv ty = prints_one (instr.Inv ty) refl
prefix_quiet prefix.Not ty = prints_one instr.Not refl

applied_quiet : (found : Option Named) (known : Option Known) (pieces : List (Piece Around)) → AreQuiet pieces → (around : Around) (at : ℕ) → PrintsShortly (applied_code found known pieces around at)
applied_quiet (Some (Whole container ty)) known pieces h around at =
    prints_both (places_code pieces around at) (instr.Item container (length pieces) ∷ []) (places_quiet pieces h around at) (prints_one _ refl)
applied_quiet (Some (Called made)) known pieces h around at =
    prints_both _ _ (arguments_quiet _ (drop (operands_of made) pieces) (quiet_drop (operands_of made) pieces h) around at) (prints_one _ refl)
applied_quiet (Some (Number slot ty)) known pieces h around at = prints_none
applied_quiet None (Some known) pieces h around at =
    prints_both (arguments_code known.kinds pieces around at) (instr.Call known.number ∷ []) (arguments_quiet known.kinds pieces h around at) (prints_one _ refl)
applied_quiet None None pieces h around at = prints_none

abbrev IsQuietly : Expr → Type 0
IsQuietly e = IsQuiet (main_piece e)

abbrev Parts : Type 0
Parts = List ((e : Expr) × IsQuietly e)

parts_quiet : (ys : Parts) → AreQuiet (map main_piece (exprs_of ys))
parts_quiet [] = tt
parts_quiet (y ∷ ys) = (y.1, parts_quiet ys)

level_quiet : (y : Expr-F ((e : Expr) × IsQuietly e))
    → IsQuiet (piece_step main_leaves (map-Expr Expr (Piece Around) main_piece (map-Expr ((e : Expr) × IsQuietly e) Expr (λ e. e.0) y)))
level_quiet (layer.Number ty number) around at = prints_one (instr.Push number) refl
level_quiet (layer.Name name) around at = name_quiet (bound_to name around.scope)
level_quiet (layer.Field name field) around at = prints_none
level_quiet (layer.Method name method) around at = method_quiet (bound_to name around.scope) method
level_quiet (layer.Unary op y) around at = prints_both _ _ (y.1 around at) (prefix_quiet op _)
level_quiet (layer.Cast ty y) around at = wanted_quiet ty (main_piece y.0) y.1 around at
level_quiet (layer.Binary op y z) around at = prints_both _ _ (prints_both _ _ (y.1 around at) (z.1 around _)) (prints_one _ refl)
level_quiet (layer.Both y z) around at =
    prints_both _ _ (prints_both _ _ (y.1 around at) (prints_first _ _ refl (z.1 around _))) (record { each = refl })
level_quiet (layer.Either y z) around at =
    prints_both _ _ (prints_both _ _ (y.1 around at) (prints_first _ _ refl (prints_first _ _ refl (prints_first _ _ refl (z.1 around _))))) (record { each = refl })
level_quiet (layer.Choose x y z) around at =
    prints_both _ _ (prints_both _ _ (x.1 around at) (prints_first _ _ refl (y.1 around _))) (prints_first _ _ refl (z.1 around _))
level_quiet (layer.Apply name ys) around at =
    applied_quiet (bound_to name around.scope) (bound_to name around.functions) (map main_piece (exprs_of ys)) (parts_quiet ys) around at

rolled : (x : Expr-F Expr) → IsQuiet (piece_step main_leaves (map-Expr Expr (Piece Around) main_piece x)) → IsQuietly (roll-Expr x)
rolled x is = subst IsQuiet (sym (fold-roll-Expr (Piece Around) (piece_step main_leaves) x)) is

pub expression_quiet : (e : Expr) → IsQuiet (main_piece e)
expression_quiet = ind-Expr IsQuietly (λ x y is. subst (λ z. IsQuietly (roll-Expr z)) is (rolled (map-Expr ((e : Expr) × IsQuietly e) Expr (λ e. e.0) y) (level_quiet y)))

pub expressions_quiet : (exprs : List Expr) → AreQuiet (map main_piece exprs)
expressions_quiet [] = tt
expressions_quiet (e ∷ exprs) = (expression_quiet e, expressions_quiet exprs)
