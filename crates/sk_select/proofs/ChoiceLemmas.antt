-- What is chosen, by the first rule that covers a call.
use Rattle.std.proofs.Common.{◌≡◌, ℕ, Bool, true, false, cond, List, Option, Some, None, option_map, Bor, refl, sym, ap, ◌∙◌}
use Rattle.sk_base.specs.declared.choice.Variant.{Variant}
use Rattle.sk_base.specs.declared.choice.Variant.TheVariants.{Sequential}
use Rattle.sk_isa.specs.declared.object.Plan.{Plan}
use Rattle.sk_select.specs.declared.tuning.Rule.{Rule}
use Rattle.sk_isa.specs.Offers.{is_offered}
use Rattle.sk_select.specs.Choice.{chosen_by}

module _ (plan : Plan) (first : Option Rule) (found : Option (Bor Rule)) (is_first : option_map (λ x. x.now) found ≡ first) where
  at : (same : Option (Bor Rule)) → found ≡ same → chosen_by plan (option_map (λ x. x.now) same) ≡ chosen_by plan first
  at same is = ap (λ o. chosen_by plan (option_map (λ x. x.now) o)) (sym is) ∙ ap (chosen_by plan) is_first

  pub chosen-offered : (rule : Bor Rule) → found ≡ Some rule → is_offered plan rule.now.variant ≡ true
      → (rule.now.variant, rule.now.parts) ≡ chosen_by plan first
  chosen-offered rule is offered = ap (λ b. cond b (rule.now.variant, rule.now.parts) (Sequential, 1)) (sym offered) ∙ at (Some rule) is

  pub chosen-refused : (rule : Bor Rule) → found ≡ Some rule → is_offered plan rule.now.variant ≡ false → (Sequential, 1) ≡ chosen_by plan first
  chosen-refused rule is refused = ap (λ b. cond b (rule.now.variant, rule.now.parts) (Sequential, 1)) (sym refused) ∙ at (Some rule) is

  pub chosen-none : found ≡ None → (Sequential, 1) ≡ chosen_by plan first
  chosen-none is = at None is
