-- How a call of a skeleton is run.
use Rattle.std.specs.Prelude.{ℕ, ◌&&◌, Bool, nat_le, if◌then◌else◌, List, find, Option, Some, None}
use denote.Enum.Bare.{sameb}
use Rattle.sk_base.specs.declared.choice.Variant.{Variant}
use Rattle.sk_base.specs.declared.choice.Variant.TheVariants.{Sequential}
use Rattle.sk_isa.specs.Offers.{is_offered}
use Rattle.sk_isa.specs.declared.object.Plan.{Plan}
use Rattle.sk_tree.specs.contracts.tree.Skeleton as skeletons
use Rattle.sk_tree.specs.declared.tree.Skeleton.{Skeleton}
use Rattle.sk_select.specs.declared.tuning.Rule.{Rule}
use Rattle.sk_select.specs.declared.tuning.Tuning.{Tuning}

unfoldable pub same_skeleton : Skeleton → Skeleton → Bool
same_skeleton = sameb skeletons.the_type

-- the rule is of the skeleton and goes as far as n elements
abbrev pub covers : Skeleton → (n : ℕ) → Rule → Bool
covers skeleton n rule = same_skeleton rule.skeleton skeleton && nat_le n rule.upto

-- the first rule of a table that covers a call of a skeleton on n elements
abbrev pub rule_for : Tuning → Skeleton → (n : ℕ) → Option Rule
rule_for table skeleton n = find (covers skeleton n) table.rules

-- the choice of a rule, if there is one
abbrev pub chosen_by : Plan → Option Rule → Variant × ℕ
chosen_by plan None = (Sequential, 1)
chosen_by plan (Some rule) = if is_offered plan rule.variant then (rule.variant, rule.parts) else (Sequential, 1)

-- The variant and the number of parts of a call of an instance on n elements: those of the first rule that covers it, or
-- sequential in one part where there is none or the instance does not offer its variant.
abbrev pub choice_of : Tuning → Plan → (n : ℕ) → Variant × ℕ
choice_of table plan n = chosen_by plan (rule_for table plan.skeleton n)
